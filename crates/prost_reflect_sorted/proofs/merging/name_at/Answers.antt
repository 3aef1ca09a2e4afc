use Rattle.prost_reflect_sorted.proofs.Common.{arith, ◌∙◌, text_list}
use Rattle.prost_reflect_sorted.specs.Sorts.{names_below}
use Rattle.prost_reflect_sorted.proofs.Merged.{front_text, back_text}
use Rattle.prost_reflect_sorted.proofs.merging.name_at.Goals as goal

pub returns-then-place-count : goal.returns-then-place-count
returns-then-place-count c =
    c.name_below.ensures ∙ front_text (names_below c.args.base c.args.sort) (text_list c.args.added.now) c.args.place (omega (arith, c.if-place-count.true, c.count_below-count.ensures))

pub returns-else-place-count : goal.returns-else-place-count
returns-else-place-count c =
    c.text_at.ensures ∙ back_text (names_below c.args.base c.args.sort) (text_list c.args.added.now) c.args.place _ (omega (arith, c.if-place-count.false, c.count_below-count.ensures))
