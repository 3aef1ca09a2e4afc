use Rattle.std.specs.Prelude.{◌≡◌, ◌&&◌}
use Rattle.prost_reflect_reduction.proofs.Common.{ap, sym, ◌∙◌, all_among, table_numbers}
use Rattle.prost_reflect_reduction.proofs.Enums.{among_is}
use Rattle.prost_reflect_reduction.proofs.kinds.same_numbers.Goals.{then-are_among, else-are_among}
use Rattle.prost_reflect_reduction.proofs.kinds.same_numbers.Goals as goal

pub returns : goal.returns
returns c =
    let xs = table_numbers c.args.values.now in
    let ys = table_numbers c.args.others.now in
    let there : c.are_among.result ≡ all_among xs ys = c.are_among.ensures ∙ among_is c.in_ok-other_numbers.other_numbers xs ys c.in_ok-other_numbers.ensures in
    elim c.if-are_among.branch [
      | then-are_among w ↦ w.result-is ∙ (w.are_among-then-are_among.ensures ∙ (among_is c.in_ok-numbers.numbers ys xs c.in_ok-numbers.ensures ∙ sym (ap (λ b. b && all_among ys xs) (sym there ∙ w.if-are_among.true))))
      | else-are_among w ↦ w.result-is ∙ (w.if-are_among.false ∙ sym (ap (λ b. b && all_among ys xs) (sym there ∙ w.if-are_among.false)))
    ]
