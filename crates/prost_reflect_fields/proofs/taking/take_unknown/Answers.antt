use Rattle.std.specs.Prelude.{◌≡◌, ◌++◌}
use Rattle.prost_reflect_fields.proofs.Common.{◌∙◌, ap, ap₂, subst, sym, values_alone, IsAscending}
use Rattle.prost_reflect_fields.proofs.ValuesAlone.{ascending_alone}
use Rattle.prost_reflect_fields.proofs.taking.take_unknown.Goals as goal

pub from_items-requires : goal.from_items-requires
from_items-requires g c =
    let slots = c.move_items.ensures.items ∙ ap (λ l. l ++ c.args.fields.now.0) c.in_ok-slots.ensures.items in
    let all : c.part_all.new.values.items ≡ values_alone c.args.fields.now.0 =
    c.part_all.ensures.values ∙ ap₂ (λ xs ys. xs ++ values_alone ys) c.in_ok-values.ensures.items slots in
    subst IsAscending (sym all) (ascending_alone c.args.fields.now.0 c.move_items.ensures.ascending)
