use Rattle.std.specs.Prelude.{◌<◌}
use Rattle.prost_reflect_resolving.proofs.Common.{List, length, ap, sym, ◌∙◌, arith, number_named, EnumValueRow, flat_rows}
use Rattle.prost_reflect_base.specs.Below.{rows_below}
use Rattle.prost_reflect_resolving.proofs.LookedUp.{old_values, new_values}
use Rattle.prost_reflect_resolving.proofs.index.number_named.Goals as goal

pub returns-then-place-count : goal.returns-then-place-count
returns-then-place-count c =
    let old = rows_below c.args.index.now.base in
    let new = flat_rows c.args.flat.now in
    let within : c.in-Enum.place < length old.enums = omega (arith, c.if-place-count.true, c.enum_count-count.ensures) in
    rw c.in-Enum.is (c.value_number.ensures ∙ ap (λ (values : List EnumValueRow). number_named values c.args.name.now) (sym (old_values old new c.in-Enum.place within)))

pub returns-else-place-count : goal.returns-else-place-count
returns-else-place-count c =
    let old = rows_below c.args.index.now.base in
    let new = flat_rows c.args.flat.now in
    rw c.in-Enum.is
    (c.added_number.ensures
    ∙ ap (λ (values : List EnumValueRow). number_named values c.args.name.now) (sym (new_values old new c.in-Enum.place _ (omega (arith, c.if-place-count.false, c.enum_count-count.ensures)))))
