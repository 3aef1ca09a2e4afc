use Rattle.std.specs.Prelude.{◌+◌, ◌++◌}
use Rattle.prost_reflect_lists.proofs.Common.{rules, drop, map, ap, ◌∙◌, definition_row, value_number, rows_more}
use Rattle.prost_reflect_lists.proofs.lists.value_numbers.Goals as goal

pub loop-value-preserved : goal.loop-value-preserved
loop-value-preserved c =
    ap (λ numbers. numbers ++ map value_number (map definition_row (drop (c.loop-value.value-index + 1) c.args.values.now))) c.in_ok-push.ensures.items
    ∙ (rows_more value_number definition_row c.loop-value.numbers.items _ c.args.values.now c.loop-value.value-index c.value-item.result c.loop-value-test.true c.value-item.is (search rules)
    ∙ c.loop-value.invariant)
