use Rattle.std.specs.Prelude.{◌+◌, ◌++◌}
use Rattle.prost_reflect_checks.proofs.Common.{rules, drop, map, ap, ◌∙◌, number_or_zero, numbered_fields, definition_row, numbered, numbered_list, seen_more}
use Rattle.prost_reflect_checks.proofs.numbers.add_fields.Goals as goal

pub loop-field-preserved : goal.loop-field-preserved
loop-field-preserved c =
    ap (λ numbers. numbered_list numbers ++ numbered_fields c.args.message (map definition_row (drop (c.loop-field.field-index + 1) c.args.fields.now))) c.in_ok-push.ensures.items
    ∙ (seen_more numbered (λ d. record { message = c.args.message; number = number_or_zero d.proto.number }) definition_row c.loop-field.numbers.items _ c.args.fields.now c.loop-field.field-index c.field-item.result c.loop-field-test.true c.field-item.is (search rules)
    ∙ c.loop-field.invariant)
