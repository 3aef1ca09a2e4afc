use Rattle.std.specs.Prelude.{◌≡◌, ◌++◌}
use Rattle.prost_reflect_checks.proofs.Common.{map, drop, numbered_fields, definition_row, numbered_list}
use Rattle.prost_reflect_checks.proofs.numbers.add_fields.Given as goal

abbrev pub invariant-loop-field : goal.invariant-loop-field
invariant-loop-field l = numbered_list l.numbers.items ++ numbered_fields l.message (map definition_row (drop l.field-index l.fields)) ≡ numbered_list l.fn.numbers.items ++ numbered_fields l.message (map definition_row l.fields)
