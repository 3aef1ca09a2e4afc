use Rattle.std.specs.Prelude.{◌≡◌}
use Rattle.prost_reflect_growth.proofs.Common.{take, map, field_row}
use Rattle.prost_reflect_growth.proofs.rows.copied_fields.Given as goal

abbrev pub invariant-loop-field : goal.invariant-loop-field
invariant-loop-field l = map field_row l.copies.items ≡ map field_row (take l.field-index l.fields)
