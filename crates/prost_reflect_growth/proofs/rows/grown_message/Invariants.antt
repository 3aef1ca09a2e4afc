use Rattle.std.specs.Prelude.{◌≡◌, ◌++◌}
use Rattle.prost_reflect_growth.proofs.Common.{take, map, field_row}
use Rattle.prost_reflect_growth.proofs.rows.grown_message.Given as goal

abbrev pub invariant-loop-row : goal.invariant-loop-row
invariant-loop-row l = map field_row l.fields.items ≡ map field_row l.initial.fields.items ++ map field_row (take l.row-index l.more)
