use Rattle.std.specs.Prelude.{◌≡◌}
use Rattle.prost_reflect_growth.proofs.Common.{take, map, field_row, oneof_row}
use Rattle.prost_reflect_growth.specs.RowsGrow.{moved_oneof}
use Rattle.prost_reflect_growth.proofs.rows.moved_oneofs.Given as goal

abbrev pub invariant-loop-oneof : goal.invariant-loop-oneof
invariant-loop-oneof l = map oneof_row l.moved.items ≡ map (moved_oneof (map field_row l.more) (map field_row l.fields)) (map oneof_row (take l.oneof-index l.oneofs))
