use Rattle.std.specs.Prelude.{◌≡◌}
use Rattle.prost_reflect_growth.proofs.Common.{take, map, field_row}
use Rattle.prost_reflect_growth.specs.RowsGrow.{moved_place}
use Rattle.prost_reflect_growth.proofs.rows.moved_places.Given as goal

abbrev pub invariant-loop-place : goal.invariant-loop-place
invariant-loop-place l = l.moved.items ≡ map (moved_place (map field_row l.more) (map field_row l.fields)) (take l.place-index l.places)
