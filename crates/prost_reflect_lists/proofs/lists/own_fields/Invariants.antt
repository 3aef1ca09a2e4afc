use Rattle.std.specs.Prelude.{◌≡◌, ◌++◌}
use Rattle.prost_reflect_lists.proofs.Common.{map, drop, not, FieldRow, field_row, places_from, own_fields}
use Rattle.prost_reflect_lists.proofs.lists.own_fields.Given as goal

abbrev pub invariant-loop-place : goal.invariant-loop-place
invariant-loop-place l = l.places.items ++ places_from (λ (f : FieldRow). not f.is_extension) l.place (map field_row (drop l.place l.fields)) ≡ own_fields (map field_row l.fields)
