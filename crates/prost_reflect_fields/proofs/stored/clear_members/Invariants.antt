use Rattle.std.specs.Prelude.{◌≡◌}
use Rattle.prost_reflect_fields.proofs.Common.{drop, without_values, is_member, rows_at}
use Rattle.prost_reflect_fields.proofs.stored.clear_members.Given as goal

abbrev pub invariant-loop-place : goal.invariant-loop-place
invariant-loop-place g l = record {
  left : without_values (is_member (rows_at l.table (drop l.place-index l.places)) l.oneof l.number) (g.S.NumberMap.entries l.fields) ≡ without_values (is_member (rows_at l.table l.places) l.oneof l.number) (g.S.NumberMap.entries l.initial.fields);
  noted : g.S.NumberMap.noted l.fields ≡ g.S.NumberMap.noted l.initial.fields;
}
