use Rattle.std.specs.Prelude.{◌≡◌, ◌||◌}
use Rattle.prost_reflect_fields.proofs.Common.{ℕ, drop, rows_at, has, is_in_oneof}
use Rattle.prost_reflect_fields.proofs.number_sets.add_members.Given as goal

abbrev pub invariant-loop-place : goal.invariant-loop-place
invariant-loop-place l = (k : ℕ) → (has l.numbers k || is_in_oneof (rows_at l.table (drop l.place-index l.places)) l.oneof k) ≡ (has l.initial.numbers k || is_in_oneof (rows_at l.table l.places) l.oneof k)
