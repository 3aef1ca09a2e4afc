use Rattle.std.specs.Prelude.{◌≡◌}
use Rattle.std.proofs.Common.{[], take, drop}
use Rattle.prost_reflect_base.specs.Below.{rows_below}
use Rattle.prost_reflect_base.specs.Inside.{cut_at_a_dot, has_inside}
use Rattle.prost_reflect_base.proofs.base.Base.has_inside.Given as goal

abbrev pub invariant-loop-place : goal.invariant-loop-place
invariant-loop-place l = cut_at_a_dot (has_inside (rows_below l.self)) (take l.place l.bytes) (drop l.place l.bytes) ≡ cut_at_a_dot (has_inside (rows_below l.self)) [] l.bytes
