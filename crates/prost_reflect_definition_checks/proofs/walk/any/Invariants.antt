use Rattle.std.specs.Prelude.{◌≡◌}
use Rattle.prost_reflect_definition_checks.proofs.Common.{Bool, drop, list_any, Computes}
use Rattle.prost_reflect_definition_checks.proofs.walk.any.Given as goal

abbrev pub invariant-loop-item : goal.invariant-loop-item
invariant-loop-item g l = (p : _ → Bool) → Computes g.F.Fn l.test p → list_any p l.items ≡ list_any p (drop l.item-index l.items)
