use Rattle.std.specs.Prelude.{◌≡◌}
use Rattle.prost_reflect_checks.proofs.Common.{Bool, drop, list_any, ResolvedRow, resolved_row, resolved_lists, Computes}
use Rattle.prost_reflect_checks.proofs.walk.any_resolved_in.Given as goal

abbrev pub invariant-loop-fields : goal.invariant-loop-fields
invariant-loop-fields g l = (p : ResolvedRow → Bool) → Computes g.F.Fn l.test (λ f. p (resolved_row f)) →
    list_any (λ fs. list_any p fs) (resolved_lists l.lists) ≡ list_any (λ fs. list_any p fs) (resolved_lists (drop l.fields-index l.lists))
