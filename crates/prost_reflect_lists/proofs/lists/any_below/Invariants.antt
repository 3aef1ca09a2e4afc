use Rattle.std.specs.Prelude.{◌≡◌}
use Rattle.std.specs.List.{list_any}
use Rattle.prost_reflect_lists.proofs.Common.{map, drop, resolved_row, ResolvedRow}
use Rattle.prost_reflect_growth.specs.FirstPlaces.{is_below}
use Rattle.prost_reflect_lists.proofs.lists.any_below.Given as goal

abbrev pub invariant-loop-extension : goal.invariant-loop-extension
invariant-loop-extension l =
    list_any (λ (r : ResolvedRow). is_below l.count r.extendee) (map resolved_row (drop l.extension-index l.extensions))
    ≡ list_any (λ (r : ResolvedRow). is_below l.count r.extendee) (map resolved_row l.extensions)
