use Rattle.std.specs.Prelude.{◌≡◌, ◌++◌}
use Rattle.prost_reflect_sorted.proofs.Common.{map, drop, import_at}
use Rattle.prost_reflect_sorted.proofs.files.public_places.Given as goal

abbrev pub invariant-loop-index : goal.invariant-loop-index
invariant-loop-index l = l.places.items ++ map (import_at l.dependencies) (drop l.index-index l.indices) ≡ map (import_at l.dependencies) l.indices
