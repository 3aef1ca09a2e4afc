use Rattle.std.specs.Prelude.{◌≡◌, ◌++◌}
use Rattle.prost_reflect_sorted.proofs.Common.{map, drop, string_bytes, file_names, file_list, file_place}
use Rattle.prost_reflect_base.specs.Below.{files_below}
use Rattle.prost_reflect_sorted.proofs.files.dependency_places.Given as goal

abbrev pub invariant-loop-dependency : goal.invariant-loop-dependency
invariant-loop-dependency l =
    l.places.items ++ map (λ d. file_place (file_names (files_below l.base ++ file_list l.files)) (string_bytes d)) (drop l.dependency-index l.dependencies)
    ≡ map (λ d. file_place (file_names (files_below l.base ++ file_list l.files)) (string_bytes d)) l.dependencies
