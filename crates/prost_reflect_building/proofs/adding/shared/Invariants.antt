use Rattle.std.specs.Prelude.{◌≡◌, ◌++◌}
use Rattle.prost_reflect_building.proofs.Common.{drop, shared_files}
use Rattle.prost_reflect_building.proofs.adding.shared.Given as goal

abbrev pub invariant-loop-file : goal.invariant-loop-file
invariant-loop-file l = shared_files l.copies.items ++ shared_files (drop l.file-index l.files) ≡ shared_files l.files
