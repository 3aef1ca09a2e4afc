use Rattle.std.specs.Prelude.{◌≡◌, ◌++◌}
use Rattle.prost_reflect_building.proofs.Common.{drop, shared_files}
use Rattle.prost_reflect_flat.specs.FlatViews.{file_list}
use Rattle.prost_reflect_building.proofs.adding.lent.Given as goal

abbrev pub invariant-loop-file : goal.invariant-loop-file
invariant-loop-file l = file_list l.lent.items ++ shared_files (drop l.file-index l.files) ≡ shared_files l.files
