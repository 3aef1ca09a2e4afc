use Rattle.std.specs.Prelude.{◌≡◌, ◌++◌}
use Rattle.prost_reflect_flat.proofs.Common.{drop, file_names, file_list, text_list}
use Rattle.prost_reflect_flat.proofs.name_lists.file_names.Given as goal

abbrev pub invariant-loop-file : goal.invariant-loop-file
invariant-loop-file l = text_list l.names.items ++ file_names (file_list (drop l.file-index l.files)) ≡ file_names (file_list l.files)
