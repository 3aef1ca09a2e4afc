-- The names of a pool's files: a file is known by its name alone.
use Rattle.std.specs.Prelude.{Bool, true, not, ◌&&◌, List, [], ◌∷◌}
use Rattle.std.specs.List.{list_any}
use Rattle.prost_reflect_types.specs.declared.FileDescriptorProto.{FileDescriptorProto}
use Rattle.prost_reflect_tables.specs.Adding.{have_one_name}

-- No two of the files have one name; a file without a name has no other's.
unfoldable pub names_differ : List FileDescriptorProto → Bool
names_differ [] = true
names_differ (f ∷ fs) = not (list_any (have_one_name f) fs) && names_differ fs
