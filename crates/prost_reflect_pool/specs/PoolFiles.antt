-- The records of a pool's files, one after another.
use Rattle.std.specs.Prelude.{◌≡◌, List, [], ◌∷◌, Option, Some, None}
use denote.Bor.{Bor}
use Rattle.prost_reflect_types.specs.DescriptorViews.{shared_files}
use Rattle.prost_reflect_types.specs.declared.FileDescriptorProto.{FileDescriptorProto}
use Rattle.prost_reflect_pool.specs.declared.files.FileDescriptorProtos.{FileDescriptorProtos}

-- Those that are still to come.
abbrev pub files_left : FileDescriptorProtos → List FileDescriptorProto
files_left it = shared_files it.files.now

-- The first of them is given, or none where none is left.
abbrev pub GivesFile : FileDescriptorProtos → Option (Bor FileDescriptorProto) → FileDescriptorProtos → Type 0
GivesFile old None new = (files_left old ≡ []) × (new ≡ old)
GivesFile old (Some file) new = files_left old ≡ file.now ∷ files_left new
