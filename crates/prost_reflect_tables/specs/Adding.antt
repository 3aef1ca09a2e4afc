-- Which files of a batch are added to those that are there, by their names: a name that is there already is skipped, and of several files of one name the first is taken (`DescriptorPool` of the Rust crate; protoc knows a file by its name alone).
use Rattle.std.specs.Prelude.{◌≡◌, ℕ, Bool, not, ◌&&◌, List, [], ◌∷◌, ◌++◌, filter, String, bytes_eq}
use Rattle.std.specs.List.{list_any}
use Rattle.std.specs.BTreeSet.{BTreeSet, contains_text}
use Rattle.std.specs.declared.alloc.Global.{Global}
use Rattle.prost_reflect_types.specs.declared.FileDescriptorProto.{FileDescriptorProto}
use Rattle.prost_reflect_tables.specs.Names.{text_or_empty}
use Rattle.prost_reflect_tables.specs.Faults.{is_unnamed}

-- An empty name is none.
abbrev pub is_named : List ℕ → FileDescriptorProto → Bool
is_named name f = not (is_unnamed f.name) && bytes_eq (text_or_empty f.name) name

abbrev pub have_one_name : FileDescriptorProto → FileDescriptorProto → Bool
have_one_name f g = is_named (text_or_empty g.name) f

-- Of several files of one name the first.
abbrev pub first_of_name : List FileDescriptorProto → List FileDescriptorProto
first_of_name [] = []
first_of_name (f ∷ fs) = f ∷ filter (λ g. not (have_one_name f g)) (first_of_name fs)

-- A file of its name is among these.
abbrev pub is_there : List FileDescriptorProto → FileDescriptorProto → Bool
is_there files f = list_any (λ g. have_one_name g f) files

abbrev pub unskipped : (files batch : List FileDescriptorProto) → List FileDescriptorProto
unskipped files batch = filter (λ f. not (is_there files f)) (first_of_name batch)

-- The files that are there once a batch is added.
abbrev pub added : (files batch : List FileDescriptorProto) → List FileDescriptorProto
added files batch = files ++ unskipped files batch

-- The names of the files.
abbrev pub AreNamesOf : List FileDescriptorProto → BTreeSet (String Global) → Type 0
AreNamesOf files names = (name : List ℕ) → contains_text names name ≡ list_any (is_named name) files
