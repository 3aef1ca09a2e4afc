-- Which files have equal contents, and which give equal tables.
use Rattle.std.specs.Prelude.{◌≡◌, ℕ, [], ◌∷◌, Option, Some, None, String, string_bytes, Vec}
use Rattle.std.specs.declared.alloc.Global.{Global}
use Rattle.prost_reflect_types.specs.declared.FileDescriptorProto.{FileDescriptorProto}
use Rattle.prost_reflect_types.specs.declared.EnumDescriptorProto.{EnumDescriptorProto}
use Rattle.prost_reflect_tables.specs.FileLaws.{SameContents, SameTables}

pub record ContentsAndTables : Type 0 where
  -- A text of the same bytes may stand for another, and so may option bytes and lists.
  pub text : (f : FileDescriptorProto) (s t : String Global) → string_bytes s ≡ string_bytes t
      → SameContents (record f { syntax = Some s } ∷ []) (record f { syntax = Some t } ∷ [])
  pub bytes : (f : FileDescriptorProto) (v w : Vec ℕ Global) → v.items ≡ w.items
      → SameContents (record f { options = Some v } ∷ []) (record f { options = Some w } ∷ [])
  pub list : (f : FileDescriptorProto) (v w : Vec EnumDescriptorProto Global) → v.items ≡ w.items
      → SameContents (record f { enum_type = v } ∷ []) (record f { enum_type = w } ∷ [])
  -- A text, even an empty one, is not an absent one.
  pub absent : (f : FileDescriptorProto) (s : String Global)
      → SameContents (record f { syntax = Some s } ∷ []) (record f { syntax = None } ∷ [])
      → ⊥
  -- A file's options are in no table: equal tables do not make equal contents.
  pub unread : (f : FileDescriptorProto) (o : Option (Vec ℕ Global)) → SameTables (record f { options = o } ∷ []) (f ∷ [])
  pub unlike : (f : FileDescriptorProto) (v : Vec ℕ Global)
      → SameContents (record f { options = Some v } ∷ []) (record f { options = None } ∷ [])
      → ⊥
  -- There have to be as many files.
  pub fewer : (f : FileDescriptorProto) → SameContents (f ∷ []) [] → ⊥
