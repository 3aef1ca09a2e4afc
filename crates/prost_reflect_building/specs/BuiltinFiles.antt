-- The files of the built-in pool.
use Rattle.std.specs.Prelude.{◌≡◌, ℕ, ℤ, pos, Bool, List, [], ◌∷◌, map, Option, Some, None, option_map, string_bytes, codes}
use Rattle.prost_reflect_types.specs.declared.FileDescriptorProto.{FileDescriptorProto}
use Rattle.prost_reflect_types.specs.declared.FieldDescriptorProto.{FieldDescriptorProto}
use Rattle.prost_reflect_types.specs.declared.DescriptorProto.{DescriptorProto}
use Rattle.prost_reflect_types.specs.declared.DescriptorProto.TheOpen.{DescriptorProto-F}
use Rattle.prost_reflect_types.specs.declared.DescriptorProto.TheViews.{out-DescriptorProto}
use Rattle.prost_reflect_tables.specs.Names.{text_or_empty}

-- A field's record without where it lies in memory.
pub record FieldView : Type 0 where
  pub name : Option (List ℕ)
  pub extendee : Option (List ℕ)
  pub number : Option ℤ
  pub label : Option ℤ
  pub type_ : Option ℤ
  pub type_name : Option (List ℕ)
  pub default_value : Option (List ℕ)
  pub options : Option (List ℕ)
  pub oneof_index : Option ℤ
  pub json_name : Option (List ℕ)
  pub proto3_optional : Option Bool

abbrev pub field_view : FieldDescriptorProto → FieldView
field_view f = record {
  name = option_map string_bytes f.name;
  extendee = option_map string_bytes f.extendee;
  number = f.number;
  label = f.label;
  type_ = f.type_;
  type_name = option_map string_bytes f.type_name;
  default_value = option_map string_bytes f.default_value;
  options = option_map (λ b. b.items) f.options;
  oneof_index = f.oneof_index;
  json_name = option_map string_bytes f.json_name;
  proto3_optional = f.proto3_optional;
}

-- A singular optional field whose number is the code of its type.
abbrev pub scalar_view : ℤ → List ℕ → FieldView
scalar_view code name = record {
  name = Some name;
  extendee = None;
  number = Some code;
  label = Some (pos 1);
  type_ = Some code;
  type_name = None;
  default_value = None;
  options = None;
  oneof_index = None;
  json_name = None;
  proto3_optional = None;
}

-- The code and the name of each.
unfoldable pub scalar_names : List (ℕ × List ℕ)
scalar_names =
    (1, codes "f_double") ∷ (2, codes "f_float") ∷ (3, codes "f_int64") ∷ (4, codes "f_uint64") ∷ (5, codes "f_int32")
    ∷ (6, codes "f_fixed64") ∷ (7, codes "f_fixed32") ∷ (8, codes "f_bool") ∷ (9, codes "f_string") ∷ (12, codes "f_bytes")
    ∷ (13, codes "f_uint32") ∷ (15, codes "f_sfixed32") ∷ (16, codes "f_sfixed64") ∷ (17, codes "f_sint32") ∷ (18, codes "f_sint64") ∷ []

abbrev pub scalar_views : List FieldView
scalar_views = map (λ x. scalar_view (pos x.0) x.1) scalar_names

-- A message with these fields alone.
pub record HasScalars (name : List ℕ) (m : DescriptorProto-F DescriptorProto) : Type 0 where
  pub named : text_or_empty m.name ≡ name
  pub fields : map field_view m.field.items ≡ scalar_views
  pub no_messages : m.nested_type.items ≡ []
  pub no_enums : m.enum_type.items ≡ []
  pub no_extension_ranges : m.extension_range.items ≡ []
  pub no_extensions : m.extension.items ≡ []
  pub no_options : m.options ≡ None
  pub no_oneofs : m.oneof_decl.items ≡ []
  pub no_reserved_ranges : m.reserved_range.items ≡ []
  pub no_reserved_names : m.reserved_name.items ≡ []

abbrev pub IsScalarMessage : List ℕ → DescriptorProto → Type 0
IsScalarMessage name m = HasScalars name (out-DescriptorProto m)

-- A file of the package `builtin` with such a message alone.
pub record IsScalarFile (name message syntax : List ℕ) (f : FileDescriptorProto) : Type 0 where
  pub proto : DescriptorProto
  pub named : text_or_empty f.name ≡ name
  pub in_package : text_or_empty f.«package» ≡ codes "builtin"
  pub of_syntax : text_or_empty f.syntax ≡ syntax
  pub messages : f.message_type.items ≡ proto ∷ []
  pub is_message : IsScalarMessage message proto
  pub no_dependencies : f.dependency.items ≡ []
  pub no_enums : f.enum_type.items ≡ []
  pub no_services : f.service.items ≡ []
  pub no_extensions : f.extension.items ≡ []
  pub no_public : f.public_dependency.items ≡ []
  pub no_weak : f.weak_dependency.items ≡ []
  pub no_options : f.options ≡ None
  pub no_source : f.source_code_info ≡ None

-- `plain.proto` of proto3 with `Plain`, and `kept.proto` of proto2 with `Kept`.
pub record AreBuiltin (files : List FileDescriptorProto) : Type 0 where
  pub plain : FileDescriptorProto
  pub kept : FileDescriptorProto
  pub both : files ≡ plain ∷ kept ∷ []
  pub is_plain : IsScalarFile (codes "plain.proto") (codes "Plain") (codes "proto3") plain
  pub is_kept : IsScalarFile (codes "kept.proto") (codes "Kept") (codes "proto2") kept
