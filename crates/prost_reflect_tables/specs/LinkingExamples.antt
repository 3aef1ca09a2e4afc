-- Option bytes, kinds, labels, packing, presence, orders and names in JSON (descriptor.proto; the proto2 and the proto3 guide).
use Rattle.std.specs.Prelude.{◌≡◌, pos, negsuc, true, false, [], ◌∷◌, map, Some, None, String as Text, string_bytes, codes}
use Rattle.std.specs.declared.alloc.Global.{Global}
use Rattle.prost_reflect_types.specs.declared.FieldDescriptorProto.{FieldDescriptorProto}
use Rattle.prost_reflect_tables.specs.declared.tables.Cardinality.TheVariants.{Optional, Required, Repeated}
use Rattle.prost_reflect_tables.specs.declared.tables.TableKind.TheVariants.{Double, Int32, String, Bool as BoolKind, Message, Enum, Sint64}
use Rattle.prost_reflect_tables.specs.Flat.{DefinitionRow}
use Rattle.prost_reflect_tables.specs.Options.{bool_in}
use Rattle.prost_reflect_tables.specs.Faults.{name_place}
use Rattle.prost_reflect_tables.specs.Linking.{natural_or_zero, place_in, kind_of_code, cardinality_of_label, linked_packed, linked_presence, in_order, belonging, json_name}
use Rattle.prost_reflect_tables.specs.Examples.{single}

pub record OptionBytes : Type 0 where
  -- packed = true and packed = false, as number 2.
  pub packed : bool_in 2 None (0x10 ∷ 0x01 ∷ []) ≡ Some true
  pub unpacked : bool_in 2 None (0x10 ∷ 0x00 ∷ []) ≡ Some false
  -- The last record counts, and any number but 0 is true.
  pub last : bool_in 2 None (0x10 ∷ 0x01 ∷ 0x10 ∷ 0x00 ∷ []) ≡ Some false
  pub two : bool_in 7 None (0x38 ∷ 0x02 ∷ []) ≡ Some true
  -- Other numbers, texts and groups among them are passed over.
  pub others : bool_in 7 None (0x12 ∷ 0x01 ∷ 0x38 ∷ 0x1b ∷ 0x38 ∷ 0x00 ∷ 0x1c ∷ 0x38 ∷ 0x01 ∷ []) ≡ Some true
  pub absent : bool_in 7 None (0x10 ∷ 0x01 ∷ []) ≡ None
  pub no_bytes : bool_in 7 None [] ≡ None
  -- Bytes that are no records say nothing, whatever stands in front.
  pub cut : bool_in 2 None (0x10 ∷ 0x01 ∷ 0x10 ∷ []) ≡ None

pub record KindsAndLabels : Type 0 where
  -- The first and the last code, an enum and a group; a message and an enum by their places.
  pub first : kind_of_code 3 4 1 ≡ Double
  pub last : kind_of_code 3 4 18 ≡ Sint64
  pub bool : kind_of_code 3 4 8 ≡ BoolKind
  pub group : kind_of_code 3 4 10 ≡ Message 3
  pub message : kind_of_code 3 4 11 ≡ Message 3
  pub enum : kind_of_code 3 4 14 ≡ Enum 4
  pub unknown : (kind_of_code 3 4 0 ≡ Double) × (kind_of_code 3 4 19 ≡ Double)
  pub labels : map cardinality_of_label (0 ∷ 1 ∷ 2 ∷ 3 ∷ 4 ∷ []) ≡ Optional ∷ Optional ∷ Required ∷ Repeated ∷ Optional ∷ []
  pub numbers : map natural_or_zero (None ∷ Some (negsuc 0) ∷ Some (pos 7) ∷ []) ≡ 0 ∷ 0 ∷ 7 ∷ []
  pub places : map place_in (None ∷ Some (negsuc 0) ∷ Some (pos 0) ∷ []) ≡ None ∷ None ∷ Some 0 ∷ []
  -- Of two definitions of one name the first is meant.
  pub named : name_place (codes "A" ∷ codes "B" ∷ codes "B" ∷ []) (codes "B") ≡ Some 1
  pub not_named : name_place (codes "A" ∷ []) (codes "B") ≡ None

pub record PackedAndPresent : Type 0 where
  -- Without the option a list of numbers is packed in proto3 alone, and a text never.
  pub packed_by_syntax : (f : FieldDescriptorProto) → f.options ≡ None
      → (linked_packed true f Repeated Int32 ≡ true) × (linked_packed false f Repeated Int32 ≡ false)
  pub never_packed : (f : FieldDescriptorProto)
      → (linked_packed true f Repeated String ≡ false) × (linked_packed true f Optional Int32 ≡ false)
  -- A plain proto3 number has no presence; in proto2, as an extension, as a message, or marked `optional` it has.
  pub plain_number : (f : FieldDescriptorProto) → f.oneof_index ≡ None → f.proto3_optional ≡ None
      → linked_presence true false f Optional Int32 ≡ false
  pub in_proto2 : (f : FieldDescriptorProto) → linked_presence false false f Required Int32 ≡ true
  pub as_extension : (f : FieldDescriptorProto) → linked_presence true true f Optional Int32 ≡ true
  pub of_message : (f : FieldDescriptorProto) → linked_presence true false f Optional (Message 0) ≡ true
  pub as_member : (f : FieldDescriptorProto) → f.oneof_index ≡ Some (pos 0) → linked_presence true false f Optional Int32 ≡ true
  pub marked : (f : FieldDescriptorProto) → f.oneof_index ≡ None → f.proto3_optional ≡ Some true
      → linked_presence true false f Optional Int32 ≡ true
  pub of_list : (f : FieldDescriptorProto) → linked_presence false true f Repeated Int32 ≡ false

pub record Orders : Type 0 where
  -- Ascending, and of one number in the order that they had.
  pub order : in_order (single 3 Int32 ∷ single 1 String ∷ single 2 Int32 ∷ single 1 Int32 ∷ [])
      ≡ single 1 String ∷ single 1 Int32 ∷ single 2 Int32 ∷ single 3 Int32 ∷ []
  -- Those of the place 1.
  pub of_place : belonging place_in (Some (pos 1) ∷ None ∷ Some (pos 0) ∷ Some (pos 1) ∷ []) 1 ≡ Some (pos 1) ∷ Some (pos 1) ∷ []

pub record NamesInJson : Type 0 where
  pub written : (d : DefinitionRow FieldDescriptorProto) (s : Text Global) → d.proto.json_name ≡ Some s → json_name false d ≡ string_bytes s
  pub unwritten : (d : DefinitionRow FieldDescriptorProto) (s : Text Global) → d.proto.json_name ≡ None
      → d.proto.name ≡ Some s
      → json_name false d ≡ string_bytes s
  -- The extension x that is declared in the message M of the package p.
  pub extension : (d : DefinitionRow FieldDescriptorProto) → d.full_name ≡ codes "p.M.x" → json_name true d ≡ codes "[p.M.x]"
