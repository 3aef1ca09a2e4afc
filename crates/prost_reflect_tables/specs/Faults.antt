-- Why files make no pool: one test for each reason, over their definitions in flat lists (descriptor.proto; the language guide and the proto2 guide on what a file may declare). The tests of map entries, of written defaults and of options stand in files of their own.
use Rattle.std.specs.Prelude.{ℕ, ◌+◌, ◌^◌, nat_lt, nat_le, nat_eq, ℤ, pos, negsuc, int_le, int_lt, Bool, true, false, not, ◌&&◌, ◌||◌, length, List, [], ◌∷◌, ◌++◌, map, Option, Some, None, is_some, is_none, unwrap_or, option_and_then, slice_get, String, string_bytes, codes, bytes_eq}
use Rattle.std.specs.Ordering.{int_eq}
use Rattle.std.specs.List.{list_any, position_from}
use Rattle.std.specs.declared.alloc.Global.{Global}
use Rattle.prost_reflect_types.specs.declared.FileDescriptorProto.{FileDescriptorProto}
use Rattle.prost_reflect_types.specs.declared.FieldDescriptorProto.{FieldDescriptorProto}
use Rattle.prost_reflect_types.specs.declared.ExtensionRange.{ExtensionRange}
use Rattle.prost_reflect_types.specs.declared.MethodDescriptorProto.{MethodDescriptorProto}
use Rattle.prost_reflect_tables.specs.Flat.{DefinitionRow, FlatMessageRow, FlatEnumRow, FlatServiceRow, FlatRows}
use Rattle.prost_reflect_tables.specs.Names.{text_or_empty, without_dot}

-- ALL FIELDS AND ALL NAMES

-- Of a field of some message, or of an extension.
abbrev pub any_field : (DefinitionRow FieldDescriptorProto → Bool) → FlatRows → Bool
any_field test rows = list_any (λ m. list_any test m.fields) rows.messages || list_any test rows.extensions

-- MissingName: each definition and each file has a name that is not empty.

abbrev pub is_unnamed : Option (String Global) → Bool
is_unnamed name = nat_eq (length (text_or_empty name)) 0

abbrev pub message_unnamed : FlatMessageRow → Bool
message_unnamed m = is_unnamed m.definition.proto.name || list_any (λ f. is_unnamed f.proto.name) m.fields
    || list_any (λ o. is_unnamed o.proto.name) m.oneofs

abbrev pub enum_unnamed : FlatEnumRow → Bool
enum_unnamed e = is_unnamed e.definition.proto.name || list_any (λ v. is_unnamed v.proto.name) e.values

abbrev pub service_unnamed : FlatServiceRow → Bool
service_unnamed s = is_unnamed s.definition.proto.name || list_any (λ m. is_unnamed m.proto.name) s.methods

abbrev pub missing_name : List FileDescriptorProto → FlatRows → Bool
missing_name files rows =
    list_any (λ f. is_unnamed f.name) files || list_any message_unnamed rows.messages || list_any enum_unnamed rows.enums
    || list_any (λ e. is_unnamed e.proto.name) rows.extensions || list_any service_unnamed rows.services

-- UnknownSyntax: a file is of proto2, also where it does not say so, or of proto3.

abbrev pub syntax_unknown : FileDescriptorProto → Bool
syntax_unknown f = let syntax = text_or_empty f.syntax in not (nat_eq (length syntax) 0 || bytes_eq syntax (codes "proto2") || bytes_eq syntax (codes "proto3"))

abbrev pub unknown_syntax : List FileDescriptorProto → Bool
unknown_syntax files = list_any syntax_unknown files

-- BadIndex: public and weak imports are among the imports, and a field's oneof is among those of its message.

abbrev pub is_outside : ℕ → ℤ → Bool
is_outside count (pos i) = nat_le count i
is_outside count (negsuc i) = true

abbrev pub import_outside : FileDescriptorProto → Bool
import_outside f = list_any (is_outside (length f.dependency.items)) f.public_dependency.items
    || list_any (is_outside (length f.dependency.items)) f.weak_dependency.items

abbrev pub oneof_outside : ℕ → Option ℤ → Bool
oneof_outside count None = false
oneof_outside count (Some i) = is_outside count i

abbrev pub has_oneof_outside : FlatMessageRow → Bool
has_oneof_outside m = list_any (λ f. oneof_outside (length m.oneofs) f.proto.oneof_index) m.fields

abbrev pub bad_index : List FileDescriptorProto → FlatRows → Bool
bad_index files rows = list_any import_outside files || list_any has_oneof_outside rows.messages

-- BadNumber: numbers of fields and extensions are from 1 to 536870911; an absent one is 0.

abbrev pub number_or_zero : Option ℤ → ℤ
number_or_zero number = unwrap_or number (pos 0)

abbrev pub is_field_number : ℤ → Bool
is_field_number (pos n) = nat_lt 0 n && nat_lt n (2 ^ 29)
is_field_number (negsuc n) = false

abbrev pub number_bad : DefinitionRow FieldDescriptorProto → Bool
number_bad d = not (is_field_number (number_or_zero d.proto.number))

abbrev pub bad_number : FlatRows → Bool
bad_number rows = any_field number_bad rows

-- BadRange: a range of a message starts at 0 at least and holds a number; one of an enum does not end before it starts.

abbrev pub is_negative : ℤ → Bool
is_negative (pos n) = false
is_negative (negsuc n) = true

abbrev pub range_bad : Option ℤ → Option ℤ → Bool
range_bad start end = is_negative (number_or_zero start) || int_le (number_or_zero end) (number_or_zero start)

abbrev pub message_range_bad : FlatMessageRow → Bool
message_range_bad m = list_any (λ r. range_bad r.start r.end) m.definition.proto.extension_range
    || list_any (λ r. range_bad r.start r.end) m.definition.proto.reserved_range

abbrev pub enum_range_bad : FlatEnumRow → Bool
enum_range_bad e = list_any (λ r. not (int_le (number_or_zero r.start) (number_or_zero r.end))) e.definition.proto.reserved_range.items

abbrev pub bad_range : FlatRows → Bool
bad_range rows = list_any message_range_bad rows.messages || list_any enum_range_bad rows.enums

-- MissingType: each field has one of the types 1 to 18, a message, a group (10 and 11) or an enum (14) is named, an extension names the message that it extends, and a method what it takes and answers.

abbrev pub is_type : ℤ → Bool
is_type (pos n) = nat_lt 0 n && nat_le n 18
is_type (negsuc n) = false

abbrev pub is_code : ℕ → Option ℤ → Bool
is_code code None = false
is_code code (Some (pos n)) = nat_eq n code
is_code code (Some (negsuc n)) = false

abbrev pub is_message_type : Option ℤ → Bool
is_message_type code = is_code 10 code || is_code 11 code

abbrev pub is_enum_type : Option ℤ → Bool
is_enum_type code = is_code 14 code

abbrev pub type_missing : DefinitionRow FieldDescriptorProto → Bool
type_missing d = not (is_type (number_or_zero d.proto.type_))
    || ((is_message_type d.proto.type_ || is_enum_type d.proto.type_) && is_none d.proto.type_name)

abbrev pub extendee_missing : DefinitionRow FieldDescriptorProto → Bool
extendee_missing d = is_none d.proto.extendee

abbrev pub method_type_missing : DefinitionRow MethodDescriptorProto → Bool
method_type_missing d = is_none d.proto.input_type || is_none d.proto.output_type

abbrev pub missing_type : FlatRows → Bool
missing_type rows = any_field type_missing rows || list_any extendee_missing rows.extensions
    || list_any (λ s. list_any method_type_missing s.methods) rows.services

-- BadLabel: a label is 1, 2 or 3, an absent one counts as 1, and in a proto3 file none is 2, required.

abbrev pub label_bad : DefinitionRow FieldDescriptorProto → Bool
label_bad d = not (is_none d.proto.label || is_code 1 d.proto.label || is_code 3 d.proto.label || (is_code 2 d.proto.label && not d.is_proto3))

abbrev pub bad_label : FlatRows → Bool
bad_label rows = any_field label_bad rows

-- BadOneof: no member of a oneof is repeated, and no extension is a member.

abbrev pub has_repeated_label : DefinitionRow FieldDescriptorProto → Bool
has_repeated_label d = is_code 3 d.proto.label

abbrev pub is_member : DefinitionRow FieldDescriptorProto → Bool
is_member d = is_some d.proto.oneof_index

abbrev pub repeated_member : DefinitionRow FieldDescriptorProto → Bool
repeated_member d = is_member d && has_repeated_label d

abbrev pub bad_oneof : FlatRows → Bool
bad_oneof rows = any_field repeated_member rows || list_any is_member rows.extensions

-- EmptyEnum: an enum has a first value.

abbrev pub enum_empty : FlatEnumRow → Bool
enum_empty e = nat_eq (length e.values) 0

abbrev pub empty_enum : FlatRows → Bool
empty_enum rows = list_any enum_empty rows.enums

-- DuplicateName: no two definitions have one full name.

abbrev pub names_of : {R : Type 0} → List (DefinitionRow R) → List (List ℕ)
names_of ds = map (λ d. d.full_name) ds

abbrev pub names_in_messages : List FlatMessageRow → List (List ℕ)
names_in_messages [] = []
names_in_messages (m ∷ ms) = (m.definition.full_name ∷ []) ++ names_of m.fields ++ names_of m.oneofs ++ names_in_messages ms

abbrev pub names_in_enums : List FlatEnumRow → List (List ℕ)
names_in_enums [] = []
names_in_enums (e ∷ es) = (e.definition.full_name ∷ []) ++ names_of e.values ++ names_in_enums es

abbrev pub names_in_services : List FlatServiceRow → List (List ℕ)
names_in_services [] = []
names_in_services (s ∷ ss) = (s.definition.full_name ∷ []) ++ names_of s.methods ++ names_in_services ss

abbrev pub full_names : FlatRows → List (List ℕ)
full_names rows = names_in_messages rows.messages ++ names_in_enums rows.enums ++ names_of rows.extensions
    ++ names_in_services rows.services

-- One stands among those before it.
abbrev pub repeats_by : {X : Type 0} → (X → X → Bool) → (before : List X) → List X → Bool
repeats_by same before [] = false
repeats_by same before (x ∷ xs) = list_any (same x) before || repeats_by same (before ++ x ∷ []) xs

abbrev pub repeats : (before : List (List ℕ)) → List (List ℕ) → Bool
repeats = repeats_by bytes_eq

abbrev pub duplicate_name : FlatRows → Bool
duplicate_name rows = repeats [] (full_names rows)

-- WHAT A TEXT NAMES

-- The place of the first of a name.
abbrev pub name_place : List (List ℕ) → List ℕ → Option ℕ
name_place names name = position_from (λ n. bytes_eq name n) 0 names

abbrev pub file_names : List FileDescriptorProto → List (List ℕ)
file_names files = map (λ f. text_or_empty f.name) files

abbrev pub message_names : FlatRows → List (List ℕ)
message_names rows = map (λ m. m.definition.full_name) rows.messages

abbrev pub enum_names : FlatRows → List (List ℕ)
enum_names rows = map (λ e. e.definition.full_name) rows.enums

-- The place of the first of the name that a text means. Without a text nothing is named.
abbrev pub place_named : List (List ℕ) → Option (String Global) → Option ℕ
place_named names None = None
place_named names (Some text) = name_place names (without_dot (string_bytes text))

-- MissingDependency: each file that one depends on is there.

abbrev pub dependency_missing : List (List ℕ) → FileDescriptorProto → Bool
dependency_missing names f = list_any (λ d. is_none (name_place names (string_bytes d))) f.dependency.items

abbrev pub missing_dependency : List FileDescriptorProto → Bool
missing_dependency files = list_any (dependency_missing (file_names files)) files

-- UnknownType: the type of a message, group or enum field, what an extension extends, and what a method takes and answers are there. A text on another field is ignored.

abbrev pub names_nothing : List (List ℕ) → Option (String Global) → Bool
names_nothing names None = false
names_nothing names (Some text) = is_none (name_place names (without_dot (string_bytes text)))

abbrev pub type_unknown : FlatRows → DefinitionRow FieldDescriptorProto → Bool
type_unknown rows d = (is_message_type d.proto.type_ && names_nothing (message_names rows) d.proto.type_name)
    || (is_enum_type d.proto.type_ && names_nothing (enum_names rows) d.proto.type_name)

abbrev pub extendee_unknown : FlatRows → DefinitionRow FieldDescriptorProto → Bool
extendee_unknown rows d = names_nothing (message_names rows) d.proto.extendee

abbrev pub method_type_unknown : FlatRows → DefinitionRow MethodDescriptorProto → Bool
method_type_unknown rows d = names_nothing (message_names rows) d.proto.input_type || names_nothing (message_names rows) d.proto.output_type

abbrev pub unknown_type : FlatRows → Bool
unknown_type rows = any_field (type_unknown rows) rows || list_any (extendee_unknown rows) rows.extensions
    || list_any (λ s. list_any (method_type_unknown rows) s.methods) rows.services

-- OutsideRange: an extension's number is in an extension range of the message that it extends, where that message is there.

abbrev pub is_in_range : ℤ → ExtensionRange → Bool
is_in_range number r = int_le (number_or_zero r.start) number && int_lt number (number_or_zero r.end)

-- The message that a text names.
abbrev pub message_named : FlatRows → Option (String Global) → Option FlatMessageRow
message_named rows text = option_and_then (λ place. slice_get rows.messages place) (place_named (message_names rows) text)

abbrev pub is_out_of : ℤ → Option FlatMessageRow → Bool
is_out_of number None = false
is_out_of number (Some m) = not (list_any (is_in_range number) m.definition.proto.extension_range)

abbrev pub extension_outside : FlatRows → DefinitionRow FieldDescriptorProto → Bool
extension_outside rows d = is_out_of (number_or_zero d.proto.number) (message_named rows d.proto.extendee)

abbrev pub outside_range : FlatRows → Bool
outside_range rows = list_any (extension_outside rows) rows.extensions

-- DuplicateNumber: no two fields or extensions of one message have one number. An extension of a message that is not there has no place.

-- A field or an extension: the place of its message, and its number.
pub record Numbered : Type 0 where
  pub message : ℕ
  pub number : ℤ

abbrev pub numbered_fields : ℕ → List (DefinitionRow FieldDescriptorProto) → List Numbered
numbered_fields place ds = map (λ d. record { message = place; number = number_or_zero d.proto.number }) ds

abbrev pub numbered_in : ℕ → List FlatMessageRow → List Numbered
numbered_in place [] = []
numbered_in place (m ∷ ms) = numbered_fields place m.fields ++ numbered_in (place + 1) ms

abbrev pub numbered_at : ℤ → Option ℕ → List Numbered
numbered_at number None = []
numbered_at number (Some place) = record { message = place; number = number } ∷ []

abbrev pub numbered_extensions : FlatRows → List (DefinitionRow FieldDescriptorProto) → List Numbered
numbered_extensions rows [] = []
numbered_extensions rows (d ∷ ds) = numbered_at (number_or_zero d.proto.number)
    (place_named (message_names rows) d.proto.extendee)
    ++ numbered_extensions rows ds

abbrev pub all_numbered : FlatRows → List Numbered
all_numbered rows = numbered_in 0 rows.messages ++ numbered_extensions rows rows.extensions

abbrev pub same_numbered : Numbered → Numbered → Bool
same_numbered a b = nat_eq a.message b.message && int_eq a.number b.number

abbrev pub number_repeats : (before : List Numbered) → List Numbered → Bool
number_repeats = repeats_by same_numbered

abbrev pub duplicate_number : FlatRows → Bool
duplicate_number rows = number_repeats [] (all_numbered rows)
