-- Records of equal contents hold the same, field by field, wherever it lies in memory.
use Rattle.std.specs.Prelude.{◌≡◌, ◌∷◌}
use Rattle.prost_reflect_types.proofs.Common.{ℕ, Bool, ℤ, List, [], map, Option, Some, None, String, string_bytes, Vec, option_map, refl, sym, ap, ap₂, ◌∙◌, ⊤, AllZip, Global, I32, Text, Content, ScalarValue, entries_of, record_content, of_text, of_number, of_flag, of_bytes, of_texts, of_numbers, of_records, of_extension_range, of_reserved_range, of_field, of_oneof, of_enum_value, of_enum_reserved_range, of_enum, of_method, of_service, of_message, of_file, DescriptorProto, out-DescriptorProto, roll-DescriptorProto}
use mathlib.Core.List.{map-id}
use Rattle.prost_reflect_types.specs.declared.table.RecordType.TheVariants as types
use Rattle.prost_reflect_types.specs.declared.ExtensionRange.{ExtensionRange}
use Rattle.prost_reflect_types.specs.declared.ReservedRange.{ReservedRange}
use Rattle.prost_reflect_types.specs.declared.FieldDescriptorProto.{FieldDescriptorProto}
use Rattle.prost_reflect_types.specs.declared.OneofDescriptorProto.{OneofDescriptorProto}
use Rattle.prost_reflect_types.specs.declared.EnumReservedRange.{EnumReservedRange}
use Rattle.prost_reflect_types.specs.declared.EnumValueDescriptorProto.{EnumValueDescriptorProto}
use Rattle.prost_reflect_types.specs.declared.EnumDescriptorProto.{EnumDescriptorProto}
use Rattle.prost_reflect_types.specs.declared.MethodDescriptorProto.{MethodDescriptorProto}
use Rattle.prost_reflect_types.specs.declared.ServiceDescriptorProto.{ServiceDescriptorProto}
use Rattle.prost_reflect_types.specs.declared.DescriptorProto.TheOpen.{DescriptorProto-F}
use Rattle.prost_reflect_types.specs.declared.FileDescriptorProto.{FileDescriptorProto}
use Rattle.prost_reflect_types.proofs.MessageViews.{of_message_roll}
use Rattle.prost_reflect_types.proofs.RecordSlots.{Slots, extension_range_slots, reserved_range_slots, field_slots, oneof_slots, enum_reserved_range_slots, enum_value_slots, enum_slots, method_slots, service_slots, file_slots, message_out}
use Rattle.prost_reflect_types.proofs.SameFields.{listed_same, records_same}
use Rattle.prost_reflect_types.proofs.SameRecords.{each_same}

-- FIELDS

abbrev pub SameText : Option (String Global) → Option (String Global) → Type 0
SameText a b = option_map string_bytes a ≡ option_map string_bytes b

abbrev pub SameBytes : Option (Vec ℕ Global) → Option (Vec ℕ Global) → Type 0
SameBytes a b = option_map (λ (v : Vec ℕ Global). v.items) a ≡ option_map (λ (v : Vec ℕ Global). v.items) b

abbrev pub SameTexts : Vec (String Global) Global → Vec (String Global) Global → Type 0
SameTexts a b = map string_bytes a.items ≡ map string_bytes b.items

text_same : (a b : Option (String Global)) → of_text a ≡ of_text b → SameText a b
unfolding of_text
text_same None None e = refl
text_same None (Some t) e = cc
text_same (Some s) None e = cc
text_same (Some s) (Some t) e = let h : string_bytes s ≡ string_bytes t = cc in ap Some h

number_same : (a b : Option ℤ) → of_number a ≡ of_number b → a ≡ b
unfolding of_number
number_same None None e = refl
number_same None (Some t) e = cc
number_same (Some s) None e = cc
number_same (Some s) (Some t) e = let h : s ≡ t = cc in ap Some h

flag_same : (a b : Option Bool) → of_flag a ≡ of_flag b → a ≡ b
unfolding of_flag
flag_same None None e = refl
flag_same None (Some t) e = cc
flag_same (Some s) None e = cc
flag_same (Some s) (Some t) e = let h : s ≡ t = cc in ap Some h

bytes_same : (a b : Option (Vec ℕ Global)) → of_bytes a ≡ of_bytes b → SameBytes a b
unfolding of_bytes
bytes_same None None e = refl
bytes_same None (Some t) e = cc
bytes_same (Some s) None e = cc
bytes_same (Some s) (Some t) e = let h : s.items ≡ t.items = cc in ap Some h

-- A reading of elements that another one decides.
read_alike : {A B C : Type 0} (f : A → B) (g : A → C) → ((x y : A) → f x ≡ f y → g x ≡ g y) → (xs ys : List A) → map f xs ≡ map f ys → map g xs ≡ map g ys
read_alike f g each [] [] e = refl
read_alike f g each [] (y ∷ ys) e = cc
read_alike f g each (x ∷ xs) [] e = cc
read_alike {A} {B} {C} f g each (x ∷ xs) (y ∷ ys) e =
    let h : f x ≡ f y = cc in
    let t : map f xs ≡ map f ys = cc in
    ap₂ (λ (c : C) (cs : List C). c ∷ cs) (each x y h) (read_alike f g each xs ys t)

texts_same : (a b : Vec (String Global) Global) → of_texts a ≡ of_texts b → SameTexts a b
unfolding of_texts
texts_same a b e = read_alike (λ t. ScalarValue (Text (string_bytes t))) string_bytes (λ s t e. cc) a.items b.items (listed_same _ _ e)

numbers_same : (a b : Vec ℤ Global) → of_numbers a ≡ of_numbers b → a.items ≡ b.items
unfolding of_numbers
numbers_same a b e = sym (map-id a.items) ∙ (read_alike (λ z. ScalarValue (I32 z)) (λ z. z) (λ y z e. cc) a.items b.items (listed_same _ _ e) ∙ map-id b.items)

-- What looks equal is the same, one by one.
pub zip_same : {E C : Type 0} (view : E → C) (Same : E → E → Type 0) → ((x y : E) → view x ≡ view y → Same x y) → (xs ys : List E) → map view xs ≡ map view ys → AllZip Same xs ys
zip_same view Same each [] [] e = tt
zip_same view Same each [] (y ∷ ys) e = cc
zip_same view Same each (x ∷ xs) [] e = cc
zip_same view Same each (x ∷ xs) (y ∷ ys) e = let h : view x ≡ view y = cc in let t : map view xs ≡ map view ys = cc in (each x y h, zip_same view Same each xs ys t)

all_same : {E : Type 0} (view : E → Content) (Same : E → E → Type 0) → ((x y : E) → view x ≡ view y → Same x y) → (xs ys : List E) → of_records (map view xs) ≡ of_records (map view ys) → AllZip Same xs ys
all_same view Same each xs ys e = zip_same view Same each xs ys (records_same (map view xs) (map view ys) e)

-- RECORDS

pub record SameExtensionRange (r s : ExtensionRange) : Type 0 where
  pub start : r.start ≡ s.start
  pub end : r.end ≡ s.end
  pub options : SameBytes r.options s.options

pub extension_range_same : (r s : ExtensionRange) → of_extension_range r ≡ of_extension_range s → SameExtensionRange r s
extension_range_same r s e = let p = each_same (extension_range_slots r) (extension_range_slots s) ⊤ refl (ap entries_of e) tt in record {
  start = number_same r.start s.start p.0.0.1;
  end = number_same r.end s.end p.0.1;
  options = bytes_same r.options s.options p.1;
}

pub record SameReservedRange (r s : ReservedRange) : Type 0 where
  pub start : r.start ≡ s.start
  pub end : r.end ≡ s.end

pub reserved_range_same : (r s : ReservedRange) → of_reserved_range r ≡ of_reserved_range s → SameReservedRange r s
reserved_range_same r s e = let p = each_same (reserved_range_slots r) (reserved_range_slots s) ⊤ refl (ap entries_of e) tt in record {
  start = number_same r.start s.start p.0.1;
  end = number_same r.end s.end p.1;
}

pub record SameField (f g : FieldDescriptorProto) : Type 0 where
  pub name : SameText f.name g.name
  pub extendee : SameText f.extendee g.extendee
  pub number : f.number ≡ g.number
  pub label : f.label ≡ g.label
  pub type_ : f.type_ ≡ g.type_
  pub type_name : SameText f.type_name g.type_name
  pub default_value : SameText f.default_value g.default_value
  pub options : SameBytes f.options g.options
  pub oneof_index : f.oneof_index ≡ g.oneof_index
  pub json_name : SameText f.json_name g.json_name
  pub proto3_optional : f.proto3_optional ≡ g.proto3_optional

pub field_same : (f g : FieldDescriptorProto) → of_field f ≡ of_field g → SameField f g
field_same f g e = let p = each_same (field_slots f) (field_slots g) ⊤ refl (ap entries_of e) tt in record {
  name = text_same f.name g.name p.0.0.0.0.0.0.0.0.0.0.1;
  extendee = text_same f.extendee g.extendee p.0.0.0.0.0.0.0.0.0.1;
  number = number_same f.number g.number p.0.0.0.0.0.0.0.0.1;
  label = number_same f.label g.label p.0.0.0.0.0.0.0.1;
  type_ = number_same f.type_ g.type_ p.0.0.0.0.0.0.1;
  type_name = text_same f.type_name g.type_name p.0.0.0.0.0.1;
  default_value = text_same f.default_value g.default_value p.0.0.0.0.1;
  options = bytes_same f.options g.options p.0.0.0.1;
  oneof_index = number_same f.oneof_index g.oneof_index p.0.0.1;
  json_name = text_same f.json_name g.json_name p.0.1;
  proto3_optional = flag_same f.proto3_optional g.proto3_optional p.1;
}

pub record SameOneof (o p : OneofDescriptorProto) : Type 0 where
  pub name : SameText o.name p.name
  pub options : SameBytes o.options p.options

pub oneof_same : (o q : OneofDescriptorProto) → of_oneof o ≡ of_oneof q → SameOneof o q
oneof_same o q e = let p = each_same (oneof_slots o) (oneof_slots q) ⊤ refl (ap entries_of e) tt in record {
  name = text_same o.name q.name p.0.1;
  options = bytes_same o.options q.options p.1;
}

pub record SameEnumReservedRange (r s : EnumReservedRange) : Type 0 where
  pub start : r.start ≡ s.start
  pub end : r.end ≡ s.end

pub enum_reserved_range_same : (r s : EnumReservedRange) → of_enum_reserved_range r ≡ of_enum_reserved_range s → SameEnumReservedRange r s
enum_reserved_range_same r s e = let p = each_same (enum_reserved_range_slots r) (enum_reserved_range_slots s) ⊤ refl (ap entries_of e) tt in record {
  start = number_same r.start s.start p.0.1;
  end = number_same r.end s.end p.1;
}

pub record SameEnumValue (v w : EnumValueDescriptorProto) : Type 0 where
  pub name : SameText v.name w.name
  pub number : v.number ≡ w.number
  pub options : SameBytes v.options w.options

pub enum_value_same : (v w : EnumValueDescriptorProto) → of_enum_value v ≡ of_enum_value w → SameEnumValue v w
enum_value_same v w e = let p = each_same (enum_value_slots v) (enum_value_slots w) ⊤ refl (ap entries_of e) tt in record {
  name = text_same v.name w.name p.0.0.1;
  number = number_same v.number w.number p.0.1;
  options = bytes_same v.options w.options p.1;
}

pub record SameEnum (d e : EnumDescriptorProto) : Type 0 where
  pub name : SameText d.name e.name
  pub value : AllZip SameEnumValue d.value.items e.value.items
  pub options : SameBytes d.options e.options
  pub reserved_range : AllZip SameEnumReservedRange d.reserved_range.items e.reserved_range.items
  pub reserved_name : SameTexts d.reserved_name e.reserved_name

pub enum_same : (d e : EnumDescriptorProto) → of_enum d ≡ of_enum e → SameEnum d e
enum_same d e h = let p = each_same (enum_slots d) (enum_slots e) ⊤ refl (ap entries_of h) tt in record {
  name = text_same d.name e.name p.0.0.0.0.1;
  value = all_same of_enum_value SameEnumValue enum_value_same d.value.items e.value.items p.0.0.0.1;
  options = bytes_same d.options e.options p.0.0.1;
  reserved_range = all_same of_enum_reserved_range SameEnumReservedRange enum_reserved_range_same d.reserved_range.items e.reserved_range.items p.0.1;
  reserved_name = texts_same d.reserved_name e.reserved_name p.1;
}

pub record SameMethod (m n : MethodDescriptorProto) : Type 0 where
  pub name : SameText m.name n.name
  pub input_type : SameText m.input_type n.input_type
  pub output_type : SameText m.output_type n.output_type
  pub options : SameBytes m.options n.options
  pub client_streaming : m.client_streaming ≡ n.client_streaming
  pub server_streaming : m.server_streaming ≡ n.server_streaming

pub method_same : (m n : MethodDescriptorProto) → of_method m ≡ of_method n → SameMethod m n
method_same m n e = let p = each_same (method_slots m) (method_slots n) ⊤ refl (ap entries_of e) tt in record {
  name = text_same m.name n.name p.0.0.0.0.0.1;
  input_type = text_same m.input_type n.input_type p.0.0.0.0.1;
  output_type = text_same m.output_type n.output_type p.0.0.0.1;
  options = bytes_same m.options n.options p.0.0.1;
  client_streaming = flag_same m.client_streaming n.client_streaming p.0.1;
  server_streaming = flag_same m.server_streaming n.server_streaming p.1;
}

pub record SameService (s t : ServiceDescriptorProto) : Type 0 where
  pub name : SameText s.name t.name
  pub method : AllZip SameMethod s.method.items t.method.items
  pub options : SameBytes s.options t.options

pub service_same : (s t : ServiceDescriptorProto) → of_service s ≡ of_service t → SameService s t
service_same s t e = let p = each_same (service_slots s) (service_slots t) ⊤ refl (ap entries_of e) tt in record {
  name = text_same s.name t.name p.0.0.1;
  method = all_same of_method SameMethod method_same s.method.items t.method.items p.0.1;
  options = bytes_same s.options t.options p.1;
}

-- Of two messages, whose records inside are of equal contents.
pub record SameLayer (m n : DescriptorProto-F DescriptorProto) : Type 0 where
  pub name : SameText m.name n.name
  pub field : AllZip SameField m.field.items n.field.items
  pub nested_type : map of_message m.nested_type.items ≡ map of_message n.nested_type.items
  pub enum_type : AllZip SameEnum m.enum_type.items n.enum_type.items
  pub extension_range : AllZip SameExtensionRange m.extension_range.items n.extension_range.items
  pub extension : AllZip SameField m.extension.items n.extension.items
  pub options : SameBytes m.options n.options
  pub oneof_decl : AllZip SameOneof m.oneof_decl.items n.oneof_decl.items
  pub reserved_range : AllZip SameReservedRange m.reserved_range.items n.reserved_range.items
  pub reserved_name : SameTexts m.reserved_name n.reserved_name

abbrev layer_slots : DescriptorProto-F DescriptorProto → Slots
layer_slots r = (1, of_text r.name) ∷ (2, of_records (map of_field r.field.items)) ∷ (3, of_records (map of_message r.nested_type.items)) ∷ (4, of_records (map of_enum r.enum_type.items)) ∷ (5, of_records (map of_extension_range r.extension_range.items)) ∷ (6, of_records (map of_field r.extension.items)) ∷ (7, of_bytes r.options) ∷ (8, of_records (map of_oneof r.oneof_decl.items)) ∷ (9, of_records (map of_reserved_range r.reserved_range.items)) ∷ (10, of_texts r.reserved_name) ∷ []

layer_same : (m n : DescriptorProto-F DescriptorProto) → record_content types.Message (layer_slots m) ≡ record_content types.Message (layer_slots n) → SameLayer m n
layer_same m n e = let p = each_same (layer_slots m) (layer_slots n) ⊤ refl (ap entries_of e) tt in record {
  name = text_same m.name n.name p.0.0.0.0.0.0.0.0.0.1;
  field = all_same of_field SameField field_same m.field.items n.field.items p.0.0.0.0.0.0.0.0.1;
  nested_type = records_same (map of_message m.nested_type.items) (map of_message n.nested_type.items) p.0.0.0.0.0.0.0.1;
  enum_type = all_same of_enum SameEnum enum_same m.enum_type.items n.enum_type.items p.0.0.0.0.0.0.1;
  extension_range = all_same of_extension_range SameExtensionRange extension_range_same m.extension_range.items n.extension_range.items p.0.0.0.0.0.1;
  extension = all_same of_field SameField field_same m.extension.items n.extension.items p.0.0.0.0.1;
  options = bytes_same m.options n.options p.0.0.0.1;
  oneof_decl = all_same of_oneof SameOneof oneof_same m.oneof_decl.items n.oneof_decl.items p.0.0.1;
  reserved_range = all_same of_reserved_range SameReservedRange reserved_range_same m.reserved_range.items n.reserved_range.items p.0.1;
  reserved_name = texts_same m.reserved_name n.reserved_name p.1;
}

pub message_same : (m : DescriptorProto-F DescriptorProto) (n : DescriptorProto) → of_message (roll-DescriptorProto m) ≡ of_message n → SameLayer m (out-DescriptorProto n)
message_same m n e = layer_same m (out-DescriptorProto n) (sym (of_message_roll m) ∙ e ∙ message_out n)

pub record SameFile (f g : FileDescriptorProto) : Type 0 where
  pub name : SameText f.name g.name
  pub «package» : SameText f.«package» g.«package»
  pub dependency : SameTexts f.dependency g.dependency
  pub message_type : map of_message f.message_type.items ≡ map of_message g.message_type.items
  pub enum_type : AllZip SameEnum f.enum_type.items g.enum_type.items
  pub service : AllZip SameService f.service.items g.service.items
  pub extension : AllZip SameField f.extension.items g.extension.items
  pub options : SameBytes f.options g.options
  pub source_code_info : SameBytes f.source_code_info g.source_code_info
  pub public_dependency : f.public_dependency.items ≡ g.public_dependency.items
  pub weak_dependency : f.weak_dependency.items ≡ g.weak_dependency.items
  pub syntax : SameText f.syntax g.syntax

pub file_same : (f g : FileDescriptorProto) → of_file f ≡ of_file g → SameFile f g
file_same f g e = let p = each_same (file_slots f) (file_slots g) ⊤ refl (ap entries_of e) tt in record {
  name = text_same f.name g.name p.0.0.0.0.0.0.0.0.0.0.0.1;
  «package» = text_same f.«package» g.«package» p.0.0.0.0.0.0.0.0.0.0.1;
  dependency = texts_same f.dependency g.dependency p.0.0.0.0.0.0.0.0.0.1;
  message_type = records_same (map of_message f.message_type.items) (map of_message g.message_type.items) p.0.0.0.0.0.0.0.0.1;
  enum_type = all_same of_enum SameEnum enum_same f.enum_type.items g.enum_type.items p.0.0.0.0.0.0.0.1;
  service = all_same of_service SameService service_same f.service.items g.service.items p.0.0.0.0.0.0.1;
  extension = all_same of_field SameField field_same f.extension.items g.extension.items p.0.0.0.0.0.1;
  options = bytes_same f.options g.options p.0.0.0.0.1;
  source_code_info = bytes_same f.source_code_info g.source_code_info p.0.0.0.1;
  public_dependency = numbers_same f.public_dependency g.public_dependency p.0.0.1;
  weak_dependency = numbers_same f.weak_dependency g.weak_dependency p.0.1;
  syntax = text_same f.syntax g.syntax p.1;
}
