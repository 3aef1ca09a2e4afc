-- Rows that hold the same are linked to the same tables.
use Rattle.std.specs.Prelude.{◌≡◌, ◌+◌, ◌∷◌, ◌++◌}
use Rattle.prost_reflect_tables.proofs.Common.{ℕ, Bool, true, false, List, [], map, Option, Some, None, String, Vec, refl, ap, ap₂, ◌∙◌, AllZip, Global, FieldDescriptorProto, OneofDescriptorProto, EnumValueDescriptorProto, SameText, SameBytes, SameField, SameOneof, SameEnumValue, SameEnum, TableKind, bracketed, without_dot, bool_option, bool_in, field_default, FieldRow, OneofRow, MessageRow, DefinitionRow, FlatMessageRow, FlatEnumRow, FlatRows, name_place, place_named, message_names, enum_names, Links, links_of, json_name_or, json_name, linked_identity, linked_value, linked_kind, linked_default, values_of_kind, linked_field, in_order, extended_place, is_place, belonging, fields_of_message, oneof_place, member_place, linked_oneof, oneofs_from, linked_message, messages_from, linked_enum, linked_rows}
use Rattle.prost_reflect_tables.proofs.SameRows.{zip_map, zip_filter, by_text, by_bytes, text_same, SameRow, SameParts, SameMessageRow, SameEnumRow, SameRows}

-- IDENTITIES

pub identity_same : {R : Type 0} (Same : R → R → Type 0) (d e : DefinitionRow R) (a b : Option (String Global)) → SameRow Same d e → SameText a b → linked_identity a d ≡ linked_identity b e
identity_same Same d e a b r name = λ i. record { file = r.file i; parent = r.parent i; path = r.path i; full_name = r.full_name i; name = text_same a b name i }

-- FIELDS

names_alike : (json a b : Option (String Global)) → SameText a b → json_name_or json a ≡ json_name_or json b
names_alike None a b h = text_same a b h
names_alike (Some s) a b h = refl

json_names_same : (j k a b : Option (String Global)) → SameText j k → SameText a b → json_name_or j a ≡ json_name_or k b
json_names_same j k a b json name = by_text (λ (l : Option (String Global)). json_name_or l a) (λ bytes. bytes) (λ s. refl) j k json ∙ names_alike k a b name

json_name_same : (x : Bool) (d e : DefinitionRow FieldDescriptorProto) → SameRow SameField d e → json_name x d ≡ json_name x e
json_name_same true d e r = ap bracketed r.full_name
json_name_same false d e r = json_names_same d.proto.json_name e.proto.json_name d.proto.name e.proto.name r.proto.json_name r.proto.name

pub place_same : (names : List (List ℕ)) (a b : Option (String Global)) → SameText a b → place_named names a ≡ place_named names b
place_same names = by_text (place_named names) (λ bytes. name_place names (without_dot bytes)) (λ s. refl)

pub option_same : (number : ℕ) (a b : Option (Vec ℕ Global)) → SameBytes a b → bool_option number a ≡ bool_option number b
option_same number = by_bytes (bool_option number) (bool_in number None) (λ v. refl)

pub default_same : (links : Links) (kind : TableKind) (a b : Option (String Global)) → SameText a b → linked_default links kind a ≡ linked_default links kind b
default_same links kind = by_text (linked_default links kind) (field_default kind (values_of_kind links kind)) (λ s. refl)

field_linked : (links : Links) (x : Bool) (d e : DefinitionRow FieldDescriptorProto) → SameRow SameField d e → linked_field links x d ≡ linked_field links x e
unfolding linked_field
field_linked links x d e r =
    let number = r.proto.number in
    let label = r.proto.label in
    let code = r.proto.type_ in
    let oneof = r.proto.oneof_index in
    let optional = r.proto.proto3_optional in
    let proto3 = r.is_proto3 in
    let id = identity_same SameField d e d.proto.name e.proto.name r r.proto.name in
    let json = json_name_same x d e r in
    let message = place_same links.messages d.proto.type_name e.proto.type_name r.proto.type_name in
    let enum = place_same links.enums d.proto.type_name e.proto.type_name r.proto.type_name in
    let packed = option_same 2 d.proto.options e.proto.options r.proto.options in
    let default = default_same links (linked_kind links e.proto) d.proto.default_value e.proto.default_value r.proto.default_value in
    rw (id, json, number, label, code, oneof, optional, proto3, message, enum, packed, default)

fields_linked : (links : Links) (x : Bool) (ds es : List (DefinitionRow FieldDescriptorProto)) → AllZip (SameRow SameField) ds es → map (linked_field links x) ds ≡ map (linked_field links x) es
fields_linked links x = zip_map (SameRow SameField) (linked_field links x) (field_linked links x)

belonging_same : (place : DefinitionRow FieldDescriptorProto → Option ℕ) → ((d e : DefinitionRow FieldDescriptorProto) → SameRow SameField d e → place d ≡ place e) → (ds es : List (DefinitionRow FieldDescriptorProto)) (i : ℕ) →
    AllZip (SameRow SameField) ds es → AllZip (SameRow SameField) (belonging place ds i) (belonging place es i)
belonging_same place same ds es i = zip_filter (SameRow SameField) (λ d. is_place i (place d)) (λ d e r. ap (is_place i) (same d e r)) ds es

message_fields : (links : Links) (ds es : List (DefinitionRow FieldDescriptorProto)) (T : ℕ) (m n : FlatMessageRow) → AllZip (SameRow SameField) ds es → SameMessageRow m n → fields_of_message links ds T m ≡ fields_of_message links es T n
message_fields links ds es T m n extensions same = ap₂ (λ (fs gs : List FieldRow). fs ++ gs)
    (fields_linked links false m.fields n.fields same.fields)
    (fields_linked links true (belonging (extended_place links) ds T) (belonging (extended_place links) es T)
    (belonging_same (extended_place links) (λ d e r. place_same links.messages d.proto.extendee e.proto.extendee r.proto.extendee) ds es T extensions))

-- ONEOFS

member_same : (fields : List FieldRow) (d e : DefinitionRow FieldDescriptorProto) → SameRow SameField d e → member_place fields d ≡ member_place fields e
member_same fields d e r = let number = r.proto.number in rw number

oneof_linked : (fields : List FieldRow) (ds es : List (DefinitionRow FieldDescriptorProto)) (o p : DefinitionRow OneofDescriptorProto) → AllZip (SameRow SameField) ds es → SameRow SameOneof o p → linked_oneof fields ds o ≡ linked_oneof fields es p
oneof_linked fields ds es o p members r =
    let id = identity_same SameOneof o p o.proto.name p.proto.name r r.proto.name in
    let places = zip_map (SameRow SameField) (member_place fields) (member_same fields) ds es members in
    rw (id, places)

oneofs_linked : (fields : List FieldRow) (ds es : List (DefinitionRow FieldDescriptorProto)) (o : ℕ) (os ps : List (DefinitionRow OneofDescriptorProto)) → AllZip (SameRow SameField) ds es → AllZip (SameRow SameOneof) os ps →
    oneofs_from fields ds o os ≡ oneofs_from fields es o ps
oneofs_linked fields ds es o [] [] declared h = refl
oneofs_linked fields ds es o (q ∷ qs) (p ∷ ps) declared h = ap₂ (λ (r : OneofRow) (rs : List OneofRow). r ∷ rs)
    (oneof_linked fields (belonging oneof_place ds o) (belonging oneof_place es o) q p (belonging_same oneof_place (λ d e r. let index = r.proto.oneof_index in rw index) ds es o declared) h.0)
    (oneofs_linked fields ds es (o + 1) qs ps declared h.1)
oneofs_linked fields ds es o _ _ declared h = absurd h

-- MESSAGES AND ENUMS

message_linked : (fields : List FieldRow) (m n : FlatMessageRow) → SameMessageRow m n → linked_message fields m ≡ linked_message fields n
unfolding linked_message
message_linked fields m n r =
    let id = identity_same SameParts m.definition n.definition m.definition.proto.name n.definition.proto.name r.definition r.definition.proto.name in
    let entry = option_same 7 m.definition.proto.options n.definition.proto.options r.definition.proto.options in
    let oneofs = oneofs_linked (in_order fields) m.fields n.fields 0 m.oneofs n.oneofs r.fields r.oneofs in
    rw (id, entry, oneofs)

messages_linked : (links : Links) (ds es : List (DefinitionRow FieldDescriptorProto)) (T : ℕ) (ms ns : List FlatMessageRow) → AllZip (SameRow SameField) ds es → AllZip SameMessageRow ms ns → messages_from links ds T ms ≡ messages_from links es T ns
messages_linked links ds es T [] [] extensions h = refl
messages_linked links ds es T (m ∷ ms) (n ∷ ns) extensions h = ap₂ (λ (r : MessageRow) (rs : List MessageRow). r ∷ rs)
    (ap (λ (fs : List FieldRow). linked_message fs m) (message_fields links ds es T m n extensions h.0) ∙ message_linked (fields_of_message links es T n) m n h.0)
    (messages_linked links ds es (T + 1) ms ns extensions h.1)
messages_linked links ds es T _ _ extensions h = absurd h

value_linked : (v w : DefinitionRow EnumValueDescriptorProto) → SameRow SameEnumValue v w → linked_value v ≡ linked_value w
value_linked v w r =
    let id = identity_same SameEnumValue v w v.proto.name w.proto.name r r.proto.name in
    let number = r.proto.number in
    rw (id, number)

enum_linked : (d e : FlatEnumRow) → SameEnumRow d e → linked_enum d ≡ linked_enum e
enum_linked d e r =
    let id = identity_same SameEnum d.definition e.definition d.definition.proto.name e.definition.proto.name r.definition r.definition.proto.name in
    let proto3 = r.definition.is_proto3 in
    let values = zip_map (SameRow SameEnumValue) linked_value value_linked d.values e.values r.values in
    rw (id, proto3, values)

-- ALL

pub message_names_same : (a b : FlatRows) → SameRows a b → message_names a ≡ message_names b
message_names_same a b h = zip_map SameMessageRow (λ m. m.definition.full_name) (λ m n r. r.definition.full_name) a.messages b.messages h.messages

pub enum_names_same : (a b : FlatRows) → SameRows a b → enum_names a ≡ enum_names b
enum_names_same a b h = zip_map SameEnumRow (λ e. e.definition.full_name) (λ d e r. r.definition.full_name) a.enums b.enums h.enums

pub links_same : (a b : FlatRows) → SameRows a b → links_of a ≡ links_of b
links_same a b h =
    let messages = message_names_same a b h in
    let enums = enum_names_same a b h in
    let values = zip_map SameEnumRow (λ e. map linked_value e.values) (λ d e r. zip_map (SameRow SameEnumValue) linked_value value_linked d.values e.values r.values) a.enums b.enums h.enums in
    λ i. record { messages = messages i; enums = enums i; values = values i }

pub rows_linked : (a b : FlatRows) → SameRows a b → linked_rows a ≡ linked_rows b
rows_linked a b h =
    let messages = ap (λ (links : Links). messages_from links a.extensions 0 a.messages) (links_same a b h) ∙ messages_linked (links_of b) a.extensions b.extensions 0 a.messages b.messages h.extensions h.messages in
    let enums = zip_map SameEnumRow linked_enum enum_linked a.enums b.enums h.enums in
    λ i. record { messages = messages i; enums = enums i }
