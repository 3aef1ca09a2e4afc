-- Files of equal contents are refused for the same reasons.
use Rattle.std.specs.Prelude.{◌≡◌, ◌+◌, ◌||◌, ◌∷◌, ◌++◌}
use Rattle.prost_reflect_tables.proofs.Common.{ℕ, zero, suc, nat_eq, ℤ, Bool, false, not, List, [], length, Option, Some, None, String, string_bytes, Vec, is_none, refl, ap, ap₂, ◌∙◌, option_and_then, slice_get, AllZip, list_any, length_all_zip, Global, FileDescriptorProto, FieldDescriptorProto, MethodDescriptorProto, SameText, SameTexts, SameExtensionRange, SameReservedRange, SameField, SameOneof, SameEnumReservedRange, SameEnumValue, SameMethod, SameFile, zip_same, text_or_empty, without_dot, DefinitionRow, FlatMessageRow, FlatEnumRow, FlatServiceRow, FlatRows, any_field, is_unnamed, message_unnamed, enum_unnamed, service_unnamed, missing_name, syntax_unknown, unknown_syntax, is_outside, import_outside, oneof_outside, has_oneof_outside, bad_index, number_bad, bad_number, range_bad, message_range_bad, enum_range_bad, bad_range, type_missing, extendee_missing, method_type_missing, missing_type, label_bad, bad_label, is_member, repeated_member, bad_oneof, enum_empty, empty_enum, names_of, names_in_messages, names_in_enums, names_in_services, repeats, duplicate_name, name_place, place_named, file_names, message_names, enum_names, dependency_missing, missing_dependency, names_nothing, type_unknown, extendee_unknown, method_type_unknown, unknown_type, is_in_range, message_named, is_out_of, extension_outside, outside_range, Numbered, number_or_zero, numbered_fields, numbered_in, numbered_at, numbered_extensions, number_repeats, duplicate_number}
use Rattle.prost_reflect_tables.proofs.SameRows.{zip_map, zip_any, by_text, text_same, SameRow, SameMessageRow, SameEnumRow, SameServiceRow, SameRows}
use Rattle.prost_reflect_tables.proofs.SameLinked.{place_same, message_names_same, enum_names_same}

-- PARTS

any_same : {X : Type 0} (R : X → X → Type 0) (p : X → Bool) → ((x y : X) → R x y → p x ≡ p y) → (xs ys : List X) → AllZip R xs ys → list_any p xs ≡ list_any p ys
any_same R p = zip_any R p p

pub any_field_same : (p q : DefinitionRow FieldDescriptorProto → Bool) → ((d e : DefinitionRow FieldDescriptorProto) → SameRow SameField d e → p d ≡ q e) → (a b : FlatRows) → SameRows a b → any_field p a ≡ any_field q b
any_field_same p q each a b h = ap₂ (λ (x y : Bool). x || y)
    (zip_any SameMessageRow (λ m. list_any p m.fields) (λ m. list_any q m.fields) (λ m n r. zip_any (SameRow SameField) p q each m.fields n.fields r.fields) a.messages b.messages h.messages)
    (zip_any (SameRow SameField) p q each a.extensions b.extensions h.extensions)

pub none_same : (a b : Option (String Global)) → SameText a b → is_none a ≡ is_none b
none_same = by_text is_none (λ bytes. false) (λ s. refl)

unnamed_same : (a b : Option (String Global)) → SameText a b → is_unnamed a ≡ is_unnamed b
unnamed_same a b h = ap (λ (text : List ℕ). nat_eq (length text) 0) (text_same a b h)

-- what stands at a place of both
pub zip_at : {X Y : Type 0} (R : X → X → Type 0) (f : Option X → Y) → ((x y : X) → R x y → f (Some x) ≡ f (Some y)) → (xs ys : List X) → AllZip R xs ys → (i : ℕ) → f (slice_get xs i) ≡ f (slice_get ys i)
zip_at R f each [] [] h i = refl
zip_at R f each (x ∷ xs) (y ∷ ys) h zero = each x y h.0
zip_at R f each (x ∷ xs) (y ∷ ys) h (suc i) = zip_at R f each xs ys h.1 i
zip_at R f each _ _ h i = absurd h

SameString : String Global → String Global → Type 0
SameString s t = string_bytes s ≡ string_bytes t

strings_same : (a b : Vec (String Global) Global) → SameTexts a b → AllZip SameString a.items b.items
unfolding SameString
strings_same a b = zip_same string_bytes SameString (λ s t e. e) a.items b.items

-- NAMES AND SYNTAX

message_unnamed_same : (m n : FlatMessageRow) → SameMessageRow m n → message_unnamed m ≡ message_unnamed n
message_unnamed_same m n r =
    let own = unnamed_same m.definition.proto.name n.definition.proto.name r.definition.proto.name in
    let fields = any_same (SameRow SameField) (λ f. is_unnamed f.proto.name) (λ f g e. unnamed_same f.proto.name g.proto.name e.proto.name) m.fields n.fields r.fields in
    let oneofs = any_same (SameRow SameOneof) (λ o. is_unnamed o.proto.name) (λ o p e. unnamed_same o.proto.name p.proto.name e.proto.name) m.oneofs n.oneofs r.oneofs in
    λ i. own i || fields i || oneofs i

enum_unnamed_same : (d e : FlatEnumRow) → SameEnumRow d e → enum_unnamed d ≡ enum_unnamed e
enum_unnamed_same d e r =
    let own = unnamed_same d.definition.proto.name e.definition.proto.name r.definition.proto.name in
    let values = any_same (SameRow SameEnumValue) (λ v. is_unnamed v.proto.name) (λ v w h. unnamed_same v.proto.name w.proto.name h.proto.name) d.values e.values r.values in
    λ i. own i || values i

service_unnamed_same : (s t : FlatServiceRow) → SameServiceRow s t → service_unnamed s ≡ service_unnamed t
service_unnamed_same s t r =
    let own = unnamed_same s.definition.proto.name t.definition.proto.name r.definition.proto.name in
    let methods = any_same (SameRow SameMethod) (λ m. is_unnamed m.proto.name) (λ m n e. unnamed_same m.proto.name n.proto.name e.proto.name) s.methods t.methods r.methods in
    λ i. own i || methods i

pub missing_name_same : (fs gs : List FileDescriptorProto) (a b : FlatRows) → AllZip SameFile fs gs → SameRows a b → missing_name fs a ≡ missing_name gs b
missing_name_same fs gs a b files h =
    let named = any_same SameFile (λ f. is_unnamed f.name) (λ f g e. unnamed_same f.name g.name e.name) fs gs files in
    let messages = any_same SameMessageRow message_unnamed message_unnamed_same a.messages b.messages h.messages in
    let enums = any_same SameEnumRow enum_unnamed enum_unnamed_same a.enums b.enums h.enums in
    let extensions = any_same (SameRow SameField) (λ e. is_unnamed e.proto.name) (λ f g e. unnamed_same f.proto.name g.proto.name e.proto.name) a.extensions b.extensions h.extensions in
    let services = any_same SameServiceRow service_unnamed service_unnamed_same a.services b.services h.services in
    λ i. named i || messages i || enums i || extensions i || services i

pub unknown_syntax_same : (fs gs : List FileDescriptorProto) → AllZip SameFile fs gs → unknown_syntax fs ≡ unknown_syntax gs
unknown_syntax_same fs gs = any_same SameFile syntax_unknown (λ f g e. let syntax = text_same f.syntax g.syntax e.syntax in rw syntax) fs gs

-- INDICES, NUMBERS AND RANGES

import_outside_same : (f g : FileDescriptorProto) → SameFile f g → import_outside f ≡ import_outside g
import_outside_same f g e =
    let count = length_all_zip SameString f.dependency.items g.dependency.items (strings_same f.dependency g.dependency e.dependency) in
    let publics = e.public_dependency in
    let weak = e.weak_dependency in
    λ i. list_any (is_outside (count i)) (publics i) || list_any (is_outside (count i)) (weak i)

oneof_outside_same : (m n : FlatMessageRow) → SameMessageRow m n → has_oneof_outside m ≡ has_oneof_outside n
oneof_outside_same m n r =
    zip_any (SameRow SameField) (λ f. oneof_outside (length m.oneofs) f.proto.oneof_index) (λ f. oneof_outside (length n.oneofs) f.proto.oneof_index)
    (λ f g e. ap₂ oneof_outside (length_all_zip (SameRow SameOneof) m.oneofs n.oneofs r.oneofs) e.proto.oneof_index) m.fields n.fields r.fields

pub bad_index_same : (fs gs : List FileDescriptorProto) (a b : FlatRows) → AllZip SameFile fs gs → SameRows a b → bad_index fs a ≡ bad_index gs b
bad_index_same fs gs a b files h =
    let imports = any_same SameFile import_outside import_outside_same fs gs files in
    let oneofs = any_same SameMessageRow has_oneof_outside oneof_outside_same a.messages b.messages h.messages in
    λ i. imports i || oneofs i

pub bad_number_same : (a b : FlatRows) → SameRows a b → bad_number a ≡ bad_number b
bad_number_same = any_field_same number_bad number_bad (λ d e r. let number = r.proto.number in rw number)

message_range_same : (m n : FlatMessageRow) → SameMessageRow m n → message_range_bad m ≡ message_range_bad n
message_range_same m n r =
    let extensions = any_same SameExtensionRange (λ x. range_bad x.start x.end) (λ x y e. ap₂ range_bad e.start e.end) m.definition.proto.extension_range n.definition.proto.extension_range r.definition.proto.extension_range in
    let reserved = any_same SameReservedRange (λ x. range_bad x.start x.end) (λ x y e. ap₂ range_bad e.start e.end) m.definition.proto.reserved_range n.definition.proto.reserved_range r.definition.proto.reserved_range in
    λ i. extensions i || reserved i

enum_range_same : (d e : FlatEnumRow) → SameEnumRow d e → enum_range_bad d ≡ enum_range_bad e
enum_range_same d e r = any_same SameEnumReservedRange _ (λ x y h. let start = h.start in let end = h.end in rw (start, end)) d.definition.proto.reserved_range.items e.definition.proto.reserved_range.items r.definition.proto.reserved_range

pub bad_range_same : (a b : FlatRows) → SameRows a b → bad_range a ≡ bad_range b
bad_range_same a b h =
    let messages = any_same SameMessageRow message_range_bad message_range_same a.messages b.messages h.messages in
    let enums = any_same SameEnumRow enum_range_bad enum_range_same a.enums b.enums h.enums in
    λ i. messages i || enums i

-- TYPES, LABELS, ONEOFS AND ENUMS

type_missing_same : (d e : DefinitionRow FieldDescriptorProto) → SameRow SameField d e → type_missing d ≡ type_missing e
type_missing_same d e r =
    let code = r.proto.type_ in
    let name = none_same d.proto.type_name e.proto.type_name r.proto.type_name in
    rw (code, name)

extendee_missing_same : (d e : DefinitionRow FieldDescriptorProto) → SameRow SameField d e → extendee_missing d ≡ extendee_missing e
extendee_missing_same d e r = none_same d.proto.extendee e.proto.extendee r.proto.extendee

method_type_missing_same : (m n : DefinitionRow MethodDescriptorProto) → SameRow SameMethod m n → method_type_missing m ≡ method_type_missing n
method_type_missing_same m n r =
    let input = none_same m.proto.input_type n.proto.input_type r.proto.input_type in
    let output = none_same m.proto.output_type n.proto.output_type r.proto.output_type in
    λ i. input i || output i

pub missing_type_same : (a b : FlatRows) → SameRows a b → missing_type a ≡ missing_type b
missing_type_same a b h =
    let fields = any_field_same type_missing type_missing type_missing_same a b h in
    let extensions = any_same (SameRow SameField) extendee_missing extendee_missing_same a.extensions b.extensions h.extensions in
    let services = any_same SameServiceRow (λ s. list_any method_type_missing s.methods) (λ s t r. any_same (SameRow SameMethod) method_type_missing method_type_missing_same s.methods t.methods r.methods) a.services b.services h.services in
    λ i. fields i || extensions i || services i

pub bad_label_same : (a b : FlatRows) → SameRows a b → bad_label a ≡ bad_label b
bad_label_same = any_field_same label_bad label_bad (λ d e r. let label = r.proto.label in let proto3 = r.is_proto3 in rw (label, proto3))

pub bad_oneof_same : (a b : FlatRows) → SameRows a b → bad_oneof a ≡ bad_oneof b
bad_oneof_same a b h =
    let fields = any_field_same repeated_member repeated_member (λ d e r. let label = r.proto.label in let oneof = r.proto.oneof_index in rw (label, oneof)) a b h in
    let extensions = any_same (SameRow SameField) is_member (λ d e r. let oneof = r.proto.oneof_index in rw oneof) a.extensions b.extensions h.extensions in
    λ i. fields i || extensions i

pub empty_enum_same : (a b : FlatRows) → SameRows a b → empty_enum a ≡ empty_enum b
empty_enum_same a b h = any_same SameEnumRow enum_empty (λ d e r. ap (λ (n : ℕ). nat_eq n 0) (length_all_zip (SameRow SameEnumValue) d.values e.values r.values)) a.enums b.enums h.enums

-- FULL NAMES

names_same : {R : Type 0} (Same : R → R → Type 0) (ds es : List (DefinitionRow R)) → AllZip (SameRow Same) ds es → names_of ds ≡ names_of es
names_same Same = zip_map (SameRow Same) (λ d. d.full_name) (λ d e r. r.full_name)

message_names_in : (ms ns : List FlatMessageRow) → AllZip SameMessageRow ms ns → names_in_messages ms ≡ names_in_messages ns
message_names_in [] [] h = refl
message_names_in (m ∷ ms) (n ∷ ns) h =
    let fields = names_same SameField m.fields n.fields h.0.fields in
    let oneofs = names_same SameOneof m.oneofs n.oneofs h.0.oneofs in
    let rest = message_names_in ms ns h.1 in
    λ i. (h.0.definition.full_name i ∷ []) ++ fields i ++ oneofs i ++ rest i
message_names_in _ _ h = absurd h

enum_names_in : (ds es : List FlatEnumRow) → AllZip SameEnumRow ds es → names_in_enums ds ≡ names_in_enums es
enum_names_in [] [] h = refl
enum_names_in (d ∷ ds) (e ∷ es) h =
    let values = names_same SameEnumValue d.values e.values h.0.values in
    let rest = enum_names_in ds es h.1 in
    λ i. (h.0.definition.full_name i ∷ []) ++ values i ++ rest i
enum_names_in _ _ h = absurd h

service_names_in : (ss ts : List FlatServiceRow) → AllZip SameServiceRow ss ts → names_in_services ss ≡ names_in_services ts
service_names_in [] [] h = refl
service_names_in (s ∷ ss) (t ∷ ts) h =
    let methods = names_same SameMethod s.methods t.methods h.0.methods in
    let rest = service_names_in ss ts h.1 in
    λ i. (h.0.definition.full_name i ∷ []) ++ methods i ++ rest i
service_names_in _ _ h = absurd h

pub duplicate_name_same : (a b : FlatRows) → SameRows a b → duplicate_name a ≡ duplicate_name b
duplicate_name_same a b h =
    let messages = message_names_in a.messages b.messages h.messages in
    let enums = enum_names_in a.enums b.enums h.enums in
    let extensions = names_same SameField a.extensions b.extensions h.extensions in
    let services = service_names_in a.services b.services h.services in
    λ i. repeats [] (messages i ++ enums i ++ extensions i ++ services i)

-- WHAT A TEXT NAMES

dependency_missing_same : (names : List (List ℕ)) (f g : FileDescriptorProto) → SameFile f g → dependency_missing names f ≡ dependency_missing names g
unfolding SameString
dependency_missing_same names f g e = any_same SameString (λ d. is_none (name_place names (string_bytes d))) (λ s t h. ap (λ (bytes : List ℕ). is_none (name_place names bytes)) h) f.dependency.items g.dependency.items (strings_same f.dependency g.dependency e.dependency)

pub missing_dependency_same : (fs gs : List FileDescriptorProto) → AllZip SameFile fs gs → missing_dependency fs ≡ missing_dependency gs
missing_dependency_same fs gs files =
    let names = zip_map SameFile (λ f. text_or_empty f.name) (λ f g e. text_same f.name g.name e.name) fs gs files in
    ap (λ (ns : List (List ℕ)). list_any (dependency_missing ns) fs) names ∙ any_same SameFile (dependency_missing (file_names gs)) (dependency_missing_same (file_names gs)) fs gs files

nothing_same : (names : List (List ℕ)) (a b : Option (String Global)) → SameText a b → names_nothing names a ≡ names_nothing names b
nothing_same names = by_text (names_nothing names) (λ bytes. is_none (name_place names (without_dot bytes))) (λ s. refl)

type_unknown_same : (a b : FlatRows) → SameRows a b → (d e : DefinitionRow FieldDescriptorProto) → SameRow SameField d e → type_unknown a d ≡ type_unknown b e
type_unknown_same a b h d e r =
    let code = r.proto.type_ in
    let messages = message_names_same a b h in
    let enums = enum_names_same a b h in
    let message = nothing_same (message_names b) d.proto.type_name e.proto.type_name r.proto.type_name in
    let enum = nothing_same (enum_names b) d.proto.type_name e.proto.type_name r.proto.type_name in
    rw (code, messages, enums, message, enum)

extendee_unknown_same : (a b : FlatRows) → SameRows a b → (d e : DefinitionRow FieldDescriptorProto) → SameRow SameField d e → extendee_unknown a d ≡ extendee_unknown b e
extendee_unknown_same a b h d e r = ap (λ (names : List (List ℕ)). names_nothing names d.proto.extendee) (message_names_same a b h) ∙ nothing_same (message_names b) d.proto.extendee e.proto.extendee r.proto.extendee

method_type_unknown_same : (a b : FlatRows) → SameRows a b → (m n : DefinitionRow MethodDescriptorProto) → SameRow SameMethod m n → method_type_unknown a m ≡ method_type_unknown b n
method_type_unknown_same a b h m n r =
    let messages = message_names_same a b h in
    let input = nothing_same (message_names b) m.proto.input_type n.proto.input_type r.proto.input_type in
    let output = nothing_same (message_names b) m.proto.output_type n.proto.output_type r.proto.output_type in
    rw (messages, input, output)

pub unknown_type_same : (a b : FlatRows) → SameRows a b → unknown_type a ≡ unknown_type b
unknown_type_same a b h =
    let fields = any_field_same (type_unknown a) (type_unknown b) (type_unknown_same a b h) a b h in
    let extensions = zip_any (SameRow SameField) (extendee_unknown a) (extendee_unknown b) (extendee_unknown_same a b h) a.extensions b.extensions h.extensions in
    let services = zip_any SameServiceRow (λ s. list_any (method_type_unknown a) s.methods) (λ s. list_any (method_type_unknown b) s.methods)
    (λ s t r. zip_any (SameRow SameMethod) (method_type_unknown a) (method_type_unknown b) (method_type_unknown_same a b h) s.methods t.methods r.methods) a.services b.services h.services in
    λ i. fields i || extensions i || services i

-- what is said of the message that a text names
pub named_same : {Y : Type 0} (f : Option FlatMessageRow → Y) → ((m n : FlatMessageRow) → SameMessageRow m n → f (Some m) ≡ f (Some n)) → (a b : FlatRows) → SameRows a b → (s t : Option (String Global)) → SameText s t → f (message_named a s) ≡ f (message_named b t)
named_same f each a b h s t e =
    ap (λ (names : List (List ℕ)). f (option_and_then (λ place. slice_get a.messages place) (place_named names s))) (message_names_same a b h)
    ∙ (ap (λ (o : Option ℕ). f (option_and_then (λ place. slice_get a.messages place) o)) (place_same (message_names b) s t e)
    ∙ go (place_named (message_names b) t))
  where
    go : (o : Option ℕ) → f (option_and_then (λ place. slice_get a.messages place) o) ≡ f (option_and_then (λ place. slice_get b.messages place) o)
    go None = refl
    go (Some i) = zip_at SameMessageRow f each a.messages b.messages h.messages i

out_of_same : (number : ℤ) (m n : FlatMessageRow) → SameMessageRow m n → is_out_of number (Some m) ≡ is_out_of number (Some n)
out_of_same number m n r = ap not (any_same SameExtensionRange (is_in_range number) (λ x y e. let start = e.start in let end = e.end in rw (start, end)) m.definition.proto.extension_range n.definition.proto.extension_range r.definition.proto.extension_range)

pub outside_range_same : (a b : FlatRows) → SameRows a b → outside_range a ≡ outside_range b
outside_range_same a b h = zip_any (SameRow SameField) (extension_outside a) (extension_outside b) each a.extensions b.extensions h.extensions
  where
    each : (d e : DefinitionRow FieldDescriptorProto) → SameRow SameField d e → extension_outside a d ≡ extension_outside b e
    each d e r =
        ap (λ (number : Option ℤ). is_out_of (number_or_zero number) (message_named a d.proto.extendee)) r.proto.number
        ∙ named_same (is_out_of (number_or_zero e.proto.number)) (out_of_same (number_or_zero e.proto.number)) a b h d.proto.extendee e.proto.extendee r.proto.extendee

-- NUMBERS OF A MESSAGE

numbered_fields_same : (place : ℕ) (ds es : List (DefinitionRow FieldDescriptorProto)) → AllZip (SameRow SameField) ds es → numbered_fields place ds ≡ numbered_fields place es
numbered_fields_same place = zip_map (SameRow SameField) (λ d. record { message = place; number = number_or_zero d.proto.number }) (λ d e r. let number = r.proto.number in rw number)

numbered_in_same : (place : ℕ) (ms ns : List FlatMessageRow) → AllZip SameMessageRow ms ns → numbered_in place ms ≡ numbered_in place ns
numbered_in_same place [] [] h = refl
numbered_in_same place (m ∷ ms) (n ∷ ns) h = ap₂ (λ (xs ys : List Numbered). xs ++ ys) (numbered_fields_same place m.fields n.fields h.0.fields) (numbered_in_same (place + 1) ms ns h.1)
numbered_in_same place _ _ h = absurd h

numbered_extensions_same : (a b : FlatRows) → SameRows a b → (ds es : List (DefinitionRow FieldDescriptorProto)) → AllZip (SameRow SameField) ds es → numbered_extensions a ds ≡ numbered_extensions b es
numbered_extensions_same a b h [] [] z = refl
numbered_extensions_same a b h (d ∷ ds) (e ∷ es) z =
    let number = z.0.proto.number in
    let place = ap (λ (names : List (List ℕ)). place_named names d.proto.extendee) (message_names_same a b h) ∙ place_same (message_names b) d.proto.extendee e.proto.extendee z.0.proto.extendee in
    let rest = numbered_extensions_same a b h ds es z.1 in
    λ i. numbered_at (number_or_zero (number i)) (place i) ++ rest i
numbered_extensions_same a b h _ _ z = absurd z

pub duplicate_number_same : (a b : FlatRows) → SameRows a b → duplicate_number a ≡ duplicate_number b
duplicate_number_same a b h =
    let messages = numbered_in_same 0 a.messages b.messages h.messages in
    let extensions = numbered_extensions_same a b h a.extensions b.extensions h.extensions in
    λ i. number_repeats [] (messages i ++ extensions i)
