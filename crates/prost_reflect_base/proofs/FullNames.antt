-- The full names of the definitions of a pool's files, and where each of them is looked up.
use Rattle.std.specs.Prelude.{◌≡◌, ◌+◌, ◌<◌, ◌&&◌, ◌||◌, ◌∷◌, ◌++◌}
use Rattle.std.specs.List.{list_any}
use Rattle.std.specs.Option.{is_some}
use Rattle.std.specs.Prelude.{find, nat_eq, not, option_map, position, slice_get}
use Rattle.std.specs.Str.{bytes_eq}
use Rattle.std.proofs.Common.{ℕ, zero, suc, Bool, true, false, List, [], length, map, Some, None, refl, sym, ap, ap₂, ◌∙◌, arith, true≢false}
use Rattle.std.proofs.Math.Bool.{or-false}
use Rattle.std.proofs.lemmas.Bool.{or_parts}
use Rattle.std.proofs.lemmas.List.{map-append}
use Rattle.std.proofs.lemmas.List.Folds.{list_any-append}
use Rattle.std.proofs.lemmas.Option.{same_Some, slice_get-map}
use Rattle.prost_reflect_types.specs.declared.EnumValueDescriptorProto.{EnumValueDescriptorProto}
use Rattle.prost_reflect_types.specs.declared.FieldDescriptorProto.{FieldDescriptorProto}
use Rattle.prost_reflect_types.specs.declared.FileDescriptorProto.{FileDescriptorProto}
use Rattle.prost_reflect_types.specs.declared.OneofDescriptorProto.{OneofDescriptorProto}
use Rattle.prost_reflect_tables.specs.CatalogRows.{CatalogRows, MethodRow, ServiceRow}
use Rattle.prost_reflect_tables.specs.Checked.{Checked}
use Rattle.prost_reflect_tables.specs.Faults.{enum_names, enum_unnamed, full_names, is_unnamed, message_names, message_unnamed, name_place, names_in_enums, names_in_messages, names_in_services, names_of, repeats, service_unnamed}
use Rattle.prost_reflect_tables.specs.Flat.{DefinitionRow, FlatEnumRow, FlatMessageRow, FlatRows, FlatServiceRow}
use Rattle.prost_reflect_tables.specs.LinkedCatalog.{linked_method, linked_service, service_names}
use Rattle.prost_reflect_tables.specs.Linking.{Links, belonging, declared_fields, extended_place, fields_of_message, in_order, linked_enum, linked_field, linked_message, linked_value, links_of, oneofs_from}
use Rattle.prost_reflect_tables.specs.Names.{joined, text_or_empty}
use Rattle.prost_reflect_tables.specs.Places.{fields_at, fields_or_none}
use Rattle.prost_reflect_tables.specs.Rows.{EnumRow, EnumValueRow, FieldRow, MessageRow, TableRows}
use Rattle.prost_reflect_tables.specs.declared.error.PoolError.TheVariants as errors
use Rattle.prost_reflect_tables.proofs.CatalogRanges.{holds_at}
use Rattle.prost_reflect_pool.specs.Lookups.{named_field}
use Rattle.prost_reflect_pool.specs.Lookups as lookups
use Rattle.prost_reflect_pool.specs.Pools.{files_of, pool_catalog, pool_rows}
use Rattle.prost_reflect_pool.specs.declared.pool.LinkedPool.{LinkedPool}
use Rattle.prost_reflect_pool.proofs.InCatalog as catalog
use Rattle.prost_reflect_pool.proofs.UniqueNames.{back_alone, front_alone}
use Rattle.prost_reflect_base.specs.Inside.{cut_at_a_dot, field_text, has_inside, has_member, has_method, member_texts, message_name, method_text, method_texts, oneof_text, service_name, texts_in}
use Rattle.prost_reflect_base.proofs.Lists.{turned, none_at, any_mapped, any_same, some_place, found_there, found_nowhere, place_within, first_named}
use Rattle.prost_reflect_base.proofs.Linked.{flat_of, rows_are, catalog_is, message_at, message_count, services_named}
use Rattle.prost_reflect_base.proofs.NamesInside.{MessageNames, ServiceNames, message_names_placed, service_names_placed}
use Rattle.prost_reflect_base.proofs.Numbers.{any_ordered}
use Rattle.prost_reflect_base.proofs.Scopes.{all_names, any_of_all, cut_either, Scoped, inside_cut}

-- ALL NAMES

abbrev member_names : FlatMessageRow → List (List ℕ)
member_names m = names_of m.fields ++ names_of m.oneofs

abbrev method_names : FlatServiceRow → List (List ℕ)
method_names s = names_of s.methods

abbrev enum_name : FlatEnumRow → List ℕ
enum_name e = e.definition.full_name

abbrev value_names : FlatEnumRow → List (List ℕ)
value_names e = names_of e.values

messages_all : (ms : List FlatMessageRow) → names_in_messages ms ≡ all_names message_name member_names ms
messages_all [] = refl
messages_all (m ∷ ms) = ap (λ l. m.definition.full_name ∷ (member_names m ++ l)) (messages_all ms)

services_all : (ss : List FlatServiceRow) → names_in_services ss ≡ all_names service_name method_names ss
services_all [] = refl
services_all (s ∷ ss) = ap (λ l. s.definition.full_name ∷ (method_names s ++ l)) (services_all ss)

enums_all : (es : List FlatEnumRow) → names_in_enums es ≡ all_names enum_name value_names es
enums_all [] = refl
enums_all (e ∷ es) = ap (λ l. e.definition.full_name ∷ (value_names e ++ l)) (enums_all es)

-- NAMES THAT ARE NOT EMPTY

some_text : (name : List ℕ) → nat_eq (length name) 0 ≡ false → name ≡ [] → ⊥
some_text name named none = true≢false (ap (λ (l : List ℕ). nat_eq (length l) 0) (sym none) ∙ named)

some_joined : (scope name : List ℕ) → (name ≡ [] → ⊥) → joined scope name ≡ [] → ⊥
some_joined [] name some none = some none
some_joined (b ∷ scope) name some none = absurd cc

message_scoped : (m : FlatMessageRow) → MessageNames m → message_unnamed m ≡ false → Scoped message_name member_names member_texts m
message_scoped m names named = record {
  some = λ none. some_joined names.scope (text_or_empty m.definition.proto.name) (some_text (text_or_empty m.definition.proto.name) own) (sym names.full ∙ none);
  joins = ap₂ (λ (a b : List (List ℕ)). a ++ b) names.fields names.oneofs ∙ sym (map-append (joined m.definition.full_name) (map field_text m.fields) (map oneof_text m.oneofs));
}
  where
    own : is_unnamed m.definition.proto.name ≡ false
    own = (or_parts (is_unnamed m.definition.proto.name) (list_any (λ f. is_unnamed f.proto.name) m.fields) (or_parts (is_unnamed m.definition.proto.name || list_any (λ f. is_unnamed f.proto.name) m.fields) (list_any (λ o. is_unnamed o.proto.name) m.oneofs) named).0).0

service_scoped : (s : FlatServiceRow) → ServiceNames s → service_unnamed s ≡ false → Scoped service_name method_names method_texts s
service_scoped s names named = record {
  some = λ none. some_joined names.scope (text_or_empty s.definition.proto.name) (some_text (text_or_empty s.definition.proto.name) (or_parts (is_unnamed s.definition.proto.name) (list_any (λ m. is_unnamed m.proto.name) s.methods) named).0) (sym names.full ∙ none);
  joins = names.methods;
}

-- CHECKED FILES

record Named (rows : FlatRows) : Type 0 where
  messages : (i : ℕ) (m : FlatMessageRow) → slice_get rows.messages i ≡ Some m → Scoped message_name member_names member_texts m
  services : (i : ℕ) (s : FlatServiceRow) → slice_get rows.services i ≡ Some s → Scoped service_name method_names method_texts s
  before : List (List ℕ)
  messages_alone : repeats [] (all_names message_name member_names rows.messages) ≡ false
  services_alone : repeats before (all_names service_name method_names rows.services) ≡ false

named : (pool : LinkedPool) → Named (flat_of pool)
named pool =
    let files = files_of pool in
    let rows = flat_of pool in
    let checked : Checked files rows = pool.built.0 in
    let in_files = list_any (λ (f : FileDescriptorProto). is_unnamed f.name) files in
    let in_messages = list_any message_unnamed rows.messages in
    let in_enums = list_any enum_unnamed rows.enums in
    let in_extensions = list_any (λ (d : DefinitionRow FieldDescriptorProto). is_unnamed d.proto.name) rows.extensions in
    let all = or_parts (in_files || in_messages || in_enums || in_extensions) (list_any service_unnamed rows.services) (checked errors.MissingName) in
    let most = or_parts (in_files || in_messages || in_enums) in_extensions all.0 in
    let some = or_parts in_files in_messages (or_parts (in_files || in_messages) in_enums most.0).0 in
    let messages = names_in_messages rows.messages in
    let enums = names_in_enums rows.enums in
    let extensions = names_of rows.extensions in
    let services = names_in_services rows.services in
    let alone : repeats [] (messages ++ enums ++ extensions ++ services) ≡ false = checked errors.DuplicateName in
    record {
      messages = λ i m at. message_scoped m (holds_at MessageNames rows.messages i m (message_names_placed files) at) (none_at message_unnamed rows.messages i m some.1 at);
      services = λ i s at. service_scoped s (holds_at ServiceNames rows.services i s (service_names_placed files) at) (none_at service_unnamed rows.services i s all.1 at);
      before = [] ++ (messages ++ enums ++ extensions);
      messages_alone = ap (repeats []) (sym (messages_all rows.messages)) ∙ front_alone [] messages enums (front_alone [] (messages ++ enums) extensions (front_alone [] (messages ++ enums ++ extensions) services alone));
      services_alone = ap (repeats ([] ++ (messages ++ enums ++ extensions))) (sym (services_all rows.services)) ∙ back_alone [] (messages ++ enums ++ extensions) services alone;
    }

-- FULL NAMES CUT AT DOTS

abbrev among_members : List ℕ → FlatRows → Bool
among_members n rows = list_any (λ m. list_any (bytes_eq n) (member_names m)) rows.messages

abbrev among_methods : List ℕ → FlatRows → Bool
among_methods n rows = list_any (λ s. list_any (bytes_eq n) (method_names s)) rows.services

inside_told : (pool : LinkedPool) (n : List ℕ) → cut_at_a_dot (has_inside (flat_of pool)) [] n ≡ (among_members n (flat_of pool) || among_methods n (flat_of pool))
inside_told pool n =
    let rows = flat_of pool in
    let is = named pool in
    cut_either (has_member rows) (has_method rows) [] n
    ∙ ap₂ (λ (a b : Bool). a || b) (inside_cut message_name member_names member_texts [] rows.messages n is.messages is.messages_alone) (inside_cut service_name method_names method_texts is.before rows.services n is.services is.services_alone)

grouped : (a i b c d j : Bool) → ((((a || i) || b) || c) || (d || j)) ≡ ((((a || b) || c) || d) || (i || j))
grouped true i b c d j = refl
grouped false true true c d j = refl
grouped false true false true d j = refl
grouped false true false false true j = refl
grouped false true false false false j = refl
grouped false false true c d j = refl
grouped false false false true d j = refl
grouped false false false false d j = refl

-- A name is that of a message type, an enum, an extension or a service, or of what stands in a message type or a service.
abbrev among_others : List ℕ → FlatRows → Bool
among_others n rows =
    (((list_any (bytes_eq n) (message_names rows) || list_any (bytes_eq n) (enum_names rows)) || list_any (bytes_eq n) (names_of rows.extensions)) || list_any (bytes_eq n) (service_names rows))
    || cut_at_a_dot (has_inside rows) [] n

others_told : (pool : LinkedPool) (n : List ℕ) → (((list_any (bytes_eq n) (names_in_messages (flat_of pool).messages) || list_any (bytes_eq n) (enum_names (flat_of pool))) || list_any (bytes_eq n) (names_of (flat_of pool).extensions)) || list_any (bytes_eq n) (names_in_services (flat_of pool).services)) ≡ among_others n (flat_of pool)
others_told pool n =
    let rows = flat_of pool in
    let test = bytes_eq n in
    let enums = enum_names rows in
    let extensions = names_of rows.extensions in
    let own : list_any test (names_in_messages rows.messages) ≡ (list_any test (message_names rows) || among_members n rows) = ap (list_any test) (messages_all rows.messages) ∙ (any_of_all message_name member_names n rows.messages ∙ ap (λ b. b || among_members n rows) (sym (any_mapped test message_name rows.messages))) in
    let last : list_any test (names_in_services rows.services) ≡ (list_any test (service_names rows) || among_methods n rows) = ap (list_any test) (services_all rows.services) ∙ (any_of_all service_name method_names n rows.services ∙ ap (λ b. b || among_methods n rows) (sym (any_mapped test service_name rows.services))) in
    ap₂ (λ (a b : Bool). ((a || list_any test enums) || list_any test extensions) || b) own last
    ∙ (grouped (list_any test (message_names rows)) (among_members n rows) (list_any test enums) (list_any test extensions) (list_any test (service_names rows)) (among_methods n rows)
    ∙ ap (λ b. (((list_any test (message_names rows) || list_any test enums) || list_any test extensions) || list_any test (service_names rows)) || b) (sym (inside_told pool n)))

-- VALUES

abbrev pub among_values : List ℕ → FlatRows → Bool
among_values n rows = list_any (λ e. list_any (bytes_eq n) (value_names e)) rows.enums

behind_all : (m e v x s : Bool) → (((m || (e || v)) || x) || s) ≡ ((((m || e) || x) || s) || v)
behind_all true e v x s = refl
behind_all false true v x s = refl
behind_all false false true true s = refl
behind_all false false true false true = refl
behind_all false false true false false = refl
behind_all false false false true s = refl
behind_all false false false false true = refl
behind_all false false false false false = refl

value_among : (n : List ℕ) (es : List FlatEnumRow) → list_any (λ e. list_any (λ v. bytes_eq n v.id.full_name) e.values) (map linked_enum es) ≡ list_any (λ e. list_any (bytes_eq n) (value_names e)) es
value_among n es =
    any_mapped (λ (e : EnumRow). list_any (λ v. bytes_eq n v.id.full_name) e.values) linked_enum es
    ∙ any_same (λ (e : FlatEnumRow). list_any (λ v. bytes_eq n v.id.full_name) (map linked_value e.values)) (λ (e : FlatEnumRow). list_any (bytes_eq n) (value_names e)) es (λ e.
    any_mapped (λ (v : EnumValueRow). bytes_eq n v.id.full_name) linked_value e.values ∙ sym (any_mapped (bytes_eq n) (λ (d : DefinitionRow EnumValueDescriptorProto). d.full_name) e.values))

-- The rows of enums show the full names of their values.
pub values_told : (pool : LinkedPool) (n : List ℕ) → list_any (λ e. list_any (λ v. bytes_eq n v.id.full_name) e.values) (pool_rows pool).enums ≡ among_values n (flat_of pool)
values_told pool n = ap (λ (r : TableRows). list_any (λ e. list_any (λ v. bytes_eq n v.id.full_name) e.values) r.enums) (rows_are pool) ∙ value_among n (flat_of pool).enums

parts_told : (test : List ℕ → Bool) (a b c d : List (List ℕ)) → list_any test (a ++ b ++ c ++ d) ≡ (((list_any test a || list_any test b) || list_any test c) || list_any test d)
parts_told test a b c d =
    list_any-append test (a ++ b ++ c) d
    ∙ ap (λ t. t || list_any test d) (list_any-append test (a ++ b) c ∙ ap (λ t. t || list_any test c) (list_any-append test a b))

-- A name is that of a definition which is no value, or of a value of an enum.
pub all_told : (pool : LinkedPool) (n : List ℕ) → list_any (bytes_eq n) (full_names (flat_of pool)) ≡ (among_others n (flat_of pool) || among_values n (flat_of pool))
all_told pool n =
    let rows = flat_of pool in
    let test = bytes_eq n in
    let messages = names_in_messages rows.messages in
    let extensions = names_of rows.extensions in
    let services = names_in_services rows.services in
    let own : list_any test (names_in_enums rows.enums) ≡ (list_any test (enum_names rows) || among_values n rows) = ap (list_any test) (enums_all rows.enums) ∙ (any_of_all enum_name value_names n rows.enums ∙ ap (λ b. b || among_values n rows) (sym (any_mapped test enum_name rows.enums))) in
    parts_told test messages (names_in_enums rows.enums) extensions services
    ∙ (ap (λ b. ((list_any test messages || b) || list_any test extensions) || list_any test services) own
    ∙ (behind_all (list_any test messages) (list_any test (enum_names rows)) (among_values n rows) (list_any test extensions) (list_any test services)
    ∙ ap (λ b. b || among_values n rows) (others_told pool n)))

-- WHAT STANDS IN A MESSAGE TYPE

item_there : {X : Type 0} (xs : List X) (i : ℕ) → i < length xs → (x : X) × (slice_get xs i ≡ Some x)
item_there [] i h = absurd (omega arith)
item_there (x ∷ xs) zero h = (x, refl)
item_there (x ∷ xs) (suc i) h = item_there xs i (omega arith)

none_pass : {X : Type 0} (p : X → Bool) (xs : List X) → ((x : X) → p x ≡ false) → list_any p xs ≡ false
none_pass p [] h = refl
none_pass p (x ∷ xs) h = ap₂ (λ (a b : Bool). a || b) (h x) (none_pass p xs h)

abbrev is_field_named : List ℕ → FieldRow → Bool
is_field_named name f = not f.is_extension && bytes_eq f.id.name name

declared_named : (links : Links) (name : List ℕ) (d : DefinitionRow FieldDescriptorProto) → is_field_named name (linked_field links false d) ≡ bytes_eq (field_text d) name
unfolding linked_field
declared_named links name d = refl

extension_unnamed : (links : Links) (name : List ℕ) (d : DefinitionRow FieldDescriptorProto) → is_field_named name (linked_field links true d) ≡ false
unfolding linked_field
extension_unnamed links name d = refl

fields_named : (links : Links) (extensions : List (DefinitionRow FieldDescriptorProto)) (T : ℕ) (m : FlatMessageRow) (name : List ℕ) → list_any (is_field_named name) (in_order (fields_of_message links extensions T m)) ≡ list_any (bytes_eq name) (map field_text m.fields)
fields_named links extensions T m name =
    let extending = belonging (extended_place links) extensions T in
    any_ordered (is_field_named name) (fields_of_message links extensions T m)
    ∙ (list_any-append (is_field_named name) (declared_fields links m.fields) (map (linked_field links true) extending)
    ∙ (ap₂ (λ (a b : Bool). a || b)
    (any_mapped (is_field_named name) (linked_field links false) m.fields
    ∙ (any_same (λ d. is_field_named name (linked_field links false d)) (λ d. bytes_eq name (field_text d)) m.fields (λ d. declared_named links name d ∙ turned (field_text d) name)
    ∙ sym (any_mapped (bytes_eq name) field_text m.fields)))
    (any_mapped (is_field_named name) (linked_field links true) extending ∙ none_pass (λ d. is_field_named name (linked_field links true d)) extending (extension_unnamed links name))
    ∙ or-false (list_any (bytes_eq name) (map field_text m.fields))))

oneofs_named : (fields : List FieldRow) (declared : List (DefinitionRow FieldDescriptorProto)) (o : ℕ) (ds : List (DefinitionRow OneofDescriptorProto)) (name : List ℕ) → list_any (λ r. bytes_eq name r.id.name) (oneofs_from fields declared o ds) ≡ list_any (bytes_eq name) (map oneof_text ds)
oneofs_named fields declared o [] name = refl
oneofs_named fields declared o (d ∷ ds) name = ap (λ b. bytes_eq name (oneof_text d) || b) (oneofs_named fields declared (o + 1) ds name)

-- The row of a message shows the own names of its fields and oneofs.
members_shown : (links : Links) (extensions : List (DefinitionRow FieldDescriptorProto)) (T : ℕ) (m : FlatMessageRow) (name : List ℕ) (r : MessageRow) → linked_message (fields_of_message links extensions T m) m ≡ r →
    (is_some (named_field r.fields name) || list_any (λ o. bytes_eq name o.id.name) r.oneofs) ≡ list_any (bytes_eq name) (member_texts m)
unfolding linked_message
members_shown links extensions T m name r same =
    sym (ap (λ (q : MessageRow). is_some (named_field q.fields name) || list_any (λ o. bytes_eq name o.id.name) q.oneofs) same)
    ∙ (ap₂ (λ (a b : Bool). a || b)
    (some_place (is_field_named name) (in_order (fields_of_message links extensions T m)) ∙ fields_named links extensions T m name)
    (oneofs_named (in_order (fields_of_message links extensions T m)) m.fields 0 m.oneofs name)
    ∙ sym (list_any-append (bytes_eq name) (map field_text m.fields) (map oneof_text m.oneofs)))

first_message : (rows : FlatRows) (T : ℕ) (scope : List ℕ) → Some T ≡ name_place (message_names rows) scope → position (λ m. bytes_eq (message_name m) scope) rows.messages ≡ Some T
first_message rows T scope e = first_named message_name scope rows.messages ∙ sym e

-- The message type that a scope names is there,
pub message_within : (pool : LinkedPool) (T : ℕ) (scope : List ℕ) → Some T ≡ name_place (message_names (flat_of pool)) scope → T < length (pool_rows pool).messages
message_within pool T scope e =
    let less = place_within (λ m. bytes_eq (message_name m) scope) (flat_of pool).messages T (first_message (flat_of pool) T scope e) in
    let size = message_count pool in
    omega arith

-- and its row tells whether it has a field or a oneof of a name.
pub member_there : (pool : LinkedPool) (T : ℕ) (scope name : List ℕ) (r : MessageRow) → Some T ≡ name_place (message_names (flat_of pool)) scope → slice_get (pool_rows pool).messages T ≡ Some r →
    (is_some (named_field (fields_at (pool_rows pool) T) name) || list_any (λ o. bytes_eq name o.id.name) r.oneofs) ≡ has_member (flat_of pool) scope name
member_there pool T scope name r e at =
    let rows = flat_of pool in
    let links = links_of rows in
    let first = first_message rows T scope e in
    let m = item_there rows.messages T (place_within (λ m. bytes_eq (message_name m) scope) rows.messages T first) in
    let same : linked_message (fields_of_message links rows.extensions T m.0) m.0 ≡ r =
    same_Some (linked_message (fields_of_message links rows.extensions T m.0) m.0) r (sym (message_at pool T ∙ ap (option_map (λ m. linked_message (fields_of_message links rows.extensions T m) m)) m.1) ∙ at) in
    let found : find (λ m. bytes_eq (message_name m) scope) rows.messages ≡ Some m.0 = found_there (λ m. bytes_eq (message_name m) scope) rows.messages T first ∙ m.1 in
    ap (λ o. is_some (named_field (fields_or_none o) name) || list_any (λ o. bytes_eq name o.id.name) r.oneofs) at
    ∙ (members_shown links rows.extensions T m.0 name r same ∙ sym (ap (λ o. list_any (bytes_eq name) (texts_in member_texts o)) found))

pub field_there : (pool : LinkedPool) (T : ℕ) (scope name : List ℕ) → Some T ≡ name_place (message_names (flat_of pool)) scope → is_some (named_field (fields_at (pool_rows pool) T) name) ≡ true → true ≡ has_member (flat_of pool) scope name
field_there pool T scope name e has =
    let r = item_there (pool_rows pool).messages T (message_within pool T scope e) in
    sym (ap (λ b. b || list_any (λ o. bytes_eq name o.id.name) r.0.oneofs) has) ∙ member_there pool T scope name r.0 e r.1

pub no_member : (pool : LinkedPool) (scope name : List ℕ) → None ≡ name_place (message_names (flat_of pool)) scope → false ≡ has_member (flat_of pool) scope name
no_member pool scope name e =
    let none = found_nowhere (λ m. bytes_eq (message_name m) scope) (flat_of pool).messages (first_named message_name scope (flat_of pool).messages ∙ sym e) in
    sym (ap (λ o. list_any (bytes_eq name) (texts_in member_texts o)) none)

-- WHAT STANDS IN A SERVICE

service_first : (pool : LinkedPool) (scope : List ℕ) → lookups.service_place (pool_catalog pool) scope ≡ position (λ s. bytes_eq (service_name s) scope) (flat_of pool).services
service_first pool scope =
    first_named catalog.service_name scope (pool_catalog pool).services
    ∙ (ap (λ names. name_place names scope) (services_named pool) ∙ sym (first_named service_name scope (flat_of pool).services))

methods_shown : (links : Links) (s : FlatServiceRow) (name : List ℕ) (r : ServiceRow) → linked_service links s ≡ r → list_any (λ m. bytes_eq name m.id.name) r.methods ≡ list_any (bytes_eq name) (method_texts s)
methods_shown links s name r same =
    sym (ap (λ (q : ServiceRow). list_any (λ m. bytes_eq name m.id.name) q.methods) same)
    ∙ (any_mapped (λ (m : MethodRow). bytes_eq name m.id.name) (linked_method links) s.methods ∙ sym (any_mapped (bytes_eq name) method_text s.methods))

-- The service that a scope names tells whether it has a method of a name.
pub method_there : (pool : LinkedPool) (S : ℕ) (scope name : List ℕ) (r : ServiceRow) → Some S ≡ lookups.service_place (pool_catalog pool) scope → slice_get (pool_catalog pool).services S ≡ Some r →
    list_any (λ m. bytes_eq name m.id.name) r.methods ≡ has_method (flat_of pool) scope name
method_there pool S scope name r e at =
    let rows = flat_of pool in
    let links = links_of rows in
    let first : position (λ s. bytes_eq (service_name s) scope) rows.services ≡ Some S = sym (service_first pool scope) ∙ sym e in
    let s = item_there rows.services S (place_within (λ s. bytes_eq (service_name s) scope) rows.services S first) in
    let same : linked_service links s.0 ≡ r =
    same_Some (linked_service links s.0) r (sym (ap (λ (c : CatalogRows). slice_get c.services S) (catalog_is pool) ∙ (slice_get-map (linked_service links) rows.services S ∙ ap (option_map (linked_service links)) s.1)) ∙ at) in
    let found : find (λ s. bytes_eq (service_name s) scope) rows.services ≡ Some s.0 = found_there (λ s. bytes_eq (service_name s) scope) rows.services S first ∙ s.1 in
    methods_shown links s.0 name r same ∙ sym (ap (λ o. list_any (bytes_eq name) (texts_in method_texts o)) found)

pub no_method : (pool : LinkedPool) (scope name : List ℕ) → None ≡ lookups.service_place (pool_catalog pool) scope → false ≡ has_method (flat_of pool) scope name
no_method pool scope name e =
    let none = found_nowhere (λ s. bytes_eq (service_name s) scope) (flat_of pool).services (sym (service_first pool scope) ∙ sym e) in
    sym (ap (λ o. list_any (bytes_eq name) (texts_in method_texts o)) none)
