-- What stands at a place of a pool has its record in the pool's files.
use Rattle.std.specs.Prelude.{◌≡◌, ◌+◌, ◌∷◌}
use Rattle.prost_reflect_pool.proofs.Common.{ℕ, Bool, true, false, List, [], map, Option, None, Some, refl, sym, ◌∙◌, subst, slice_get, All, All-nil, All-cons, All-head, All-tail, All-append, All-map, All-filter, All-weaker, FieldDescriptorProto, FileDescriptorProto, FieldRow, OneofRow, MessageRow, EnumValueRow, EnumRow, TableRows, MethodRow, ServiceRow, CatalogRows, DefinitionRow, FlatMessageRow, FlatEnumRow, FlatServiceRow, flattened, Links, links_of, belonging, linked_field, in_order, extended_place, fields_of_message, declared_fields, linked_oneof, oneof_place, oneofs_from, linked_message, messages_from, linked_value, linked_enum, linked_method, linked_service, IsCatalogOf, fields_at, fields_or_none, linked_of, in_order_all, holds_at, values_at, values_or_none, files_of, pool_rows, pool_catalog, AnyRecord, MessageRecord, FieldRecord, OneofRecord, EnumRecord, ValueRecord, ServiceRecord, MethodRecord, record_of, record_in, oneofs_at, oneofs_or_none, methods_at, methods_or_none, Found, LinkedPool}
use Rattle.prost_reflect_types.specs.declared.OneofDescriptorProto.{OneofDescriptorProto}
use Rattle.prost_reflect_pool.proofs.RecordPaths.{led, Named, NamedMessage, NamedEnum, NamedService, flattened_named}

-- DEFINITIONS

named_found : {R : Type 0} (files : List FileDescriptorProto) (sort : R → AnyRecord) (d : DefinitionRow R) → Named files sort d → Found sort (record_in files d.file d.path)
named_found files sort d h = record { it = d.proto; is = led files d.file d.path (sort d.proto) h }

abbrev pub FieldFound : List FileDescriptorProto → FieldRow → Type 0
FieldFound files f = Found FieldRecord (record_of files f.id)

abbrev pub OneofFound : List FileDescriptorProto → OneofRow → Type 0
OneofFound files o = Found OneofRecord (record_of files o.id)

abbrev pub ValueFound : List FileDescriptorProto → EnumValueRow → Type 0
ValueFound files v = Found ValueRecord (record_of files v.id)

abbrev pub MethodFound : List FileDescriptorProto → MethodRow → Type 0
MethodFound files m = Found MethodRecord (record_of files m.id)

pub record MessageFound (files : List FileDescriptorProto) (m : MessageRow) : Type 0 where
  pub itself : Found MessageRecord (record_of files m.id)
  pub fields : All (FieldFound files) m.fields
  pub oneofs : All (OneofFound files) m.oneofs

pub record EnumFound (files : List FileDescriptorProto) (e : EnumRow) : Type 0 where
  pub itself : Found EnumRecord (record_of files e.id)
  pub values : All (ValueFound files) e.values

pub record ServiceFound (files : List FileDescriptorProto) (s : ServiceRow) : Type 0 where
  pub itself : Found ServiceRecord (record_of files s.id)
  pub methods : All (MethodFound files) s.methods

-- MESSAGES

fields_found : (files : List FileDescriptorProto) (links : Links) (is_extension : Bool) (ds : List (DefinitionRow FieldDescriptorProto)) → All (Named files FieldRecord) ds → All (FieldFound files) (map (linked_field links is_extension) ds)
unfolding linked_field
fields_found files links is_extension ds h =
    All-map (FieldFound files) (linked_field links is_extension) ds
    (All-weaker (Named files FieldRecord) (λ d. FieldFound files (linked_field links is_extension d)) (λ d n. named_found files FieldRecord d n) ds h)

oneofs_found : (files : List FileDescriptorProto) (fields : List FieldRow) (declared : List (DefinitionRow FieldDescriptorProto)) (o : ℕ) (ds : List (DefinitionRow OneofDescriptorProto)) → All (Named files OneofRecord) ds → All (OneofFound files) (oneofs_from fields declared o ds)
oneofs_found files fields declared o [] h = All-nil (OneofFound files)
oneofs_found files fields declared o (d ∷ ds) h =
    All-cons (OneofFound files) (linked_oneof fields (belonging oneof_place declared o) d) (oneofs_from fields declared (o + 1) ds)
    (named_found files OneofRecord d (All-head (Named files OneofRecord) d ds h))
    (oneofs_found files fields declared (o + 1) ds (All-tail (Named files OneofRecord) d ds h))

message_found : (files : List FileDescriptorProto) (fields : List FieldRow) (m : FlatMessageRow) → NamedMessage files m → All (FieldFound files) fields → MessageFound files (linked_message fields m)
unfolding linked_message
message_found files fields m h all = record {
  itself = record { it = h.message; is = led files m.definition.file m.definition.path (MessageRecord h.message) h.leads };
  fields = in_order_all (FieldFound files) fields all;
  oneofs = oneofs_found files (in_order fields) m.fields 0 m.oneofs h.oneofs;
}

messages_found : (files : List FileDescriptorProto) (links : Links) (extensions : List (DefinitionRow FieldDescriptorProto)) (T : ℕ) (ms : List FlatMessageRow) → All (Named files FieldRecord) extensions → All (NamedMessage files) ms →
    All (MessageFound files) (messages_from links extensions T ms)
messages_found files links extensions T [] xs h = All-nil (MessageFound files)
messages_found files links extensions T (m ∷ ms) xs h =
    let own = All-head (NamedMessage files) m ms h in
    let extending = belonging (extended_place links) extensions T in
    let fields = All-append (FieldFound files) (declared_fields links m.fields) (map (linked_field links true) extending)
    (fields_found files links false m.fields own.fields)
    (fields_found files links true extending (All-filter _ (Named files FieldRecord) extensions xs)) in
    All-cons (MessageFound files) (linked_message (fields_of_message links extensions T m) m) (messages_from links extensions (T + 1) ms)
    (message_found files (fields_of_message links extensions T m) m own fields)
    (messages_found files links extensions (T + 1) ms xs (All-tail (NamedMessage files) m ms h))

-- ENUMS AND SERVICES

enums_found : (files : List FileDescriptorProto) (es : List FlatEnumRow) → All (NamedEnum files) es → All (EnumFound files) (map linked_enum es)
enums_found files es h = All-map (EnumFound files) linked_enum es (All-weaker (NamedEnum files) (λ e. EnumFound files (linked_enum e)) (λ e n. record {
  itself = named_found files EnumRecord e.definition n.definition;
  values = All-map (ValueFound files) linked_value e.values (All-weaker (Named files ValueRecord) (λ v. ValueFound files (linked_value v)) (λ v w. named_found files ValueRecord v w) e.values n.values);
}) es h)

services_found : (files : List FileDescriptorProto) (links : Links) (ss : List FlatServiceRow) → All (NamedService files) ss → All (ServiceFound files) (map (linked_service links) ss)
services_found files links ss h = All-map (ServiceFound files) (linked_service links) ss (All-weaker (NamedService files) (λ s. ServiceFound files (linked_service links s)) (λ s n. record {
  itself = named_found files ServiceRecord s.definition n.definition;
  methods = All-map (MethodFound files) (linked_method links) s.methods (All-weaker (Named files MethodRecord) (λ m. MethodFound files (linked_method links m)) (λ m w. named_found files MethodRecord m w) s.methods n.methods);
}) ss h)

-- POOLS

pool_messages : (pool : LinkedPool) → All (MessageFound (files_of pool)) (pool_rows pool).messages
pool_messages pool =
    let files = files_of pool in
    let flat = flattened files in
    let named = flattened_named files in
    subst (λ (r : TableRows). All (MessageFound files) r.messages) (sym (linked_of files (pool_rows pool) pool.built)) (messages_found files (links_of flat) flat.extensions 0 flat.messages named.extensions named.messages)

pool_enums : (pool : LinkedPool) → All (EnumFound (files_of pool)) (pool_rows pool).enums
pool_enums pool =
    let files = files_of pool in
    subst (λ (r : TableRows). All (EnumFound files) r.enums) (sym (linked_of files (pool_rows pool) pool.built)) (enums_found files (flattened files).enums (flattened_named files).enums)

pool_services : (pool : LinkedPool) → All (ServiceFound (files_of pool)) (pool_catalog pool).services
unfolding IsCatalogOf
pool_services pool =
    let files = files_of pool in
    subst (λ (c : CatalogRows). All (ServiceFound files) c.services) (sym pool.listed) (services_found files (links_of (flattened files)) (flattened files).services (flattened_named files).services)

pub message_there : (pool : LinkedPool) (T : ℕ) (m : MessageRow) → slice_get (pool_rows pool).messages T ≡ Some m → Found MessageRecord (record_of (files_of pool) m.id)
message_there pool T m at = (holds_at (MessageFound (files_of pool)) (pool_rows pool).messages T m (pool_messages pool) at).itself

pub enum_there : (pool : LinkedPool) (E : ℕ) (e : EnumRow) → slice_get (pool_rows pool).enums E ≡ Some e → Found EnumRecord (record_of (files_of pool) e.id)
enum_there pool E e at = (holds_at (EnumFound (files_of pool)) (pool_rows pool).enums E e (pool_enums pool) at).itself

pub service_there : (pool : LinkedPool) (S : ℕ) (s : ServiceRow) → slice_get (pool_catalog pool).services S ≡ Some s → Found ServiceRecord (record_of (files_of pool) s.id)
service_there pool S s at = (holds_at (ServiceFound (files_of pool)) (pool_catalog pool).services S s (pool_services pool) at).itself

-- MEMBERS

pub field_there : (pool : LinkedPool) (T i : ℕ) (f : FieldRow) → slice_get (fields_at (pool_rows pool) T) i ≡ Some f → FieldFound (files_of pool) f
field_there pool T i f found = of (slice_get (pool_rows pool).messages T) refl found
  where
    of : (o : Option MessageRow) → slice_get (pool_rows pool).messages T ≡ o → slice_get (fields_or_none o) i ≡ Some f → FieldFound (files_of pool) f
    of None at found = cc
    of (Some m) at found = holds_at (FieldFound (files_of pool)) m.fields i f (holds_at (MessageFound (files_of pool)) (pool_rows pool).messages T m (pool_messages pool) at).fields found

pub oneof_there : (pool : LinkedPool) (T i : ℕ) (r : OneofRow) → slice_get (oneofs_at (pool_rows pool) T) i ≡ Some r → OneofFound (files_of pool) r
oneof_there pool T i r found = of (slice_get (pool_rows pool).messages T) refl found
  where
    of : (o : Option MessageRow) → slice_get (pool_rows pool).messages T ≡ o → slice_get (oneofs_or_none o) i ≡ Some r → OneofFound (files_of pool) r
    of None at found = cc
    of (Some m) at found = holds_at (OneofFound (files_of pool)) m.oneofs i r (holds_at (MessageFound (files_of pool)) (pool_rows pool).messages T m (pool_messages pool) at).oneofs found

pub value_there : (pool : LinkedPool) (E i : ℕ) (v : EnumValueRow) → slice_get (values_at (pool_rows pool) E) i ≡ Some v → ValueFound (files_of pool) v
value_there pool E i v found = of (slice_get (pool_rows pool).enums E) refl found
  where
    of : (o : Option EnumRow) → slice_get (pool_rows pool).enums E ≡ o → slice_get (values_or_none o) i ≡ Some v → ValueFound (files_of pool) v
    of None at found = cc
    of (Some e) at found = holds_at (ValueFound (files_of pool)) e.values i v (holds_at (EnumFound (files_of pool)) (pool_rows pool).enums E e (pool_enums pool) at).values found

pub method_there : (pool : LinkedPool) (S i : ℕ) (m : MethodRow) → slice_get (methods_at (pool_catalog pool) S) i ≡ Some m → MethodFound (files_of pool) m
method_there pool S i m found = of (slice_get (pool_catalog pool).services S) refl found
  where
    of : (o : Option ServiceRow) → slice_get (pool_catalog pool).services S ≡ o → slice_get (methods_or_none o) i ≡ Some m → MethodFound (files_of pool) m
    of None at found = cc
    of (Some s) at found = holds_at (MethodFound (files_of pool)) s.methods i m (holds_at (ServiceFound (files_of pool)) (pool_catalog pool).services S s (pool_services pool) at).methods found

-- The same record is found.
pub found_too : {R : Type 0} (sort : R → AnyRecord) (a b : Option AnyRecord) → a ≡ b → Found sort b → Found sort a
found_too sort a b same h = record { it = h.it; is = same ∙ h.is }
