-- The path of each definition leads to its record.
use Rattle.std.specs.Prelude.{◌≡◌, ◌+◌, ◌∷◌, ◌++◌}
use Rattle.prost_reflect_pool.proofs.Common.{ℕ, suc, ℤ, pos, List, [], map, length, Option, Some, String, refl, sym, ap, ◌∙◌, subst, arith, append_assoc, append-nil, zero-add, slice_get, option_map, All, All-nil, All-cons, All-append, Global, FileDescriptorProto, DescriptorProto, out-DescriptorProto, out-roll-DescriptorProto, ScopeRow, DefinitionRow, FlatMessageRow, FlatEnumRow, FlatServiceRow, FlatRows, Given, Placed, defined, defined_from, field_name, oneof_name, value_name, method_name, enum_at, enums_from, service_at, services_from, all_from, inside, message_parts, own_message, message_step, message_at, file_scope, file_at, files_from, flattened, AnyRecord, FileRecord, MessageRecord, FieldRecord, OneofRecord, EnumRecord, ValueRecord, ServiceRecord, MethodRecord, member, record_below, record_in}
use Rattle.prost_reflect_types.specs.declared.EnumDescriptorProto.{EnumDescriptorProto}
use Rattle.prost_reflect_types.specs.declared.ServiceDescriptorProto.{ServiceDescriptorProto}
use Rattle.prost_reflect_types.specs.declared.DescriptorProto.TheOpen.{DescriptorProto-F}
use Rattle.prost_reflect_types.specs.declared.DescriptorProto.TheFolds.{fold-roll-DescriptorProto, ind-DescriptorProto, map-DescriptorProto}

-- PATHS

-- The path leads to the record, and on from there.
pub record Leads (files : List FileDescriptorProto) (file : ℕ) (path : List ℤ) (r : AnyRecord) : Type 0 where
  pub on : (rest : List ℤ) → record_in files file (path ++ rest) ≡ record_below (Some r) rest

pub led : (files : List FileDescriptorProto) (file : ℕ) (path : List ℤ) (r : AnyRecord) → Leads files file path r → record_in files file path ≡ Some r
led files file path r h = ap (record_in files file) (sym (append-nil path)) ∙ h.on []

further : (files : List FileDescriptorProto) (file : ℕ) (path : List ℤ) (r s : AnyRecord) (number place : ℕ) → Leads files file path r → member (pos number) (pos place) r ≡ Some s → Leads files file (path ++ pos number ∷ pos place ∷ []) s
further files file path r s number place h e = record {
  on = λ (rest : List ℤ).
      ap (record_in files file) (append_assoc path (pos number ∷ pos place ∷ []) rest)
      ∙ (h.on (pos number ∷ pos place ∷ rest) ∙ ap (λ (o : Option AnyRecord). record_below o rest) e);
}

-- The record has the list as its field of a number, from a place on.
abbrev HasList : {R : Type 0} → (R → AnyRecord) → AnyRecord → (number k : ℕ) → List R → Type 0
HasList {R} of r number k xs = (i p : ℕ) (x : R) → slice_get xs i ≡ Some x → p ≡ k + i → member (pos number) (pos p) r ≡ Some (of x)

whole : {R : Type 0} (of : R → AnyRecord) (xs ys : List R) → ys ≡ xs → (i p : ℕ) (x : R) → slice_get xs i ≡ Some x → p ≡ 0 + i → option_map of (slice_get ys p) ≡ Some (of x)
whole {R} of xs ys same i p x at is =
    ap (λ (zs : List R). option_map of (slice_get zs p)) same
    ∙ (ap (λ (q : ℕ). option_map of (slice_get xs q)) (is ∙ zero-add i) ∙ ap (option_map of) at)

-- DEFINITIONS

abbrev pub Named : {R : Type 0} → List FileDescriptorProto → (R → AnyRecord) → DefinitionRow R → Type 0
Named files of d = Leads files d.file d.path (of d.proto)

defined_named : {R : Type 0} (files : List FileDescriptorProto) (of : R → AnyRecord) (name : R → Option (String Global)) (scope : ScopeRow) (r : AnyRecord) (number k : ℕ) (xs : List R) →
    Leads files scope.file scope.path r → HasList of r number k xs → All (Named files of) (defined_from name scope number k xs)
defined_named files of name scope r number k [] h e = All-nil (Named files of)
defined_named files of name scope r number k (x ∷ xs) h e =
    All-cons (Named files of) (defined scope number k (name x) x) (defined_from name scope number (k + 1) xs)
    (further files scope.file scope.path r (of x) number k h (e 0 k x refl (omega arith)))
    (defined_named files of name scope r number (k + 1) xs h (λ i p y at is. e (suc i) p y at (omega arith)))

pub record NamedEnum (files : List FileDescriptorProto) (e : FlatEnumRow) : Type 0 where
  pub definition : Named files EnumRecord e.definition
  pub values : All (Named files ValueRecord) e.values

pub record NamedService (files : List FileDescriptorProto) (s : FlatServiceRow) : Type 0 where
  pub definition : Named files ServiceRecord s.definition
  pub methods : All (Named files MethodRecord) s.methods

enums_named : (files : List FileDescriptorProto) (scope : ScopeRow) (r : AnyRecord) (number k : ℕ) (es : List EnumDescriptorProto) → Leads files scope.file scope.path r → HasList EnumRecord r number k es → All (NamedEnum files) (enums_from scope number k es)
enums_named files scope r number k [] h has = All-nil (NamedEnum files)
enums_named files scope r number k (e ∷ es) h has =
    let here = further files scope.file scope.path r (EnumRecord e) number k h (has 0 k e refl (omega arith)) in
    let first : NamedEnum files (enum_at scope number k e) = record {
      definition = here;
      values = defined_named files ValueRecord value_name (record scope { path = scope.path ++ pos number ∷ pos k ∷ [] }) (EnumRecord e) 2 0 e.value.items here (whole ValueRecord e.value.items e.value.items refl);
    } in
    All-cons (NamedEnum files) (enum_at scope number k e) (enums_from scope number (k + 1) es) first (enums_named files scope r number (k + 1) es h (λ i p y at is. has (suc i) p y at (omega arith)))

services_named : (files : List FileDescriptorProto) (scope : ScopeRow) (r : AnyRecord) (number k : ℕ) (ss : List ServiceDescriptorProto) → Leads files scope.file scope.path r → HasList ServiceRecord r number k ss → All (NamedService files) (services_from scope number k ss)
services_named files scope r number k [] h has = All-nil (NamedService files)
services_named files scope r number k (s ∷ ss) h has =
    let here = further files scope.file scope.path r (ServiceRecord s) number k h (has 0 k s refl (omega arith)) in
    let row = service_at scope number k s in
    let first : NamedService files (service_at scope number k s) = record {
      definition = here;
      methods = defined_named files MethodRecord method_name (record scope { name = row.definition.full_name; path = row.definition.path }) (ServiceRecord s) 2 0 s.method.items here (whole MethodRecord s.method.items s.method.items refl);
    } in
    All-cons (NamedService files) (service_at scope number k s) (services_from scope number (k + 1) ss) first (services_named files scope r number (k + 1) ss h (λ i p y at is. has (suc i) p y at (omega arith)))

-- MESSAGES

pub record NamedMessage (files : List FileDescriptorProto) (m : FlatMessageRow) : Type 0 where
  pub message : DescriptorProto
  pub leads : Leads files m.definition.file m.definition.path (MessageRecord message)
  pub parts : m.definition.proto ≡ message_parts (out-DescriptorProto message)
  pub fields : All (Named files FieldRecord) m.fields
  pub oneofs : All (Named files OneofRecord) m.oneofs

pub record NamedGiven (files : List FileDescriptorProto) (g : Given) : Type 0 where
  pub messages : All (NamedMessage files) g.messages
  pub enums : All (NamedEnum files) g.enums
  pub extensions : All (Named files FieldRecord) g.extensions

-- What a message gives is named wherever the message itself is.
abbrev GivesNamed : List FileDescriptorProto → DescriptorProto → Type 0
GivesNamed files m = (scope : ScopeRow) (number place before : ℕ) → Leads files scope.file (scope.path ++ pos number ∷ pos place ∷ []) (MessageRecord m) → NamedGiven files (message_at m scope number place before)

all_named : (files : List FileDescriptorProto) (ms : List ((m : DescriptorProto) × GivesNamed files m)) (scope : ScopeRow) (r : AnyRecord) (number k before : ℕ) →
    Leads files scope.file scope.path r → HasList MessageRecord r number k (map (λ (m : (m : DescriptorProto) × GivesNamed files m). m.0) ms) →
    NamedGiven files (all_from (map message_at (map (λ (m : (m : DescriptorProto) × GivesNamed files m). m.0) ms)) scope number k before)
all_named files [] scope r number k before h has = record { messages = All-nil (NamedMessage files); enums = All-nil (NamedEnum files); extensions = All-nil (Named files FieldRecord) }
all_named files (m ∷ ms) scope r number k before h has =
    let first = m.1 scope number k before (further files scope.file scope.path r (MessageRecord m.0) number k h (has 0 k m.0 refl (omega arith))) in
    let given = message_at m.0 scope number k before in
    let more = all_named files ms scope r number (k + 1) (before + length given.messages) h (λ i p y at is. has (suc i) p y at (omega arith)) in
    record {
      messages = All-append (NamedMessage files) _ _ first.messages more.messages;
      enums = All-append (NamedEnum files) _ _ first.enums more.enums;
      extensions = All-append (Named files FieldRecord) _ _ first.extensions more.extensions;
    }

-- A message over what the messages inside give.
layer_named : (files : List FileDescriptorProto) (x : DescriptorProto-F DescriptorProto) (m : DescriptorProto) (ms : List ((m : DescriptorProto) × GivesNamed files m)) → out-DescriptorProto m ≡ x → map (λ (m : (m : DescriptorProto) × GivesNamed files m). m.0) ms ≡ x.nested_type.items →
    (scope : ScopeRow) (number place before : ℕ) → Leads files scope.file (scope.path ++ pos number ∷ pos place ∷ []) (MessageRecord m) → NamedGiven files (message_step (map-DescriptorProto DescriptorProto Placed message_at x) scope number place before)
layer_named files x m ms out back scope number place before h =
    let own = own_message x scope number place before in
    let within = inside own.definition before in
    let has_fields : HasList FieldRecord (MessageRecord m) 2 0 x.field.items = whole FieldRecord x.field.items (out-DescriptorProto m).field.items (ap (λ (z : DescriptorProto-F DescriptorProto). z.field.items) out) in
    let has_oneofs : HasList OneofRecord (MessageRecord m) 8 0 x.oneof_decl.items = whole OneofRecord x.oneof_decl.items (out-DescriptorProto m).oneof_decl.items (ap (λ (z : DescriptorProto-F DescriptorProto). z.oneof_decl.items) out) in
    let has_enums : HasList EnumRecord (MessageRecord m) 4 0 x.enum_type.items = whole EnumRecord x.enum_type.items (out-DescriptorProto m).enum_type.items (ap (λ (z : DescriptorProto-F DescriptorProto). z.enum_type.items) out) in
    let has_extensions : HasList FieldRecord (MessageRecord m) 6 0 x.extension.items = whole FieldRecord x.extension.items (out-DescriptorProto m).extension.items (ap (λ (z : DescriptorProto-F DescriptorProto). z.extension.items) out) in
    let has_nested : HasList MessageRecord (MessageRecord m) 3 0 (map (λ (m : (m : DescriptorProto) × GivesNamed files m). m.0) ms) = whole MessageRecord (map (λ (m : (m : DescriptorProto) × GivesNamed files m). m.0) ms) (out-DescriptorProto m).nested_type.items (ap (λ (z : DescriptorProto-F DescriptorProto). z.nested_type.items) out ∙ sym back) in
    let first : NamedMessage files own = record {
      message = m;
      leads = h;
      parts = ap (λ (z : DescriptorProto-F DescriptorProto). message_parts z) (sym out);
      fields = defined_named files FieldRecord field_name within (MessageRecord m) 2 0 x.field.items h has_fields;
      oneofs = defined_named files OneofRecord oneof_name within (MessageRecord m) 8 0 x.oneof_decl.items h has_oneofs;
    } in
    let nested : NamedGiven files (all_from (map message_at x.nested_type.items) within 3 0 (before + 1)) = subst (λ (ns : List DescriptorProto). NamedGiven files (all_from (map message_at ns) within 3 0 (before + 1))) back (all_named files ms within (MessageRecord m) 3 0 (before + 1) h has_nested) in
    record {
      messages = All-cons (NamedMessage files) own (all_from (map message_at x.nested_type.items) within 3 0 (before + 1)).messages first nested.messages;
      enums = All-append (NamedEnum files) _ _ nested.enums (enums_named files within (MessageRecord m) 4 0 x.enum_type.items h has_enums);
      extensions = All-append (Named files FieldRecord) _ _ nested.extensions (defined_named files FieldRecord field_name within (MessageRecord m) 6 0 x.extension.items h has_extensions);
    }

message_named : (files : List FileDescriptorProto) (m : DescriptorProto) → GivesNamed files m
unfolding message_at
message_named files = ind-DescriptorProto (GivesNamed files) (λ x y is scope number place before h.
    let back : map (λ (m : (m : DescriptorProto) × GivesNamed files m). m.0) y.nested_type.items ≡ x.nested_type.items = ap (λ (z : DescriptorProto-F DescriptorProto). z.nested_type.items) is in
    subst (λ (p : Placed). NamedGiven files (p scope number place before)) (sym (fold-roll-DescriptorProto Placed message_step x))
    (layer_named files x _ y.nested_type.items (out-roll-DescriptorProto x) back scope number place before h))

-- FILES

pub record NamedRows (files : List FileDescriptorProto) (rows : FlatRows) : Type 0 where
  pub messages : All (NamedMessage files) rows.messages
  pub enums : All (NamedEnum files) rows.enums
  pub extensions : All (Named files FieldRecord) rows.extensions
  pub services : All (NamedService files) rows.services

abbrev with_names : (files : List FileDescriptorProto) → List DescriptorProto → List ((m : DescriptorProto) × GivesNamed files m)
with_names files [] = []
with_names files (m ∷ ms) = (m, message_named files m) ∷ with_names files ms

names_kept : (files : List FileDescriptorProto) (ms : List DescriptorProto) → map (λ (m : (m : DescriptorProto) × GivesNamed files m). m.0) (with_names files ms) ≡ ms
names_kept files [] = refl
names_kept files (m ∷ ms) = ap (λ (ns : List DescriptorProto). m ∷ ns) (names_kept files ms)

file_leads : (files : List FileDescriptorProto) (file : ℕ) (f : FileDescriptorProto) → slice_get files file ≡ Some f → Leads files file [] (FileRecord f)
file_leads files file f at = record { on = λ (rest : List ℤ). ap (λ (o : Option FileDescriptorProto). record_below (option_map FileRecord o) rest) at }

file_named : (files : List FileDescriptorProto) (file : ℕ) (f : FileDescriptorProto) (before : ℕ) → slice_get files file ≡ Some f → NamedRows files (file_at f file before)
file_named files file f before at =
    let scope = file_scope f file in
    let h : Leads files file [] (FileRecord f) = file_leads files file f at in
    let ms = with_names files f.message_type.items in
    let kept = names_kept files f.message_type.items in
    let nested : NamedGiven files (all_from (map message_at f.message_type.items) scope 4 0 before) =
    subst (λ (ns : List DescriptorProto). NamedGiven files (all_from (map message_at ns) scope 4 0 before)) kept
    (all_named files ms scope (FileRecord f) 4 0 before h (whole MessageRecord (map (λ (m : (m : DescriptorProto) × GivesNamed files m). m.0) ms) f.message_type.items (sym kept))) in
    record {
      messages = nested.messages;
      enums = All-append (NamedEnum files) _ _ nested.enums (enums_named files scope (FileRecord f) 5 0 f.enum_type.items h (whole EnumRecord f.enum_type.items f.enum_type.items refl));
      extensions = All-append (Named files FieldRecord) _ _ nested.extensions (defined_named files FieldRecord field_name scope (FileRecord f) 7 0 f.extension.items h (whole FieldRecord f.extension.items f.extension.items refl));
      services = services_named files scope (FileRecord f) 6 0 f.service.items h (whole ServiceRecord f.service.items f.service.items refl);
    }

files_named : (files fs : List FileDescriptorProto) (file before : ℕ) → ((i p : ℕ) (f : FileDescriptorProto) → slice_get fs i ≡ Some f → p ≡ file + i → slice_get files p ≡ Some f) → NamedRows files (files_from fs file before)
files_named files [] file before has = record { messages = All-nil (NamedMessage files); enums = All-nil (NamedEnum files); extensions = All-nil (Named files FieldRecord); services = All-nil (NamedService files) }
files_named files (f ∷ fs) file before has =
    let first = file_named files file f before (has 0 file f refl (omega arith)) in
    let more = files_named files fs (file + 1) (before + length (file_at f file before).messages) (λ i p g at is. has (suc i) p g at (omega arith)) in
    record {
      messages = All-append (NamedMessage files) _ _ first.messages more.messages;
      enums = All-append (NamedEnum files) _ _ first.enums more.enums;
      extensions = All-append (Named files FieldRecord) _ _ first.extensions more.extensions;
      services = All-append (NamedService files) _ _ first.services more.services;
    }

-- The path of each definition of files leads to its record.
pub flattened_named : (files : List FileDescriptorProto) → NamedRows files (flattened files)
flattened_named files = files_named files files 0 0 (λ i p f at is. ap (slice_get files) (is ∙ zero-add i) ∙ at)
