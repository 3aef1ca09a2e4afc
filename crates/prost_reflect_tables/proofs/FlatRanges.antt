-- What encloses a definition is there: its file, and the message around it.
use Rattle.std.specs.Prelude.{◌≡◌, ◌+◌, ◌<◌, ◌≤◌, ◌∷◌, ◌++◌}
use Rattle.prost_reflect_tables.proofs.Common.{ℕ, List, [], map, length, Option, String, sym, ap, subst, arith, length-append, All, AllByRecursion, Global, All-nil, All-cons, All-append, FieldDescriptorProto, EnumDescriptorProto, ServiceDescriptorProto, FileDescriptorProto, DescriptorProto, fold-roll-DescriptorProto, ind-DescriptorProto, map-DescriptorProto, ScopeRow, DefinitionRow, FlatMessageRow, FlatEnumRow, FlatServiceRow, FlatRows, Given, Placed, defined, defined_from, field_name, enum_at, enums_from, service_at, services_from, all_from, inside, own_message, message_step, message_at, file_scope, file_at, files_from, flattened}
use Rattle.std.specs.Option.{IfSome}
use Rattle.prost_reflect_types.specs.declared.DescriptorProto.TheOpen.{DescriptorProto-F}

-- One of F files, and one of M messages if there is one around.
pub record StandsWithin (F M : ℕ) (at : ℕ) (around : Option ℕ) : Type 0 where
  pub file : at < F
  pub parent : IfSome around (λ p. p < M)

abbrev pub RowWithin : {R : Type 0} → ℕ → ℕ → DefinitionRow R → Type 0
RowWithin F M d = StandsWithin F M d.file d.parent

abbrev pub ScopeWithin : ℕ → ℕ → ScopeRow → Type 0
ScopeWithin F M s = StandsWithin F M s.file s.parent

abbrev pub FieldWithin : ℕ → ℕ → DefinitionRow FieldDescriptorProto → Type 0
FieldWithin F M d = RowWithin F M d

pub record MessageWithin (F M : ℕ) (m : FlatMessageRow) : Type 0 where
  pub definition : RowWithin F M m.definition
  pub fields : All (FieldWithin F M) m.fields

abbrev pub EnumWithin : ℕ → ℕ → FlatEnumRow → Type 0
EnumWithin F M e = RowWithin F M e.definition

abbrev pub ServiceWithin : ℕ → ℕ → FlatServiceRow → Type 0
ServiceWithin F M s = RowWithin F M s.definition

pub record GivenWithin (F M : ℕ) (given : Given) : Type 0 where
  pub messages : All (MessageWithin F M) given.messages
  pub enums : All (EnumWithin F M) given.enums
  pub extensions : All (FieldWithin F M) given.extensions

pub record FlatWithin (F M : ℕ) (rows : FlatRows) : Type 0 where
  pub messages : All (MessageWithin F M) rows.messages
  pub enums : All (EnumWithin F M) rows.enums
  pub extensions : All (FieldWithin F M) rows.extensions
  pub services : All (ServiceWithin F M) rows.services

-- DEFINITIONS

defined_within : {R : Type 0} (F M : ℕ) (name : R → Option (String Global)) (s : ScopeRow) (number place : ℕ) (rs : List R) → ScopeWithin F M s → All (λ d. RowWithin F M d) (defined_from name s number place rs)
defined_within {R} F M name s number place [] h = All-nil (λ (d : DefinitionRow R). RowWithin F M d)
defined_within {R} F M name s number place (r ∷ rs) h = All-cons (λ (d : DefinitionRow R). RowWithin F M d) (defined s number place (name r) r) (defined_from name s number (place + 1) rs) h (defined_within F M name s number (place + 1) rs h)

enums_within : (F M : ℕ) (s : ScopeRow) (number place : ℕ) (es : List EnumDescriptorProto) → ScopeWithin F M s → All (EnumWithin F M) (enums_from s number place es)
enums_within F M s number place [] h = All-nil (EnumWithin F M)
enums_within F M s number place (e ∷ es) h = All-cons (EnumWithin F M) (enum_at s number place e) (enums_from s number (place + 1) es) h (enums_within F M s number (place + 1) es h)

services_within : (F M : ℕ) (s : ScopeRow) (number place : ℕ) (ss : List ServiceDescriptorProto) → ScopeWithin F M s → All (ServiceWithin F M) (services_from s number place ss)
services_within F M s number place [] h = All-nil (ServiceWithin F M)
services_within F M s number place (t ∷ ts) h = All-cons (ServiceWithin F M) (service_at s number place t) (services_from s number (place + 1) ts) h (services_within F M s number (place + 1) ts h)

-- MESSAGES

-- What a message gives stands within, where its scope does and there are messages enough.
abbrev PlacedWithin : Placed → Type 0
PlacedWithin m = (F M : ℕ) (s : ScopeRow) (number place before : ℕ) → ScopeWithin F M s → before + length (m s number place before).messages ≤ M → GivenWithin F M (m s number place before)

all_within : (ms : List Placed) → AllByRecursion PlacedWithin ms → (F M : ℕ) (s : ScopeRow) (number place before : ℕ) → ScopeWithin F M s → before + length (all_from ms s number place before).messages ≤ M →
    GivenWithin F M (all_from ms s number place before)
all_within [] each F M s number place before scope enough = record { messages = All-nil (MessageWithin F M); enums = All-nil (EnumWithin F M); extensions = All-nil (FieldWithin F M) }
all_within (m ∷ ms) each F M s number place before scope enough =
    let first = m s number place before in
    let rest = all_from ms s number (place + 1) (before + length first.messages) in
    let size : length (first.messages ++ rest.messages) ≡ length first.messages + length rest.messages = length-append first.messages rest.messages in
    let here = each.0 F M s number place before scope (omega arith) in
    let more = all_within ms each.1 F M s number (place + 1) (before + length first.messages) scope (omega arith) in
    record {
      messages = All-append (MessageWithin F M) _ _ here.messages more.messages;
      enums = All-append (EnumWithin F M) _ _ here.enums more.enums;
      extensions = All-append (FieldWithin F M) _ _ here.extensions more.extensions;
    }

-- a message over what the messages inside give
layer : DescriptorProto-F DescriptorProto → Placed
layer m = message_step (map-DescriptorProto DescriptorProto Placed message_at m)

layer_within : (m : DescriptorProto-F DescriptorProto) → AllByRecursion PlacedWithin (map message_at m.nested_type.items) → PlacedWithin (layer m)
unfolding layer
layer_within m inner F M s number place before scope enough =
    let own = own_message m s number place before in
    let within = inside own.definition before in
    let nested = all_from (map message_at m.nested_type.items) within 3 0 (before + 1) in
    let size : before + length (own ∷ nested.messages) ≤ M = enough in
    let around : ScopeWithin F M within = record { file = scope.file; parent = omega arith } in
    let more = all_within (map message_at m.nested_type.items) inner F M within 3 0 (before + 1) around (omega arith) in
    record {
      messages = All-cons (MessageWithin F M) own nested.messages (record { definition = scope; fields = defined_within F M field_name within 2 0 m.field.items around }) more.messages;
      enums = All-append (EnumWithin F M) _ _ more.enums (enums_within F M within 4 0 m.enum_type.items around);
      extensions = All-append (FieldWithin F M) _ _ more.extensions (defined_within F M field_name within 6 0 m.extension.items around);
    }

abbrev Such : Type 0
Such = (m : DescriptorProto) × PlacedWithin (message_at m)

nested_within : (ms : List Such) → AllByRecursion PlacedWithin (map message_at (map (λ (m : Such). m.0) ms))
nested_within [] = tt
nested_within (m ∷ ms) = (m.1, nested_within ms)

message_within : (m : DescriptorProto) → PlacedWithin (message_at m)
unfolding message_at layer
message_within = ind-DescriptorProto (λ (m : DescriptorProto). PlacedWithin (message_at m)) (λ x y is.
    let back : map (λ (m : Such). m.0) y.nested_type.items ≡ x.nested_type.items = ap (λ (z : DescriptorProto-F DescriptorProto). z.nested_type.items) is in
    let inner = subst (λ (ms : List DescriptorProto). AllByRecursion PlacedWithin (map message_at ms)) back (nested_within y.nested_type.items) in
    subst (λ (p : Placed). PlacedWithin p) (sym (fold-roll-DescriptorProto Placed message_step x)) (layer_within x inner))

listed_within : (ms : List DescriptorProto) → AllByRecursion PlacedWithin (map message_at ms)
listed_within [] = tt
listed_within (m ∷ ms) = (message_within m, listed_within ms)

-- FILES

file_within : (F M : ℕ) (f : FileDescriptorProto) (file before : ℕ) → file < F → before + length (file_at f file before).messages ≤ M → FlatWithin F M (file_at f file before)
file_within F M f file before there enough =
    let s = file_scope f file in
    let scope : ScopeWithin F M s = record { file = there; parent = tt } in
    let nested = all_within (map message_at f.message_type.items) (listed_within f.message_type.items) F M s 4 0 before scope enough in
    record {
      messages = nested.messages;
      enums = All-append (EnumWithin F M) _ _ nested.enums (enums_within F M s 5 0 f.enum_type.items scope);
      extensions = All-append (FieldWithin F M) _ _ nested.extensions (defined_within F M field_name s 7 0 f.extension.items scope);
      services = services_within F M s 6 0 f.service.items scope;
    }

files_within : (F M : ℕ) (fs : List FileDescriptorProto) (file before : ℕ) → file + length fs ≤ F → before + length (files_from fs file before).messages ≤ M → FlatWithin F M (files_from fs file before)
files_within F M [] file before there enough = record { messages = All-nil (MessageWithin F M); enums = All-nil (EnumWithin F M); extensions = All-nil (FieldWithin F M); services = All-nil (ServiceWithin F M) }
files_within F M (f ∷ fs) file before there enough =
    let first = file_at f file before in
    let rest = files_from fs (file + 1) (before + length first.messages) in
    let size : length (first.messages ++ rest.messages) ≡ length first.messages + length rest.messages = length-append first.messages rest.messages in
    let here = file_within F M f file before (omega arith) (omega arith) in
    let more = files_within F M fs (file + 1) (before + length first.messages) (omega arith) (omega arith) in
    record {
      messages = All-append (MessageWithin F M) _ _ here.messages more.messages;
      enums = All-append (EnumWithin F M) _ _ here.enums more.enums;
      extensions = All-append (FieldWithin F M) _ _ here.extensions more.extensions;
      services = All-append (ServiceWithin F M) _ _ here.services more.services;
    }

-- Each definition of files stands in one of them, and in one of their messages if in any.
pub flattened_within : (files : List FileDescriptorProto) (M : ℕ) → length (flattened files).messages ≡ M → FlatWithin (length files) M (flattened files)
flattened_within files M size = files_within (length files) M files 0 0 (omega arith) (omega arith)
