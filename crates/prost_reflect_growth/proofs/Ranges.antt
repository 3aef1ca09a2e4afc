-- What encloses a definition stands from so many files and messages on.
use Rattle.std.specs.Prelude.{◌≡◌, ◌+◌, ◌≤◌, ◌∷◌, ◌++◌}
use Rattle.prost_reflect_growth.proofs.Common.{All, AllByRecursion, IfSome, Global, ℕ, List, [], length, map, Option, sym, ap, subst, arith, length-append, String, All-nil, All-cons, All-append, DescriptorProto, DescriptorProto-F, fold-roll-DescriptorProto, ind-DescriptorProto, map-DescriptorProto, EnumDescriptorProto, FieldDescriptorProto, FileDescriptorProto, ServiceDescriptorProto, ScopeRow, DefinitionRow, FlatMessageRow, FlatEnumRow, FlatServiceRow, FlatRows, Given, Placed, defined, defined_from, field_name, enum_at, enums_from, service_at, services_from, all_from, inside, own_message, message_step, file_scope, file_at, files_from, message_at}

-- From the file F on, and from the message M on if there is one around.
pub record StandsFrom (F M : ℕ) (at : ℕ) (around : Option ℕ) : Type 0 where
  pub file : F ≤ at
  pub parent : IfSome around (λ p. M ≤ p)

abbrev pub RowFrom : {R : Type 0} → ℕ → ℕ → DefinitionRow R → Type 0
RowFrom F M d = StandsFrom F M d.file d.parent

abbrev pub ScopeFrom : ℕ → ℕ → ScopeRow → Type 0
ScopeFrom F M s = StandsFrom F M s.file s.parent

abbrev pub FieldFrom : ℕ → ℕ → DefinitionRow FieldDescriptorProto → Type 0
FieldFrom F M d = RowFrom F M d

pub record MessageFrom (F M : ℕ) (m : FlatMessageRow) : Type 0 where
  pub definition : RowFrom F M m.definition
  pub fields : All (FieldFrom F M) m.fields

abbrev pub EnumFrom : ℕ → ℕ → FlatEnumRow → Type 0
EnumFrom F M e = RowFrom F M e.definition

abbrev pub ServiceFrom : ℕ → ℕ → FlatServiceRow → Type 0
ServiceFrom F M s = RowFrom F M s.definition

pub record GivenFrom (F M : ℕ) (given : Given) : Type 0 where
  pub messages : All (MessageFrom F M) given.messages
  pub enums : All (EnumFrom F M) given.enums
  pub extensions : All (FieldFrom F M) given.extensions

pub record FlatFrom (F M : ℕ) (rows : FlatRows) : Type 0 where
  pub messages : All (MessageFrom F M) rows.messages
  pub enums : All (EnumFrom F M) rows.enums
  pub extensions : All (FieldFrom F M) rows.extensions
  pub services : All (ServiceFrom F M) rows.services

-- DEFINITIONS

defined_on : {R : Type 0} (F M : ℕ) (name : R → Option (String Global)) (s : ScopeRow) (number place : ℕ) (rs : List R) → ScopeFrom F M s →
    All (λ d. RowFrom F M d) (defined_from name s number place rs)
defined_on {R} F M name s number place [] h = All-nil (λ (d : DefinitionRow R). RowFrom F M d)
defined_on {R} F M name s number place (r ∷ rs) h =
    All-cons (λ (d : DefinitionRow R). RowFrom F M d) (defined s number place (name r) r) (defined_from name s number (place + 1) rs) h (defined_on F M name s number (place + 1) rs h)

enums_on : (F M : ℕ) (s : ScopeRow) (number place : ℕ) (es : List EnumDescriptorProto) → ScopeFrom F M s →
    All (EnumFrom F M) (enums_from s number place es)
enums_on F M s number place [] h = All-nil (EnumFrom F M)
enums_on F M s number place (e ∷ es) h = All-cons (EnumFrom F M) (enum_at s number place e) (enums_from s number (place + 1) es) h (enums_on F M s number (place + 1) es h)

services_on : (F M : ℕ) (s : ScopeRow) (number place : ℕ) (ss : List ServiceDescriptorProto) → ScopeFrom F M s →
    All (ServiceFrom F M) (services_from s number place ss)
services_on F M s number place [] h = All-nil (ServiceFrom F M)
services_on F M s number place (t ∷ ts) h = All-cons (ServiceFrom F M) (service_at s number place t) (services_from s number (place + 1) ts) h (services_on F M s number (place + 1) ts h)

-- MESSAGES

-- What a message gives stands from there on, where its scope does and so many messages stand before it.
abbrev PlacedFrom : Placed → Type 0
PlacedFrom m = (F M : ℕ) (s : ScopeRow) (number place before : ℕ) → ScopeFrom F M s → M ≤ before → GivenFrom F M (m s number place before)

all_on : (ms : List Placed) → AllByRecursion PlacedFrom ms → (F M : ℕ) (s : ScopeRow) (number place before : ℕ) → ScopeFrom F M s →
    M ≤ before →
    GivenFrom F M (all_from ms s number place before)
all_on [] each F M s number place before scope enough = record { messages = All-nil (MessageFrom F M); enums = All-nil (EnumFrom F M); extensions = All-nil (FieldFrom F M) }
all_on (m ∷ ms) each F M s number place before scope enough =
    let first = m s number place before in
    let rest = all_from ms s number (place + 1) (before + length first.messages) in
    let size : length (first.messages ++ rest.messages) ≡ length first.messages + length rest.messages = length-append first.messages rest.messages in
    let here = each.0 F M s number place before scope (omega arith) in
    let more = all_on ms each.1 F M s number (place + 1) (before + length first.messages) scope (omega arith) in
    record {
      messages = All-append (MessageFrom F M) _ _ here.messages more.messages;
      enums = All-append (EnumFrom F M) _ _ here.enums more.enums;
      extensions = All-append (FieldFrom F M) _ _ here.extensions more.extensions;
    }

-- a message over what the messages inside give
layer : DescriptorProto-F DescriptorProto → Placed
layer m = message_step (map-DescriptorProto DescriptorProto Placed message_at m)

layer_on : (m : DescriptorProto-F DescriptorProto) → AllByRecursion PlacedFrom (map message_at m.nested_type.items) → PlacedFrom (layer m)
unfolding layer
layer_on m inner F M s number place before scope enough =
    let own = own_message m s number place before in
    let within = inside own.definition before in
    let nested = all_from (map message_at m.nested_type.items) within 3 0 (before + 1) in
    let around : ScopeFrom F M within = record { file = scope.file; parent = enough } in
    let more = all_on (map message_at m.nested_type.items) inner F M within 3 0 (before + 1) around (omega arith) in
    record {
      messages = All-cons (MessageFrom F M) own nested.messages (record { definition = scope; fields = defined_on F M field_name within 2 0 m.field.items around }) more.messages;
      enums = All-append (EnumFrom F M) _ _ more.enums (enums_on F M within 4 0 m.enum_type.items around);
      extensions = All-append (FieldFrom F M) _ _ more.extensions (defined_on F M field_name within 6 0 m.extension.items around);
    }

abbrev Such : Type 0
Such = (m : DescriptorProto) × PlacedFrom (message_at m)

nested_on : (ms : List Such) → AllByRecursion PlacedFrom (map message_at (map (λ (m : Such). m.0) ms))
nested_on [] = tt
nested_on (m ∷ ms) = (m.1, nested_on ms)

message_on : (m : DescriptorProto) → PlacedFrom (message_at m)
unfolding message_at layer
message_on = ind-DescriptorProto (λ (m : DescriptorProto). PlacedFrom (message_at m)) (λ x y is.
    let back : map (λ (m : Such). m.0) y.nested_type.items ≡ x.nested_type.items = ap (λ (z : DescriptorProto-F DescriptorProto). z.nested_type.items) is in
    let inner = subst (λ (ms : List DescriptorProto). AllByRecursion PlacedFrom (map message_at ms)) back (nested_on y.nested_type.items) in
    subst (λ (p : Placed). PlacedFrom p) (sym (fold-roll-DescriptorProto Placed message_step x)) (layer_on x inner))

listed_on : (ms : List DescriptorProto) → AllByRecursion PlacedFrom (map message_at ms)
listed_on [] = tt
listed_on (m ∷ ms) = (message_on m, listed_on ms)

-- FILES

file_on : (F M : ℕ) (f : FileDescriptorProto) (file before : ℕ) → F ≤ file → M ≤ before → FlatFrom F M (file_at f file before)
file_on F M f file before there enough =
    let s = file_scope f file in
    let scope : ScopeFrom F M s = record { file = there; parent = tt } in
    let nested = all_on (map message_at f.message_type.items) (listed_on f.message_type.items) F M s 4 0 before scope enough in
    record {
      messages = nested.messages;
      enums = All-append (EnumFrom F M) _ _ nested.enums (enums_on F M s 5 0 f.enum_type.items scope);
      extensions = All-append (FieldFrom F M) _ _ nested.extensions (defined_on F M field_name s 7 0 f.extension.items scope);
      services = services_on F M s 6 0 f.service.items scope;
    }

pub files_on : (F M : ℕ) (fs : List FileDescriptorProto) (file before : ℕ) → F ≤ file → M ≤ before →
    FlatFrom F M (files_from fs file before)
files_on F M [] file before there enough = record { messages = All-nil (MessageFrom F M); enums = All-nil (EnumFrom F M); extensions = All-nil (FieldFrom F M); services = All-nil (ServiceFrom F M) }
files_on F M (f ∷ fs) file before there enough =
    let first = file_at f file before in
    let rest = files_from fs (file + 1) (before + length first.messages) in
    let size : length (first.messages ++ rest.messages) ≡ length first.messages + length rest.messages = length-append first.messages rest.messages in
    let here = file_on F M f file before (omega arith) (omega arith) in
    let more = files_on F M fs (file + 1) (before + length first.messages) (omega arith) (omega arith) in
    record {
      messages = All-append (MessageFrom F M) _ _ here.messages more.messages;
      enums = All-append (EnumFrom F M) _ _ here.enums more.enums;
      extensions = All-append (FieldFrom F M) _ _ here.extensions more.extensions;
      services = All-append (ServiceFrom F M) _ _ here.services more.services;
    }
