-- Files of equal contents have rows that hold the same.
use Rattle.std.specs.Prelude.{◌≡◌, ◌+◌, ◌∷◌, ◌++◌}
use Rattle.prost_reflect_tables.proofs.Common.{ℕ, pos, List, [], map, Option, Some, None, String, bytes_eq, refl, sym, ap, ap₂, ◌∙◌, subst, codes, AllZip, length_all_zip, Global, FieldDescriptorProto, EnumDescriptorProto, ServiceDescriptorProto, FileDescriptorProto, DescriptorProto, out-DescriptorProto, fold-roll-DescriptorProto, fold_out-DescriptorProto, ind-DescriptorProto, map-DescriptorProto, of_message, SameText, SameField, SameOneof, SameEnumValue, SameEnum, SameMethod, SameService, SameLayer, SameFile, message_same, joined, ScopeRow, DefinitionRow, Placed, defined, defined_from, field_name, oneof_name, value_name, method_name, enum_at, enums_from, service_at, services_from, all_from, inside, message_parts, own_message, message_step, message_at, file_scope, file_at, files_from, flattened}
use Rattle.prost_reflect_types.specs.declared.DescriptorProto.TheOpen.{DescriptorProto-F}
use Rattle.prost_reflect_tables.proofs.SameRows.{zip_append, text_same, SameRow, SameParts, SameMessageRow, SameEnumRow, SameServiceRow, SameRows, SameGiven}

-- DEFINITIONS

defined_same : {R : Type 0} (Same : R → R → Type 0) (s t : ScopeRow) (number place : ℕ) (n m : Option (String Global)) (p q : R) → s ≡ t → SameText n m → Same p q → SameRow Same (defined s number place n p) (defined t number place m q)
defined_same Same s t number place n m p q scope name same = record {
  full_name = ap₂ (λ (u : ScopeRow) (b : List ℕ). joined u.name b) scope (text_same n m name);
  path = ap (λ (u : ScopeRow). u.path ++ pos number ∷ pos place ∷ []) scope;
  file = ap (λ (u : ScopeRow). u.file) scope;
  is_proto3 = ap (λ (u : ScopeRow). u.is_proto3) scope;
  parent = ap (λ (u : ScopeRow). u.parent) scope;
  proto = same;
}

defined_all : {R : Type 0} (Same : R → R → Type 0) (name : R → Option (String Global)) → ((p q : R) → Same p q → SameText (name p) (name q)) → (s t : ScopeRow) (number place : ℕ) (ps qs : List R) → s ≡ t → AllZip Same ps qs →
    AllZip (SameRow Same) (defined_from name s number place ps) (defined_from name t number place qs)
defined_all Same name named s t number place [] [] scope h = tt
defined_all Same name named s t number place (p ∷ ps) (q ∷ qs) scope h =
    (defined_same Same s t number place (name p) (name q) p q scope (named p q h.0) h.0, defined_all Same name named s t number (place + 1) ps qs scope h.1)
defined_all Same name named s t number place _ _ scope h = absurd h

fields_same : (s t : ScopeRow) (number : ℕ) (fs gs : List FieldDescriptorProto) → s ≡ t → AllZip SameField fs gs → AllZip (SameRow SameField) (defined_from field_name s number 0 fs) (defined_from field_name t number 0 gs)
fields_same s t number fs gs scope h = defined_all SameField field_name (λ f g e. e.name) s t number 0 fs gs scope h

inside_same : {R : Type 0} (Same : R → R → Type 0) (d e : DefinitionRow R) (k l : ℕ) → SameRow Same d e → k ≡ l → inside d k ≡ inside e l
inside_same Same d e k l h at = λ i. record { name = h.full_name i; path = h.path i; file = h.file i; is_proto3 = h.is_proto3 i; parent = Some (at i) }

-- ENUMS AND SERVICES

enum_same : (s t : ScopeRow) (number place : ℕ) (d e : EnumDescriptorProto) → s ≡ t → SameEnum d e → SameEnumRow (enum_at s number place d) (enum_at t number place e)
enum_same s t number place d e scope h = record {
  definition = defined_same SameEnum s t number place d.name e.name d e scope h.name h;
  values = defined_all SameEnumValue value_name (λ v w e. e.name) _ _ 2 0 d.value.items e.value.items (ap (λ (u : ScopeRow). record u { path = u.path ++ pos number ∷ pos place ∷ [] }) scope) h.value;
}

enums_same : (s t : ScopeRow) (number place : ℕ) (ds es : List EnumDescriptorProto) → s ≡ t → AllZip SameEnum ds es → AllZip SameEnumRow (enums_from s number place ds) (enums_from t number place es)
enums_same s t number place [] [] scope h = tt
enums_same s t number place (d ∷ ds) (e ∷ es) scope h = (enum_same s t number place d e scope h.0, enums_same s t number (place + 1) ds es scope h.1)
enums_same s t number place _ _ scope h = absurd h

service_same : (s t : ScopeRow) (number place : ℕ) (d e : ServiceDescriptorProto) → s ≡ t → SameService d e → SameServiceRow (service_at s number place d) (service_at t number place e)
service_same s t number place d e scope h =
    let definition = defined_same SameService s t number place d.name e.name d e scope h.name h in
    record {
      definition = definition;
      methods = defined_all SameMethod method_name (λ m n e. e.name) _ _ 2 0 d.method.items e.method.items (λ i. record (scope i) { name = definition.full_name i; path = definition.path i }) h.method;
    }

services_same : (s t : ScopeRow) (number place : ℕ) (ds es : List ServiceDescriptorProto) → s ≡ t → AllZip SameService ds es → AllZip SameServiceRow (services_from s number place ds) (services_from t number place es)
services_same s t number place [] [] scope h = tt
services_same s t number place (d ∷ ds) (e ∷ es) scope h = (service_same s t number place d e scope h.0, services_same s t number (place + 1) ds es scope h.1)
services_same s t number place _ _ scope h = absurd h

-- MESSAGES

-- Two messages give the same, wherever they stand.
abbrev SamePlaced : Placed → Placed → Type 0
SamePlaced m n = (s t : ScopeRow) (number place k l : ℕ) → s ≡ t → k ≡ l → SameGiven (m s number place k) (n t number place l)

all_same : (ms ns : List Placed) (s t : ScopeRow) (number place k l : ℕ) → AllZip SamePlaced ms ns → s ≡ t → k ≡ l → SameGiven (all_from ms s number place k) (all_from ns t number place l)
all_same [] [] s t number place k l h scope before = record { messages = tt; enums = tt; extensions = tt }
all_same (m ∷ ms) (n ∷ ns) s t number place k l h scope before =
    let first = h.0 s t number place k l scope before in
    let more = all_same ms ns s t number (place + 1) _ _ h.1 scope (ap₂ (λ (a b : ℕ). a + b) before (length_all_zip SameMessageRow (m s number place k).messages (n t number place l).messages first.messages)) in
    record {
      messages = zip_append SameMessageRow _ _ _ _ first.messages more.messages;
      enums = zip_append SameEnumRow _ _ _ _ first.enums more.enums;
      extensions = zip_append (SameRow SameField) _ _ _ _ first.extensions more.extensions;
    }
all_same _ _ s t number place k l h scope before = absurd h

own_same : (m n : DescriptorProto-F DescriptorProto) (s t : ScopeRow) (number place k l : ℕ) → SameLayer m n → s ≡ t → k ≡ l → SameMessageRow (own_message m s number place k) (own_message n t number place l)
own_same m n s t number place k l h scope before =
    let parts : SameParts (message_parts m) (message_parts n) = record { name = h.name; extension_range = h.extension_range; reserved_range = h.reserved_range; reserved_name = h.reserved_name; options = h.options } in
    let definition = defined_same SameParts s t number place m.name n.name (message_parts m) (message_parts n) scope h.name parts in
    let within = inside_same SameParts _ _ k l definition before in
    record {
      definition = definition;
      fields = fields_same _ _ 2 m.field.items n.field.items within h.field;
      oneofs = defined_all SameOneof oneof_name (λ o p e. e.name) _ _ 8 0 m.oneof_decl.items n.oneof_decl.items within h.oneof_decl;
    }

-- a message over what the messages inside give
layer : DescriptorProto-F DescriptorProto → Placed
layer m = message_step (map-DescriptorProto DescriptorProto Placed message_at m)

layers_same : (m n : DescriptorProto-F DescriptorProto) → SameLayer m n → AllZip SamePlaced (map message_at m.nested_type.items) (map message_at n.nested_type.items) → SamePlaced (layer m) (layer n)
unfolding layer
layers_same m n h inner s t number place k l scope before =
    let own = own_same m n s t number place k l h scope before in
    let within = inside_same SameParts _ _ k l own.definition before in
    let nested = all_same (map message_at m.nested_type.items) (map message_at n.nested_type.items) _ _ 3 0 (k + 1) (l + 1) inner within (ap (λ (a : ℕ). a + 1) before) in
    record {
      messages = (own, nested.messages);
      enums = zip_append SameEnumRow _ _ _ _ nested.enums (enums_same _ _ 4 0 m.enum_type.items n.enum_type.items within h.enum_type);
      extensions = zip_append (SameRow SameField) _ _ _ _ nested.extensions (fields_same _ _ 6 m.extension.items n.extension.items within h.extension);
    }

abbrev Follows : DescriptorProto → Type 0
Follows m = (n : DescriptorProto) → of_message m ≡ of_message n → SamePlaced (message_at m) (message_at n)

abbrev Such : Type 0
Such = (m : DescriptorProto) × Follows m

nested_same : (ms : List Such) (ns : List DescriptorProto) → map of_message (map (λ (m : Such). m.0) ms) ≡ map of_message ns → AllZip SamePlaced (map message_at (map (λ (m : Such). m.0) ms)) (map message_at ns)
nested_same [] [] e = tt
nested_same [] (n ∷ ns) e = cc
nested_same (m ∷ ms) [] e = cc
nested_same (m ∷ ms) (n ∷ ns) e =
    let h : of_message m.0 ≡ of_message n = cc in
    let t : map of_message (map (λ (m : Such). m.0) ms) ≡ map of_message ns = cc in
    (m.1 n h, nested_same ms ns t)

messages_same : (m : DescriptorProto) → Follows m
unfolding message_at layer
messages_same = ind-DescriptorProto Follows (λ x y is n e.
    let h = message_same x n e in
    let back : map (λ (m : Such). m.0) y.nested_type.items ≡ x.nested_type.items = ap (λ (z : DescriptorProto-F DescriptorProto). z.nested_type.items) is in
    let inner = subst (λ (ms : List DescriptorProto). AllZip SamePlaced (map message_at ms) (map message_at (out-DescriptorProto n).nested_type.items)) back
    (nested_same y.nested_type.items (out-DescriptorProto n).nested_type.items (ap (λ (ms : List DescriptorProto). map of_message ms) back ∙ h.nested_type)) in
    subst (λ (p : Placed). SamePlaced p (message_at n)) (sym (fold-roll-DescriptorProto Placed message_step x))
    (subst (λ (p : Placed). SamePlaced (layer x) p) (sym (fold_out-DescriptorProto Placed message_step n)) (layers_same x (out-DescriptorProto n) h inner)))

listed_same : (ms ns : List DescriptorProto) → map of_message ms ≡ map of_message ns → AllZip SamePlaced (map message_at ms) (map message_at ns)
listed_same [] [] e = tt
listed_same [] (n ∷ ns) e = cc
listed_same (m ∷ ms) [] e = cc
listed_same (m ∷ ms) (n ∷ ns) e =
    let h : of_message m ≡ of_message n = cc in
    let t : map of_message ms ≡ map of_message ns = cc in
    (messages_same m n h, listed_same ms ns t)

-- FILES

scope_same : (f g : FileDescriptorProto) (file : ℕ) → SameFile f g → file_scope f file ≡ file_scope g file
scope_same f g file h = λ i. record {
  name = text_same f.«package» g.«package» h.«package» i;
  path = [];
  file = file;
  is_proto3 = bytes_eq (text_same f.syntax g.syntax h.syntax i) (codes "proto3");
  parent = None;
}

file_rows_same : (f g : FileDescriptorProto) (file k l : ℕ) → SameFile f g → k ≡ l → SameRows (file_at f file k) (file_at g file l)
file_rows_same f g file k l h before =
    let scope = scope_same f g file h in
    let nested = all_same (map message_at f.message_type.items) (map message_at g.message_type.items) _ _ 4 0 k l (listed_same f.message_type.items g.message_type.items h.message_type) scope before in
    record {
      messages = nested.messages;
      enums = zip_append SameEnumRow _ _ _ _ nested.enums (enums_same _ _ 5 0 f.enum_type.items g.enum_type.items scope h.enum_type);
      extensions = zip_append (SameRow SameField) _ _ _ _ nested.extensions (fields_same _ _ 7 f.extension.items g.extension.items scope h.extension);
      services = services_same _ _ 6 0 f.service.items g.service.items scope h.service;
    }

files_same : (fs gs : List FileDescriptorProto) (file k l : ℕ) → AllZip SameFile fs gs → k ≡ l → SameRows (files_from fs file k) (files_from gs file l)
files_same [] [] file k l h before = record { messages = tt; enums = tt; extensions = tt; services = tt }
files_same (f ∷ fs) (g ∷ gs) file k l h before =
    let first = file_rows_same f g file k l h.0 before in
    let more = files_same fs gs (file + 1) _ _ h.1 (ap₂ (λ (a b : ℕ). a + b) before (length_all_zip SameMessageRow (file_at f file k).messages (file_at g file l).messages first.messages)) in
    record {
      messages = zip_append SameMessageRow _ _ _ _ first.messages more.messages;
      enums = zip_append SameEnumRow _ _ _ _ first.enums more.enums;
      extensions = zip_append (SameRow SameField) _ _ _ _ first.extensions more.extensions;
      services = zip_append SameServiceRow _ _ _ _ first.services more.services;
    }
files_same _ _ file k l h before = absurd h

pub flattened_same : (fs gs : List FileDescriptorProto) → AllZip SameFile fs gs → SameRows (flattened fs) (flattened gs)
flattened_same fs gs h = files_same fs gs 0 0 0 h refl
