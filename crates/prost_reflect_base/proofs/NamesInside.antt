-- The names that files give to what stands in a message type or a service: a full name, a dot and an own name.
use Rattle.std.specs.Prelude.{◌≡◌, ◌+◌, ◌∷◌}
use Rattle.std.specs.List.{AllByRecursion, All}
use Rattle.std.specs.declared.alloc.Global.{Global}
use Rattle.std.proofs.Common.{ℕ, List, [], map, length, Option, String, refl, sym, ap, subst}
use Rattle.std.proofs.lemmas.List.Elements.{All-nil, All-cons, All-append}
use Rattle.prost_reflect_types.specs.declared.DescriptorProto.{DescriptorProto}
use Rattle.prost_reflect_types.specs.declared.DescriptorProto.TheFolds.{fold-roll-DescriptorProto, ind-DescriptorProto, map-DescriptorProto}
use Rattle.prost_reflect_types.specs.declared.DescriptorProto.TheOpen.{DescriptorProto-F}
use Rattle.prost_reflect_types.specs.declared.FileDescriptorProto.{FileDescriptorProto}
use Rattle.prost_reflect_types.specs.declared.ServiceDescriptorProto.{ServiceDescriptorProto}
use Rattle.prost_reflect_tables.specs.Faults.{names_of}
use Rattle.prost_reflect_tables.specs.Flat.{ScopeRow, DefinitionRow, FlatMessageRow, FlatServiceRow, Placed, defined_from, field_name, oneof_name, method_name, service_at, services_from, all_from, inside, own_message, message_step, message_at, file_scope, file_at, files_from, flattened}
use Rattle.prost_reflect_tables.specs.Names.{text_or_empty, joined}
use Rattle.prost_reflect_base.specs.Inside.{field_text, oneof_text, method_text}

names_joined : {R : Type 0} (name : R → Option (String Global)) (scope : ScopeRow) (number place : ℕ) (rs : List R)
    → names_of (defined_from name scope number place rs) ≡ map (joined scope.name) (map (λ (d : DefinitionRow R). text_or_empty (name d.proto)) (defined_from name scope number place rs))
names_joined name scope number place [] = refl
names_joined name scope number place (r ∷ rs) = ap (λ names. joined scope.name (text_or_empty (name r)) ∷ names) (names_joined name scope number (place + 1) rs)

-- The names of a message, and of what stands in it.
pub record MessageNames (m : FlatMessageRow) : Type 0 where
  pub scope : List ℕ
  pub full : m.definition.full_name ≡ joined scope (text_or_empty m.definition.proto.name)
  pub fields : names_of m.fields ≡ map (joined m.definition.full_name) (map field_text m.fields)
  pub oneofs : names_of m.oneofs ≡ map (joined m.definition.full_name) (map oneof_text m.oneofs)

-- The same of a service.
pub record ServiceNames (s : FlatServiceRow) : Type 0 where
  pub scope : List ℕ
  pub full : s.definition.full_name ≡ joined scope (text_or_empty s.definition.proto.name)
  pub methods : names_of s.methods ≡ map (joined s.definition.full_name) (map method_text s.methods)

-- MESSAGES

abbrev NamesPlaced : Placed → Type 0
NamesPlaced m = (scope : ScopeRow) (number place before : ℕ) → All MessageNames (m scope number place before).messages

all_placed : (ms : List Placed) → AllByRecursion NamesPlaced ms → (scope : ScopeRow) (number place before : ℕ) → All MessageNames (all_from ms scope number place before).messages
all_placed [] each scope number place before = All-nil MessageNames
all_placed (m ∷ ms) each scope number place before =
    let first = m scope number place before in
    All-append MessageNames first.messages (all_from ms scope number (place + 1) (before + length first.messages)).messages (each.0 scope number place before) (all_placed ms each.1 scope number (place + 1) (before + length first.messages))

-- A message over what the messages inside give.
layer : DescriptorProto-F DescriptorProto → Placed
layer m = message_step (map-DescriptorProto DescriptorProto Placed message_at m)

layer_placed : (m : DescriptorProto-F DescriptorProto) → AllByRecursion NamesPlaced (map message_at m.nested_type.items) → NamesPlaced (layer m)
unfolding layer
layer_placed m nested scope number place before =
    let own = own_message m scope number place before in
    let within = inside own.definition before in
    All-cons MessageNames own (all_from (map message_at m.nested_type.items) within 3 0 (before + 1)).messages
    (record {
      scope = scope.name;
      full = refl;
      fields = names_joined field_name within 2 0 m.field.items;
      oneofs = names_joined oneof_name within 8 0 m.oneof_decl.items;
    })
    (all_placed (map message_at m.nested_type.items) nested within 3 0 (before + 1))

abbrev Such : Type 0
Such = (m : DescriptorProto) × NamesPlaced (message_at m)

such_placed : (ms : List Such) → AllByRecursion NamesPlaced (map message_at (map (λ (m : Such). m.0) ms))
such_placed [] = tt
such_placed (m ∷ ms) = (m.1, such_placed ms)

message_placed : (m : DescriptorProto) → NamesPlaced (message_at m)
unfolding message_at layer
message_placed = ind-DescriptorProto (λ (m : DescriptorProto). NamesPlaced (message_at m)) (λ x y is.
    let back : map (λ (m : Such). m.0) y.nested_type.items ≡ x.nested_type.items = ap (λ (z : DescriptorProto-F DescriptorProto). z.nested_type.items) is in
    let nested = subst (λ (ms : List DescriptorProto). AllByRecursion NamesPlaced (map message_at ms)) back (such_placed y.nested_type.items) in
    subst (λ (p : Placed). NamesPlaced p) (sym (fold-roll-DescriptorProto Placed message_step x)) (layer_placed x nested))

listed_placed : (ms : List DescriptorProto) → AllByRecursion NamesPlaced (map message_at ms)
listed_placed [] = tt
listed_placed (m ∷ ms) = (message_placed m, listed_placed ms)

-- SERVICES

services_placed : (scope : ScopeRow) (number place : ℕ) (ss : List ServiceDescriptorProto) → All ServiceNames (services_from scope number place ss)
services_placed scope number place [] = All-nil ServiceNames
services_placed scope number place (s ∷ ss) =
    let row = service_at scope number place s in
    All-cons ServiceNames row (services_from scope number (place + 1) ss)
    (record { scope = scope.name; full = refl; methods = names_joined method_name (record scope { name = row.definition.full_name; path = row.definition.path }) 2 0 s.method.items })
    (services_placed scope number (place + 1) ss)

-- FILES

files_messages : (files : List FileDescriptorProto) (file before : ℕ) → All MessageNames (files_from files file before).messages
files_messages [] file before = All-nil MessageNames
files_messages (f ∷ fs) file before =
    let first = file_at f file before in
    All-append MessageNames first.messages (files_from fs (file + 1) (before + length first.messages)).messages (all_placed (map message_at f.message_type.items) (listed_placed f.message_type.items) (file_scope f file) 4 0 before)
    (files_messages fs (file + 1) (before + length first.messages))

files_services : (files : List FileDescriptorProto) (file before : ℕ) → All ServiceNames (files_from files file before).services
files_services [] file before = All-nil ServiceNames
files_services (f ∷ fs) file before =
    let first = file_at f file before in
    All-append ServiceNames first.services (files_from fs (file + 1) (before + length first.messages)).services (services_placed (file_scope f file) 6 0 f.service.items)
    (files_services fs (file + 1) (before + length first.messages))

pub message_names_placed : (files : List FileDescriptorProto) → All MessageNames (flattened files).messages
message_names_placed files = files_messages files 0 0

pub service_names_placed : (files : List FileDescriptorProto) → All ServiceNames (flattened files).services
service_names_placed files = files_services files 0 0
