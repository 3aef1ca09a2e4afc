-- The built-in files, linked.
use Rattle.std.specs.Prelude.{◌≡◌, ◌+◌, ◌||◌, ◌&&◌, ◌∷◌, ◌++◌}
use Rattle.prost_reflect_building.proofs.Common.{ℕ, pos, Bool, true, false, not, nat_eq, length, List, [], map, Option, Some, None, Vec, refl, sym, ap, ap₂, ◌∙◌, subst, unwrap_or, bytes_eq, codes, list_any, Global, FileDescriptorProto, FieldDescriptorProto, DescriptorProto, out-DescriptorProto, IdentityRow, FieldRow, MessageRow, text_or_empty, joined, ScopeRow, DefinitionRow, FlatMessageRow, FlatRows, Given, Placed, all_from, inside, own_message, enums_from, services_from, defined, defined_from, field_name, oneof_name, message_step, message_at, is_proto3, file_scope, file_at, behind, files_from, flattened, Links, links_of, kind_of_code, is_message, is_group_code, place_or_first, linked_identity, linked_field, in_order, declared_fields, oneofs_from, linked_message, linked_rows, is_named, is_there, added, taken, none_added, linked_of, IsPoolOf, pool_rows, files_of, LinkedPool, field_view, scalar_view, scalar_names, IsScalarMessage, IsScalarFile, AreBuiltin}
use Rattle.prost_reflect_types.specs.declared.OneofDescriptorProto.{OneofDescriptorProto}
use Rattle.prost_reflect_types.specs.declared.EnumDescriptorProto.{EnumDescriptorProto}
use Rattle.prost_reflect_types.specs.declared.ServiceDescriptorProto.{ServiceDescriptorProto}
use Rattle.prost_reflect_types.specs.declared.DescriptorProto.TheFolds.{fold_out-DescriptorProto}
use Rattle.prost_reflect_tables.specs.declared.tables.Cardinality.TheVariants.{Optional}
use Rattle.prost_reflect_tables.specs.Options.{bool_option}
use Rattle.prost_reflect_building.specs.BuiltinRows.{message_id, scalar_rows, scalar_message_row, builtin_messages, builtin_rows}
use Rattle.prost_reflect_building.proofs.BuiltinFields.{is_scalar}

-- FIELDS

-- Where the field of a place in the list of a scope stands.
abbrev id_in : ScopeRow → ℕ → List ℕ → IdentityRow
id_in scope i name = record { file = scope.file; parent = scope.parent; path = scope.path ++ pos 2 ∷ pos i ∷ []; full_name = joined scope.name name; name = name }

-- The row of a field of such a view, by what would be the first message and the first enum.
abbrev row : (a b : ℕ) → ScopeRow → ℕ → ℕ × List ℕ → FieldRow
row a b scope i x = record {
  id = id_in scope i x.1;
  json_name = x.1;
  number = x.0;
  is_extension = false;
  kind = kind_of_code a b x.0;
  is_group = is_group_code x.0;
  cardinality = Optional;
  is_packed = false;
  supports_presence = not scope.is_proto3 || false || is_message (kind_of_code a b x.0) || false || false;
  default = None;
  oneof = None;
}

-- Those of a list, whose first one is at the place.
abbrev rows_in : (a b : ℕ) → ScopeRow → ℕ → List (ℕ × List ℕ) → List FieldRow
rows_in a b scope i [] = []
rows_in a b scope i (x ∷ xs) = row a b scope i x ∷ rows_in a b scope (i + 1) xs

field_linked : (links : Links) (scope : ScopeRow) (i : ℕ) (f : FieldDescriptorProto) (x : ℕ × List ℕ) → field_view f ≡ scalar_view (pos x.0) x.1 →
    linked_field links false (defined scope 2 i f.name f) ≡ row (place_or_first links.messages None) (place_or_first links.enums None) scope i x
unfolding linked_field
field_linked links scope i f x e =
    let is = is_scalar f x e in
    let json = is.no_json_name in
    let number = is.number in
    let label = is.label in
    let type_ = is.type_ in
    let named = is.named in
    let type_name = is.no_type_name in
    let default = is.no_default in
    let oneof = is.no_oneof in
    let marked = is.unmarked in
    rw (json, number, label, type_, named, type_name, default, oneof, marked) refl

fields_linked : (links : Links) (scope : ScopeRow) (i : ℕ) (fs : List FieldDescriptorProto) (xs : List (ℕ × List ℕ)) → map field_view fs ≡ map (λ (x : ℕ × List ℕ). scalar_view (pos x.0) x.1) xs →
    declared_fields links (defined_from field_name scope 2 i fs) ≡ rows_in (place_or_first links.messages None) (place_or_first links.enums None) scope i xs
fields_linked links scope i [] [] e = refl
fields_linked links scope i [] (x ∷ xs) e = cc
fields_linked links scope i (f ∷ fs) [] e = cc
fields_linked links scope i (f ∷ fs) (x ∷ xs) e =
    let head : field_view f ≡ scalar_view (pos x.0) x.1 = cc in
    let tail : map field_view fs ≡ map (λ (x : ℕ × List ℕ). scalar_view (pos x.0) x.1) xs = cc in
    ap₂ (λ (r : FieldRow) (rs : List FieldRow). r ∷ rs) (field_linked links scope i f x head) (fields_linked links scope (i + 1) fs xs tail)

-- The scope in the message type of a name, alone in the file of a place.
abbrev scope_in : ℕ → List ℕ → Bool → ScopeRow
scope_in file name is_proto3 = record { name = joined (codes "builtin") name; path = pos 4 ∷ pos 0 ∷ []; file = file; is_proto3 = is_proto3; parent = Some file }

rows_sorted : (a b n : ℕ) (name : List ℕ) (p : Bool) → in_order (rows_in a b (scope_in n name p) 0 scalar_names ++ []) ≡ scalar_rows (message_id n name) (not p)
unfolding scalar_names
rows_sorted a b n name true = refl
rows_sorted a b n name false = refl

-- MESSAGES

-- What a message gives that has these definitions inside.
abbrev shape : FlatMessageRow → List DescriptorProto → List EnumDescriptorProto → List FieldDescriptorProto → ScopeRow → ℕ → Given
shape o ms es xs within n = let nested = all_from (map message_at ms) within 3 0 (n + 1) in record {
  messages = o ∷ nested.messages;
  enums = nested.enums ++ enums_from within 4 0 es;
  extensions = nested.extensions ++ defined_from field_name within 6 0 xs;
}

abbrev pub own : DescriptorProto → ScopeRow → ℕ → FlatMessageRow
own m scope n = own_message (out-DescriptorProto m) scope 4 0 n

abbrev alone : FlatMessageRow → Given
alone o = record { messages = o ∷ []; enums = []; extensions = [] }

message_given : (name : List ℕ) (m : DescriptorProto) (scope : ScopeRow) (n : ℕ) → IsScalarMessage name m → message_at m scope 4 0 n ≡ alone (own m scope n)
unfolding message_at
message_given name m scope n is =
    let o = own m scope n in
    let within = inside o.definition n in
    ap (λ (f : Placed). f scope 4 0 n) (fold_out-DescriptorProto Placed message_step m)
    ∙ (ap (λ ms. shape o ms (out-DescriptorProto m).enum_type.items (out-DescriptorProto m).extension.items within n) is.no_messages
    ∙ (ap (λ es. shape o [] es (out-DescriptorProto m).extension.items within n) is.no_enums
    ∙ ap (λ xs. shape o [] [] xs within n) is.no_extensions))

abbrev linked_shape : IdentityRow → Option (Vec ℕ Global) → List FieldRow → List (DefinitionRow FieldDescriptorProto) → List (DefinitionRow OneofDescriptorProto) → MessageRow
linked_shape id options all fields oneofs = record {
  id = id;
  is_map_entry = unwrap_or (bool_option 7 options) false;
  fields = in_order all;
  oneofs = oneofs_from (in_order all) fields 0 oneofs;
}

message_linked : (links : Links) (name : List ℕ) (m : DescriptorProto) (f : FileDescriptorProto) (n : ℕ) (p : Bool) → IsScalarMessage name m → text_or_empty f.«package» ≡ codes "builtin" → is_proto3 f ≡ p →
    linked_message (declared_fields links (own m (file_scope f n) n).fields ++ []) (own m (file_scope f n) n) ≡ scalar_message_row n name (not p)
unfolding linked_message
message_linked links name m f n p is within syntax =
    let o = own m (file_scope f n) n in
    let full : o.definition.full_name ≡ joined (codes "builtin") name = ap (λ (s : List ℕ). joined s (text_or_empty (out-DescriptorProto m).name)) within ∙ ap (joined (codes "builtin")) is.named in
    let a = place_or_first links.messages None in
    let b = place_or_first links.enums None in
    let id : linked_identity (out-DescriptorProto m).name o.definition ≡ message_id n name = λ i. record { file = n; parent = None; path = pos 4 ∷ pos 0 ∷ []; full_name = full i; name = is.named i } in
    let scope : inside o.definition n ≡ scope_in n name p = λ i. record { name = full i; path = pos 4 ∷ pos 0 ∷ []; file = n; is_proto3 = syntax i; parent = Some n } in
    let all : declared_fields links o.fields ++ [] ≡ rows_in a b (scope_in n name p) 0 scalar_names ++ [] =
    ap (λ l. l ++ []) (fields_linked links (inside o.definition n) 0 (out-DescriptorProto m).field.items scalar_names is.fields ∙ ap (λ s. rows_in a b s 0 scalar_names) scope) in
    let oneofs : o.oneofs ≡ [] = ap (defined_from oneof_name (inside o.definition n) 8 0) is.no_oneofs in
    ap (λ x. linked_shape x o.definition.proto.options (declared_fields links o.fields ++ []) o.fields o.oneofs) id
    ∙ (ap (λ x. linked_shape (message_id n name) x (declared_fields links o.fields ++ []) o.fields o.oneofs) is.no_options
    ∙ (ap (λ x. linked_shape (message_id n name) None x o.fields o.oneofs) all
    ∙ (ap (λ x. linked_shape (message_id n name) None (rows_in a b (scope_in n name p) 0 scalar_names ++ []) o.fields x) oneofs
    ∙ ap (λ x. record { id = message_id n name; is_map_entry = false; fields = x; oneofs = [] }) (rows_sorted a b n name p))))

-- FILES

abbrev file_shape : ScopeRow → Given → List EnumDescriptorProto → List FieldDescriptorProto → List ServiceDescriptorProto → FlatRows
file_shape scope given es xs ss = record {
  messages = given.messages ++ [];
  enums = (given.enums ++ []) ++ enums_from scope 5 0 es;
  extensions = (given.extensions ++ []) ++ defined_from field_name scope 7 0 xs;
  services = services_from scope 6 0 ss;
}

abbrev one : FlatMessageRow → FlatRows
one o = record { messages = o ∷ []; enums = []; extensions = []; services = [] }

file_given : (name message syntax : List ℕ) (f : FileDescriptorProto) (file n : ℕ) → (is : IsScalarFile name message syntax f) → file_at f file n ≡ one (own is.proto (file_scope f file) n)
file_given name message syntax f file n is =
    let scope = file_scope f file in
    ap (λ ms. let nested = all_from (map message_at ms) scope 4 0 n in record {
      messages = nested.messages;
      enums = nested.enums ++ enums_from scope 5 0 f.enum_type.items;
      extensions = nested.extensions ++ defined_from field_name scope 7 0 f.extension.items;
      services = services_from scope 6 0 f.service.items;
    }) is.messages
    ∙ (ap (λ g. file_shape scope g f.enum_type.items f.extension.items f.service.items) (message_given message is.proto scope n is.is_message)
    ∙ (ap (λ es. file_shape scope (alone (own is.proto scope n)) es f.extension.items f.service.items) is.no_enums
    ∙ (ap (λ xs. file_shape scope (alone (own is.proto scope n)) [] xs f.service.items) is.no_extensions
    ∙ ap (λ ss. file_shape scope (alone (own is.proto scope n)) [] [] ss) is.no_services)))

abbrev pub two : FlatMessageRow → FlatMessageRow → FlatRows
two o q = record { messages = o ∷ q ∷ []; enums = []; extensions = []; services = [] }

-- both are added
pub both_added : (files : List FileDescriptorProto) → AreBuiltin files → added [] files ≡ files
both_added files are =
    let p = are.plain in
    let k = are.kept in
    let new : is_there (p ∷ []) k ≡ false =
    ap (λ (n : List ℕ). list_any (is_named n) (p ∷ [])) are.is_kept.named
    ∙ ap (λ (n : List ℕ). (not (nat_eq (length n) 0) && bytes_eq n (codes "kept.proto")) || false) are.is_plain.named in
    ap (added []) are.both ∙ (taken [] (k ∷ []) p refl ∙ (taken (p ∷ []) [] k new ∙ (none_added (p ∷ k ∷ []) ∙ sym are.both)))

pub both_given : (files : List FileDescriptorProto) (are : AreBuiltin files) → flattened files ≡ two (own are.is_plain.proto (file_scope are.plain 0) 0) (own are.is_kept.proto (file_scope are.kept 1) 1)
both_given files are =
    ap flattened are.both
    ∙ (ap (λ (r : FlatRows). behind r (files_from (are.kept ∷ []) 1 (0 + length r.messages))) (file_given _ _ _ are.plain 0 0 are.is_plain)
    ∙ ap (λ (r : FlatRows). behind (one (own are.is_plain.proto (file_scope are.plain 0) 0)) (behind r (files_from [] 2 (1 + length r.messages)))) (file_given _ _ _ are.kept 1 1 are.is_kept))

pub both_linked : (files : List FileDescriptorProto) → AreBuiltin files → linked_rows (flattened files) ≡ builtin_rows
unfolding builtin_messages
both_linked files are =
    let o = own are.is_plain.proto (file_scope are.plain 0) 0 in
    let q = own are.is_kept.proto (file_scope are.kept 1) 1 in
    let links = links_of (two o q) in
    let plain3 : is_proto3 are.plain ≡ true = ap (λ (s : List ℕ). bytes_eq s (codes "proto3")) are.is_plain.of_syntax in
    let kept2 : is_proto3 are.kept ≡ false = ap (λ (s : List ℕ). bytes_eq s (codes "proto3")) are.is_kept.of_syntax in
    let first = message_linked links (codes "Plain") are.is_plain.proto are.plain 0 true are.is_plain.is_message are.is_plain.in_package plain3 in
    let second = message_linked links (codes "Kept") are.is_kept.proto are.kept 1 false are.is_kept.is_message are.is_kept.in_package kept2 in
    ap linked_rows (both_given files are)
    ∙ ap₂ (λ (a b : MessageRow). record { messages = a ∷ b ∷ []; enums = [] }) first second

-- THE POOL

pub rows_built : (old new : LinkedPool) (files : List FileDescriptorProto) → IsPoolOf [] old → AreBuiltin files → IsPoolOf (added (files_of old) files) new → pool_rows new ≡ builtin_rows
rows_built old new files none are is =
    linked_of _ _ is.built ∙ (ap (λ (fs : List FileDescriptorProto). linked_rows (flattened fs)) (ap (λ (o : List FileDescriptorProto). added o files) none.holds ∙ both_added files are) ∙ both_linked files are)

pub files_built : (old new : LinkedPool) (files : List FileDescriptorProto) → IsPoolOf [] old → AreBuiltin files → IsPoolOf (added (files_of old) files) new → AreBuiltin (files_of new)
files_built old new files none are is =
    subst AreBuiltin (sym (is.holds ∙ (ap (λ (o : List FileDescriptorProto). added o files) none.holds ∙ both_added files are))) are
