-- The row of a oneof has the place of each of its members.
use Rattle.std.specs.Prelude.{◌≡◌, ◌+◌, ◌<◌, ◌≤◌, ◌&&◌, ◌||◌, ◌∷◌}
use Rattle.prost_reflect_fields.proofs.Common.{ℕ, zero, suc, Bool, true, false, cond, not, nat_eq, List, [], length, map, filter, Option, Some, None, refl, sym, ap, subst, ◌∙◌, arith, true≢false, slice_get, nat_lt, option_map, All, list_any, list_all, eq-eqb, eqb-true, ltb-true, and_parts, slice_get-map, same_Some, MessageType, Schema, known, same_oneof, field_valid, numbers_differ, FieldRow, OneofRow, MessageRow, TableRows, fields_of, pool_rows, files_of, PooledType, HasMembers}
use Rattle.std.proofs.lemmas.List.Elements.{All-nil, All-cons, All-append, All-weaker}
use Rattle.prost_reflect_types.specs.declared.FieldDescriptorProto.{FieldDescriptorProto}
use Rattle.prost_reflect_types.specs.declared.FileDescriptorProto.{FileDescriptorProto}
use Rattle.prost_reflect_types.specs.declared.OneofDescriptorProto.{OneofDescriptorProto}
use Rattle.prost_reflect_tables.specs.Places.{fields_at, fields_or_none}
use Rattle.prost_reflect_tables.specs.Linked.{is_linked, ascending_from, message_linked, field_linked, oneof_in_range}
use Rattle.prost_reflect_tables.specs.Shown.{schema_from, schema_field}
use Rattle.prost_reflect_tables.specs.Flat.{DefinitionRow, FlatMessageRow, flattened}
use Rattle.prost_reflect_tables.specs.Linking.{Links, links_of, is_place, belonging, extended_place, linked_field, declared_fields, fields_of_message, linked_message, messages_from, in_order, oneof_place, member_place, oneofs_from, linked_rows}
use Rattle.prost_reflect_tables.specs.Built.{AreTablesOf}
use Rattle.prost_reflect_tables.proofs.Built.{linked_of}
use Rattle.prost_reflect_tables.proofs.CatalogRanges.{in_order_all, holds_at}
use Rattle.prost_reflect_tables.proofs.DeclaredFields.{smaller_before}
use Rattle.prost_reflect_tables.proofs.Fields.{known_rows}
use Rattle.prost_reflect_tables.proofs.Keeping.{passes_at, fields_ascend, schema_is_valid}

-- MEMBERS AND THEIR PLACES

abbrev smaller : List FieldRow → ℕ → ℕ
smaller fields n = length (filter (λ (g : FieldRow). nat_lt g.number n) fields)

-- A field that is a member of the oneof stands, by its number, at one of these places.
abbrev Listed : List FieldRow → ℕ → List ℕ → FieldRow → Type 0
Listed fields o places f = f.is_extension ≡ false → f.oneof ≡ Some o → list_any (nat_eq (smaller fields f.number)) places ≡ true

abbrev places_in : List FieldRow → ℕ → List (DefinitionRow FieldDescriptorProto) → List ℕ
places_in fields o ds = map (member_place fields) (belonging oneof_place ds o)

or_more : (a b : Bool) → b ≡ true → (a || b) ≡ true
or_more true b h = refl
or_more false b h = h

place_listed : (links : Links) (fields : List FieldRow) (o : ℕ) (d : DefinitionRow FieldDescriptorProto) (ds : List (DefinitionRow FieldDescriptorProto)) → Listed fields o (places_in fields o (d ∷ ds)) (linked_field links false d)
unfolding linked_field
place_listed links fields o d ds own is =
    let here : is_place o (oneof_place d) ≡ true = ap (is_place o) is ∙ eq-eqb o o refl in
    rw here (ap (λ b. b || list_any (nat_eq (member_place fields d)) (places_in fields o ds)) (eq-eqb (member_place fields d) (member_place fields d) refl))

more_places : (fields : List FieldRow) (o : ℕ) (d : DefinitionRow FieldDescriptorProto) (ds : List (DefinitionRow FieldDescriptorProto)) (f : FieldRow) → Listed fields o (places_in fields o ds) f → Listed fields o (places_in fields o (d ∷ ds)) f
more_places fields o d ds f h own is = go (is_place o (oneof_place d)) (h own is)
  where
    go : (b : Bool) → list_any (nat_eq (smaller fields f.number)) (places_in fields o ds) ≡ true → list_any (nat_eq (smaller fields f.number)) (map (member_place fields) (cond b (d ∷ belonging oneof_place ds o) (belonging oneof_place ds o))) ≡ true
    go true more = or_more (nat_eq (smaller fields f.number) (member_place fields d)) _ more
    go false more = more

declared_listed : (links : Links) (fields : List FieldRow) (o : ℕ) (ds : List (DefinitionRow FieldDescriptorProto)) → All (Listed fields o (places_in fields o ds)) (declared_fields links ds)
declared_listed links fields o [] = All-nil (Listed fields o [])
declared_listed links fields o (d ∷ ds) =
    All-cons (Listed fields o (places_in fields o (d ∷ ds))) (linked_field links false d) (declared_fields links ds) (place_listed links fields o d ds)
    (All-weaker (Listed fields o (places_in fields o ds)) (Listed fields o (places_in fields o (d ∷ ds))) (more_places fields o d ds) (declared_fields links ds) (declared_listed links fields o ds))

extension_listed : (links : Links) (fields : List FieldRow) (o : ℕ) (places : List ℕ) (d : DefinitionRow FieldDescriptorProto) → Listed fields o places (linked_field links true d)
unfolding linked_field
extension_listed links fields o places d own is = absurd (true≢false own)

extensions_listed : (links : Links) (fields : List FieldRow) (o : ℕ) (places : List ℕ) (ds : List (DefinitionRow FieldDescriptorProto)) → All (Listed fields o places) (map (linked_field links true) ds)
extensions_listed links fields o places [] = All-nil (Listed fields o places)
extensions_listed links fields o places (d ∷ ds) = All-cons (Listed fields o places) (linked_field links true d) (map (linked_field links true) ds) (extension_listed links fields o places d) (extensions_listed links fields o places ds)

oneof_at : (fields : List FieldRow) (ds : List (DefinitionRow FieldDescriptorProto)) (first i : ℕ) (os : List (DefinitionRow OneofDescriptorProto)) (r : OneofRow) → slice_get (oneofs_from fields ds first os) i ≡ Some r → r.fields ≡ places_in fields (first + i) ds
oneof_at fields ds first i [] r at = absurd cc
oneof_at fields ds first zero (x ∷ os) r at =
    let here : first ≡ first + 0 = omega arith in
    ap (λ (q : OneofRow). q.fields) (sym (same_Some _ r at)) ∙ ap (λ (o : ℕ). places_in fields o ds) here
oneof_at fields ds first (suc i) (x ∷ os) r at =
    let next : (first + 1) + i ≡ first + suc i = omega arith in
    oneof_at fields ds (first + 1) i os r at ∙ ap (λ (o : ℕ). places_in fields o ds) next

-- A member that is no extension stands at one of the places of its oneof's row.
abbrev MembersListed : MessageRow → Type 0
MembersListed m = (o i : ℕ) (r : OneofRow) (f : FieldRow) → slice_get m.oneofs o ≡ Some r → slice_get m.fields i ≡ Some f → f.is_extension ≡ false → f.oneof ≡ Some o → list_any (nat_eq i) r.fields ≡ true

message_listed : (links : Links) (extensions : List (DefinitionRow FieldDescriptorProto)) (T : ℕ) (m : FlatMessageRow) → ascending_from 0 (linked_message (fields_of_message links extensions T m) m).fields ≡ true → MembersListed (linked_message (fields_of_message links extensions T m) m)
unfolding linked_message
message_listed links extensions T m ascends o i r f at there own is =
    let all = fields_of_message links extensions T m in
    let fields = in_order all in
    let places = places_in fields o m.fields in
    let each : All (Listed fields o places) fields = in_order_all (Listed fields o places) all
    (All-append (Listed fields o places) (declared_fields links m.fields) (map (linked_field links true) (belonging (extended_place links) extensions T)) (declared_listed links fields o m.fields) (extensions_listed links fields o places (belonging (extended_place links) extensions T))) in
    let found : list_any (nat_eq (smaller fields f.number)) places ≡ true = holds_at (Listed fields o places) fields i f each there own is in
    let here : 0 + o ≡ o = omega arith in
    ap (list_any (nat_eq i)) (oneof_at fields m.fields 0 o m.oneofs r at ∙ ap (λ (q : ℕ). places_in fields q m.fields) here) ∙ (ap (λ (j : ℕ). list_any (nat_eq j) places) (sym (smaller_before 0 f.number fields i f ascends there refl)) ∙ found)

messages_listed : (links : Links) (extensions : List (DefinitionRow FieldDescriptorProto)) (first i : ℕ) (ms : List FlatMessageRow) (m : MessageRow) → slice_get (messages_from links extensions first ms) i ≡ Some m → ascending_from 0 m.fields ≡ true → MembersListed m
messages_listed links extensions first i [] m at ascends = absurd cc
messages_listed links extensions first zero (x ∷ ms) m at ascends =
    let row = linked_message (fields_of_message links extensions first x) x in
    let same : row ≡ m = same_Some row m at in
    subst MembersListed same (message_listed links extensions first x (ap (λ (q : MessageRow). ascending_from 0 q.fields) same ∙ ascends))
messages_listed links extensions first (suc i) (x ∷ ms) m at ascends = messages_listed links extensions (first + 1) i ms m at ascends

files_listed : (files : List FileDescriptorProto) (rows : TableRows) (T : ℕ) (m : MessageRow) → AreTablesOf files rows → is_linked rows ≡ true → slice_get rows.messages T ≡ Some m → MembersListed m
files_listed files rows T m built linked at =
    let flat = flattened files in
    let shown : slice_get (linked_rows flat).messages T ≡ Some m = ap (λ (r : TableRows). slice_get r.messages T) (sym (linked_of files rows built)) ∙ at in
    messages_listed (links_of flat) flat.extensions 0 T flat.messages m shown (ap (λ (o : Option MessageRow). ascending_from 0 (fields_or_none o)) (sym at) ∙ fields_ascend rows T linked)

-- NO EXTENSION IS A MEMBER

valid_in : (schema types : Schema) (T : ℕ) → list_all (λ (m : MessageType). numbers_differ m.known && list_all (field_valid schema) m.known) types ≡ true → list_all (field_valid schema) (known types T) ≡ true
valid_in schema [] T h = refl
valid_in schema (m ∷ types) zero h = (and_parts (numbers_differ m.known) (list_all (field_valid schema) m.known) (and_parts (numbers_differ m.known && list_all (field_valid schema) m.known) _ h).0).1
valid_in schema (m ∷ types) (suc T) h = valid_in schema types T (and_parts (numbers_differ m.known && list_all (field_valid schema) m.known) _ h).1

no_extension : (q : Option ℕ) (o : ℕ) (presence is_extension : Bool) → q ≡ Some o → (elim q [ None ↦ true | Some o ↦ presence && not is_extension ]) ≡ true → is_extension ≡ false
no_extension None o presence is_extension is h = absurd cc
no_extension (Some i) o presence true is h = absurd (true≢false (sym (and_parts presence false h).1))
no_extension (Some i) o presence false is h = refl

member_own : (rows : TableRows) (T i o : ℕ) (f : FieldRow) → is_linked rows ≡ true → slice_get (fields_at rows T) i ≡ Some f → f.oneof ≡ Some o → f.is_extension ≡ false
member_own rows T i o f linked at is =
    let schema = schema_from rows in
    let all : list_all (field_valid schema) (map (schema_field rows) (fields_at rows T)) ≡ true = ap (list_all (field_valid schema)) (sym (known_rows rows T)) ∙ valid_in schema schema T (schema_is_valid rows linked) in
    let valid : field_valid schema (schema_field rows f) ≡ true = passes_at (field_valid schema) (map (schema_field rows) (fields_at rows T)) i (schema_field rows f) all (slice_get-map (schema_field rows) (fields_at rows T) i ∙ ap (option_map (schema_field rows)) at) in
    no_extension f.oneof o (schema_field rows f).value_type.presence f.is_extension is (and_parts _ _ valid).1

-- THE ROW OF A ONEOF

pub is_same : (a : Option ℕ) (o : ℕ) → same_oneof a (Some o) ≡ true → a ≡ Some o
is_same None o h = absurd (true≢false (sym h))
is_same (Some i) o h = ap Some (eqb-true i o h)

fields_are : (d : PooledType) (m : MessageRow) → slice_get (pool_rows d.pool).messages d.index ≡ Some m → fields_of d ≡ m.fields
fields_are d m at = ap fields_or_none at

pub members_listed : (d : PooledType) (m : MessageRow) (o : ℕ) (r : OneofRow) → slice_get (pool_rows d.pool).messages d.index ≡ Some m → slice_get m.oneofs o ≡ Some r → HasMembers (fields_of d) (Some o) r.fields
members_listed d m o r at there i f found same =
    let rows = pool_rows d.pool in
    let linked = d.pool.value.tables.linked in
    let is = is_same f.oneof o same in
    files_listed (files_of d.pool) rows d.index m d.pool.value.built linked at o i r f there (ap (λ (fs : List FieldRow). slice_get fs i) (sym (fields_are d m at)) ∙ found) (member_own rows d.index i o f linked found is) is

-- There is a row for the oneof of each field.
pub none_listed : (d : PooledType) (m : MessageRow) (o : ℕ) → slice_get (pool_rows d.pool).messages d.index ≡ Some m → length m.oneofs ≤ o → HasMembers (fields_of d) (Some o) []
none_listed d m o at past i f found same =
    let rows = pool_rows d.pool in
    let keeps = passes_at (message_linked (length rows.messages) (length rows.enums)) rows.messages d.index m (and_parts _ _ (and_parts _ _ d.pool.value.tables.linked).0).0 at in
    let within = passes_at (field_linked (length rows.messages) (length rows.enums) (length m.oneofs)) m.fields i f (and_parts _ _ (and_parts _ _ (and_parts _ _ keeps).0).0).1 (ap (λ (fs : List FieldRow). slice_get fs i) (sym (fields_are d m at)) ∙ found) in
    let there : o < length m.oneofs = ltb-true o (length m.oneofs) (ap (oneof_in_range (length m.oneofs)) (sym (is_same f.oneof o same)) ∙ (and_parts _ _ within).1) in
    absurd (omega arith)
