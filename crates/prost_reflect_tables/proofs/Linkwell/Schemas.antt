-- The schema of files that pass the checks is one of a checked pool.
use Rattle.std.specs.Prelude.{◌≡◌, ◌+◌, ◌<◌, ◌≤◌, ◌^◌, ◌&&◌, ◌∷◌}
use Rattle.prost_reflect_tables.proofs.Common.{ℕ, ℤ, pos, negsuc, Bool, true, false, cond, not, List, [], map, Option, Some, None, refl, ap, ◌∙◌, arith, slice_get, nat_eq, nat_lt, list_any, list_all, and_from, and_parts, or_from, ltb-true, ne_eqb, eqb-true, list_all-map, Field, MessageType, Schema, kind_valid, field_valid, numbers_differ, schema_valid, FieldDescriptorProto, FileDescriptorProto, Cardinality, Optional, Required, Repeated, TableKind, FieldRow, MessageRow, TableRows, ascending_from, schema_kind, entry_or_none, entry_at, map_entry, schema_field, schema_message, schema_from, DefinitionRow, FlatMessageRow, FlatEnumRow, FlatRows, is_code, is_member, is_entry, is_of_entry, links_of, linked_kind, linked_field, linked_rows, in_order, fields_of_message}
use Rattle.prost_reflect_tables.specs.declared.tables.TableKind.TheVariants as kinds
use Rattle.prost_reflect_tables.specs.Faults as faults
use Rattle.prost_reflect_tables.proofs.Linkwell.Items.{messages_all}
use Rattle.prost_reflect_tables.proofs.Linkwell.Premises.{Sound, FieldChecked, EnumChecked, field_checked, extension_checked, message_checked, enum_checked}
use Rattle.prost_reflect_tables.proofs.Linkwell.Kinds.{FieldKind, NamesMessage, NamesEnum, IsScalar, is_scalar, field_kind}
use Rattle.prost_reflect_tables.proofs.Linkwell.Shapes.{RowSound, plain_valid, map_valid}
use Rattle.prost_reflect_tables.proofs.Linkwell.Fields.{repeated_shown, is_repeated_label, row_sound, kind_row, entry_shown, linked_at, linked_there, entry_is_of, TypeValid, message_type_valid, enum_type_valid, scalar_type_valid}
use Rattle.prost_reflect_tables.proofs.Linkwell.Messages.{fields_all, NumbersSound, numbers_ascend}
use Rattle.prost_reflect_tables.proofs.Linkwell.Entries.{EntryFields, entry_fields, entry_sound, group_row}
use Rattle.prost_reflect_tables.proofs.CatalogLinks.{fields_shown}

-- MAPS

no_map : (messages : List MessageRow) (f : FieldRow) (c : Cardinality) → entry_at messages f.kind ≡ None → map_entry messages f c ≡ None
no_map messages f Optional e = refl
no_map messages f Required e = refl
no_map messages f Repeated e = go f.is_group
  where
    go : (g : Bool) → cond g None (entry_at messages f.kind) ≡ None
    go true = refl
    go false = e

map_there : (messages : List MessageRow) (f : FieldRow) (entry : MessageRow) → f.cardinality ≡ Repeated → f.is_group ≡ false → entry_at messages f.kind ≡ Some entry → map_entry messages f f.cardinality ≡ Some entry
map_there messages f entry label group there = ap (map_entry messages f) label ∙ rw group there

-- The entry that a kind names.
entry_found : (rows : FlatRows) (T : ℕ) (m : FlatMessageRow) → slice_get rows.messages T ≡ Some m → is_entry m ≡ true → entry_at (linked_rows rows).messages (kinds.Message T) ≡ Some (linked_at rows T m)
entry_found rows T m at is = ap entry_or_none (linked_there rows T m at) ∙ rw (entry_shown (fields_of_message (links_of rows) rows.extensions (0 + T) m) m ∙ is) refl

no_entry_found : (rows : FlatRows) (T : ℕ) (m : FlatMessageRow) → slice_get rows.messages T ≡ Some m → is_entry m ≡ false → entry_at (linked_rows rows).messages (kinds.Message T) ≡ None
no_entry_found rows T m at is = ap entry_or_none (linked_there rows T m at) ∙ rw (entry_shown (fields_of_message (links_of rows) rows.extensions (0 + T) m) m ∙ is) refl

scalar_no_entry : (messages : List MessageRow) (k : TableKind) → is_scalar k ≡ true → entry_at messages k ≡ None
scalar_no_entry messages (kinds.Message T) h = absurd cc
scalar_no_entry messages k h = refl

eleven : (o : Option ℤ) → is_code 11 o ≡ true → is_code 10 o ≡ false
eleven None h = refl
eleven (Some (negsuc n)) h = refl
eleven (Some (pos n)) h = ne_eqb n 10 (λ same. absurd (omega (arith, eqb-true n 11 h)))

-- FIELDS

-- What is known of all files that pass.
abbrev EnumsChecked : FlatRows → Type 0
EnumsChecked rows = (E : ℕ) (e : FlatEnumRow) → slice_get rows.enums E ≡ Some e → EnumChecked e

pub field_shown_valid : {files : List FileDescriptorProto} (rows : FlatRows) (x : Bool) (d : DefinitionRow FieldDescriptorProto) → Sound files rows → FieldChecked rows d → (x ≡ true → is_member d ≡ false) →
    field_valid (schema_from (linked_rows rows)) (schema_field (linked_rows rows) (linked_field (links_of rows) x d)) ≡ true
field_shown_valid {files} rows x d s h alone = by_kind kind
  where
    enums : EnumsChecked rows
    enums E e at = enum_checked rows E e s at

    kind : FieldKind rows d
    kind = field_kind rows d h.type_there h.type_found

    sound : RowSound (schema_from (linked_rows rows)) (linked_rows rows) (linked_field (links_of rows) x d)
    sound = row_sound (schema_from (linked_rows rows)) rows x d h kind alone enums

    plain : TypeValid rows (linked_field (links_of rows) x d).is_group (linked_kind (links_of rows) d.proto) → entry_at (linked_rows rows).messages (linked_kind (links_of rows) d.proto) ≡ None → field_valid (schema_from (linked_rows rows)) (schema_field (linked_rows rows) (linked_field (links_of rows) x d)) ≡ true
    plain valid no_entry =
        let f = linked_field (links_of rows) x d in
        plain_valid (schema_from (linked_rows rows)) (linked_rows rows) f sound
        (ap (λ (k : TableKind). kind_valid (schema_from (linked_rows rows)) (schema_kind (linked_rows rows).enums k f.is_group)) (kind_row (links_of rows) x d) ∙ valid)
        (no_map (linked_rows rows).messages f f.cardinality (ap (entry_at (linked_rows rows).messages) (kind_row (links_of rows) x d) ∙ no_entry))

    as_map : (T : ℕ) (m : FlatMessageRow) → linked_kind (links_of rows) d.proto ≡ kinds.Message T → slice_get rows.messages T ≡ Some m → is_of_entry rows d ≡ true → is_entry m ≡ true → field_valid (schema_from (linked_rows rows)) (schema_field (linked_rows rows) (linked_field (links_of rows) x d)) ≡ true
    as_map T m is at of_entry entry =
        let f = linked_field (links_of rows) x d in
        let right = right_entry (is_of_entry rows d) (faults.has_repeated_label d) (is_code 11 d.proto.type_) h.entry of_entry in
        let label : f.cardinality ≡ Repeated = is_repeated_label f.cardinality (repeated_shown (links_of rows) x d ∙ right.0) in
        let e : EntryFields rows T m = entry_fields rows T m at (message_checked rows T m s at).entry entry (λ i d there. (extension_checked rows i d s there).inside) in
        let key = field_checked rows T e.key_place m e.key s at e.key_at in
        let value = field_checked rows T e.value_place m e.value s at e.value_at in
        map_valid (schema_from (linked_rows rows)) (linked_rows rows) f (linked_at rows T m) (linked_field (links_of rows) false e.key) (linked_field (links_of rows) false e.value) sound label
        (map_there (linked_rows rows).messages f (linked_at rows T m) label (group_row (links_of rows) x d (eleven d.proto.type_ right.1)) (ap (entry_at (linked_rows rows).messages) (kind_row (links_of rows) x d ∙ is) ∙ entry_found rows T m at entry))
        (fields_shown (fields_of_message (links_of rows) rows.extensions (0 + T) m) m ∙ e.shown)
        (entry_sound rows T m e key value (field_kind rows e.key key.type_there key.type_found) (field_kind rows e.value value.type_there value.type_found) enums)
      where
        right_entry : (a b c : Bool) → (a && not (b && c)) ≡ false → a ≡ true → (b ≡ true) × (c ≡ true)
        right_entry true true true h is = (refl, refl)
        right_entry _ _ _ h is = absurd cc

    by_entry : (T : ℕ) (m : FlatMessageRow) → linked_kind (links_of rows) d.proto ≡ kinds.Message T → slice_get rows.messages T ≡ Some m → is_of_entry rows d ≡ is_entry m → (b : Bool) → is_entry m ≡ b → field_valid (schema_from (linked_rows rows)) (schema_field (linked_rows rows) (linked_field (links_of rows) x d)) ≡ true
    by_entry T m is at same true entry = as_map T m is at (same ∙ entry) entry
    by_entry T m is at same false entry = plain (message_type_valid rows (linked_kind (links_of rows) d.proto) (linked_field (links_of rows) x d).is_group T m is at entry) (ap (entry_at (linked_rows rows).messages) is ∙ no_entry_found rows T m at entry)

    by_kind : FieldKind rows d → field_valid (schema_from (linked_rows rows)) (schema_field (linked_rows rows) (linked_field (links_of rows) x d)) ≡ true
    by_kind (NamesMessage T m is at named message) = by_entry T m is at (entry_is_of rows d m named message) (is_entry m) refl
    by_kind (NamesEnum E e is at) = plain (enum_type_valid rows (linked_kind (links_of rows) d.proto) (linked_field (links_of rows) x d).is_group E e is at (enums E e at)) (ap (entry_at (linked_rows rows).messages) is)
    by_kind (IsScalar is) = plain (scalar_type_valid rows (linked_kind (links_of rows) d.proto) (linked_field (links_of rows) x d).is_group is) (scalar_no_entry (linked_rows rows).messages (linked_kind (links_of rows) d.proto) is)

-- MESSAGES

not_below : (rows : TableRows) (k low : ℕ) (fields : List FieldRow) → k ≤ low → ascending_from low fields ≡ true → list_any (λ (g : Field). nat_eq g.number k) (map (schema_field rows) fields) ≡ false
not_below rows k low [] le h = refl
not_below rows k low (f ∷ fields) le h =
    let parts = and_parts (nat_lt low f.number && nat_lt f.number (2 ^ 29)) (ascending_from f.number fields) h in
    let above : low < f.number = ltb-true low f.number (and_parts (nat_lt low f.number) (nat_lt f.number (2 ^ 29)) parts.0).0 in
    or_from (nat_eq f.number k) (list_any (λ (g : Field). nat_eq g.number k) (map (schema_field rows) fields)) (ne_eqb f.number k (λ same. absurd (omega arith))) (not_below rows k f.number fields (omega arith) parts.1)

numbers_shown : (rows : TableRows) (low : ℕ) (fields : List FieldRow) → ascending_from low fields ≡ true → numbers_differ (map (schema_field rows) fields) ≡ true
numbers_shown rows low [] h = refl
numbers_shown rows low (f ∷ fields) h =
    let parts = and_parts (nat_lt low f.number && nat_lt f.number (2 ^ 29)) (ascending_from f.number fields) h in
    and_from (not (list_any (λ (g : Field). nat_eq g.number f.number) (map (schema_field rows) fields))) (numbers_differ (map (schema_field rows) fields))
    (ap not (not_below rows f.number f.number fields (omega arith) parts.1)) (numbers_shown rows f.number fields parts.1)

abbrev type_test : Schema → MessageType → Bool
type_test schema m = numbers_differ m.known && list_all (field_valid schema) m.known

fields_valid : {files : List FileDescriptorProto} (rows : FlatRows) (T : ℕ) (m : FlatMessageRow) → Sound files rows → slice_get rows.messages T ≡ Some m →
    list_all (field_valid (schema_from (linked_rows rows))) (map (schema_field (linked_rows rows)) (in_order (fields_of_message (links_of rows) rows.extensions (0 + T) m))) ≡ true
fields_valid rows T m s at =
    list_all-map (field_valid (schema_from (linked_rows rows))) (schema_field (linked_rows rows)) (in_order (fields_of_message (links_of rows) rows.extensions (0 + T) m))
    ∙ fields_all (λ (f : FieldRow). field_valid (schema_from (linked_rows rows)) (schema_field (linked_rows rows) f)) (links_of rows) rows.extensions (0 + T) m
    (λ i d there. field_shown_valid rows false d s (field_checked rows T i m d s at there) (λ no. absurd cc))
    (λ i d there is. let e = extension_checked rows i d s there in field_shown_valid rows true d s e.field (λ yes. e.alone))

message_valid : {files : List FileDescriptorProto} (rows : FlatRows) (T : ℕ) (m : FlatMessageRow) → Sound files rows → NumbersSound rows → slice_get rows.messages T ≡ Some m →
    type_test (schema_from (linked_rows rows)) (schema_message (linked_rows rows) (linked_at rows T m)) ≡ true
message_valid rows T m s numbers at =
    ap (λ (fields : List FieldRow). numbers_differ (map (schema_field (linked_rows rows)) fields) && list_all (field_valid (schema_from (linked_rows rows))) (map (schema_field (linked_rows rows)) fields)) (fields_shown (fields_of_message (links_of rows) rows.extensions (0 + T) m) m)
    ∙ and_from (numbers_differ (map (schema_field (linked_rows rows)) (in_order (fields_of_message (links_of rows) rows.extensions (0 + T) m)))) _
    (numbers_shown (linked_rows rows) 0 (in_order (fields_of_message (links_of rows) rows.extensions (0 + T) m)) (numbers_ascend rows T m numbers at)) (fields_valid rows T m s at)

schema_is : (r : TableRows) → schema_from r ≡ map (schema_message r) r.messages
unfolding schema_from
schema_is r = refl

pub schema_shown_valid : {files : List FileDescriptorProto} (rows : FlatRows) → Sound files rows → NumbersSound rows → schema_valid (schema_from (linked_rows rows)) ≡ true
schema_shown_valid rows s numbers =
    ap (list_all (type_test (schema_from (linked_rows rows)))) (schema_is (linked_rows rows))
    ∙ (list_all-map (type_test (schema_from (linked_rows rows))) (schema_message (linked_rows rows)) (linked_rows rows).messages
    ∙ messages_all (λ (m : MessageRow). type_test (schema_from (linked_rows rows)) (schema_message (linked_rows rows) m)) (links_of rows) rows.extensions 0 rows.messages (λ T m at. message_valid rows T m s numbers at))
