-- Which rows show a field of a checked pool's schema.
use Rattle.std.specs.Prelude.{◌≡◌, ◌&&◌, ◌||◌, ◌∷◌}
use Rattle.prost_reflect_tables.proofs.Common.{ℕ, zero, suc, Bool, true, false, not, List, [], map, length, Option, Some, None, is_some, refl, sym, ap, subst, slice_get, length-map, number_valid, Kind, Field, MapFrom, Schema, message_type, kind_valid, default_valid, is_key_kind, has_kind_default, is_group, is_packable_kind, is_bare, message_has_presence, form_valid, oneof_valid, field_valid, Cardinality, Optional, Required, Repeated, FieldRow, MessageRow, TableRows, is_repeated, schema_kind, schema_default, own_type, map_entry, type_or, value_type_of, form_of, schema_field, schema_message, schema_from}

-- THE TYPE AT A PLACE

type_at : (rows : TableRows) (ms : List MessageRow) (T : ℕ) (m : MessageRow) → slice_get ms T ≡ Some m → message_type (map (schema_message rows) ms) T ≡ schema_message rows m
type_at rows [] T m at = cc
type_at rows (x ∷ ms) zero m at = let same : x ≡ m = cc in ap (schema_message rows) same
type_at rows (x ∷ ms) (suc T) m at = type_at rows ms T m at

pub type_shown : (rows : TableRows) (T : ℕ) (m : MessageRow) → slice_get rows.messages T ≡ Some m → message_type (schema_from rows) T ≡ schema_message rows m
unfolding schema_from
type_shown rows T m at = type_at rows rows.messages T m at

pub types_shown : (rows : TableRows) → length (schema_from rows) ≡ length rows.messages
unfolding schema_from
types_shown rows = length-map rows.messages (schema_message rows)

-- FIELDS

abbrev pub own_kind : TableRows → FieldRow → Kind
own_kind rows f = schema_kind rows.enums f.kind f.is_group

-- What every field keeps.
pub record RowSound (schema : Schema) (rows : TableRows) (f : FieldRow) : Type 0 where
  pub number : number_valid f.number ≡ true
  pub default : default_valid (own_kind rows f) (schema_default f.default (own_kind rows f)) ≡ true
  pub single : is_repeated f.cardinality ≡ false → message_has_presence (own_type rows.enums f) ≡ true
  pub member : is_some f.oneof ≡ true → (is_repeated f.cardinality ≡ false) × (f.supports_presence && not f.is_extension ≡ true)
  pub list : is_repeated f.cardinality ≡ true → (is_bare (own_type rows.enums f) ≡ true) × (not f.is_packed || is_packable_kind (own_kind rows f) ≡ true)

-- The field of a row, where its type is an entry or none.
abbrev field_with : TableRows → FieldRow → Cardinality → Option MessageRow → Field
field_with rows f c entry = record {
  number = f.number;
  is_extension = f.is_extension;
  form = form_of rows.enums f c entry;
  value_type = value_type_of rows.enums f entry;
  oneof = f.oneof;
}

valid_parts : (schema : Schema) (f : Field) → number_valid f.number ≡ true → kind_valid schema f.value_type.kind ≡ true → default_valid f.value_type.kind f.value_type.default ≡ true → form_valid f f.form ≡ true → oneof_valid f ≡ true → field_valid schema f ≡ true
valid_parts schema f number kind default form oneof = rw (number, kind, default, form) oneof

alone : (o : Option ℕ) (rep : Bool) (presence : Bool) → (is_some o ≡ true → (rep ≡ false) × (presence ≡ true)) → rep ≡ true → is_some o ≡ false
alone None rep presence h is = refl
alone (Some o) rep presence h is = let one = (h refl).0 in absurd cc

in_oneof : (o : Option ℕ) (rep : Bool) (presence : Bool) → (is_some o ≡ true → (rep ≡ false) × (presence ≡ true)) → (elim o [ None ↦ true | Some o ↦ presence ]) ≡ true
in_oneof None rep presence h = refl
in_oneof (Some o) rep presence h = (h refl).1

-- A field that is no map.
pub plain_valid : (schema : Schema) (rows : TableRows) (f : FieldRow) → RowSound schema rows f → kind_valid schema (own_kind rows f) ≡ true → map_entry rows.messages f f.cardinality ≡ None → field_valid schema (schema_field rows f) ≡ true
plain_valid schema rows f s kind none = subst (λ (entry : Option MessageRow). field_valid schema (field_with rows f f.cardinality entry) ≡ true) (sym none) (by_label f.cardinality refl)
  where
    oneof : (elim f.oneof [ None ↦ true | Some o ↦ f.supports_presence && not f.is_extension ]) ≡ true
    oneof = in_oneof f.oneof (is_repeated f.cardinality) (f.supports_presence && not f.is_extension) s.member

    by_label : (c : Cardinality) → f.cardinality ≡ c → field_valid schema (field_with rows f c None) ≡ true
    by_label Optional is = valid_parts schema (field_with rows f Optional None) s.number kind s.default (s.single (ap is_repeated is)) oneof
    by_label Required is = valid_parts schema (field_with rows f Required None) s.number kind s.default (s.single (ap is_repeated is)) oneof
    by_label Repeated is =
        let lists = s.list (ap is_repeated is) in
        let none : is_some f.oneof ≡ false = alone f.oneof (is_repeated f.cardinality) (f.supports_presence && not f.is_extension) s.member (ap is_repeated is) in
        valid_parts schema (field_with rows f Repeated None) s.number kind s.default (rw (none, lists.0) lists.1) oneof

-- The key and the value of a map.
pub record EntrySound (schema : Schema) (rows : TableRows) (key value : FieldRow) : Type 0 where
  pub key_kind : is_key_kind (own_kind rows key) ≡ true
  pub key_default : has_kind_default (own_type rows.enums key) ≡ true
  pub value_kind : kind_valid schema (own_kind rows value) ≡ true
  pub value_valid : default_valid (own_kind rows value) (schema_default value.default (own_kind rows value)) ≡ true
  pub value_default : has_kind_default (own_type rows.enums value) ≡ true
  pub value_presence : message_has_presence (own_type rows.enums value) ≡ true
  pub value_no_group : is_group (own_kind rows value) ≡ false

abbrev entry_field : TableRows → FieldRow → List FieldRow → Field
entry_field rows f fs = record {
  number = f.number;
  is_extension = f.is_extension;
  form = MapFrom (type_or rows.enums f (slice_get fs 0));
  value_type = type_or rows.enums f (slice_get fs 1);
  oneof = f.oneof;
}

pub map_valid : (schema : Schema) (rows : TableRows) (f : FieldRow) (entry : MessageRow) (key value : FieldRow) → RowSound schema rows f → f.cardinality ≡ Repeated → map_entry rows.messages f f.cardinality ≡ Some entry →
    entry.fields ≡ key ∷ value ∷ [] → EntrySound schema rows key value → field_valid schema (schema_field rows f) ≡ true
map_valid schema rows f entry key value s label there fields e =
    subst (λ (o : Option MessageRow). field_valid schema (field_with rows f f.cardinality o) ≡ true) (sym there)
    (subst (λ (c : Cardinality). field_valid schema (field_with rows f c (Some entry)) ≡ true) (sym label)
    (subst (λ (fs : List FieldRow). field_valid schema (entry_field rows f fs) ≡ true) (sym fields) valid))
  where
    lone : (o : Option ℕ) → is_some o ≡ false → o ≡ None
    lone None h = refl
    lone (Some o) h = absurd cc

    valid : field_valid schema (entry_field rows f (key ∷ value ∷ [])) ≡ true
    valid =
        let none : is_some f.oneof ≡ false = alone f.oneof (is_repeated f.cardinality) (f.supports_presence && not f.is_extension) s.member (ap is_repeated label) in
        valid_parts schema (entry_field rows f (key ∷ value ∷ [])) s.number e.value_kind e.value_valid (rw (none, e.key_kind, e.key_default, e.value_default, e.value_presence, e.value_no_group) refl) (rw (lone f.oneof none) refl)
