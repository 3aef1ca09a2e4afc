-- What the rows of a map field say of it.
use Rattle.std.specs.Prelude.{◌≡◌, ◌∷◌}
use Rattle.prost_reflect_rows.proofs.Common.{ℕ, true, false, List, [], Option, Some, None, refl, sym, ap, ◌∙◌, true≢false, slice_get, Enum, Kind, ScalarOf, MessageOf, GroupOf, ValueType, MapFrom, Field, field_of, is_message, is_key_kind, field_valid, map_keyed, Cardinality, FieldRow, MessageRow, TableRows, schema_kind, own_type, type_or, map_entry, form_of, value_type_of, schema_field, PooledType, pool_rows, schema_at, known_of, is_plain, names_message, two_of, entry_parts, map_parts, ScalarMap}
use Rattle.prost_reflect_tables.specs.declared.tables.Cardinality.TheVariants.{Optional, Required, Repeated as RepeatedLabel}
use Rattle.prost_reflect_rows.proofs.RowKinds as row_kinds
use Rattle.prost_reflect_rows.proofs.PlainKinds.{PlainKind, kind_plain, NamedKind, kind_named}
use Rattle.prost_reflect_rows.proofs.Described.{found_checked}

-- the types of a map's keys and values are those of its entry's fields
pub record ShownMap (rows : TableRows) (f : Field) (key value : FieldRow) : Type 0 where
  pub form : f.form ≡ MapFrom (own_type rows.enums key)
  pub type : f.value_type ≡ own_type rows.enums value

pub shown_map : (rows : TableRows) (f key value : FieldRow) → map_parts rows f ≡ Some (key, value) → ShownMap rows (schema_field rows f) key value
shown_map rows f key value h = let (form, type) = go f.cardinality h in record { form = form; type = type }
  where
    two : (fields : List FieldRow) → two_of fields ≡ Some (key, value) → (MapFrom (type_or rows.enums f (slice_get fields 0)) ≡ MapFrom (own_type rows.enums key)) × (type_or rows.enums f (slice_get fields 1) ≡ own_type rows.enums value)
    two (k ∷ v ∷ fields) h = (ap (λ (o : Option (FieldRow × FieldRow)). MapFrom (own_type rows.enums (elim o [ None ↦ k | Some p ↦ p.0 ]))) h, ap (λ (o : Option (FieldRow × FieldRow)). own_type rows.enums (elim o [ None ↦ v | Some p ↦ p.1 ])) h)
    two [] h = cc
    two (k ∷ []) h = cc

    by : (o : Option MessageRow) → entry_parts o ≡ Some (key, value) → (form_of rows.enums f RepeatedLabel o ≡ MapFrom (own_type rows.enums key)) × (value_type_of rows.enums f o ≡ own_type rows.enums value)
    by None h = cc
    by (Some m) h = two m.fields h

    go : (c : Cardinality) → entry_parts (map_entry rows.messages f c) ≡ Some (key, value) → (form_of rows.enums f c (map_entry rows.messages f c) ≡ MapFrom (own_type rows.enums key)) × (value_type_of rows.enums f (map_entry rows.messages f c) ≡ own_type rows.enums value)
    go Optional h = cc
    go Required h = cc
    go RepeatedLabel h = by (map_entry rows.messages f RepeatedLabel) h

-- kinds of keys are plain
pub key_plain : (kind : Kind) → is_key_kind kind ≡ true → is_plain kind ≡ true
key_plain (ScalarOf (Enum first numbers)) h = absurd (true≢false (sym h))
key_plain (ScalarOf kind) h = refl
key_plain (MessageOf T) h = absurd (true≢false (sym h))
key_plain (GroupOf T) h = absurd (true≢false (sym h))

key_no_message : (kind : Kind) → is_key_kind kind ≡ true → is_message kind ≡ false
key_no_message (ScalarOf kind) h = refl
key_no_message (MessageOf T) h = absurd (true≢false (sym h))
key_no_message (GroupOf T) h = absurd (true≢false (sym h))

module _ (d : PooledType) (n : ℕ) (row key value : FieldRow) (found : Some (schema_field (pool_rows d.pool) row) ≡ field_of (known_of d) n) (parts : map_parts (pool_rows d.pool) row ≡ Some (key, value)) where
  abbrev field : Field
  field = schema_field (pool_rows d.pool) row

  shown : ShownMap (pool_rows d.pool) (schema_field (pool_rows d.pool) row) key value
  shown = shown_map (pool_rows d.pool) row key value parts

  checked : field_valid (schema_at d) (schema_field (pool_rows d.pool) row) ≡ true
  checked = found_checked d n (schema_field (pool_rows d.pool) row) (sym found)

  keyed : is_key_kind (schema_kind (pool_rows d.pool).enums key.kind key.is_group) ≡ true
  keyed = map_keyed (schema_at d) field (own_type (pool_rows d.pool).enums key) checked shown.form

  -- the key is a scalar, which both name alike
  key_kind : PlainKind key.kind (schema_kind (pool_rows d.pool).enums key.kind key.is_group)
  key_kind = kind_plain (pool_rows d.pool).enums key.is_group key.kind (key_plain (schema_kind (pool_rows d.pool).enums key.kind key.is_group) keyed)

  pub key_named : NamedKind (pool_rows d.pool).enums key.kind (schema_kind (pool_rows d.pool).enums key.kind key.is_group)
  key_named = kind_named (pool_rows d.pool).enums key.is_group key.kind (key_no_message (schema_kind (pool_rows d.pool).enums key.kind key.is_group) keyed)

  module _ (scalar : names_message value.kind ≡ false) where
    pub value_kind : NamedKind (pool_rows d.pool).enums value.kind (schema_kind (pool_rows d.pool).enums value.kind value.is_group)
    value_kind = kind_named (pool_rows d.pool).enums value.is_group value.kind (row_kinds.message_kind (pool_rows d.pool).enums value.kind value.is_group ∙ scalar)

    -- a map whose values are no messages
    pub scalar_map : ScalarMap d n key.kind value.kind
    scalar_map = record {
      field = field;
      key_type = own_type (pool_rows d.pool).enums key;
      key_scalar = key_kind.scalar;
      value_scalar = value_kind.scalar;
      found = sym found;
      form = shown.form;
      key_plain = key_kind.named;
      key_is = key_kind.is;
      value_is = ap (λ (t : ValueType). t.kind) shown.type ∙ value_kind.is;
      value_named = value_kind.named;
    }
