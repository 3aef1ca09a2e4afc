-- What is written of a map field, by its rows.
use Rattle.std.specs.Prelude.{◌≡◌}
use Rattle.prost_reflect_dynamic.proofs.Common.{ℕ, true, false, List, Some, refl, sym, ap, ◌∙◌, subst, true≢false, BTreeMap, and_parts, ValueType, MapFrom, Field, field_of, is_singular, passes, is_list, ScalarValue, MessageValue, ListValue, MapValue, value_valid, value_bytes, FieldRow, schema_kind, own_type, schema_field, PooledType, MapKey, Value, pool_rows, known_of, names_message, pairs_shown, map_parts, pairs_bytes, IsMap, MapOfRows, value_of}
use Rattle.prost_reflect_wire.specs.Content as contents
use Rattle.prost_reflect_dynamic.specs.declared.value.Value as values
use Rattle.prost_reflect_rows.proofs.PlainKinds.{NamedKind, plain_of}
use Rattle.prost_reflect_rows.proofs.MapRows.{ShownMap, shown_map, key_named, value_kind, scalar_map}
use Rattle.prost_reflect_dynamic.proofs.Views.{value_of_map}
use Rattle.prost_reflect_dynamic.proofs.WrittenValues.{passing}
use Rattle.prost_reflect_dynamic.proofs.WrittenMaps.{PartRow, KeyRow, MapWritten, map_of_kinds}

module _ (d : PooledType) (n : ℕ) (row key value : FieldRow) (found : Some (schema_field (pool_rows d.pool) row) ≡ field_of (known_of d) n) (parts : map_parts (pool_rows d.pool) row ≡ Some (key, value)) where
  own_key : NamedKind (pool_rows d.pool).enums key.kind (schema_kind (pool_rows d.pool).enums key.kind key.is_group)
  own_key = key_named d n row key value found parts

  part_row : (r : FieldRow) (kind : NamedKind (pool_rows d.pool).enums r.kind (schema_kind (pool_rows d.pool).enums r.kind r.is_group)) → PartRow (pool_rows d.pool).enums r (own_type (pool_rows d.pool).enums r) kind.scalar
  part_row r kind = let (plain, named) = plain_of (pool_rows d.pool).enums r.kind kind.scalar kind.named in record {
    plain = plain;
    named = named;
    shown = kind.named;
    is = kind.is;
    own = refl;
  }

  -- what is written of the key
  pub key_row : KeyRow (pool_rows d.pool).enums key (own_type (pool_rows d.pool).enums key)
  key_row = record { kind = own_key.scalar; part = part_row key own_key }

  module _ (scalar : names_message value.kind ≡ false) where
    own_value : NamedKind (pool_rows d.pool).enums value.kind (schema_kind (pool_rows d.pool).enums value.kind value.is_group)
    own_value = value_kind d n row key value found parts scalar

    shown : ShownMap (pool_rows d.pool) (schema_field (pool_rows d.pool) row) key value
    shown = shown_map (pool_rows d.pool) row key value parts

    pub map_row_written : (es : List (MapKey × Value)) → passes (field_of (known_of d) n) (λ f. value_valid f (MapValue (pairs_shown es))) ≡ true → MapWritten (known_of d) n (pool_rows d.pool).enums key value es
    map_row_written es h = map_of_kinds n (pool_rows d.pool).enums key value (own_type (pool_rows d.pool).enums key) (own_type (pool_rows d.pool).enums value) key_row.kind own_value.scalar key_row.part (part_row value own_value)
        (known_of d) (schema_field (pool_rows d.pool) row) es (sym found) shown.form shown.type (passing (field_of (known_of d) n) (schema_field (pool_rows d.pool) row) (λ f. value_valid f (MapValue (pairs_shown es))) (sym found) h)

-- the value of a map is one
pub is_map_value : (f : Field) (key_type : ValueType) (c : contents.Value) → f.form ≡ MapFrom key_type → value_valid f c ≡ true → IsMap c
is_map_value f key_type (ScalarValue s) form h = absurd (true≢false (sym (and_parts _ _ h).0 ∙ ap is_singular form))
is_map_value f key_type (MessageValue m) form h = absurd (true≢false (sym (and_parts _ _ h).0 ∙ ap is_singular form))
is_map_value f key_type (ListValue vs) form h = absurd (true≢false (sym (and_parts _ _ h).0 ∙ ap is_list form))
is_map_value f key_type (MapValue ps) form h = tt

pub valid_map_value : (d : PooledType) (n : ℕ) (key value : FieldRow) (c : contents.Value) → MapOfRows d n key value → passes (field_of (known_of d) n) (λ f. value_valid f c) ≡ true → IsMap c
valid_map_value d n key value c m valid =
    let p = scalar_map d n m.row key value m.found m.parts m.scalar in
    is_map_value p.field p.key_type c p.form (passing (field_of (known_of d) n) p.field (λ f. value_valid f c) p.found valid)

-- what is written of the value of a map
pub rows_written : (d : PooledType) (n : ℕ) (key value : FieldRow) (v : Value) (pairs : BTreeMap MapKey Value) → MapOfRows d n key value → passes (field_of (known_of d) n) (λ f. value_valid f (value_of v)) ≡ true → v ≡ values.Map pairs →
    MapWritten (known_of d) n (pool_rows d.pool).enums key value pairs.entries
rows_written d n key value v pairs m valid is =
    map_row_written d n m.row key value m.found m.parts m.scalar pairs.entries (subst (λ c. passes (field_of (known_of d) n) (λ f. value_valid f c) ≡ true) (ap value_of is ∙ value_of_map pairs) valid)

pub map_value_bytes : (d : PooledType) (n : ℕ) (key value : FieldRow) (v : Value) (pairs : BTreeMap MapKey Value) → v ≡ values.Map pairs → MapWritten (known_of d) n (pool_rows d.pool).enums key value pairs.entries →
    value_bytes (known_of d) n (value_of v) ≡ pairs_bytes n (pool_rows d.pool).enums key value pairs.entries
map_value_bytes d n key value v pairs is w = ap (value_bytes (known_of d) n) (ap value_of is ∙ value_of_map pairs) ∙ w.bytes
