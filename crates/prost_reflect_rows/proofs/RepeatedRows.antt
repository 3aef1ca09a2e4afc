-- The row of a repeated field: whether it is a list or a map, and what its records are read as.
use Rattle.std.specs.Prelude.{◌≡◌}
use Rattle.prost_reflect_rows.proofs.Common.{ℕ, Bool, true, false, cond, not, Option, Some, None, refl, sym, ap, ◌∙◌, subst, true≢false, MessageOf, GroupOf, ValueType, Repeated, field_of, is_group, field_valid, message_of_kind, checked_field, checked_map, map_keyed, TableKind, FieldRow, schema_kind, own_type, schema_field, is_repeated, PooledType, names_message, schema_at, known_of, map_parts, ScalarMap, MapOfRows, NestedMap, pool_rows, IsTarget, entry_target_of, repeated_target_of}
use Rattle.prost_reflect_tables.specs.declared.tables.TableKind.TheVariants as kinds
use Rattle.prost_reflect_rows.proofs.RowKinds.{no_map}
use Rattle.prost_reflect_rows.proofs.Described.{found_checked, named_in_range}
use Rattle.prost_reflect_rows.proofs.FieldTargets.{element_target_is}
use Rattle.prost_reflect_rows.proofs.MapRows.{shown_map, key_plain, scalar_map}
use Rattle.prost_reflect_rows.proofs.PlainKinds.{kind_plain, bare_row}

module _ (d : PooledType) (n : ℕ) (row : FieldRow) (found : Some (schema_field (pool_rows d.pool) row) ≡ field_of (known_of d) n) where
  -- a map's messages are no groups
  pub map_message : (key value : FieldRow) (T : ℕ) → map_parts (pool_rows d.pool) row ≡ Some (key, value) → value.kind ≡ kinds.Message T → (schema_field (pool_rows d.pool) row).value_type.kind ≡ MessageOf T
  map_message key value T parts is =
      let shown = shown_map (pool_rows d.pool) row key value parts in
      let valid : field_valid (schema_at d) (schema_field (pool_rows d.pool) row) ≡ true = found_checked d n (schema_field (pool_rows d.pool) row) (sym found) in
      let checked = checked_map (schema_at d) (schema_field (pool_rows d.pool) row) (own_type (pool_rows d.pool).enums key) (checked_field (schema_at d) (schema_field (pool_rows d.pool) row) valid) shown.form in
      let own : (schema_field (pool_rows d.pool) row).value_type.kind ≡ schema_kind (pool_rows d.pool).enums (kinds.Message T) value.is_group =
      ap (λ (t : ValueType). t.kind) shown.type ∙ ap (λ kind. schema_kind (pool_rows d.pool).enums kind value.is_group) is in
      own ∙ no_group value.is_group (ap (λ kind. not (is_group kind)) (sym own) ∙ checked.no_group)
    where
      no_group : (g : Bool) → not (is_group (cond g (GroupOf T) (MessageOf T))) ≡ true → cond g (GroupOf T) (MessageOf T) ≡ MessageOf T
      no_group true h = absurd (true≢false (sym h))
      no_group false h = refl

  pub nested_map : (key value : FieldRow) (T : ℕ) → map_parts (pool_rows d.pool) row ≡ Some (key, value) → value.kind ≡ kinds.Message T → NestedMap d n key.kind T
  nested_map key value T parts is =
      let shown = shown_map (pool_rows d.pool) row key value parts in
      let valid : field_valid (schema_at d) (schema_field (pool_rows d.pool) row) ≡ true = found_checked d n (schema_field (pool_rows d.pool) row) (sym found) in
      let keys = kind_plain (pool_rows d.pool).enums key.is_group key.kind
      (key_plain (schema_kind (pool_rows d.pool).enums key.kind key.is_group) (map_keyed (schema_at d) (schema_field (pool_rows d.pool) row) (own_type (pool_rows d.pool).enums key) valid shown.form)) in
      record {
        field = schema_field (pool_rows d.pool) row;
        key_type = own_type (pool_rows d.pool).enums key;
        key_scalar = keys.scalar;
        found = sym found;
        form = shown.form;
        key_plain = keys.named;
        key_is = keys.is;
        value_is = map_message key value T parts is;
        in_range = named_in_range d n (schema_field (pool_rows d.pool) row) T (sym found) (ap message_of_kind (map_message key value T parts is));
      }

module _ (d : PooledType) (n : ℕ) (row : FieldRow) (found : Some (schema_field (pool_rows d.pool) row) ≡ field_of (known_of d) n) (many : is_repeated row.cardinality ≡ true) where
  -- a field that is no map has a list
  pub listed_form : None ≡ map_parts (pool_rows d.pool) row → (schema_field (pool_rows d.pool) row).form ≡ Repeated row.is_packed
  listed_form none = bare_row (pool_rows d.pool) row many (no_map (pool_rows d.pool) row d.pool.value.tables.linked (sym none))

  pub map_of_rows : (key value : FieldRow) → Some (key, value) ≡ map_parts (pool_rows d.pool) row → names_message value.kind ≡ false → MapOfRows d n key value
  map_of_rows key value parts scalar = record { row = row; found = found; parts = sym parts; scalar = scalar }

  entry_target_is : (key value : FieldRow) → map_parts (pool_rows d.pool) row ≡ Some (key, value) → IsTarget d n (entry_target_of key.kind value.kind)
  entry_target_is key value parts = go value.kind refl
    where
      go : (kind : TableKind) → value.kind ≡ kind → IsTarget d n (entry_target_of key.kind kind)
      go (kinds.Message T) is = nested_map d n row found key value T parts is
      go kind is = subst (ScalarMap d n key.kind) is (scalar_map d n row key value found parts (ap names_message is))

  pub repeated_is : IsTarget d n (repeated_target_of (map_parts (pool_rows d.pool) row) row.kind row.is_group)
  repeated_is = go (map_parts (pool_rows d.pool) row) refl
    where
      go : (o : Option (FieldRow × FieldRow)) → map_parts (pool_rows d.pool) row ≡ o → IsTarget d n (repeated_target_of o row.kind row.is_group)
      go None e = element_target_is d n row (sym found) many (listed_form (sym e))
      go (Some (key, value)) e = entry_target_is key value e
