-- The known fields of a descriptor's message type, and its schema.
use Rattle.std.specs.Prelude.{◌≡◌, ◌<◌}
use Rattle.prost_reflect_rows.proofs.Common.{ℕ, true, length, Some, subst, ltb-true, and_parts, slice_get, option_map, length-map, Kind, ScalarOf, MessageOf, GroupOf, Field, known, field_of, kind_valid, field_valid, schema_valid, message_of_kind, known_valid, found_valid, checked_field, FieldRow, TableRows, is_linked, row_of, schema_from, schema_field, schema_is_valid, field_of_number, known_row, pool_rows, schema_at, type_at, fields_of, PooledType}

-- The schema is one of a checked pool, and has the type.
pub schema_at_valid : (m : PooledType) → schema_valid (schema_at m) ≡ true
schema_at_valid m = schema_is_valid (pool_rows m.pool) m.pool.value.tables.linked

-- So each of its fields passes the check.
pub found_checked : (m : PooledType) (n : ℕ) (f : Field) → field_of (known (schema_at m) (type_at m)) n ≡ Some f → field_valid (schema_at m) f ≡ true
found_checked m n f found = found_valid (schema_at m) (known (schema_at m) (type_at m)) n f (known_valid (schema_at m) (type_at m) (schema_at_valid m)) found

-- The message type that a field names is one of the rows.
pub named_below : (rows : TableRows) → is_linked rows ≡ true → (S n : ℕ) (f : Field) (T : ℕ) → field_of (known (schema_from rows) S) n ≡ Some f → message_of_kind f.value_type.kind ≡ Some T → T < length rows.messages
unfolding schema_from
named_below rows linked S n f T found names =
    let valid : field_valid (schema_from rows) f ≡ true = found_valid (schema_from rows) (known (schema_from rows) S) n f (known_valid (schema_from rows) S (schema_is_valid rows linked)) found in
    let checked = checked_field (schema_from rows) f valid in
    let within : T < length (schema_from rows) = named f.value_type.kind names checked.kind in
    rw length-map at within
  where
    named : (kind : Kind) → message_of_kind kind ≡ Some T → kind_valid (schema_from rows) kind ≡ true → T < length (schema_from rows)
    named (ScalarOf kind) e h = cc
    named (MessageOf U) e h = let same : U ≡ T = cc in subst (λ U. U < length (schema_from rows)) same (ltb-true U (length (schema_from rows)) (and_parts _ _ h).0)
    named (GroupOf U) e h = let same : U ≡ T = cc in subst (λ U. U < length (schema_from rows)) same (ltb-true U (length (schema_from rows)) (and_parts _ _ h).0)

-- The message type that a field names is one of the pool.
pub named_in_range : (m : PooledType) (n : ℕ) (f : Field) (T : ℕ) → field_of (known (schema_at m) (type_at m)) n ≡ Some f → message_of_kind f.value_type.kind ≡ Some T → T < length (pool_rows m.pool).messages
named_in_range m n f T found names = named_below (pool_rows m.pool) m.pool.value.tables.linked (type_at m) n f T found names

pub field_at_number : (m : PooledType) (n : ℕ) → field_of (known (schema_at m) (type_at m)) n ≡ option_map (schema_field (pool_rows m.pool)) (row_of (fields_of m) n)
field_at_number m n = field_of_number (pool_rows m.pool) m.index n

-- Under the number of a row that row is known, shown.
pub known_of_row : (m : PooledType) (i : ℕ) (f : FieldRow) → slice_get (fields_of m) i ≡ Some f → field_of (known (schema_at m) (type_at m)) f.number ≡ Some (schema_field (pool_rows m.pool) f)
known_of_row m i f at = known_row (pool_rows m.pool) m.index i f m.pool.value.tables.linked at
