-- Which field a number is of, as the tables have it.
use Rattle.std.specs.Prelude.{◌≡◌, ℕ, Bool, true, false, List, Some, None, if◌then◌else◌, ℤ, ◌<◌, length}
use Rattle.prost_reflect_wire.specs.Record.{Payload}
use Rattle.prost_reflect_wire.specs.Scalar.{ScalarKind, is_undeclared, EnumNumbers, Enum}
use Rattle.prost_reflect_wire.specs.Schema.{ScalarOf, Singular, Field, field_of, Repeated, Kind, ValueType, MapFrom, MessageOf, GroupOf}
use Rattle.prost_reflect_tables.specs.declared.tables.TableKind.{TableKind}
use Rattle.prost_reflect_tables.specs.Rows.{FieldRow}
use Rattle.prost_reflect_tables.specs.Shown.{schema_kind, schema_field}
use Rattle.prost_reflect_tables.specs.WrittenDefaults.{plain_kind}
use Rattle.prost_reflect_pool.specs.SharedPools.{pool_rows}
use Rattle.prost_reflect_fields.specs.Known.{known_of}
use Rattle.prost_reflect_pool.specs.declared.pooled_type.PooledType.{PooledType}
use Rattle.prost_reflect_pool.specs.MapParts.{map_parts}
use Rattle.prost_reflect_rows.specs.RowKinds.{names_message}

-- The number is that of a field of one scalar, which the tables call by this kind.
pub record PlainField (d : PooledType) (n : ℕ) (kind : TableKind) : Type 0 where
  pub field : Field
  pub scalar_kind : ScalarKind
  pub found : field_of (known_of d) n ≡ Some field
  pub form : field.form ≡ Singular
  pub kind_is : field.value_type.kind ≡ ScalarOf scalar_kind
  pub named : schema_kind (pool_rows d.pool).enums kind false ≡ ScalarOf scalar_kind

-- The number is that of a list of plain scalars, which the tables call by this kind; no number is a stray.
pub record ListField (fields : List Field) (n : ℕ) (kind : TableKind) : Type 0 where
  pub field : Field
  pub scalar_kind : ScalarKind
  pub packed : Bool
  pub found : field_of fields n ≡ Some field
  pub plain : plain_kind kind ≡ Some scalar_kind
  pub form : field.form ≡ Repeated packed
  pub kind_is : field.value_type.kind ≡ ScalarOf scalar_kind
  pub alone : field.oneof ≡ None
  pub whole : (p : Payload) → is_undeclared scalar_kind p ≡ false

-- The number is that of a list of enum numbers, which the tables call by this kind.
pub record NumberList (d : PooledType) (n : ℕ) (kind : TableKind) : Type 0 where
  pub field : Field
  pub first : ℤ
  pub numbers : EnumNumbers
  pub packed : Bool
  pub found : field_of (known_of d) n ≡ Some field
  pub form : field.form ≡ Repeated packed
  pub kind_is : field.value_type.kind ≡ ScalarOf (Enum first numbers)
  pub named : schema_kind (pool_rows d.pool).enums kind false ≡ ScalarOf (Enum first numbers)
  pub alone : field.oneof ≡ None

-- The number is that of a map of scalars, whose keys and values the tables call by these kinds.
pub record ScalarMap (d : PooledType) (n : ℕ) (key value_kind : TableKind) : Type 0 where
  pub field : Field
  pub key_type : ValueType
  pub key_scalar : ScalarKind
  pub value_scalar : ScalarKind
  pub found : field_of (known_of d) n ≡ Some field
  pub form : field.form ≡ MapFrom key_type
  pub key_plain : plain_kind key ≡ Some key_scalar
  pub key_is : key_type.kind ≡ ScalarOf key_scalar
  pub value_is : field.value_type.kind ≡ ScalarOf value_scalar
  pub value_named : schema_kind (pool_rows d.pool).enums value_kind false ≡ ScalarOf value_scalar

-- The number is that of a map of scalars, whose keys and values have these rows.
pub record MapOfRows (d : PooledType) (n : ℕ) (key value_row : FieldRow) : Type 0 where
  pub row : FieldRow
  pub found : Some (schema_field (pool_rows d.pool) row) ≡ field_of (known_of d) n
  pub parts : map_parts (pool_rows d.pool) row ≡ Some (key, value_row)
  pub scalar : names_message value_row.kind ≡ false

-- The kind of messages of the type at a place, written as messages or as groups.
abbrev pub nested_kind : (is_group : Bool) → ℕ → Kind
nested_kind g T = if g then GroupOf T else MessageOf T

-- The number is that of a field of one such message.
pub record NestedField (d : PooledType) (n T : ℕ) (is_group : Bool) : Type 0 where
  pub field : Field
  pub found : field_of (known_of d) n ≡ Some field
  pub form : field.form ≡ Singular
  pub kind_is : field.value_type.kind ≡ nested_kind is_group T
  pub in_range : T < length (pool_rows d.pool).messages

-- Likewise of a list of them.
pub record NestedList (d : PooledType) (n T : ℕ) (is_group : Bool) : Type 0 where
  pub field : Field
  pub packed : Bool
  pub found : field_of (known_of d) n ≡ Some field
  pub form : field.form ≡ Repeated packed
  pub kind_is : field.value_type.kind ≡ nested_kind is_group T
  pub in_range : T < length (pool_rows d.pool).messages

-- The number is that of a map to messages of the type at a place, whose keys the tables call by this kind.
pub record NestedMap (d : PooledType) (n : ℕ) (key : TableKind) (T : ℕ) : Type 0 where
  pub field : Field
  pub key_type : ValueType
  pub key_scalar : ScalarKind
  pub found : field_of (known_of d) n ≡ Some field
  pub form : field.form ≡ MapFrom key_type
  pub key_plain : plain_kind key ≡ Some key_scalar
  pub key_is : key_type.kind ≡ ScalarOf key_scalar
  pub value_is : field.value_type.kind ≡ MessageOf T
  pub in_range : T < length (pool_rows d.pool).messages

-- The number is that of a map of messages, whose keys and values have these rows.
pub record NestedMapOfRows (d : PooledType) (n : ℕ) (key value_row : FieldRow) : Type 0 where
  pub row : FieldRow
  pub found : Some (schema_field (pool_rows d.pool) row) ≡ field_of (known_of d) n
  pub parts : map_parts (pool_rows d.pool) row ≡ Some (key, value_row)
  pub message : names_message value_row.kind ≡ true
