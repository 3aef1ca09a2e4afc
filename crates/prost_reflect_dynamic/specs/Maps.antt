-- Maps of scalars: what is read of an entry, which numbers are those of such a map, and what is written of it. For private contracts alone.
use Rattle.std.specs.Prelude.{◌≡◌, ℕ, false, List, [], ◌∷◌, ◌++◌, Some, IsSomeAnd}
use Rattle.std.specs.List.{AllByRecursion}
use Rattle.prost_reflect_wire.specs.declared.key.WireType.TheVariants as wires
use Rattle.prost_reflect_wire.specs.declared.error.DecodeError.{DecodeError}
use Rattle.prost_reflect_wire.specs.Record.{Len, short_key, short_plain}
use Rattle.prost_reflect_wire.specs.Scalar.{Scalar, ScalarKind, kind_default}
use Rattle.prost_reflect_wire.specs.Schema.{Kind, ScalarOf}
use Rattle.prost_reflect_wire.specs.Content as content
use Rattle.prost_reflect_wire.specs.Content.{ScalarValue, MapValue}
use Rattle.prost_reflect_wire.specs.EntryReading.{ScalarEntryTo, StandsInEntry}
use Rattle.prost_reflect_tables.specs.declared.tables.TableKind.{TableKind}
use Rattle.prost_reflect_tables.specs.Rows.{FieldRow, EnumRow}
use Rattle.prost_reflect_tables.specs.Shown.{schema_kind}
use Rattle.prost_reflect_dynamic.specs.declared.value.MapKey.{MapKey}
use Rattle.prost_reflect_dynamic.specs.declared.value.Value.{Value}
use Rattle.prost_reflect_dynamic.specs.Scalars.{plain_kind}
use Rattle.prost_reflect_rows.specs.Scalars.{TakesScalar, kept_scalar_bytes}
use Rattle.prost_reflect_dynamic.specs.View.{key_of, value_of}

-- The value is zero, false or empty, by the plain kind.
abbrev pub IsDefaultOf : TableKind → Value → Type 0
IsDefaultOf kind v = IsSomeAnd (plain_kind kind) (λ k. value_of v ≡ ScalarValue (kind_default k))

-- The value is the default of a scalar kind of a schema.
abbrev pub IsKindDefault : Kind → Value → Type 0
IsKindDefault (ScalarOf kind) v = value_of v ≡ ScalarValue (kind_default kind)
IsKindDefault kind v = ⊥

-- It is what an entry has where it lacks a value: the first number of an enum, else zero, false or empty.
abbrev pub IsAbsentValue : List EnumRow → TableKind → Value → Type 0
IsAbsentValue enums kind v = IsKindDefault (schema_kind enums kind false) v

-- The bytes before the rest are records of an entry, which have this key and this value.
pub record ReadsEntry (enums : List EnumRow) (levels : ℕ) (key value_kind : TableKind) (k v : Value) (bytes rest : List ℕ) : Type 0 where
  pub key_scalar : ScalarKind
  pub value_scalar : ScalarKind
  pub key_read : Scalar
  pub value_read : Scalar
  pub key_plain : plain_kind key ≡ Some key_scalar
  pub value_named : schema_kind enums value_kind false ≡ ScalarOf value_scalar
  pub key_is : value_of k ≡ ScalarValue key_read
  pub value_is : value_of v ≡ ScalarValue value_read
  pub read : ScalarEntryTo levels key_scalar value_scalar key_read value_read bytes rest

-- Why the bytes are no such entry.
pub record RefusesEntry (enums : List EnumRow) (levels : ℕ) (key value_kind : TableKind) (e : DecodeError) (bytes : List ℕ) : Type 0 where
  pub key_scalar : ScalarKind
  pub value_scalar : ScalarKind
  pub key_plain : plain_kind key ≡ Some key_scalar
  pub value_named : schema_kind enums value_kind false ≡ ScalarOf value_scalar
  pub fault : StandsInEntry levels key_scalar value_scalar e bytes

-- WRITING

-- The keys and the values are scalars of the kinds.
abbrev pub TakesPairs : TableKind → TableKind → List (MapKey × Value) → Type 0
TakesPairs key value_kind es = AllByRecursion (λ e. TakesScalar key (ScalarValue (key_of e.0)) × TakesScalar value_kind (value_of e.1)) es

-- What an entry writes of its key, by the key's row.
abbrev pub key_bytes : List EnumRow → FieldRow → Scalar → List ℕ
key_bytes enums key k = kept_scalar_bytes 1 enums key (ScalarValue k)

-- What it writes of its key and its value.
abbrev pub parts_bytes : List EnumRow → FieldRow → FieldRow → Scalar → content.Value → List ℕ
parts_bytes enums key value_row k v = key_bytes enums key k ++ kept_scalar_bytes 2 enums value_row v

-- The record of an entry.
abbrev pub entry_bytes : ℕ → List EnumRow → FieldRow → FieldRow → Scalar → content.Value → List ℕ
entry_bytes n enums key value_row k v = short_key n wires.LengthDelimited ++ short_plain (Len (parts_bytes enums key value_row k v))

-- The records of entries, one behind another.
abbrev pub pairs_bytes : ℕ → List EnumRow → FieldRow → FieldRow → List (MapKey × Value) → List ℕ
pairs_bytes n enums key value_row [] = []
pairs_bytes n enums key value_row (e ∷ es) = entry_bytes n enums key value_row (key_of e.0) (value_of e.1)
    ++ pairs_bytes n enums key value_row es

abbrev pub IsMap : content.Value → Type 0
IsMap (MapValue ps) = Unit {0}
IsMap v = ⊥
