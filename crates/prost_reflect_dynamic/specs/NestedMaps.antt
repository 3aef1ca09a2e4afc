-- Maps whose values are messages: which numbers are those of such a map, what is read of an entry, and what is written. For private contracts alone.
use Rattle.std.specs.Prelude.{◌≡◌, ℕ, false, List, ◌++◌, flat_map, Some}
use Rattle.std.specs.List.{AllByRecursion}
use Rattle.prost_reflect_wire.specs.declared.error.DecodeError.{DecodeError}
use Rattle.prost_reflect_wire.specs.declared.key.WireType.TheVariants as wires
use Rattle.prost_reflect_wire.specs.Record.{Len, short_key, short_plain}
use Rattle.prost_reflect_wire.specs.Scalar.{Scalar, ScalarKind}
use Rattle.prost_reflect_wire.specs.Schema.{Schema}
use Rattle.prost_reflect_wire.specs.Content as content
use Rattle.prost_reflect_wire.specs.Content.{Content, ScalarValue, schema_of, type_of}
use Rattle.prost_reflect_wire.specs.MessageEntries.{NestedEntryTo, StandsInNestedEntry}
use Rattle.prost_reflect_tables.specs.declared.tables.TableKind.{TableKind}
use Rattle.prost_reflect_tables.specs.Rows.{FieldRow, EnumRow}
use Rattle.prost_reflect_dynamic.specs.declared.value.MapKey.{MapKey}
use Rattle.prost_reflect_dynamic.specs.declared.value.Value.{Value}
use Rattle.prost_reflect_dynamic.specs.Lists.{ElementWritable, element_bytes}
use Rattle.prost_reflect_dynamic.specs.Maps.{key_bytes}
use Rattle.prost_reflect_dynamic.specs.Scalars.{plain_kind}
use Rattle.prost_reflect_rows.specs.Scalars.{TakesScalar}
use Rattle.prost_reflect_dynamic.specs.View.{key_of, value_of}

-- The bytes before the rest are records of an entry, which have this key; those of its value made the new content of the old one, which is empty, with so many levels left inside.
pub record ReadsNestedEntry (levels : ℕ) (key : TableKind) (k : Value) (old new : Content) (bytes rest : List ℕ) : Type 0 where
  pub key_scalar : ScalarKind
  pub key_read : Scalar
  pub key_plain : plain_kind key ≡ Some key_scalar
  pub key_is : value_of k ≡ ScalarValue key_read
  pub read : NestedEntryTo (schema_of old) levels (type_of old) key_scalar key_read new bytes rest

-- Why the bytes are no such entry.
pub record RefusesNestedEntry (schema : Schema) (levels T : ℕ) (key : TableKind) (e : DecodeError) (bytes : List ℕ) : Type 0 where
  pub key_scalar : ScalarKind
  pub key_plain : plain_kind key ≡ Some key_scalar
  pub fault : StandsInNestedEntry schema levels T key_scalar e bytes

-- WRITING

-- The keys are scalars of the kind, and the values messages that can be written.
abbrev pub AreEntries : TableKind → List (MapKey × Value) → Type 0
AreEntries key es = AllByRecursion (λ e. TakesScalar key (ScalarValue (key_of e.0)) × ElementWritable (value_of e.1)) es

-- The record of an entry, whose message is always written.
abbrev pub nested_entry_bytes : ℕ → List EnumRow → FieldRow → Scalar → content.Value → List ℕ
nested_entry_bytes n enums key k v = short_key n wires.LengthDelimited
    ++ short_plain (Len (key_bytes enums key k ++ element_bytes 2 false v))

-- The records of entries, one behind another.
abbrev pub nested_pairs_bytes : ℕ → List EnumRow → FieldRow → List (MapKey × Value) → List ℕ
nested_pairs_bytes n enums key es = flat_map (λ e. nested_entry_bytes n enums key (key_of e.0) (value_of e.1)) es
