-- Scalar kinds of the tables, their wire types, and what is written of their values.
use Rattle.std.specs.Prelude.{◌≡◌, ℕ, Bool, true, false, not, List, [], ◌++◌, Option, Some, None, slice_get, IsSomeAnd, if◌then◌else◌}
use Rattle.prost_reflect_wire.specs.declared.key.WireType.{WireType}
use Rattle.prost_reflect_wire.specs.Record.{short_key, short_plain}
use Rattle.prost_reflect_wire.specs.Scalar as scalars
use Rattle.prost_reflect_wire.specs.Scalar.{ScalarKind, kind_wire, written, is_declared}
use Rattle.prost_reflect_wire.specs.Content.{ScalarValue}
use Rattle.prost_reflect_wire.specs.Content as content
use Rattle.prost_reflect_wire.specs.Schema.{ScalarOf}
use Rattle.prost_reflect_wire.specs.Typing.{element_valid}
use Rattle.prost_reflect_wire.specs.Writing.{is_default_of}
use Rattle.prost_reflect_tables.specs.declared.tables.TableKind.{TableKind}
use Rattle.prost_reflect_tables.specs.declared.tables.TableKind.TheVariants.{Enum}
use Rattle.prost_reflect_tables.specs.Rows.{FieldRow, EnumRow}
use Rattle.prost_reflect_tables.specs.Shown.{own_type}
use Rattle.prost_reflect_tables.specs.WrittenDefaults.{plain_kind}
use Rattle.prost_reflect_pool.specs.Enums.{numbers_or_none}

-- The kind is a scalar kind of this wire type.
abbrev pub HasWire : TableKind → WireType → Type 0
HasWire kind w = IsSomeAnd (plain_kind kind) (λ k. kind_wire k ≡ w)

-- The value is one of the kind.
abbrev pub TakesScalar : TableKind → content.Value → Type 0
TakesScalar kind v = IsSomeAnd (plain_kind kind) (λ k. element_valid (ScalarOf k) v ≡ true)

-- The bytes of the value's payload; nothing is meant of other values.
abbrev pub scalar_bytes : Option ScalarKind → content.Value → List ℕ
scalar_bytes (Some k) (ScalarValue v) = short_plain (written k v)
scalar_bytes o v = []

-- The bytes of the value's record.
abbrev pub scalar_record_bytes : ℕ → Option ScalarKind → content.Value → List ℕ
scalar_record_bytes n (Some k) v = short_key n (kind_wire k) ++ scalar_bytes (Some k) v
scalar_record_bytes n None v = []

-- A number that its closed enum does not declare.
abbrev pub is_stray_number : List EnumRow → TableKind → content.Value → Bool
is_stray_number enums (Enum E) (ScalarValue (scalars.EnumNumber z)) = not (is_declared (numbers_or_none (slice_get enums E)) z)
is_stray_number enums kind v = false

-- What is written of a value of the row's field: nothing, if it is the default and there is no presence.
abbrev pub kept_scalar_bytes : ℕ → List EnumRow → FieldRow → content.Value → List ℕ
kept_scalar_bytes n enums f v = if is_default_of (own_type enums f) v then [] else scalar_record_bytes n (plain_kind f.kind) v
