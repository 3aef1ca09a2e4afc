-- Scalar kinds of the tables, their payloads and values. For private contracts alone.
use Rattle.std.specs.Prelude.{◌≡◌, ◌⊎◌, ◌≤◌, ℕ, true, List, [], Option, Some, None, option_map, option_and_then}
use Rattle.prost_reflect_wire.specs.declared.key.WireType.{WireType}
use Rattle.prost_reflect_wire.specs.declared.error.DecodeError.{DecodeError}
use Rattle.prost_reflect_wire.specs.Record.{Payload}
use Rattle.prost_reflect_wire.specs.Scalar as scalars
use Rattle.prost_reflect_wire.specs.Scalar.{Scalar, ScalarKind, elem}
use Rattle.prost_reflect_wire.specs.Content.{ScalarValue}
use Rattle.prost_reflect_wire.specs.Content as content
use Rattle.prost_reflect_wire.specs.Schema.{Field, field_of}
use Rattle.prost_reflect_wire.specs.Typing.{is_whole_stray}
use Rattle.prost_reflect_wire.specs.Levels.{stray_levels}
use Rattle.prost_reflect_wire.specs.Front.{ValueFront}
use Rattle.prost_reflect_wire.specs.Decoding.{ScalarRead, ScalarFault}
use Rattle.prost_reflect_tables.specs.declared.tables.TableKind.{TableKind}
pub use Rattle.prost_reflect_tables.specs.Scalars.{scalar_of}
pub use Rattle.prost_reflect_tables.specs.WrittenDefaults.{plain_kind}
use Rattle.prost_reflect_dynamic.specs.declared.value.Value.{Value}
use Rattle.prost_reflect_dynamic.specs.View.{value_of}

-- The scalar that a value is, if it is one.
abbrev pub scalar_in : content.Value → Option Scalar
scalar_in (ScalarValue v) = Some v
scalar_in v = None

abbrev pub IsScalar : content.Value → Type 0
IsScalar (ScalarValue v) = Unit {0}
IsScalar v = ⊥

-- It has neither text nor bytes.
abbrev pub IsBlank : Scalar → Type 0
IsBlank (scalars.Text x) = x ≡ []
IsBlank (scalars.Bytes x) = x ≡ []
IsBlank v = Unit {0}

-- The value is that of the payload, by the kind.
abbrev pub IsElement : TableKind → Payload → Value → Type 0
IsElement kind p v = option_and_then (λ k. option_map ScalarValue (elem k p)) (plain_kind kind) ≡ Some (value_of v)

-- Behind a key of the wire type, the payload of the value.
pub record ReadsScalar (kind : TableKind) (w : WireType) (v : Value) (bytes rest : List ℕ) : Type 0 where
  pub scalar_kind : ScalarKind
  pub scalar : Scalar
  pub plain : plain_kind kind ≡ Some scalar_kind
  pub value : value_of v ≡ ScalarValue scalar
  pub read : ScalarRead scalar_kind w scalar bytes rest

-- Why there is none.
pub record RefusesScalar (kind : TableKind) (w : WireType) (e : DecodeError) (bytes : List ℕ) : Type 0 where
  pub scalar_kind : ScalarKind
  pub plain : plain_kind kind ≡ Some scalar_kind
  pub fault : ScalarFault scalar_kind w e bytes

-- Behind a key, the payload of a record that gives its field no value, and stays unknown as it is.
pub record ReadsStray (fields : List Field) (levels n : ℕ) (w : WireType) (bytes : List ℕ) : Type 0 where
  pub field : Field
  pub payload : Payload
  pub rest : List ℕ
  pub found : field_of fields n ≡ Some field
  pub whole : is_whole_stray field.form field.value_type payload ≡ true
  pub within : stray_levels field.form payload ≤ levels
  pub front : ValueFront n w levels payload bytes rest

-- The record behind a key stays unknown: no field has its number, or its field takes no value from it.
abbrev pub StaysUnknown : List Field → ℕ → ℕ → WireType → List ℕ → Type 0
StaysUnknown fields levels n w bytes = (field_of fields n ≡ None) ⊎ ReadsStray fields levels n w bytes
