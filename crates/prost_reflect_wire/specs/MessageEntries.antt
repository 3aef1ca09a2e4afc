-- What reading the entry of a map whose values are messages has found, and what it refuses (the encoding guide, "Maps" and "Submessages"). For private contracts alone.
use Rattle.std.specs.Prelude.{◌≡◌, ◌≢◌, ℕ, suc, true, false, List, [], Some}
use Rattle.prost_reflect_wire.specs.declared.error.DecodeError.{DecodeError}
use Rattle.prost_reflect_wire.specs.declared.key.WireType.{WireType}
use Rattle.prost_reflect_wire.specs.declared.key.WireType.TheVariants as wires
use Rattle.prost_reflect_wire.specs.Front.{KeyFront, DelimitedFront}
use Rattle.prost_reflect_wire.specs.Scalar.{Scalar, ScalarKind, Boolean}
use Rattle.prost_reflect_wire.specs.Schema.{ScalarOf, MessageOf, ValueType, Field, Schema, is_map}
use Rattle.prost_reflect_wire.specs.Content.{Content, MessageValue, empty}
use Rattle.prost_reflect_wire.specs.Grammar.{allows}
use Rattle.prost_reflect_wire.specs.Meaning.{meaning}
use Rattle.prost_reflect_wire.specs.Typing.{kept}
use Rattle.prost_reflect_wire.specs.Fault.{Place, Stands, field_at}
use Rattle.prost_reflect_wire.specs.Decoding.{Holds, Progress}
use Rattle.prost_reflect_wire.specs.EntryReading.{EntryTo, EntryPlace, plain_type}

-- A type of messages; its default says nothing.
abbrev pub nested_type : ℕ → ValueType
nested_type U = record { kind = MessageOf U; presence = true; required = false; default = Boolean false }

-- The bytes before the rest are records of an entry: this is its key, and the records of its value, one level down, make this content of an empty one.
pub record NestedEntryTo (schema : Schema) (k U : ℕ) (key : ScalarKind) (x : Scalar) (c : Content) (bytes rest : List ℕ) : Type 0 where
  pub read : EntryTo (allows schema k) (meaning schema k) (suc k) (plain_type key) (nested_type U) x (MessageValue (kept c)) bytes rest
  pub holds : Holds (empty schema U) c

-- Behind a key of the wire type, a message was read into the old content, with so many levels left inside.
pub record NestedValueRead (k : ℕ) (w : WireType) (old new : Content) (bytes rest : List ℕ) : Type 0 where
  pub body : List ℕ
  pub wire : w ≡ wires.LengthDelimited
  pub front : DelimitedFront body bytes rest
  pub progress : Progress k old new body []

-- Wherever such a key comes in front of the bytes, of a field of messages of the type, and ends no group, the fault is there.
abbrev pub NestedValueFault : Schema → (levels n U : ℕ) → WireType → DecodeError → List ℕ → Type 0
NestedValueFault schema levels n U w e rest = (place : Place) (f : Field) → place.levels ≡ levels
    → field_at schema place.inside n ≡ Some f
    → is_map f.form ≡ false
    → f.value_type.kind ≡ MessageOf U
    → KeyFront n w place.bytes rest
    → (w ≡ wires.EndGroup → place.open_group ≢ Some n)
    → Stands schema e place

-- The bytes have the fault, as the body of any entry of such a map.
abbrev pub StandsInNestedEntry : Schema → (levels U : ℕ) → ScalarKind → DecodeError → List ℕ → Type 0
StandsInNestedEntry schema levels U key e bytes = (key_type value_type : ValueType) → key_type.kind ≡ ScalarOf key
    → value_type.kind ≡ MessageOf U
    → Stands schema e (EntryPlace key_type value_type levels bytes)
