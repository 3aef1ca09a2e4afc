-- Reading what stands behind the key of a message or of a group. For private contracts alone.
use Rattle.std.specs.Prelude.{◌≡◌, ◌≢◌, ℕ, suc, Bool, true, false, List, Option, Some}
use Rattle.prost_reflect_wire.specs.declared.error.DecodeError.{DecodeError}
use Rattle.prost_reflect_wire.specs.declared.key.WireType.{WireType}
use Rattle.prost_reflect_wire.specs.declared.key.WireType.TheVariants as wires
use Rattle.prost_reflect_wire.specs.Content.{Content, Value, MessageValue, schema_of, type_of}
use Rattle.prost_reflect_wire.specs.Schema.{Kind, Field, Schema, is_map}
use Rattle.prost_reflect_wire.specs.Typing.{WellStored}
use Rattle.prost_reflect_wire.specs.Fault.{KeyFront, Place, Stands, field_at}
use Rattle.prost_reflect_wire.specs.Decoding.{GroupProgress}
use Rattle.prost_reflect_wire.specs.MessageEntries.{NestedValueRead}
use Rattle.prost_reflect_rows.specs.FieldKinds.{nested_kind}
use Rattle.prost_reflect_dynamic.specs.View.{content_of}
use Rattle.prost_reflect_dynamic.specs.declared.message.DynamicMessage.{DynamicMessage}

-- The records that stand there were read into the old content, with so many levels left inside.
abbrev pub ReadInside : (is_group : Bool) → (k n : ℕ) → WireType → Content → Content → (bytes rest : List ℕ) → Type 0
ReadInside true k n w old new bytes rest = (w ≡ wires.StartGroup) × GroupProgress k n old new bytes rest
ReadInside false k n w old new bytes rest = NestedValueRead k w old new bytes rest

-- They were, one level down.
pub record NestedRead (is_group : Bool) (levels n : ℕ) (w : WireType) (old new : Content) (bytes rest : List ℕ) : Type 0 where
  pub inside : ℕ
  pub left : levels ≡ suc inside
  pub read : ReadInside is_group inside n w old new bytes rest

-- Wherever such a key stands in front of the bytes as that of a field of the kind, which is no map, and ends no group, the fault stands there.
abbrev pub StandsBehindNested : Schema → (levels n : ℕ) → Kind → WireType → DecodeError → List ℕ → Type 0
StandsBehindNested schema levels n kind w e rest = (place : Place) (f : Field) → place.levels ≡ levels
    → field_at schema place.inside n ≡ Some f
    → is_map f.form ≡ false
    → f.value_type.kind ≡ kind
    → KeyFront n w place.bytes rest
    → (w ≡ wires.EndGroup → place.open_group ≢ Some n)
    → Stands schema e place

-- IN A VALUE

-- A value holds a message, well-stored.
pub record HeldMessage (held : Option DynamicMessage) : Type 0 where
  pub message : DynamicMessage
  pub is : held ≡ Some message
  pub sound : WellStored (content_of message)

-- The records were read into the message that was held, and the value is what came of it.
pub record ReadIntoHeld (is_group : Bool) (levels n : ℕ) (w : WireType) (held : Option DynamicMessage) (new : Value) (bytes rest : List ℕ) : Type 0 where
  pub before : DynamicMessage
  pub after : DynamicMessage
  pub was : held ≡ Some before
  pub is : new ≡ MessageValue (content_of after)
  pub read : NestedRead is_group levels n w (content_of before) (content_of after) bytes rest

-- The fault stands there, where they are read as those of the held message's type.
pub record StandsInHeld (is_group : Bool) (levels n : ℕ) (w : WireType) (held : Option DynamicMessage) (e : DecodeError) (bytes : List ℕ) : Type 0 where
  pub before : DynamicMessage
  pub was : held ≡ Some before
  pub stands : StandsBehindNested (schema_of (content_of before)) levels n (nested_kind is_group (type_of (content_of before))) w e bytes
