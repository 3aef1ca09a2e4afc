-- Worked examples at which the premises of laws hold at once, so that none of them is empty. A law without premises has none here.
use Rattle.std.specs.Prelude.{◌≡◌, ℕ, ◌<◌, pos, true, List, [], ◌∷◌, Some, String, string_bytes}
use Rattle.std.specs.declared.alloc.Global.{Global}
use Rattle.prost_reflect_wire.specs.Record.{Record, NoRecords, Group, record_at, payload_levels}
use Rattle.prost_reflect_wire.specs.Scalar.{I32}
use Rattle.prost_reflect_wire.specs.Schema.{Field, field_of, field_valid}
use Rattle.prost_reflect_wire.specs.Content.{ScalarValue, entries_of, slot_at, value_ordered}
use Rattle.prost_reflect_wire.specs.Typing.{kept_inside}
use Rattle.prost_reflect_wire.specs.Edit.{default_value}
use Rattle.prost_reflect_wire.specs.Front.{RecordFront}
use Rattle.prost_reflect_wire.specs.Fault.{StandsInField}
use Rattle.prost_reflect_wire.specs.declared.error.DecodeError.TheVariants as errors
use Rattle.prost_reflect_laws.specs.Examples.Schemas.{examples}
use Rattle.prost_reflect_laws.specs.Examples.Words.{hex}
use Rattle.prost_reflect_laws.specs.Examples.Instances.{sample, stores_defaults}
use Rattle.prost_reflect_pool.specs.declared.pooled_type.PooledType.{PooledType}
use Rattle.prost_reflect_maps.specs.Items.{IsAscending}
use Rattle.prost_reflect_fields.specs.FieldSlots.{stored_at}
use Rattle.prost_reflect_fields.specs.declared.slot.FieldSlot.{FieldSlot}
use Rattle.prost_reflect_fields.specs.declared.slot.FieldSlot.TheVariants as slots
use Rattle.prost_reflect_dynamic.specs.View.{value_of, content_of, stored_in}
use Rattle.prost_reflect_dynamic.specs.KeptLaws.{Arranged, fields_in}
use Rattle.prost_reflect_dynamic.specs.declared.value.Value.{Value}
use Rattle.prost_reflect_dynamic.specs.declared.value.Value as values
use Rattle.prost_reflect_dynamic.specs.declared.message.DynamicMessage.{DynamicMessage}

-- In each message type, the message that stores these slots; and slots with a text at 1 and the number 5 at 3.
abbrev pub message_with : PooledType → List (ℕ × FieldSlot Value) → DynamicMessage
message_with type slots = record { fields = (type, slots) }

abbrev pub text_and_five : String Global → List (ℕ × FieldSlot Value)
text_and_five text = (1, slots.Value (values.String text)) ∷ (3, slots.Value (values.I32 (pos 5))) ∷ []

abbrev pub sample_message : PooledType → String Global → DynamicMessage
sample_message type text = message_with type (text_and_five text)

pub record OfContentLaws : Type 0 where
  -- Numbers that ascend.
  pub message_slots : (type : PooledType) (text : String Global) → IsAscending (stored_in (sample_message type text))
  -- Values that are in order.
  pub message_order : (type : PooledType) (text : String Global)
      → IsAscending (stored_in (sample_message type text))
      × ((k : ℕ) (v : Value) → stored_at (stored_in (sample_message type text)) k ≡ Some v
      → value_ordered (value_of v) ≡ true)
  -- A field of the content's type.
  pub slots_after_set : (f : Field) × (field_of (fields_in sample) 2 ≡ Some f)
  -- Two messages whose texts are the same, and may lie in two places.
  pub slots_determine : (type : PooledType) (text other : String Global) → string_bytes text ≡ string_bytes other
      → ((k : ℕ)
      → slot_at (entries_of (content_of (sample_message type text))) k
      ≡ slot_at (entries_of (content_of (sample_message type other))) k)

pub record OfKeptLaws : Type 0 where
  pub message_arranged : (type : PooledType) (text : String Global) → IsAscending (stored_in (sample_message type text))
  -- Contents of values, of an unknown record and of stored defaults.
  pub kept_after_clear : Arranged (entries_of sample) × Arranged (entries_of stores_defaults)
  pub kept_after_set : Arranged (entries_of sample) × ((f : Field) × (field_of (fields_in sample) 2 ≡ Some f))
  -- Contents to which any record is added.
  pub kept_after_unknown : Arranged (entries_of sample) × Arranged (entries_of stores_defaults)
  -- A number that is lent for writing, and 0 for its default.
  pub kept_after_writing : Arranged (entries_of sample)
      × ((f : Field) × (field_of (fields_in sample) 1 ≡ Some f)
      × (kept_inside (ScalarValue (I32 (pos 0))) ≡ default_value examples f.form f.value_type)
      × (field_valid examples f ≡ true))

-- An unknown group where no level is left.
abbrev pub empty_group : Record
empty_group = record_at 5 (Group NoRecords)

pub record OfDepth : Type 0 where
  pub only_too_deep : RecordFront empty_group (hex "2b2c") [] × StandsInField 0 errors.Depth (hex "2b2c") × (0 < payload_levels empty_group.payload)
