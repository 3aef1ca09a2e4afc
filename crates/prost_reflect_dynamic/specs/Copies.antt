-- Values and messages that store the same.
use Rattle.std.specs.Prelude.{◌≡◌, List, map, option_map}
use Rattle.prost_reflect_wire.specs.Scalar.{Scalar}
use Rattle.prost_reflect_pool.specs.MessageTypes.{SameMessage}
use Rattle.prost_reflect_fields.specs.FieldSlots.{value_in, records_in}
use Rattle.prost_reflect_fields.specs.declared.slot.FieldSlot.{FieldSlot}
use Rattle.prost_reflect_dynamic.specs.View.{key_of, value_of, content_of, message_type_of}
use Rattle.prost_reflect_dynamic.specs.Stored.{StoredValue, value_stored, message_stored}
use Rattle.prost_reflect_dynamic.specs.declared.message.DynamicMessage.{DynamicMessage}
use Rattle.prost_reflect_dynamic.specs.declared.value.MapKey.{MapKey}
use Rattle.prost_reflect_dynamic.specs.declared.value.Value.{Value}

-- Two values that store the same; so both are one value of the definitions.
abbrev pub SameStored : Value → Value → Type 0
SameStored v w = (value_stored w ≡ value_stored v) × (value_of w ≡ value_of v)

-- Two messages that store the same; so both are of one type, with one content.
abbrev pub SameStoring : DynamicMessage → DynamicMessage → Type 0
SameStoring a b = (message_stored b ≡ message_stored a) × SameMessage (message_type_of a) (message_type_of b)
    × (content_of b ≡ content_of a)

-- Two slots that store the same.
pub record SameSlot (e d : FieldSlot Value) : Type 0 where
  pub value : option_map value_stored (value_in d) ≡ option_map value_stored (value_in e)
  pub records : records_in d ≡ records_in e

-- The entries of a map as keys and what their values store.
abbrev pub pairs_seen : List (MapKey × Value) → List (Scalar × StoredValue)
pairs_seen es = map (λ (e : MapKey × Value). (key_of e.0, value_stored e.1)) es
