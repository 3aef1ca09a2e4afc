-- What values and messages store, without where it lies in memory.
use Rattle.std.specs.Prelude.{ℕ, List, [], ◌∷◌, map, string_bytes, unwrap_or, option_map}
use Rattle.prost_reflect_wire.specs.Record.{Record, Payload}
use Rattle.prost_reflect_wire.specs.Scalar as scalars
use Rattle.prost_reflect_wire.specs.Scalar.{Scalar}
use Rattle.prost_reflect_wire.specs.Content as contents
use Rattle.prost_reflect_wire.specs.Content.{Content, ContentOf, Entries, NoEntries, Values, Pairs, NoPairs, Pair, Slot, ScalarValue, MessageValue, ListValue, MapValue, values_from, store}
use Rattle.prost_reflect_pool.specs.MessageTypes.{schema_at, type_at}
use Rattle.prost_reflect_fields.specs.Known.{known_of}
use Rattle.prost_reflect_fields.specs.Sound.{prepared}
use Rattle.prost_reflect_fields.specs.FieldSlots.{value_in, records_in, with_value}
use Rattle.prost_reflect_pool.specs.declared.pooled_type.PooledType.{PooledType}
use Rattle.prost_reflect_fields.specs.declared.slot.FieldSlot.{FieldSlot}
use Rattle.prost_reflect_dynamic.specs.declared.value.MapKey.{MapKey}
use Rattle.prost_reflect_dynamic.specs.declared.value.MapKey.TheVariants as keys
use Rattle.prost_reflect_dynamic.specs.declared.value.Value.{Value, fold-Value}
use Rattle.prost_reflect_dynamic.specs.declared.value.Value.TheOpen.{Value-F, DynamicMessage-F}
use Rattle.prost_reflect_dynamic.specs.declared.message.DynamicMessage.{DynamicMessage, fold-DynamicMessage}

abbrev pub key_of : MapKey → Scalar
key_of (keys.Bool b) = scalars.Boolean b
key_of (keys.I32 z) = scalars.I32 z
key_of (keys.I64 z) = scalars.I64 z
key_of (keys.U32 n) = scalars.U32 n
key_of (keys.U64 n) = scalars.U64 n
key_of (keys.String text) = scalars.Text (string_bytes text)

abbrev pub pairs_from : List (MapKey × contents.Value) → Pairs
pairs_from [] = NoPairs
pairs_from (e ∷ es) = Pair (key_of e.0) e.1 (pairs_from es)

abbrev pub payloads_of : List Record → List Payload
payloads_of rs = map (λ r. r.payload) rs

-- The slot of an entry: what its value is, and the payloads of its unknown records.
abbrev pub slot_of : {V : Type 0} → (V → contents.Value) → FieldSlot V → Slot
slot_of view e = record { value = option_map view (value_in e); unknowns = payloads_of (unwrap_or (records_in e) []) }

abbrev pub entries_from : List (ℕ × FieldSlot contents.Value) → Entries
entries_from [] = NoEntries
entries_from (e ∷ es) = store e.0 (slot_of (λ v. v) e.1) (entries_from es)

-- One step of each type, over what its parts are.
abbrev pub value_step : Value-F contents.Value Content → contents.Value
value_step (Value-F.Bool b) = ScalarValue (scalars.Boolean b)
value_step (Value-F.I32 z) = ScalarValue (scalars.I32 z)
value_step (Value-F.I64 z) = ScalarValue (scalars.I64 z)
value_step (Value-F.U32 n) = ScalarValue (scalars.U32 n)
value_step (Value-F.U64 n) = ScalarValue (scalars.U64 n)
value_step (Value-F.F32 n) = ScalarValue (scalars.F32 n)
value_step (Value-F.F64 n) = ScalarValue (scalars.F64 n)
value_step (Value-F.String text) = ScalarValue (scalars.Text (string_bytes text))
value_step (Value-F.Bytes bytes) = ScalarValue (scalars.Bytes bytes.items)
value_step (Value-F.EnumNumber z) = ScalarValue (scalars.EnumNumber z)
value_step (Value-F.Message content) = MessageValue content
value_step (Value-F.List values) = ListValue (values_from values.items)
value_step (Value-F.Map pairs) = MapValue (pairs_from pairs.entries)

abbrev pub message_step : DynamicMessage-F contents.Value Content → Content
message_step message = ContentOf (schema_at message.fields.0) (type_at message.fields.0) (entries_from message.fields.1)

-- A value of the definitions.
abbrev pub value_of : Value → contents.Value
value_of = fold-Value contents.Value Content value_step message_step

-- The content of a message.
abbrev pub content_of : DynamicMessage → Content
content_of = fold-DynamicMessage contents.Value Content value_step message_step

abbrev pub message_type_of : DynamicMessage → PooledType
message_type_of m = m.fields.0

-- What a message keeps at each of its numbers.
abbrev pub stored_in : DynamicMessage → List (ℕ × FieldSlot Value)
stored_in m = m.fields.1

-- A message whose value at a number was written over.
abbrev pub overwritten_at : DynamicMessage → ℕ → Value → DynamicMessage
overwritten_at m n v = record { fields = (m.fields.0, with_value m.fields.1 n v) }

-- A message whose value at a number, which is the default where there was none, was written over.
abbrev pub written_at : DynamicMessage → ℕ → Value → Value → DynamicMessage
written_at m n default v = record { fields = (m.fields.0, with_value (prepared (known_of m.fields.0) m.fields.1 n default) n v) }
