-- What storing makes of the slot of each number: a value is put in its field's place and clears its siblings; elements go behind those of their list; an unknown record goes behind those of its number. For private contracts alone.
use Rattle.std.specs.Prelude.{ℕ, nat_eq, if◌then◌else◌, List, [], ◌∷◌, ◌++◌, map, Option, Some, None}
use Rattle.prost_reflect_wire.specs.Record.{Payload, Record, record_at, spelled}
use Rattle.prost_reflect_wire.specs.Schema.{Field, field_of, is_sibling}
use Rattle.prost_reflect_wire.specs.Content.{Value, ListValue, Values, ◌and_then◌, Slot}
use Rattle.prost_reflect_wire.specs.Meaning.{values_in}
use Rattle.prost_reflect_wire.specs.Writing.{field_payloads}
use Rattle.prost_reflect_wire.specs.Typing.{kept_value, kept_inside}
use Rattle.prost_reflect_wire.specs.Edit.{with_value}

abbrev pub with_stored : List Field → Field → Value → ℕ → Slot → Slot
with_stored fields f v m slot = if nat_eq m f.number then with_value (Some v) slot else if is_sibling fields f m then with_value None slot else slot

abbrev pub with_unknown : ℕ → Payload → ℕ → Slot → Slot
with_unknown n p m slot = if nat_eq m n then record { value = slot.value; unknowns = slot.unknowns ++ (p ∷ []) } else slot

-- At its number, values behind those of the list, and strays behind the unknown records.
abbrev pub joined_slot : Field → Values → List Payload → ℕ → Slot → Slot
joined_slot f added strays m slot = if nat_eq m f.number then record { value = Some (ListValue (values_in slot.value and_then added)); unknowns = slot.unknowns ++ strays } else slot

-- WRITING WHAT IS STORED

-- The records of the value that is kept of a stored one.
abbrev pub kept_records : List Field → ℕ → Option Value → List Record
kept_records fields n None = []
kept_records fields n (Some v) = map (record_at n) (field_payloads (field_of fields n) v)

abbrev pub value_bytes : List Field → ℕ → Value → List ℕ
value_bytes fields n v = spelled (kept_records fields n (kept_value (field_of fields n) (kept_inside v)))

abbrev pub stored_bytes : List Field → ℕ → Option Value → List ℕ
stored_bytes fields n None = []
stored_bytes fields n (Some v) = value_bytes fields n v

-- What is written at a number: what is kept of the value, and then the unknown records.
abbrev pub slot_bytes : List Field → ℕ → Slot → List ℕ
slot_bytes fields n slot = stored_bytes fields n slot.value ++ spelled (map (record_at n) slot.unknowns)
