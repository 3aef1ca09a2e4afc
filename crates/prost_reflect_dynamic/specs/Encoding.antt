-- What is written of the entries of a message. For private contracts alone.
use Rattle.std.specs.Prelude.{◌≡◌, ℕ, Bool, true, false, List, [], ◌∷◌, ◌++◌, map}
use Rattle.std.specs.Option.{ForSome}
use Rattle.std.specs.List.{AllByRecursion}
use Rattle.prost_reflect_wire.specs.declared.key.WireType.TheVariants as wires
use Rattle.prost_reflect_wire.specs.Record.{Len, record_at, spelled, short_key, short_plain}
use Rattle.prost_reflect_wire.specs.Schema.{Field, field_of, passes}
use Rattle.prost_reflect_wire.specs.Content as contents
use Rattle.prost_reflect_wire.specs.Content.{Content, Slot}
use Rattle.prost_reflect_wire.specs.Writing.{encoded}
use Rattle.prost_reflect_wire.specs.Typing.{kept, value_valid, value_passes, fit_test}
use Rattle.prost_reflect_wire.specs.Storing.{slot_bytes}
use Rattle.prost_reflect_fields.specs.FieldSlots.{value_in, records_in}
use Rattle.prost_reflect_fields.specs.Known.{are_records_of}
use Rattle.prost_reflect_dynamic.specs.View.{value_of, slot_of}
use Rattle.prost_reflect_fields.specs.declared.slot.FieldSlot.{FieldSlot}
use Rattle.prost_reflect_dynamic.specs.declared.value.Value.{Value}

-- The bytes of entries, one number after another.
abbrev pub entries_bytes : List Field → List (ℕ × FieldSlot Value) → List ℕ
entries_bytes fields [] = []
entries_bytes fields (e ∷ es) = slot_bytes fields e.0 (slot_of value_of e.1) ++ entries_bytes fields es

-- The value fits its field, and each message in it is encodable.
pub record ValueWritable (fields : List Field) (n : ℕ) (v : contents.Value) : Type 0 where
  pub valid : passes (field_of fields n) (λ f. value_valid f v) ≡ true
  pub fits : value_passes fit_test v ≡ true

-- The unknown records of an entry are of its number.
abbrev pub OwnUnknown : ℕ → FieldSlot Value → Type 0
OwnUnknown n e = ForSome (records_in e) (λ rs. are_records_of n rs ≡ true)

-- What is written of the unknown records of a slot.
abbrev pub unknown_bytes : ℕ → Slot → List ℕ
unknown_bytes n slot = spelled (map (record_at n) slot.unknowns)

-- The value of an entry can be written, and its unknown records are of its number.
pub record IsWritable (fields : List Field) (n : ℕ) (e : FieldSlot Value) : Type 0 where
  pub value : ForSome (value_in e) (λ v. ValueWritable fields n (value_of v))
  pub own : OwnUnknown n e

abbrev pub AreWritable : List Field → List (ℕ × FieldSlot Value) → Type 0
AreWritable fields es = AllByRecursion (λ e. IsWritable fields e.0 e.1) es

-- The record of a message, or of a group.
abbrev pub nested_bytes : ℕ → Bool → Content → List ℕ
nested_bytes n true c = short_key n wires.StartGroup ++ (encoded (kept c) ++ short_key n wires.EndGroup)
nested_bytes n false c = short_key n wires.LengthDelimited ++ short_plain (Len (encoded (kept c)))
