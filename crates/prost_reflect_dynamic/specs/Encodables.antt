-- When a message is encodable, told slot by slot; and what holds of each message that is. For private contracts alone.
use Rattle.std.specs.Prelude.{ℕ, Bool, true, ◌&&◌, List}
use Rattle.std.specs.List.{list_all}
use Rattle.prost_reflect_wire.specs.Schema.{Field, field_of, passes}
use Rattle.prost_reflect_wire.specs.Content as contents
use Rattle.prost_reflect_wire.specs.Content.{Content, ordered, value_ordered}
use Rattle.prost_reflect_wire.specs.Typing.{fit_test, alone_test, value_valid, value_passes, exclusive}
use Rattle.prost_reflect_fields.specs.declared.slot.FieldSlot.{FieldSlot}
use Rattle.prost_reflect_fields.specs.declared.slot.FieldSlot.TheVariants.{Value as ValueEntry, Unknown as UnknownEntry, Both as BothEntry}
use Rattle.prost_reflect_dynamic.specs.View.{value_of}
use Rattle.prost_reflect_dynamic.specs.declared.value.MapKey.{MapKey}
use Rattle.prost_reflect_dynamic.specs.declared.value.Value.{Value}

-- The value fits the field of the number, and each message in it is encodable.
abbrev pub fits_at : List Field → ℕ → contents.Value → Bool
fits_at fields n v = passes (field_of fields n) (λ f. value_valid f v) && value_passes fit_test v

-- The value at a number, if there is one, passes the test.
abbrev pub slot_passes : (ℕ → contents.Value → Bool) → ℕ → FieldSlot Value → Bool
slot_passes test n (ValueEntry v) = test n (value_of v)
slot_passes test n (UnknownEntry u) = true
slot_passes test n (BothEntry v u) = test n (value_of v)

abbrev pub slots_pass : (ℕ → contents.Value → Bool) → List (ℕ × FieldSlot Value) → Bool
slots_pass test es = list_all (λ (e : ℕ × FieldSlot Value). slot_passes test e.0 e.1) es

abbrev pub items_pass : (contents.Value → Bool) → List Value → Bool
items_pass test vs = list_all (λ v. test (value_of v)) vs

abbrev pub entries_pass : (contents.Value → Bool) → List (MapKey × Value) → Bool
entries_pass test es = list_all (λ (e : MapKey × Value). test (value_of e.1)) es

-- Numbers and keys ascend, and at most one member of a oneof has a value, at every depth.
abbrev pub arranged : Content → Bool
arranged c = ordered c && exclusive c

abbrev pub value_arranged : contents.Value → Bool
value_arranged v = value_ordered v && value_passes alone_test v
