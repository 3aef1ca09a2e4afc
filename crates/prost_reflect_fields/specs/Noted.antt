-- What is noted beside the slots of a message: under each oneof, its member that has a value.
use Rattle.std.specs.Prelude.{◌≡◌, ℕ, Bool, true, false, ⊤, nat_eq, List, Option, None, Some, option_map, unwrap_or, is_some, if◌then◌else◌}
use Rattle.prost_reflect_wire.specs.Schema.{Field, same_oneof}
use Rattle.prost_reflect_maps.specs.Items.{item_at, put_item}
use Rattle.prost_reflect_fields.specs.FieldSlots.{value_in, has_value, clear_value}
use Rattle.prost_reflect_fields.specs.Known.{oneof_of}
use Rattle.prost_reflect_fields.specs.declared.slot.FieldSlot.{FieldSlot}

-- The number m is noted under the oneof o.
abbrev pub is_noted : List (ℕ × ℕ) → ℕ → ℕ → Bool
is_noted notes o m = unwrap_or (option_map (nat_eq m) (item_at notes o)) false

-- A field that is a member of the oneof has the number.
abbrev pub is_member_of : List Field → ℕ → ℕ → Bool
is_member_of fields o m = same_oneof (oneof_of fields m) (Some o)

-- A note is of a member of its oneof.
abbrev pub NotesOwn : List Field → List (ℕ × ℕ) → Type 0
NotesOwn fields notes = (o m : ℕ) → is_noted notes o m ≡ true → is_member_of fields o m ≡ true

-- With the number under the oneof, if there is one.
abbrev pub note_under : List (ℕ × ℕ) → Option ℕ → ℕ → List (ℕ × ℕ)
note_under notes None m = notes
note_under notes (Some o) m = put_item notes o m

module _ {V : Type 0} where
  -- Each member that has a value is noted.
  abbrev pub NotesWhole : List Field → List (ℕ × ℕ) → List (ℕ × FieldSlot V) → Type 0
  NotesWhole fields notes es = (o m : ℕ) → has_value es m ≡ true → is_member_of fields o m ≡ true → is_noted notes o m ≡ true

  -- So it is where notes are kept.
  abbrev pub AreNoted : List Field → Option (List (ℕ × ℕ)) → List (ℕ × FieldSlot V) → Type 0
  AreNoted fields None es = ⊤
  AreNoted fields (Some notes) es = NotesOwn fields notes × NotesWhole fields notes es

  -- No value at the number that is noted, unless that is n.
  abbrev pub without_noted : List (ℕ × FieldSlot V) → ℕ → Option ℕ → List (ℕ × FieldSlot V)
  without_noted es n None = es
  without_noted es n (Some m) = if nat_eq m n then es else clear_value es m

  -- With the number of the slot under its field's oneof, if it has a value.
  abbrev pub with_note : List Field → List (ℕ × ℕ) → ℕ × FieldSlot V → List (ℕ × ℕ)
  with_note fields notes e = if is_some (value_in e.1) then note_under notes (oneof_of fields e.0) e.0 else notes
