-- What the operations of the field set make of a message's content.
use Rattle.std.specs.Prelude.{ℕ, Bool, nat_eq, if◌then◌else◌, [], ◌∷◌, ◌++◌, Option, None, Some}
use Rattle.prost_reflect_wire.specs.Record.{Payload, Record}
use Rattle.prost_reflect_wire.specs.Schema.{known}
use Rattle.prost_reflect_wire.specs.Content.{Content, ContentOf, Entries, NoEntries, Stored, Unknown, Value, Slot, changed}
use Rattle.prost_reflect_wire.specs.Edit.{with_field_value, clear_field, in_field}
use Rattle.prost_reflect_fields.specs.Known.{is_listed}

abbrev pub in_entries : (Entries → Entries) → Content → Content
in_entries change (ContentOf schema T es) = ContentOf schema T (change es)

-- A known number has the value, and no sibling of its field has one.
abbrev pub value_set : ℕ → Value → Content → Content
value_set n v c = in_field n (λ schema fields f es. with_field_value fields f (Some v) es) c

-- A number has no value.
abbrev pub value_cleared : ℕ → Content → Content
value_cleared n c = in_entries (clear_field n) c

-- No values at the numbers that pass; unknown records stay.
abbrev pub entries_without : (ℕ → Bool) → Entries → Entries
entries_without test NoEntries = NoEntries
entries_without test (Stored n v es) = if test n then entries_without test es else Stored n v (entries_without test es)
entries_without test (Unknown n p es) = Unknown n p (entries_without test es)

-- No field has a value, or no extension.
abbrev pub values_taken : (of_extensions : Bool) → Content → Content
values_taken of_extensions (ContentOf schema T es) = ContentOf schema T (entries_without (is_listed of_extensions (known schema T)) es)

-- The same at a number that is found; where none is, nothing changes.
abbrev pub set_if : Option ℕ → Value → Content → Content
set_if None v c = c
set_if (Some n) v c = value_set n v c

abbrev pub cleared_if : Option ℕ → Content → Content
cleared_if None c = c
cleared_if (Some n) c = value_cleared n c

-- A slot with an unknown record behind those that it has.
abbrev pub with_unknown : Payload → Slot → Slot
with_unknown p slot = record { value = slot.value; unknowns = slot.unknowns ++ p ∷ [] }

-- An unknown record stands behind those of its number.
abbrev pub unknown_added : Record → Content → Content
unknown_added r c = in_entries (λ es. changed r.number (λ n slot. if nat_eq n r.number then with_unknown r.payload slot else slot) es) c
