-- The unknown fields of a message, those of all numbers one behind another.
use Rattle.std.specs.Prelude.{◌≡◌, ℕ, ◌++◌, List, [], ◌∷◌, map, flat_map, Option, Some, None}
use Rattle.std.specs.Vec.Iter.{into_iter_items}
use Rattle.prost_reflect_wire.specs.Record.{Record, record_at}
use Rattle.prost_reflect_wire.specs.Content.{Entries, NoEntries, Stored, Unknown, entries_of}
use Rattle.prost_reflect_wire.specs.Unknown.{unknown_record, unknown_fields_of}
use Rattle.prost_reflect_wire.specs.declared.unknown.UnknownField.{UnknownField}
use Rattle.prost_reflect_wire.specs.declared.unknown.UnknownFieldSet.{UnknownFieldSet}
use Rattle.prost_reflect_fields.specs.FieldSlots.{unknown_in}
use Rattle.prost_reflect_maps.specs.Items.{IsAscending}
use Rattle.prost_reflect_maps.specs.ItemsLeft.{items_left}
use Rattle.prost_reflect_fields.specs.Sound.{IsSound}
use Rattle.prost_reflect_fields.specs.declared.slot.FieldSlot.{FieldSlot}
use Rattle.prost_reflect_dynamic.specs.View.{content_of, message_type_of, stored_in}
use Rattle.prost_reflect_dynamic.specs.declared.message.DynamicMessage.{DynamicMessage}
use Rattle.prost_reflect_dynamic.specs.declared.message.unknowns.TakenUnknownFields.{TakenUnknownFields}
use Rattle.prost_reflect_dynamic.specs.declared.message.unknowns.UnknownFields.{UnknownFields}
use Rattle.prost_reflect_dynamic.specs.declared.value.Value.{Value}

abbrev pub fields_or_none : Option UnknownFieldSet → List UnknownField
fields_or_none None = []
fields_or_none (Some u) = unknown_fields_of u

-- The unknown fields of these slots: at each number those that stand alone, or beside a value.
abbrev pub all_unknown : List (ℕ × FieldSlot Value) → List UnknownField
all_unknown es = flat_map (λ e. fields_or_none (unknown_in e.1)) es

-- Those that an iterator has left.
abbrev pub unknown_left : UnknownFields → List UnknownField
unknown_left it = it.fields.now ++ all_unknown (items_left it.slots)

-- Those that an iterator over taken ones has left.
abbrev pub taken_left : TakenUnknownFields → List UnknownField
taken_left it = into_iter_items it.fields ++ flat_map unknown_fields_of (into_iter_items it.sets)

-- The unknown records of a content, in ascending number.
abbrev pub unknown_records : Entries → List Record
unknown_records NoEntries = []
unknown_records (Stored n v es) = unknown_records es
unknown_records (Unknown n p es) = record_at n p ∷ unknown_records es

-- A content without its unknown records.
abbrev pub without_unknown : Entries → Entries
without_unknown NoEntries = NoEntries
without_unknown (Stored n v es) = Stored n v (without_unknown es)
without_unknown (Unknown n p es) = without_unknown es

-- The unknown fields of a message are the unknown records of its content.
abbrev pub UnknownListed : Type 0
UnknownListed = (m : DynamicMessage) → IsAscending (stored_in m) → IsSound (message_type_of m) (stored_in m)
    → map unknown_record (all_unknown (stored_in m)) ≡ unknown_records (entries_of (content_of m))
