-- Laws of what is kept of a content, its defaults without presence left out: each operation of the field set is the definitions' operation on it.
use Rattle.std.specs.Prelude.{◌≡◌, ℕ, true, List, Some, unwrap_or}
use Rattle.prost_reflect_wire.specs.Record.{Record}
use Rattle.prost_reflect_wire.specs.Schema.{Field, known, field_of, field_valid}
use Rattle.prost_reflect_wire.specs.Content.{Content, Entries, Value, schema_of, type_of, entries_of, value_at, slot_at, table, numbers_in}
use Rattle.prost_reflect_wire.specs.Typing.{kept, kept_inside}
use Rattle.prost_reflect_wire.specs.Edit.{set_field, clear_field, cleared, default_value, WritingAccess, in_field}
use Rattle.prost_reflect_maps.specs.Items.{IsAscending}
use Rattle.prost_reflect_dynamic.specs.View.{content_of, stored_in}
use Rattle.prost_reflect_dynamic.specs.Contents.{in_entries, value_set, value_cleared, unknown_added}
use Rattle.prost_reflect_dynamic.specs.declared.message.DynamicMessage.{DynamicMessage}

-- The entries are the table of their slots: the numbers ascend, and at each the value comes first.
abbrev pub Arranged : Entries → Type 0
Arranged es = table (slot_at es) (numbers_in es) ≡ es

abbrev pub fields_in : Content → List Field
fields_in c = known (schema_of c) (type_of c)

-- Those of a message are.
abbrev pub MessageArranged : Type 0
MessageArranged = (m : DynamicMessage) → IsAscending (stored_in m) → Arranged (entries_of (content_of m))

-- A set.
abbrev pub KeptAfterSet : Type 0
KeptAfterSet = (c : Content) (n : ℕ) (v : Value) (f : Field) → Arranged (entries_of c) → field_of (fields_in c) n ≡ Some f
    → kept (value_set n v c) ≡ in_field n (λ schema fields f es. set_field fields f v es) (kept c)

-- Clearing and taking.
abbrev pub KeptAfterClear : Type 0
KeptAfterClear = (c : Content) (n : ℕ) → Arranged (entries_of c) → kept (value_cleared n c) ≡ in_entries (clear_field n) (kept c)

-- An unknown record.
abbrev pub KeptAfterUnknown : Type 0
KeptAfterUnknown = (c : Content) (r : Record) → Arranged (entries_of c) → kept (unknown_added r c) ≡ unknown_added r (kept c)

-- Clearing the whole message.
abbrev pub KeptAfterClearAll : Type 0
KeptAfterClearAll = (c : Content) → kept (cleared c) ≡ cleared (kept c)

-- Writing access to a field that is first set to its default where it has no value: what is lent, and what is left where w was written there.
abbrev pub KeptAfterWriting : Type 0
KeptAfterWriting = (c : Content) (n : ℕ) (default w : Value) (f : Field) → Arranged (entries_of c)
    → field_of (fields_in c) n ≡ Some f
    → kept_inside default ≡ default_value (schema_of c) f.form f.value_type
    → field_valid (schema_of c) f ≡ true
    → WritingAccess (schema_of c) (fields_in c) f (entries_of (kept c)) (unwrap_or (value_at n (entries_of c)) default)
    w (entries_of (kept (value_set n w c)))
