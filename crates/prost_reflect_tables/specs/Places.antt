-- What stands at a place of the rows.
use Rattle.std.specs.Prelude.{ℕ, ◌==◌, Bool, false, not, List, [], Option, Some, None, find, position, slice_get}
use Rattle.std.specs.Str.{bytes_eq}
use Rattle.prost_reflect_tables.specs.Rows.{FieldRow, MessageRow, TableRows}

abbrev pub fields_or_none : Option MessageRow → List FieldRow
fields_or_none None = []
fields_or_none (Some m) = m.fields

-- The fields and extensions of the message type of a place; none where there is no such type.
abbrev pub fields_at : TableRows → ℕ → List FieldRow
fields_at rows T = fields_or_none (slice_get rows.messages T)

-- The row of a number, and its place.
abbrev pub row_of : List FieldRow → ℕ → Option FieldRow
row_of fields n = find (λ f. f.number == n) fields

abbrev pub place_of : List FieldRow → ℕ → Option ℕ
place_of fields n = position (λ f. f.number == n) fields

-- The place of the first message type of a full name.
abbrev pub message_place : TableRows → List ℕ → Option ℕ
message_place rows full_name = position (λ m. bytes_eq m.id.full_name full_name) rows.messages

abbrev pub is_declared : Option FieldRow → Bool
is_declared None = false
is_declared (Some f) = not f.is_extension

-- A field, and no extension, stands at the place.
abbrev pub is_declared_at : List FieldRow → ℕ → Bool
is_declared_at fields i = is_declared (slice_get fields i)
