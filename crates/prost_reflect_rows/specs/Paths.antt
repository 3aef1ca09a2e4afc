-- Paths of numbers: the field that one leads to (the encoding guide, "Submessages", for what is in what).
use Rattle.std.specs.Prelude.{ℕ, if◌then◌else◌, List, Option, Some, None, option_and_then, ◌<◌, suc, nat_le, IsTrue, [], ◌∷◌, length, option_map, slice_get}
use Rattle.prost_reflect_tables.specs.Rows.{FieldRow, TableRows}
use Rattle.prost_reflect_tables.specs.Places.{fields_at, place_of, is_declared_at}
use Rattle.prost_reflect_wire.specs.Varint.{◌>>=◌}
use Rattle.prost_reflect_wire.specs.Schema.{Field, Schema, known, field_of, is_singular}
use Rattle.prost_reflect_wire.specs.Grammar.{LEVEL_LIMIT}
use Rattle.prost_reflect_wire.specs.Edit.{message_of_kind}
use Rattle.prost_reflect_rows.specs.RowKinds.{single_place}

-- The place of a number, if it is no extension's.
abbrev pub declared_place : List FieldRow → ℕ → Option ℕ
declared_place fields n = option_and_then (λ i. if is_declared_at fields i then Some i else None) (place_of fields n)

-- The field of a number; an extension is none.
abbrev pub own_field : List Field → ℕ → Option Field
own_field fields n = field_of fields n >>= λ f. if f.is_extension then None else Some f

-- The message type of a field of one message or group.
abbrev pub message_inside : Field → Option ℕ
message_inside f = if is_singular f.form then message_of_kind f.value_type.kind else None

-- The field that a path leads to: the last number's, in the message type of the fields before it.
abbrev pub field_at : Schema → ℕ → List ℕ → Option Field
field_at schema T [] = None
field_at schema T (n ∷ []) = own_field (known schema T) n
field_at schema T (n ∷ m ∷ path) = own_field (known schema T) n >>= λ f. message_inside f >>= λ U. field_at schema U (m ∷ path)

-- A path has a number for each level that is read, and one for the field.
abbrev pub PATH_LIMIT : ℕ
PATH_LIMIT = suc LEVEL_LIMIT

-- The field that a path of no more numbers leads to.
abbrev pub field_led : Schema → ℕ → List ℕ → Option Field
field_led schema T path = if nat_le (length path) PATH_LIMIT then field_at schema T path else None

-- The message type in the field of a number, of one message or group.
abbrev pub type_inside : TableRows → ℕ → ℕ → Option ℕ
type_inside rows T n = declared_place (fields_at rows T) n >>= λ i. slice_get (fields_at rows T) i >>= single_place

-- Where the field stands that a path leads to: its message type's place, and its own there.
abbrev pub place_behind : TableRows → ℕ → List ℕ → Option (ℕ × ℕ)
place_behind rows T [] = None
place_behind rows T (n ∷ []) = option_map (λ i. (T, i)) (declared_place (fields_at rows T) n)
place_behind rows T (n ∷ m ∷ path) = type_inside rows T n >>= λ U. place_behind rows U (m ∷ path)

-- The same of a path within the limit.
abbrev pub path_place : TableRows → ℕ → List ℕ → Option (ℕ × ℕ)
path_place rows T path = if nat_le (length path) PATH_LIMIT then place_behind rows T path else None

-- The row there.
abbrev pub row_led : TableRows → ℕ → List ℕ → Option FieldRow
row_led rows T path = path_place rows T path >>= λ p. slice_get (fields_at rows p.0) p.1

-- A field, and no extension, stands there.
abbrev pub IsFieldPlace : TableRows → ℕ × ℕ → Type 0
IsFieldPlace rows p = (p.0 < length rows.messages) × IsTrue (is_declared_at (fields_at rows p.0) p.1)
