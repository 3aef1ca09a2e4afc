-- A walk over the fields of two message types in ascending order of their numbers, and the members of a oneof that follow one another. For private contracts alone.
use Rattle.std.specs.Prelude.{◌≡◌, ℕ, ◌<◌, nat_eq, Bool, true, false, ◌&&◌, if◌then◌else◌, List, [], ◌∷◌, length, map, get_or, set, Option, None, Some}
use Rattle.prost_reflect_wire.specs.Schema.{Field, same_oneof}
use Rattle.prost_reflect_tables.specs.declared.tables.FieldTable.{FieldTable}
use Rattle.prost_reflect_tables.specs.declared.tables.Tables.{Tables}
use Rattle.prost_reflect_tables.specs.Rows.{field_row}
use Rattle.prost_reflect_tables.specs.Schema.{rows_of}
use Rattle.prost_reflect_tables.specs.Shown.{schema_field}
use Rattle.prost_reflect_reduction.specs.Reaching.{fields_alike}

-- The fields that rows of the tables show.
abbrev pub shown_fields : Tables → List FieldTable → List Field
shown_fields tables fields = map (schema_field (rows_of tables)) (map field_row fields)

-- The number of the first member of a oneof, or 0.
abbrev pub first_member : List Field → Option ℕ → ℕ
first_member [] o = 0
first_member (f ∷ fields) o = if same_oneof f.oneof o then f.number else first_member fields o

-- For each field the number of the next member of its oneof, or 0.
unfoldable pub next_members : List Field → List ℕ
next_members [] = []
next_members (f ∷ fields) = first_member fields f.oneof ∷ next_members fields

-- For each oneof, by its place, its first member.
unfoldable pub AreFirst : List ℕ → List Field → Type 0
AreFirst first fields = (o : ℕ) → o < length first → get_or first o 0 ≡ first_member fields (Some o)

-- The first members with one more: of this oneof, if the field is in one, it is the field of this number.
abbrev pub noted : List ℕ → Option ℕ → ℕ → List ℕ
noted first None number = first
noted first (Some o) number = set first o number

-- Fields of one number are alike, and the same member of their oneofs follows; a field that only the newer type has is followed by none.
unfoldable pub merged : List Field → List Field → Bool
merged [] [] = true
merged (f ∷ older) [] = false
merged [] (g ∷ newer) = nat_eq (first_member newer g.oneof) 0 && merged [] newer
merged (f ∷ older) (g ∷ newer) =
    if nat_eq f.number g.number
    then nat_eq (first_member older f.oneof) (first_member newer g.oneof) && fields_alike f g && merged older newer
    else nat_eq (first_member newer g.oneof) 0 && merged (f ∷ older) newer
