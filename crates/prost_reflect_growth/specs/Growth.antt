-- What becomes of flat lists, of names and of rows where files are added to others.
use Rattle.std.specs.Prelude.{◌≡◌, ℕ, ◌+◌, length, List, ◌++◌, Option, Some, None, option_map}
use Rattle.prost_reflect_types.specs.declared.FileDescriptorProto.{FileDescriptorProto}
use Rattle.prost_reflect_tables.specs.Flat.{FlatRows, behind, files_from, flattened}
use Rattle.prost_reflect_tables.specs.Faults.{name_place}
use Rattle.prost_reflect_tables.specs.Rows.{FieldRow}
use Rattle.prost_reflect_tables.specs.Linking.{in_order}

-- What the added files give behind those that are there.
abbrev pub added_rows : (old new : List FileDescriptorProto) → FlatRows
added_rows old new = files_from new (length old) (length (flattened old).messages)

abbrev pub FlatGrows : Type 0
FlatGrows = (old new : List FileDescriptorProto) → flattened (old ++ new) ≡ behind (flattened old) (added_rows old new)

-- The first answer, or else the second, so many places further.
abbrev pub or_behind : Option ℕ → ℕ → Option ℕ → Option ℕ
or_behind (Some i) n p = Some i
or_behind None n p = option_map (λ i. n + i) p

abbrev pub PlacesGrow : Type 0
PlacesGrow =
    (old new : List (List ℕ)) (name : List ℕ) →
    name_place (old ++ new) name ≡ or_behind (name_place old name) (length old) (name_place new name)

abbrev pub OrderGrows : Type 0
OrderGrows = (old new : List FieldRow) → in_order (old ++ new) ≡ in_order (in_order old ++ new)
