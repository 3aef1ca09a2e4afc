-- The rows of the key and the value of a map's entries.
use Rattle.std.specs.Prelude.{List, ◌∷◌, Option, Some, None}
use Rattle.prost_reflect_tables.specs.Rows.{FieldRow, MessageRow, TableRows}
use Rattle.prost_reflect_tables.specs.Shown.{map_entry}

abbrev pub two_of : List FieldRow → Option (FieldRow × FieldRow)
two_of (key ∷ value ∷ others) = Some (key, value)
two_of fields = None

abbrev pub entry_parts : Option MessageRow → Option (FieldRow × FieldRow)
entry_parts None = None
entry_parts (Some m) = two_of m.fields

-- None where the field is no map.
abbrev pub map_parts : TableRows → FieldRow → Option (FieldRow × FieldRow)
map_parts rows f = entry_parts (map_entry rows.messages f f.cardinality)
