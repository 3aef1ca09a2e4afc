-- The rows of the built-in pool.
use Rattle.std.specs.Prelude.{ℕ, pos, Bool, true, false, List, [], ◌∷◌, ◌++◌, Some, None, codes}
use Rattle.prost_reflect_tables.specs.declared.tables.Cardinality.TheVariants.{Optional}
use Rattle.prost_reflect_tables.specs.declared.tables.TableKind.{TableKind}
use Rattle.prost_reflect_tables.specs.declared.tables.TableKind.TheVariants.{Double, Float, Int32, Int64, Uint32, Uint64, Sint32, Sint64, Fixed32, Fixed64, Sfixed32, Sfixed64, Bool as BoolKind, String, Bytes}
use Rattle.prost_reflect_tables.specs.Rows.{IdentityRow, FieldRow, MessageRow, TableRows}
use Rattle.prost_reflect_tables.specs.Names.{joined}

-- The message type of a name, alone in the file of a place.
abbrev pub message_id : ℕ → List ℕ → IdentityRow
message_id file name = record { file = file; parent = None; path = pos 4 ∷ pos 0 ∷ []; full_name = joined (codes "builtin") name; name = name }

-- The field of a place in the list of such a message type, which has the place of its file.
abbrev pub field_id : IdentityRow → ℕ → List ℕ → IdentityRow
field_id message i name = record { file = message.file; parent = Some message.file; path = message.path ++ pos 2 ∷ pos i ∷ []; full_name = joined message.full_name name; name = name }

-- The row of a singular optional field of a message type, with presence or without.
abbrev pub scalar_row : IdentityRow → Bool → ℕ → ℕ → TableKind → List ℕ → FieldRow
scalar_row message presence i n kind name = record {
  id = field_id message i name;
  json_name = name;
  number = n;
  is_extension = false;
  kind = kind;
  is_group = false;
  cardinality = Optional;
  is_packed = false;
  supports_presence = presence;
  default = None;
  oneof = None;
}

abbrev pub scalar_rows : IdentityRow → Bool → List FieldRow
scalar_rows message presence =
    scalar_row message presence 0 1 Double (codes "f_double")
    ∷ scalar_row message presence 1 2 Float (codes "f_float")
    ∷ scalar_row message presence 2 3 Int64 (codes "f_int64")
    ∷ scalar_row message presence 3 4 Uint64 (codes "f_uint64")
    ∷ scalar_row message presence 4 5 Int32 (codes "f_int32")
    ∷ scalar_row message presence 5 6 Fixed64 (codes "f_fixed64")
    ∷ scalar_row message presence 6 7 Fixed32 (codes "f_fixed32")
    ∷ scalar_row message presence 7 8 BoolKind (codes "f_bool")
    ∷ scalar_row message presence 8 9 String (codes "f_string")
    ∷ scalar_row message presence 9 12 Bytes (codes "f_bytes")
    ∷ scalar_row message presence 10 13 Uint32 (codes "f_uint32")
    ∷ scalar_row message presence 11 15 Sfixed32 (codes "f_sfixed32")
    ∷ scalar_row message presence 12 16 Sfixed64 (codes "f_sfixed64")
    ∷ scalar_row message presence 13 17 Sint32 (codes "f_sint32")
    ∷ scalar_row message presence 14 18 Sint64 (codes "f_sint64")
    ∷ []

abbrev pub scalar_message_row : ℕ → List ℕ → Bool → MessageRow
scalar_message_row file name presence = let id = message_id file name in record { id = id; is_map_entry = false; fields = scalar_rows id presence; oneofs = [] }

unfoldable pub builtin_messages : List MessageRow
builtin_messages = scalar_message_row 0 (codes "Plain") false ∷ scalar_message_row 1 (codes "Kept") true ∷ []

abbrev pub builtin_rows : TableRows
builtin_rows = record { messages = builtin_messages; enums = [] }
