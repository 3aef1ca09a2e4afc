-- The rows of files that pass all checks, where files are added: old rows stay, but for the rows of extensions that are put among them.
use Rattle.std.specs.Prelude.{◌≡◌, ℕ, ◌+◌, true, nat_lt, List, ◌++◌, length, map, filter, Option, None, Some, slice_get}
use Rattle.prost_reflect_types.specs.declared.FileDescriptorProto.{FileDescriptorProto}
use Rattle.prost_reflect_tables.specs.Rows.{FieldRow, OneofRow, MessageRow, TableRows}
use Rattle.prost_reflect_tables.specs.Places.{place_of}
use Rattle.prost_reflect_tables.specs.Flat.{FlatRows, behind}
use Rattle.prost_reflect_tables.specs.Checked.{Checked}
use Rattle.prost_reflect_tables.specs.Linked.{ascending_from, is_linked}
use Rattle.prost_reflect_tables.specs.LinkedCatalog.{each_from}
use Rattle.prost_reflect_tables.specs.Linking.{links_of, in_order, linked_field, linked_enum, belonging, extended_place, messages_from, linked_rows}

abbrev pub number_of_row : Option FieldRow → ℕ
number_of_row None = 0
number_of_row (Some f) = f.number

-- How many of the rows have a smaller number.
abbrev pub smaller : ℕ → List FieldRow → ℕ
smaller n rows = length (filter (λ f. nat_lt f.number n) rows)

-- Where the row at a place of the fields stands once further rows are put among them.
abbrev pub moved_place : (more fields : List FieldRow) → ℕ → ℕ
moved_place more fields i = i + smaller (number_of_row (slice_get fields i)) more

-- It is found there by its number.
abbrev pub PlacesMove : Type 0
PlacesMove =
    (fields more : List FieldRow) (i : ℕ) (f : FieldRow) → ascending_from 0 fields ≡ true → slice_get fields i ≡ Some f →
    place_of (in_order (fields ++ more)) f.number ≡ Some (moved_place more fields i)

abbrev pub moved_oneof : (more fields : List FieldRow) → OneofRow → OneofRow
moved_oneof more fields o = record { id = o.id; fields = map (moved_place more fields) o.fields }

-- The row of a message with the rows of further extensions.
abbrev pub grown_message : (more : List FieldRow) → MessageRow → MessageRow
grown_message more m = record {
  id = m.id;
  is_map_entry = m.is_map_entry;
  fields = in_order (m.fields ++ more);
  oneofs = map (moved_oneof more m.fields) m.oneofs;
}

-- Further rows may be in order before.
abbrev pub FurtherOrdered : Type 0
FurtherOrdered = (more : List FieldRow) (m : MessageRow) → grown_message (in_order more) m ≡ grown_message more m

-- The rows of the added extensions of the message at a place.
abbrev pub further : (old new : FlatRows) → ℕ → List FieldRow
further old new T =
    map (linked_field (links_of (behind old new)) true) (belonging (extended_place (links_of (behind old new))) new.extensions T)

-- The rows of added messages, which are linked with the added extensions alone.
abbrev pub added_messages : (old new : FlatRows) → List MessageRow
added_messages old new = messages_from (links_of (behind old new)) new.extensions (length old.messages) new.messages

-- Old messages grow, and added ones stand behind them.
abbrev pub grown_rows : (old new : FlatRows) → TableRows → TableRows
grown_rows old new rows = record {
  messages = each_from (λ T m. grown_message (further old new T) m) 0 rows.messages ++ added_messages old new;
  enums = rows.enums ++ map linked_enum new.enums;
}

abbrev pub RowsGrow : Type 0
RowsGrow =
    (files : List FileDescriptorProto) (old new : FlatRows) → Checked files old → is_linked (linked_rows old) ≡ true →
    linked_rows (behind old new) ≡ grown_rows old new (linked_rows old)
