-- Where the rows of extensions stand, where files are added to files that pass all checks.
use Rattle.std.specs.Prelude.{◌≡◌, ℕ, true, List, [], ◌++◌, map, slice_get, Some}
use Rattle.prost_reflect_types.specs.declared.FileDescriptorProto.{FileDescriptorProto}
use Rattle.prost_reflect_types.specs.declared.FieldDescriptorProto.{FieldDescriptorProto}
use Rattle.prost_reflect_tables.specs.CatalogRows.{ExtensionRow}
use Rattle.prost_reflect_tables.specs.Rows.{FieldRow, TableRows}
use Rattle.prost_reflect_tables.specs.Places.{fields_at}
use Rattle.prost_reflect_tables.specs.Flat.{DefinitionRow, FlatRows, behind}
use Rattle.prost_reflect_tables.specs.Faults.{message_names}
use Rattle.prost_reflect_tables.specs.Checked.{Checked}
use Rattle.prost_reflect_tables.specs.Linked.{is_linked}
use Rattle.prost_reflect_tables.specs.LinkedCatalog.{linked_extension, linked_catalog}
use Rattle.prost_reflect_tables.specs.Linking.{links_of, linked_rows, place_or_first}
use Rattle.prost_reflect_growth.specs.RowsGrow.{moved_place, further, grown_rows}

-- Where the row of an extension stands once further rows are put among the fields of its message.
abbrev pub moved_extension : (more fields : List FieldRow) → ExtensionRow → ExtensionRow
moved_extension more fields x = record { message = x.message; field = moved_place more fields x.field }

-- An old extension extends what it did, and its row stands behind those of added extensions that have smaller numbers.
abbrev pub grown_extension : (old new : FlatRows) → TableRows → ExtensionRow → ExtensionRow
grown_extension old new rows x = moved_extension (further old new x.message) (fields_at rows x.message) x

-- Old extensions in front, and behind them the added ones, whose rows stand among the grown rows.
abbrev pub ExtensionsGrow : Type 0
ExtensionsGrow =
    (files added : List FileDescriptorProto) (old new : FlatRows) → Checked files old → is_linked (linked_rows old) ≡ true →
    (linked_catalog (files ++ added) (behind old new)).extensions
    ≡ map (grown_extension old new (linked_rows old)) (linked_catalog files old).extensions
    ++ map (linked_extension (links_of (behind old new)) (grown_rows old new (linked_rows old))) new.extensions

-- The row of an old extension stands where it did, where no added extension extends its message.
abbrev pub ExtensionsStay : Type 0
ExtensionsStay =
    (files : List FileDescriptorProto) (old new : FlatRows) → Checked files old → is_linked (linked_rows old) ≡ true →
    (i : ℕ) (d : DefinitionRow FieldDescriptorProto) → slice_get old.extensions i ≡ Some d →
    further old new (place_or_first (message_names old) d.proto.extendee) ≡ [] →
    linked_extension (links_of (behind old new)) (linked_rows (behind old new)) d ≡ linked_extension (links_of old) (linked_rows old) d
