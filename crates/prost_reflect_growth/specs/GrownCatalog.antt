-- The catalog of files and added ones, from the catalog and the tables of the files.
use Rattle.std.specs.Prelude.{◌≡◌, true, List, ◌++◌, length, map}
use Rattle.prost_reflect_types.specs.declared.FileDescriptorProto.{FileDescriptorProto}
use Rattle.prost_reflect_tables.specs.declared.catalog.Catalog.{Catalog}
use Rattle.prost_reflect_tables.specs.CatalogRows.{CatalogRows, catalog_row}
use Rattle.prost_reflect_tables.specs.Rows.{TableRows}
use Rattle.prost_reflect_tables.specs.Flat.{FlatRows, behind, flattened}
use Rattle.prost_reflect_tables.specs.Faults.{file_names}
use Rattle.prost_reflect_tables.specs.Built.{AreTablesOf}
use Rattle.prost_reflect_tables.specs.Checked.{Checked}
use Rattle.prost_reflect_tables.specs.Linked.{is_linked}
use Rattle.prost_reflect_tables.specs.LinkedCatalog.{each_from, enum_lists, linked_extension, linked_service, linked_catalog, IsCatalogOf}
use Rattle.prost_reflect_tables.specs.Linking.{links_of, linked_rows}
use Rattle.prost_reflect_growth.specs.Growth.{added_rows}
use Rattle.prost_reflect_growth.specs.RowsGrow.{added_messages, grown_rows}
use Rattle.prost_reflect_growth.specs.Merging.{grown_sorted}
use Rattle.prost_reflect_growth.specs.ExtensionsGrow.{grown_extension}
use Rattle.prost_reflect_growth.specs.CatalogGrow.{added_file, added_lists, grown_lists_from}

-- From the old rows, and the old catalog. Nothing but the added definitions is linked.
abbrev pub grown_catalog : (files added : List FileDescriptorProto) → (old new : FlatRows) → TableRows → CatalogRows → CatalogRows
grown_catalog files added old new rows catalog = let links = links_of (behind old new) in record {
  files = catalog.files ++ each_from (added_file (file_names (files ++ added)) old new) (length files) added;
  messages =
      grown_lists_from old new 0 rows.messages catalog.messages
      ++ each_from (added_lists old new) (length old.messages) (added_messages old new);
  enums = catalog.enums ++ map enum_lists new.enums;
  extensions =
      map (grown_extension old new rows) catalog.extensions ++ map (linked_extension links (grown_rows old new rows)) new.extensions;
  services = catalog.services ++ map (linked_service links) new.services;
  by_name = grown_sorted files added old new catalog.by_name;
}

abbrev pub CatalogGrows : Type 0
CatalogGrows =
    (files added : List FileDescriptorProto) → Checked files (flattened files) →
    let old = flattened files in let new = added_rows files added in
    is_linked (linked_rows old) ≡ true →
    linked_catalog (files ++ added) (behind old new) ≡ grown_catalog files added old new (linked_rows old) (linked_catalog files old)

-- A catalog whose rows are the grown ones is that of all files.
abbrev pub GrownIsCatalog : Type 0
GrownIsCatalog =
    (files added : List FileDescriptorProto) (rows : TableRows) (catalog grown : Catalog) → AreTablesOf files rows → is_linked rows ≡ true →
    IsCatalogOf files catalog →
    catalog_row grown ≡ grown_catalog files added (flattened files) (added_rows files added) rows (catalog_row catalog) →
    IsCatalogOf (files ++ added) grown
