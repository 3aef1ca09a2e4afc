-- What a catalog takes of flat lists alone, before the rows are made. For contracts of this crate alone.
use Rattle.std.specs.Prelude.{◌≡◌, List, ◌++◌, length, map}
use Rattle.prost_reflect_types.specs.declared.FileDescriptorProto.{FileDescriptorProto}
use Rattle.prost_reflect_base.specs.declared.Base.{Base}
use Rattle.prost_reflect_base.specs.Below.{files_below, rows_below, catalog_below}
use Rattle.prost_reflect_growth.specs.CatalogGrow.{added_file}
use Rattle.prost_reflect_growth.specs.Merging.{grown_sorted}
use Rattle.prost_reflect_catalog.specs.declared.catalog.Outline.{Outline}
use Rattle.prost_reflect_lists.specs.ExtendedRows.{extended, extended_row}
use Rattle.prost_reflect_lists.specs.GatheredLists.{AreInner, AreFurther}
use Rattle.prost_reflect_resolving.specs.Indexed.{all_rows}
use Rattle.prost_reflect_tables.specs.CatalogRows.{file_table_row, enum_lists_row, service_table_row, sorted_row}
use Rattle.prost_reflect_tables.specs.Faults.{file_names}
use Rattle.prost_reflect_tables.specs.Flat.{FlatRows}
use Rattle.prost_reflect_tables.specs.LinkedCatalog.{each_from, enum_lists, linked_service}
use Rattle.prost_reflect_tables.specs.Linking.{links_of}

-- What added files give to the catalog of the pool and of these, but for what takes the rows of both.
pub record IsOutlineOf (outline : Outline) (base : Base) (added : List FileDescriptorProto) (new : FlatRows) : Type 0 where
  pub files : map file_table_row outline.files
      ≡ (catalog_below base).files
      ++ each_from (added_file (file_names (files_below base ++ added)) (rows_below base) new)
      (length (files_below base)) added
  pub inner : AreInner outline.inner (rows_below base) new
  pub further : AreFurther outline.further.items (rows_below base) new
  pub enums : map enum_lists_row outline.enums ≡ (catalog_below base).enums ++ map enum_lists new.enums
  pub extensions : map extended_row outline.extensions.items ≡ map (extended (links_of (all_rows base new))) new.extensions
  pub services : map service_table_row outline.services
      ≡ (catalog_below base).services ++ map (linked_service (links_of (all_rows base new))) new.services
  pub by_name : sorted_row outline.by_name ≡ grown_sorted (files_below base) added (rows_below base) new (catalog_below base).by_name
