-- What a pool has of each sort of definitions with full names of their own. For private contracts alone.
use Rattle.std.specs.Prelude.{ℕ, List}
use Rattle.prost_reflect_base.specs.declared.Base.{Base}
use Rattle.prost_reflect_base.specs.Below.{files_below, rows_below, catalog_below}
use Rattle.prost_reflect_sorted.specs.declared.merging.Sort.{Sort}
use Rattle.prost_reflect_sorted.specs.declared.merging.Sort.TheVariants.{File, Message, Enum, Extension, Service}
use Rattle.prost_reflect_tables.specs.Faults.{file_names, message_names, enum_names, names_of}
use Rattle.prost_reflect_tables.specs.LinkedCatalog.{service_names}

abbrev pub names_below : Base → Sort → List (List ℕ)
names_below base File = file_names (files_below base)
names_below base Message = message_names (rows_below base)
names_below base Enum = enum_names (rows_below base)
names_below base Extension = names_of (rows_below base).extensions
names_below base Service = service_names (rows_below base)

-- The places in the order of these names.
abbrev pub order_below : Base → Sort → List ℕ
order_below base File = (catalog_below base).by_name.files
order_below base Message = (catalog_below base).by_name.messages
order_below base Enum = (catalog_below base).by_name.enums
order_below base Extension = (catalog_below base).by_name.extensions
order_below base Service = (catalog_below base).by_name.services
