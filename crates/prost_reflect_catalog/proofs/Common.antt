-- The names that most proofs cite, handed on from one place. Declares nothing.
pub use Rattle.std.proofs.Common.{ap, ◌∙◌, map, rules, List, drop}
pub use Rattle.prost_reflect_flat.specs.FlatViews.{flat_rows, service_row, text_list}
pub use Rattle.prost_reflect_tables.specs.LinkedCatalog.{linked_service}
pub use Rattle.prost_reflect_tables.specs.Linking.{links_of}
pub use Rattle.prost_reflect_tables.specs.Resolved.{ResolvedRow}
pub use Rattle.prost_reflect_tables.proofs.CatalogParts.{same_catalog, same_sorted}
pub use Rattle.prost_reflect_resolving.specs.Indexed.{all_rows}
