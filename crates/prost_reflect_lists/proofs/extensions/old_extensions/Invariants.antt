use Rattle.std.specs.Prelude.{◌≡◌}
use Rattle.prost_reflect_lists.proofs.Common.{cond, map, extension_table_row}
use Rattle.std.specs.Prelude.{nat_lt}
use Rattle.prost_reflect_base.specs.Below.{rows_below, tables_below, catalog_below}
use Rattle.prost_reflect_growth.specs.ExtensionsGrow.{grown_extension}
use Rattle.prost_reflect_tables.specs.CatalogRows.{ExtensionRow}
use Rattle.prost_reflect_lists.proofs.extensions.old_extensions.Given as goal

abbrev pub invariant-loop-place : goal.invariant-loop-place
invariant-loop-place g l =
    map extension_table_row l.extensions
    ≡ map (λ (x : ExtensionRow). cond (nat_lt x.message l.place) (grown_extension (rows_below l.base) g.new (tables_below l.base) x) x) (catalog_below l.base).extensions
