use Rattle.std.specs.Prelude.{◌≡◌}
use Rattle.prost_reflect_lists.proofs.Common.{map, drop, length, extension_table_row}
use Rattle.prost_reflect_base.specs.Below.{tables_below, catalog_below}
use Rattle.prost_reflect_lists.specs.ExtendedRows.{again_at, made_anew}
use Rattle.prost_reflect_tables.specs.Schema.{rows_of}
use Rattle.prost_reflect_lists.proofs.extensions.move_extensions.Given as goal

abbrev pub invariant-loop-place : goal.invariant-loop-place
invariant-loop-place l = record {
  long : length l.extensions ≡ length (catalog_below l.base).extensions;
  made :
      made_anew (again_at (tables_below l.base) (rows_of l.tables) (catalog_below l.base).extensions) (drop l.place-index l.places) (map extension_table_row l.extensions)
      ≡ made_anew (again_at (tables_below l.base) (rows_of l.tables) (catalog_below l.base).extensions) l.places (map extension_table_row l.fn.extensions);
}
