use Rattle.std.specs.Prelude.{◌≡◌, ◌++◌}
use Rattle.prost_reflect_linking.proofs.Common.{drop, map, true, linked_enum}
use Rattle.std.specs.List.{list_all}
use Rattle.prost_reflect_tables.specs.Rows.{enum_row}
use Rattle.prost_reflect_flat.specs.FlatViews as flat_views
use Rattle.prost_reflect_tables.specs.InRange.{enum_in_range}
use Rattle.prost_reflect_linking.proofs.link.linked_enums.Given as goal

abbrev pub invariant-loop-item : goal.invariant-loop-item
invariant-loop-item l = record {
  rows : map enum_row l.tables.items ++ map linked_enum (map flat_views.enum_row (drop l.item-index l.enums)) ≡ map linked_enum (map flat_views.enum_row l.enums);
  range : list_all enum_in_range (map enum_row l.tables.items) ≡ true;
}
