use Rattle.std.specs.Prelude.{◌≡◌, ◌++◌, ◌≤◌}
use Rattle.prost_reflect_lists.proofs.Common.{map, drop, length, message_lists_row, each_from}
use Rattle.prost_reflect_base.specs.Below.{rows_below, tables_below, catalog_below}
use Rattle.prost_reflect_growth.specs.CatalogGrow.{added_lists, grown_lists_from}
use Rattle.prost_reflect_growth.specs.RowsGrow.{added_messages}
use Rattle.prost_reflect_tables.specs.Schema.{rows_of}
use Rattle.prost_reflect_lists.proofs.lists.lists_of_messages.Given as goal

abbrev pub invariant-loop-place : goal.invariant-loop-place
invariant-loop-place g l = record {
  past : length (rows_below l.base).messages ≤ l.place;
  made :
      map message_lists_row l.lists ++ each_from (added_lists (rows_below l.base) g.new) l.place (drop l.place (rows_of l.tables).messages)
      ≡ grown_lists_from (rows_below l.base) g.new 0 (tables_below l.base).messages (catalog_below l.base).messages
      ++ each_from (added_lists (rows_below l.base) g.new) (length (rows_below l.base).messages) (added_messages (rows_below l.base) g.new);
}

abbrev pub ghost-added_lists : goal.ghost-added_lists
ghost-added_lists g a = g.new

abbrev pub ghost-lists_of_old_messages : goal.ghost-lists_of_old_messages
ghost-lists_of_old_messages g a = g.new
