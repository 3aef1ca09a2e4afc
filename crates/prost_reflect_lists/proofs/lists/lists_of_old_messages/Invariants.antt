use Rattle.std.specs.Prelude.{◌≡◌}
use Rattle.prost_reflect_lists.proofs.Common.{map, message_lists_row}
use Rattle.prost_reflect_base.specs.Below.{rows_below, tables_below, catalog_below}
use Rattle.prost_reflect_growth.specs.CatalogGrow.{grown_lists_from}
use Rattle.prost_reflect_lists.proofs.GrownLists.{mixed}
use Rattle.prost_reflect_lists.proofs.lists.lists_of_old_messages.Given as goal

abbrev pub invariant-loop-place : goal.invariant-loop-place
invariant-loop-place g l =
    map message_lists_row l.lists
    ≡ mixed l.place (grown_lists_from (rows_below l.base) g.new 0 (tables_below l.base).messages (catalog_below l.base).messages) (catalog_below l.base).messages
