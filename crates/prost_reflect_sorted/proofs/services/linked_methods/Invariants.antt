use Rattle.std.specs.Prelude.{◌≡◌, ◌++◌}
use Rattle.prost_reflect_sorted.proofs.Common.{map, drop, definition_row, flat_rows, all_rows, method_table_row, links_of, linked_method}
use Rattle.prost_reflect_sorted.proofs.services.linked_methods.Given as goal

abbrev pub invariant-loop-method : goal.invariant-loop-method
invariant-loop-method l =
    map method_table_row l.tables.items ++ map (linked_method (links_of (all_rows l.index.base (flat_rows l.flat)))) (map definition_row (drop l.method-index l.methods))
    ≡ map (linked_method (links_of (all_rows l.index.base (flat_rows l.flat)))) (map definition_row l.methods)
