use Rattle.std.specs.Prelude.{◌≡◌, ◌++◌}
use Rattle.prost_reflect_resolving.proofs.Common.{drop, map, definition_row, flat_rows, all_rows, links_of, resolve, resolved_row}
use Rattle.prost_reflect_resolving.proofs.resolve.resolved_list.Given as goal

abbrev pub invariant-loop-definition : goal.invariant-loop-definition
invariant-loop-definition l =
    map resolved_row l.fields.items ++ map (resolve (links_of (all_rows l.index.base (flat_rows l.flat)))) (map definition_row (drop l.definition-index l.definitions))
    ≡ map (resolve (links_of (all_rows l.index.base (flat_rows l.flat)))) (map definition_row l.definitions)
