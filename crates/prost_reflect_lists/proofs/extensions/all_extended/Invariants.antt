use Rattle.std.specs.Prelude.{◌≡◌, ◌++◌}
use Rattle.prost_reflect_lists.proofs.Common.{map, drop, resolved_row}
use Rattle.prost_reflect_lists.specs.ExtendedRows.{extended_row, found_extended}
use Rattle.prost_reflect_lists.proofs.extensions.all_extended.Given as goal

abbrev pub invariant-loop-extension : goal.invariant-loop-extension
invariant-loop-extension l =
    map extended_row l.all.items ++ map found_extended (map resolved_row (drop l.extension-index l.extensions))
    ≡ map found_extended (map resolved_row l.extensions)
