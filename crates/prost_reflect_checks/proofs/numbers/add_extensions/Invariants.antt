use Rattle.std.specs.Prelude.{◌≡◌, ◌++◌}
use Rattle.prost_reflect_checks.proofs.Common.{map, drop, numbered_list, resolved_row, numbered_found}
use Rattle.prost_reflect_checks.proofs.numbers.add_extensions.Given as goal

abbrev pub invariant-loop-extension : goal.invariant-loop-extension
invariant-loop-extension l =
    numbered_list l.numbers.items ++ numbered_found (map resolved_row (drop l.extension-index l.extensions))
    ≡ numbered_list l.fn.numbers.items ++ numbered_found (map resolved_row l.extensions)
