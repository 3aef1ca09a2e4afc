use Rattle.std.specs.Prelude.{◌≡◌, ◌+◌}
use Rattle.prost_reflect_flat.proofs.Common.{drop, length, behind, file_list, files_from, flat_rows}
use Rattle.prost_reflect_flat.proofs.flatten.flattened.Given as goal

abbrev pub invariant-loop-offset : goal.invariant-loop-offset
invariant-loop-offset l =
    (behind (flat_rows l.flat) (files_from (drop l.offset (file_list l.files)) (l.first + l.offset) (l.before + length l.flat.messages.items))
    ≡ files_from (file_list l.files) l.first l.before)
    × (l.flat.before ≡ l.before)
