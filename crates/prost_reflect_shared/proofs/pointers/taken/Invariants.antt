use Rattle.std.proofs.Common.{◌≡◌, ◌+◌, ◌≤◌, ◌++◌, length}
use Rattle.std.specs.Vec.Iter.{into_iter_items, into_iter_len}
use Rattle.prost_reflect_shared.specs.Chunks.{values}
use Rattle.prost_reflect_shared.proofs.pointers.taken.Given as goal

-- each item is behind a pointer or still to come, and enough are
abbrev pub invariant-loop : goal.invariant-loop
invariant-loop g l = (values l.pointers.items ++ into_iter_items l.items ≡ into_iter_items l.fn.items) × (length l.pointers.items ≡ l.counter) × (l.count ≤ l.counter + into_iter_len l.items)
