use Rattle.std.proofs.Common.{◌≡◌, ◌+◌, ◌*◌, ◌++◌, length}
use Rattle.std.specs.Vec.Iter.{into_iter_items, into_iter_len}
use Rattle.prost_reflect_shared.specs.Chunks.{joined, AreFull, parts}
use Rattle.prost_reflect_shared.proofs.shared_list.SharedList.from_vec.Given as goal

-- each item is in a full chunk or still to come
abbrev pub invariant-loop : goal.invariant-loop
invariant-loop g l = (joined (parts l.chunks.items) ++ into_iter_items l.items ≡ l.initial.items.rest.items) × AreFull (parts l.chunks.items) × (length l.chunks.items ≡ l.counter) × (64 * l.counter + into_iter_len l.items ≡ l.count)
