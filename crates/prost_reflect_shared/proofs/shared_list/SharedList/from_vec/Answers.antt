use Rattle.std.proofs.Common.{◌≡◌, ◌++◌, length, ap, ◌∙◌, arith}
use Rattle.std.specs.Vec.Iter.{into_iter_items}
use Rattle.prost_reflect_shared.specs.Chunks.{values}
use Rattle.prost_reflect_shared.proofs.Places.{items_at, length-items_at, chunk_taken, AreFull-pushed}
use Rattle.prost_reflect_shared.proofs.shared_list.SharedList.from_vec.Goals as goal

pub loop-preserved : goal.loop-preserved
loop-preserved g c =
    let chunks = c.loop.chunks.items in
    let chunk = c.in_ok-chunk_of.field-0 in
    let size : length (items_at chunk) ≡ 64 = length-items_at chunk ∙ ap length c.in_ok-chunk_of.ensures ∙ c.in_ok-taken.ensures.count in
    let came : items_at chunk ++ into_iter_items c.taken.new.items ≡ into_iter_items c.loop.items = ap (λ pointers. values pointers ++ into_iter_items c.taken.new.items) c.in_ok-chunk_of.ensures ∙ c.in_ok-taken.ensures.taken in (
      chunk_taken chunks c.push.new.self.items chunk (into_iter_items c.loop.items) (into_iter_items c.taken.new.items) c.into_iter-items.result.rest.items c.in_ok-push.ensures.items came c.loop.invariant.0,
      AreFull-pushed chunks c.push.new.self.items chunk c.in_ok-push.ensures.items size c.loop.invariant.1,
      omega (arith, c.in_ok-push.ensures.len),
      omega (arith, c.in_ok-taken.ensures.left),
    )
