use Rattle.std.proofs.Common.{◌+◌, ◌<◌, ◌≤◌, ◌^◌, ◌∷◌, [], ◌++◌, length, ap, ap₂, ◌∙◌, arith}
use Rattle.prost_reflect_shared.specs.Chunks.{values}
use Rattle.prost_reflect_shared.proofs.Places.{chunk_pushed, AreChunks-pushed}
use Rattle.prost_reflect_shared.proofs.shared_list.SharedList.push.Goals as goal

pub invariant_of-self-2 : goal.invariant_of-self-2
invariant_of-self-2 g c =
    let whole : 64 ≤ length c.self.inside.rest.items + 1 = omega arith in
    let room : length c.self.inside.chunks.items + 1 < 2 ^ 58 = omega arith in
    AreChunks-pushed c.self.inside.chunks.items c.self.inside.rest.items c.self.invariant c.push-2.new.self.items c.clear.new.self.items c.in_ok-chunk.chunk c.in_ok-item.item.value c.in_ok-push-2.ensures.items c.clear.ensures.items
    (c.in_ok-chunk.ensures ∙ ap (λ pointers. values pointers ++ c.in_ok-item.item.value ∷ []) c.deref.ensures.value) whole room

pub returns-clause-ok : goal.returns-clause-ok
returns-clause-ok g c =
    chunk_pushed c.self.inside.chunks.items c.self.inside.rest.items c.self.invariant c.push-2.new.self.items c.clear.new.self.items c.in_ok-chunk.chunk c.in_ok-item.item.value c.in_ok-push-2.ensures.items c.clear.ensures.items
    (c.in_ok-chunk.ensures ∙ ap (λ pointers. values pointers ++ c.in_ok-item.item.value ∷ []) c.deref.ensures.value)
    ∙ ap₂ (λ xs y. xs ++ y ∷ []) c.self.view_is c.in_ok-item.ensures.ok
