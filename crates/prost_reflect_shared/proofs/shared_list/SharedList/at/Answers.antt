use Rattle.std.proofs.Common.{◌+◌, ◌*◌, ◌<◌, ◌≤◌, ◌/◌, ◌%◌, Some, length, get_or, slice_get, sym, ap, ◌∙◌, arith}
use Rattle.prost_reflect_shared.proofs.Places.{length-items_in, found_in_chunk, found_behind}
use Rattle.prost_reflect_shared.proofs.shared_list.SharedList.at.Goals as goal

pub index-requires-else-chunk-len : goal.index-requires-else-chunk-len
index-requires-else-chunk-len g c = omega (arith, length-items_in c.self.inside.chunks.items c.self.inside.rest.items c.self.invariant, ap length c.self.view_is)

pub returns-then-chunk-len : goal.returns-then-chunk-len
returns-then-chunk-len g c =
    let chunks = c.self.inside.chunks.items in
    let rest = c.self.inside.rest.items in
    let inside : c.args.place / 64 < length chunks = omega arith in
    ap (λ xs. slice_get xs c.args.place) (sym c.self.view_is)
    ∙ found_in_chunk chunks rest c.self.invariant c.args.place c.index.result.now c.index-deref-place.result inside c.index.ensures (c.index-deref-place.is ∙ ap (λ l. get_or l (c.args.place % 64) c.index-deref-place.result) c.deref.ensures)
    ∙ ap Some (ap (λ p. p.value) c.index-deref-place.is ∙ sym c.deref-then-chunk-len.ensures)

pub returns-else-chunk-len : goal.returns-else-chunk-len
returns-else-chunk-len g c =
    let chunks = c.self.inside.chunks.items in
    let rest = c.self.inside.rest.items in
    let outside : length chunks ≤ c.args.place / 64 = omega arith in
    let below : c.args.place < 64 * length chunks + length rest = omega (arith, length-items_in chunks rest c.self.invariant, ap length c.self.view_is) in
    ap (λ xs. slice_get xs c.args.place) (sym c.self.view_is) ∙ found_behind chunks rest c.self.invariant c.args.place c.index-else-chunk-len.result.now outside below c.index-else-chunk-len.ensures
    ∙ ap Some (sym c.deref-else-chunk-len.ensures)
