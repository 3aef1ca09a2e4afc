use Rattle.std.proofs.Common.{◌≡◌, ◌+◌, ◌*◌, ◌<◌, ◌≤◌, ◌/◌, ◌%◌, length, ap, ap₂, ◌∙◌, arith}
use Rattle.std.proofs.Math.ListN.{set}
use Rattle.prost_reflect_shared.specs.Chunks.{values}
use Rattle.prost_reflect_shared.proofs.Places.{items_at, length-items_in, length-chunk, chunk_replaced, AreChunks-replaced, rest_replaced}
use Rattle.prost_reflect_shared.proofs.shared_list.SharedList.set.Goals as goal

pub chunk_with-requires : goal.chunk_with-requires
chunk_with-requires g c =
    let inside : c.args.place / 64 < length c.self.inside.chunks.items = omega arith in
    let size : length c.as_slice-old.result.now ≡ 64 = ap length (c.as_slice-old.ensures ∙ c.deref.ensures) ∙ length-chunk c.self.inside.chunks.items c.self.inside.rest.items c.self.invariant (c.args.place / 64) c.index.result.now inside c.index.ensures in
    (omega arith, (size, omega arith))

pub invariant_of-self : goal.invariant_of-self
invariant_of-self g c =
    let inside : c.args.place / 64 < length c.self.inside.chunks.items = omega arith in
    let is : items_at c.in_ok-self-inside.field-0 ≡ set (items_at c.index.result.now) (c.args.place % 64) c.in_ok-item.item.value =
    c.in_ok-self-inside.ensures ∙ ap (λ pointers. set (values pointers) (c.args.place % 64) c.in_ok-item.item.value) (c.as_slice-old.ensures ∙ c.deref.ensures) in
    AreChunks-replaced c.self.inside.chunks.items c.self.inside.rest.items c.self.invariant (c.args.place / 64) (c.args.place % 64) c.index.result.now c.in_ok-self-inside.field-0 c.in_ok-item.item.value inside c.index.ensures is

pub index_mut-requires-else-chunk-len : goal.index_mut-requires-else-chunk-len
index_mut-requires-else-chunk-len g c = omega (arith, length-items_in c.self.inside.chunks.items c.self.inside.rest.items c.self.invariant, ap length c.self.view_is)

pub returns-in_ok-self-inside-clause-ok : goal.returns-in_ok-self-inside-clause-ok
returns-in_ok-self-inside-clause-ok g c =
    let inside : c.args.place / 64 < length c.self.inside.chunks.items = omega arith in
    let is : items_at c.in_ok-self-inside.field-0 ≡ set (items_at c.index.result.now) (c.args.place % 64) c.in_ok-item.item.value =
    c.in_ok-self-inside.ensures ∙ ap (λ pointers. set (values pointers) (c.args.place % 64) c.in_ok-item.item.value) (c.as_slice-old.ensures ∙ c.deref.ensures) in
    chunk_replaced c.self.inside.chunks.items c.self.inside.rest.items c.self.invariant c.args.place c.index.result.now c.in_ok-self-inside.field-0 c.in_ok-item.item.value inside c.index.ensures is
    ∙ ap₂ (λ xs y. set xs c.args.place y) c.self.view_is c.in_ok-item.ensures.ok

pub returns-else-chunk-len-clause-ok : goal.returns-else-chunk-len-clause-ok
returns-else-chunk-len-clause-ok g c =
    let outside : length c.self.inside.chunks.items ≤ c.args.place / 64 = omega arith in
    let below : c.args.place < 64 * length c.self.inside.chunks.items + length c.self.inside.rest.items = omega (arith, length-items_in c.self.inside.chunks.items c.self.inside.rest.items c.self.invariant, ap length c.self.view_is) in
    rest_replaced c.self.inside.chunks.items c.self.inside.rest.items c.self.invariant c.args.place c.in_ok-item.item outside below
    ∙ ap₂ (λ xs y. set xs c.args.place y) c.self.view_is c.in_ok-item.ensures.ok
