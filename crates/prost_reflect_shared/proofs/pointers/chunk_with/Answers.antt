use Rattle.std.proofs.Common.{◌≡◌, ap, ◌∙◌}
use Rattle.std.proofs.Math.ListN.{set}
use Rattle.std.proofs.lemmas.List.{map-set}
use Rattle.std.proofs.lemmas.Result.{IfOk-weaker}
use Rattle.prost_reflect_shared.specs.Chunks.{Chunk, values}
use Rattle.prost_reflect_shared.proofs.pointers.chunk_with.Goals as goal

pub returns : goal.returns
returns g c =
    let copies = c.in_ok-copies.copies.items in
    IfOk-weaker c.chunk_of.result (λ (chunk : Chunk g.row.T.Denot). chunk.value ≡ set copies c.args.place c.args.item)
    (λ (chunk : Chunk g.row.T.Denot). values chunk.value ≡ set (values c.args.pointers.now) c.args.place c.args.item.value)
    (λ chunk is. ap values is ∙ map-set (λ p. p.value) copies c.args.place c.args.item ∙ ap (λ xs. set xs c.args.place c.args.item.value) c.in_ok-copies.ensures) c.chunk_of.ensures
