use Rattle.std.proofs.Common.{◌+◌, ◌∷◌, drop, ap, ◌∙◌, arith}
use Rattle.std.proofs.lemmas.List.{drop_more}
use Rattle.std.proofs.lemmas.Option.{get_or_from_slice_get}
use Rattle.prost_reflect_shared.proofs.shared_items.SharedItemsIterator.next.Goals as goal

pub returns-then-place-self-clause-steps : goal.returns-then-place-self-clause-steps
returns-then-place-self-clause-steps g c =
    let items = c.args.self.now.list.now in
    let place = c.args.self.now.place in
    drop_more items place c.at.result.now (omega arith) ∙ ap (λ x. x ∷ drop (place + 1) items) (get_or_from_slice_get items place c.at.result.now c.at.result.now c.at.ensures)
