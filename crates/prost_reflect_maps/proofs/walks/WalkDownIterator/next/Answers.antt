use Rattle.std.specs.Prelude.{◌≡◌, ◌∷◌}
use Rattle.std.proofs.lemmas.List.{length-append}
use Rattle.prost_reflect_maps.proofs.Common.{ℕ, [], length, arith, ap, sym, ◌∙◌, item_copied, items_below, left_below}
use Rattle.prost_reflect_maps.proofs.Below.{then_below, then_before, none_below, none_last}
use Rattle.prost_reflect_maps.proofs.walks.WalkDownIterator.next.Goals as goal
use Rattle.prost_reflect_maps.proofs.walks.WalkDownIterator.next.Goals.{in-None, in-Some}

pub returns-in-Some-next-clause-steps : goal.returns-in-Some-next-clause-steps
returns-in-Some-next-clause-steps g c =
    let es = g.S.NumberMap.entries c.args.self.now.map.now in
    let e : ℕ × g.row.T.Denot = (c.in-Some-next.number, c.in-Some-next.item.now) in
    elim c.match-self.branch [
      | in-None w ↦ ap (left_below es) w.in-None.is ∙ then_before es e c.ascends.ensures (sym w.last_item-next.ensures ∙ ap item_copied (sym w.next-is ∙ c.in-Some-next.is))
      | in-Some w ↦ ap (left_below es) w.in-Some.is ∙ then_below w.in-Some.last es e c.ascends.ensures (sym w.last_below-next.ensures ∙ ap item_copied (sym w.next-is ∙ c.in-Some-next.is))
    ]

pub returns-in-Some-next-clause-goes : goal.returns-in-Some-next-clause-goes
returns-in-Some-next-clause-goes g c =
    let rest = items_below (g.S.NumberMap.entries c.args.self.now.map.now) c.in-Some-next.number in
    let e : ℕ × g.row.T.Denot = (c.in-Some-next.number, c.in-Some-next.item.now) in
    let fewer = ap length (returns-in-Some-next-clause-steps g c) ∙ length-append rest (e ∷ []) in
    record { on = λ _. (tt, tt, omega (arith, fewer)); keeps = tt; rests = λ _. tt }

pub returns-in-None-next-clause-steps : goal.returns-in-None-next-clause-steps
returns-in-None-next-clause-steps g c =
    let es = g.S.NumberMap.entries c.args.self.now.map.now in
    let none : left_below es c.args.self.now.last ≡ [] = elim c.match-self.branch [
      | in-None w ↦ ap (left_below es) w.in-None.is ∙ none_last es (sym w.last_item-next.ensures ∙ ap item_copied (sym w.next-is ∙ c.in-None-next.is))
      | in-Some w ↦ ap (left_below es) w.in-Some.is ∙ none_below w.in-Some.last es (sym w.last_below-next.ensures ∙ ap item_copied (sym w.next-is ∙ c.in-None-next.is))
    ] in (none, none)
