use Rattle.std.specs.Prelude.{◌≡◌, ◌∷◌}
use Rattle.prost_reflect_maps.proofs.Common.{ℕ, [], length, arith, ap, sym, ◌∙◌, item_copied, items_above, left_above}
use Rattle.prost_reflect_maps.proofs.Above.{then_above, then_all, none_above, none_at_all}
use Rattle.prost_reflect_maps.proofs.walks.WalkUpIterator.next.Goals as goal
use Rattle.prost_reflect_maps.proofs.walks.WalkUpIterator.next.Goals.{in-None, in-Some}

pub returns-in-Some-next-clause-steps : goal.returns-in-Some-next-clause-steps
returns-in-Some-next-clause-steps g c =
    let es = g.S.NumberMap.entries c.args.self.now.map.now in
    let e : ℕ × g.row.T.Denot = (c.in-Some-next.number, c.in-Some-next.item.now) in
    elim c.match-self.branch [
      | in-None w ↦ ap (left_above es) w.in-None.is ∙ then_all es e c.ascends.ensures (sym w.first_from-next.ensures ∙ ap item_copied (sym w.next-is ∙ c.in-Some-next.is))
      | in-Some w ↦ ap (left_above es) w.in-Some.is ∙ then_above w.in-Some.last es e c.ascends.ensures (sym w.first_above-next.ensures ∙ ap item_copied (sym w.next-is ∙ c.in-Some-next.is))
    ]

pub returns-in-Some-next-clause-goes : goal.returns-in-Some-next-clause-goes
returns-in-Some-next-clause-goes g c =
    let es = g.S.NumberMap.entries c.args.self.now.map.now in
    let fewer : length (left_above es c.args.self.now.last) ≡ length ((c.in-Some-next.number, c.in-Some-next.item.now) ∷ items_above es c.in-Some-next.number) = ap length (returns-in-Some-next-clause-steps g c) in
    record { on = λ _. (tt, tt, omega (arith, fewer)); keeps = tt; rests = λ _. tt }

pub returns-in-None-next-clause-steps : goal.returns-in-None-next-clause-steps
returns-in-None-next-clause-steps g c =
    let es = g.S.NumberMap.entries c.args.self.now.map.now in
    let none : left_above es c.args.self.now.last ≡ [] = elim c.match-self.branch [
      | in-None w ↦ ap (left_above es) w.in-None.is ∙ none_at_all es (sym w.first_from-next.ensures ∙ ap item_copied (sym w.next-is ∙ c.in-None-next.is))
      | in-Some w ↦ ap (left_above es) w.in-Some.is ∙ none_above w.in-Some.last es (sym w.first_above-next.ensures ∙ ap item_copied (sym w.next-is ∙ c.in-None-next.is))
    ] in (none, none)
