use Rattle.prost_reflect_maps.proofs.Common.{sym, ap, subst, ◌∙◌, item_at, taken_over}
use Rattle.prost_reflect_maps.proofs.Moving.{IsMoving, all_moved, first_place, moved_on, moving_begun}
use Rattle.prost_reflect_maps.proofs.sorted_map.SortedMap.take_all_over.Goals as goal

pub loop-number-init : goal.loop-number-init
loop-number-init g c =
    let numbers = c.args.numbers.now in
    let olds = c.args.self.now.0 in
    let all = c.args.others.0 in
    let given = c.into_iter-number-iterator.ensures.into_iter_gives in
    let begun = moving_begun numbers olds all c.requires c.ascends.ensures c.ascends-2.ensures given.4 in
    let there = ap (λ s. s.0) c.take_notes.ensures.left in
    record {
      moving = subst (λ left. IsMoving numbers olds all left c.take_notes.new.self.0 all) (sym given.0) (subst (λ es. IsMoving numbers olds all numbers.keys es all) (sym there) begun);
      notes = ap (λ s. s.1) c.take_notes.ensures.left;
    }

pub take_over-requires : goal.take_over-requires
take_over-requires g c =
    let l = c.loop-number in
    let olds = c.args.self.now.0 in
    let all = c.args.others.0 in
    first_place c.args.numbers.now olds all c.in-Some.number.now c.next.new.self l.self.0 l.others.0
    (subst (λ left. IsMoving c.args.numbers.now olds all left l.self.0 l.others.0) c.in-Some.ensures.steps l.invariant.moving)

pub loop-number-preserved : goal.loop-number-preserved
loop-number-preserved g c =
    let l = c.loop-number in
    let numbers = c.args.numbers.now in
    let olds = c.args.self.now.0 in
    let all = c.args.others.0 in
    let n = c.in-Some.number.now in
    let first = subst (λ left. IsMoving numbers olds all left l.self.0 l.others.0) c.in-Some.ensures.steps l.invariant.moving in
    let new = taken_over (item_at l.others.0 n) l.self.0 n in
    let moved = moved_on numbers olds all n c.next.new.self l.self.0 l.others.0 first in
    record {
      moving = subst (λ es. IsMoving numbers olds all c.next.new.self es c.take_over.new.others.0) (sym c.take_over.ensures.items)
          (subst (λ ds. IsMoving numbers olds all c.next.new.self new ds) (sym c.take_over.ensures.others) moved);
      notes = c.take_over.ensures.notes ∙ l.invariant.notes;
    }

pub returns-clause-items : goal.returns-clause-items
returns-clause-items g c =
    let l = c.loop-number in
    all_moved c.args.numbers.now c.args.self.now.0 c.args.others.0 l.self.0 l.others.0 c.ascends.ensures c.ascends-2.ensures
    (subst (λ left. IsMoving c.args.numbers.now c.args.self.now.0 c.args.others.0 left l.self.0 l.others.0) c.in-None.ensures.steps.0 l.invariant.moving)

pub returns-clause-notes : goal.returns-clause-notes
returns-clause-notes g c = c.loop-number.invariant.notes
