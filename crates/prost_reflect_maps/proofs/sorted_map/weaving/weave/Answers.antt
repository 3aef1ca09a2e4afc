use Rattle.std.specs.Prelude.{◌≡◌, ◌++◌}
use Rattle.prost_reflect_maps.proofs.Common.{arith, rules, ℕ, length, sym, subst, ◌∙◌, option_to_list, into_iter_items}
use Rattle.prost_reflect_maps.proofs.Weaving.{IsWoven, none_of, old_passed, pushed, all_walked}
use Rattle.prost_reflect_maps.proofs.sorted_map.weaving.weave.Goals as goal

pub loop-number-preserved-then-not-contains : goal.loop-number-preserved-then-not-contains
loop-number-preserved-then-not-contains g c =
    let numbers = c.args.numbers.now in
    let olds = c.args.olds.items in
    let others = c.args.others.items in
    let e : ℕ × g.row.T.Denot = (c.in-Some.number, c.in-Some.item) in
    let l = c.loop-number in
    let ds = option_to_list l.next ++ into_iter_items l.others in
    let first = subst (λ es. IsWoven numbers l.items.items es ds olds others) c.in-Some.ensures.steps.0 l.invariant.woven in
    record {
      woven = pushed numbers olds others l.items.items c.push_up_to-next.new.items.items c.push_last.new.items.items e (into_iter_items c.next.new.self) ds
          (option_to_list c.push_up_to-next.result ++ into_iter_items c.push_up_to-next.new.others) (sym c.contains.ensures ∙ c.if-not-contains.true) first
          c.push_up_to-next.ensures.items c.push_last.ensures.items c.push_up_to-next.ensures.left;
      ended = c.push_up_to-next.ensures.ended;
      room = omega (arith, c.in-Some.ensures.steps.1, c.push_up_to-next.ensures.room, c.push_up_to-next.ensures.capacity, c.push_last.ensures.len, c.push_last.ensures.capacity, l.invariant.room);
    }

pub loop-number-preserved : goal.loop-number-preserved
loop-number-preserved g c =
    let numbers = c.args.numbers.now in
    let olds = c.args.olds.items in
    let others = c.args.others.items in
    let e : ℕ × g.row.T.Denot = (c.in-Some.number, c.in-Some.item) in
    let l = c.loop-number in
    let ds = option_to_list l.next ++ into_iter_items l.others in
    let first = subst (λ es. IsWoven numbers l.items.items es ds olds others) c.in-Some.ensures.steps.0 l.invariant.woven in
    record {
      woven = old_passed numbers olds others l.items.items e (into_iter_items c.next.new.self) ds (sym c.contains.ensures ∙ c.if-not-contains.false) first;
      ended = l.invariant.ended;
      room = omega (arith, c.in-Some.ensures.steps.1, l.invariant.room);
    }

pub returns : goal.returns
returns g c =
    let l = c.loop-number in
    let none : length (into_iter_items l.number-iterator) ≡ 0 = search rules in
    all_walked c.args.numbers.now c.args.olds.items c.args.others.items l.items.items c.push_up_to.new.items.items (into_iter_items l.number-iterator)
    (option_to_list l.next ++ into_iter_items l.others) (none_of _ none) l.invariant.woven c.push_up_to.ensures.items c.requires.olds c.requires.others
