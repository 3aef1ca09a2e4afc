use Rattle.std.specs.Prelude.{◌≡◌, ◌+◌, ◌∷◌, ◌++◌}
use Rattle.prost_reflect_growth.proofs.Common.{ℕ, List, [], Bool, sym, ap, ap₂, ◌∙◌, subst, take, drop, drop_all, append_assoc, IsStrictWeakOrder}
use Rattle.prost_reflect_tables.proofs.Orders.{Rises}
use Rattle.prost_reflect_tables.proofs.Pushing.{front_left}
use Rattle.prost_reflect_growth.specs.Merging.{front, back, merged}
use Rattle.prost_reflect_growth.proofs.Already.{sorted_already, rises_already}
use Rattle.prost_reflect_growth.proofs.Passing.{back_ascends}
use Rattle.prost_reflect_growth.proofs.merge.merged.Goals as goal

-- One item more.
step : {X : Type 0} (lt : X → X → Bool) → IsStrictWeakOrder lt →
    (old new left passed further items with_passed with_item : List X) (x : X) (k n : ℕ) →
    drop k new ≡ x ∷ drop (k + 1) new → passed ≡ take n left → further ≡ drop n left →
    take n left ≡ front lt x left → drop n left ≡ back lt x left →
    with_passed ≡ items ++ passed → with_item ≡ with_passed ++ x ∷ [] →
    Rises lt left × (items ++ merged lt left (drop k new) ≡ merged lt old new) →
    Rises lt further × (with_item ++ merged lt further (drop (k + 1) new) ≡ merged lt old new)
step lt o old new left passed further items with_passed with_item x k n next p f front_is back_is wp w h =
    let fs : further ≡ back lt x left = f ∙ back_is in
    let ps : passed ≡ front lt x left = p ∙ front_is in
    let rest = merged lt (back lt x left) (drop (k + 1) new) in (
      subst (Rises lt) (sym fs) (back_ascends lt o x left h.0),
      ap₂ (λ a b. a ++ merged lt b (drop (k + 1) new)) (w ∙ ap (λ l. l ++ x ∷ []) (wp ∙ ap (λ l. items ++ l) ps)) fs
          ∙ (append_assoc (items ++ front lt x left) (x ∷ []) rest
          ∙ (append_assoc items (front lt x left) (x ∷ rest)
          ∙ (ap (λ l. items ++ merged lt left l) (sym next) ∙ h.1))),
    )

pub loop-item-init : goal.loop-item-init
loop-item-init g c = λ lt is o sorted. (rises_already lt o c.args.old.now sorted, ap (λ l. l ++ merged lt c.args.old.now c.args.new.now) c.in_ok-items.ensures.items)

pub loop-item-preserved : goal.loop-item-preserved
loop-item-preserved g c = λ lt is o sorted.
    let inv = c.loop-item.invariant lt is o sorted in
    let parts = c.passed-count.ensures.passed lt is o (sorted_already lt o c.loop-item.left.now inv.0) in
    step lt o c.args.old.now c.args.new.now c.loop-item.left.now _ _ c.loop-item.items.items _ _ c.item-item.result c.loop-item.item-index _
    (front_left c.args.new.now c.loop-item.item-index c.item-item.result c.loop-item-test.true c.item-item.is)
    c.split_at.ensures.front c.split_at.ensures.back parts.0 parts.1 c.in_ok-extend_from_slice.ensures.items c.in_ok-push.ensures.items inv

pub returns : goal.returns
returns g c = λ lt is o sorted.
    let inv = c.loop-item.invariant lt is o sorted in
    c.in_ok-extend_from_slice-2.ensures.items
    ∙ (ap (λ l. c.loop-item.items.items ++ merged lt c.loop-item.left.now l) (sym (drop_all c.loop-item.item-index c.args.new.now c.loop-item-test.false)) ∙ inv.1)
