-- Where items in order are parted by a further one.
use Rattle.std.specs.Prelude.{◌≡◌, ◌+◌, ◌<◌, ◌≤◌, ◌∷◌}
use Rattle.prost_reflect_growth.proofs.Common.{IsStrictWeakOrder, IsPartitionedBy, ℕ, zero, suc, Bool, true, false, cond, not, List, [], length, refl, sym, ap, ◌∙◌, arith, take, drop, get_or, true≢false, not-true, get_or_read, sorted_by}
use Rattle.prost_reflect_tables.proofs.Orders.{NoneBefore, Rises}
use Rattle.prost_reflect_growth.specs.Merging.{front, back}
use Rattle.prost_reflect_growth.proofs.Already.{rises_already}

-- Those before low are passed, and those from high on are not.
pub record Parts {X : Type 0} (lt : X → X → Bool) (y : X) (xs : List X) (low high : ℕ) : Type 0 where
  pub below : (k : ℕ) (d : X) → k < low → lt y (get_or xs k d) ≡ false
  pub above : (k : ℕ) (d : X) → high ≤ k → k < length xs → lt y (get_or xs k d) ≡ true

module _ {X : Type 0} (lt : X → X → Bool) (o : IsStrictWeakOrder lt) where
  none_at : (x : X) (xs : List X) (j : ℕ) (d : X) → NoneBefore lt x xs → j < length xs → lt (get_or xs j d) x ≡ false
  none_at x [] j d h less = absurd (omega arith)
  none_at x (y ∷ ys) zero d h less = h.0
  none_at x (y ∷ ys) (suc j) d h less = none_at x ys j d h.1 (omega arith)

  -- Those that the item does not stand before come first.
  parted : (y : X) (xs : List X) → Rises lt xs → IsPartitionedBy (λ x. not (lt y x)) xs
  parted y [] h i j d le less e = absurd (omega arith)
  parted y (x ∷ xs) h zero zero d le less e = e
  parted y (x ∷ xs) h zero (suc j) d le less e = ap not (o.chain y (get_or xs j d) x (not-true (lt y (get_or xs j d)) e) (none_at x xs j d h.0 (omega arith)))
  parted y (x ∷ xs) h (suc i) zero d le less e = absurd (omega arith)
  parted y (x ∷ xs) h (suc i) (suc j) d le less e = parted y xs h.1 i j d (omega arith) (omega arith) e

  pub back_ascends : (y : X) (xs : List X) → Rises lt xs → Rises lt (back lt y xs)
  back_ascends y [] h = tt
  back_ascends y (x ∷ xs) h = go (lt y x) (back_ascends y xs h.1)
    where
      go : (b : Bool) → Rises lt (back lt y xs) → Rises lt (cond b (x ∷ xs) (back lt y xs))
      go true more = h
      go false more = more

  -- The point where they part.
  front_is : (y : X) (k : ℕ) (xs : List X) → k ≤ length xs → ((i : ℕ) (d : X) → i < k → lt y (get_or xs i d) ≡ false) →
      ((i : ℕ) (d : X) → k ≤ i → i < length xs → lt y (get_or xs i d) ≡ true) → (take k xs ≡ front lt y xs) × (drop k xs ≡ back lt y xs)
  front_is y zero [] h below above = (refl, refl)
  front_is y (suc k) [] h below above = absurd (omega arith)
  front_is y zero (x ∷ xs) h below above = let e : lt y x ≡ true = above 0 x (omega arith) (omega arith) in (rw e refl, rw e refl)
  front_is y (suc k) (x ∷ xs) h below above =
      let e : lt y x ≡ false = below 0 x (omega arith) in
      let more = front_is y k xs (omega arith) (λ i d less. below (suc i) d (omega arith)) (λ i d le less. above (suc i) d (omega arith) (omega arith)) in
      (rw e (ap (λ l. x ∷ l) more.0), rw e more.1)

  -- BINARY SEARCH

  later_above : (y : X) (xs : List X) (i j : ℕ) (d : X) → Rises lt xs → i ≤ j → j < length xs → lt y (get_or xs i d) ≡ true →
      lt y (get_or xs j d) ≡ true
  later_above y xs i j d up le less e = go (lt y (get_or xs j d)) refl
    where
      go : (b : Bool) → lt y (get_or xs j d) ≡ b → b ≡ true
      go true t = refl
      go false t = absurd (true≢false (sym e ∙ not-true (lt y (get_or xs i d)) (parted y xs up i j d le less (ap not t))))

  pub upper_part : (y x : X) (xs : List X) (low high middle : ℕ) → sorted_by lt xs ≡ xs → Parts lt y xs low high → middle < length xs →
      x ≡ get_or xs middle x →
      lt y x ≡ false → Parts lt y xs (middle + 1) high
  upper_part y x xs low high middle sorted parts within is e = record {
    below = λ k d less.
        let here : lt y (get_or xs middle d) ≡ false = ap (lt y) (sym (get_or_read xs middle x within is d)) ∙ e in
        not-true (lt y (get_or xs k d)) (parted y xs (rises_already lt o xs sorted) k middle d (omega arith) within (ap not here));
    above = parts.above;
  }

  pub lower_part : (y x : X) (xs : List X) (low high middle : ℕ) → sorted_by lt xs ≡ xs → Parts lt y xs low high → middle < length xs →
      x ≡ get_or xs middle x →
      lt y x ≡ true → Parts lt y xs low middle
  lower_part y x xs low high middle sorted parts within is e = record {
    below = parts.below;
    above = λ k d le less.
        let here : lt y (get_or xs middle d) ≡ true = ap (lt y) (sym (get_or_read xs middle x within is d)) ∙ e in
        later_above y xs middle k d (rises_already lt o xs sorted) le less here;
  }

  pub parts_met : (y : X) (xs : List X) (low high : ℕ) → low ≤ length xs → high ≤ low → Parts lt y xs low high →
      (take low xs ≡ front lt y xs) × (drop low xs ≡ back lt y xs)
  parts_met y xs low high bound met parts = front_is y low xs bound parts.below (λ i d le less. parts.above i d (omega arith) less)
