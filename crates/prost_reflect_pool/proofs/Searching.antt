-- What a binary search finds among items that compare in their order with what is looked for.
use Rattle.std.specs.Prelude.{◌≡◌, ◌+◌, ◌<◌, ◌≤◌, ◌∷◌}
use Rattle.prost_reflect_pool.proofs.Common.{ℕ, zero, suc, true, false, cond, List, [], length, get_or, Some, None, refl, sym, ap, ◌∙◌, arith, true≢false, find, is_lt, is_eq, ordering_index, Ordering, IsNonDecreasingBy}
use Rattle.std.specs.declared.cmp.Ordering.TheVariants.{Less, Equal, Greater}
use Rattle.std.proofs.lemmas.List.{get_or_read}

-- What stands before low compares as less, and what stands from high on does not.
pub record Between {X : Type 0} (o : X → Ordering) (xs : List X) (low high : ℕ) : Type 0 where
  pub below : (k : ℕ) (d : X) → k < low → ordering_index (o (get_or xs k d)) ≡ 0
  pub above : (k : ℕ) (d : X) → high ≤ k → k < length xs → 0 < ordering_index (o (get_or xs k d))

lesser : (r : Ordering) → is_lt r ≡ true → ordering_index r ≡ 0
lesser Less e = refl
lesser Equal e = absurd (true≢false (sym e))
lesser Greater e = absurd (true≢false (sym e))

not_lesser : (r : Ordering) → is_lt r ≡ false → 0 < ordering_index r
not_lesser Less e = absurd (true≢false e)
not_lesser Equal e = omega arith
not_lesser Greater e = omega arith

less_differs : (r : Ordering) → ordering_index r ≡ 0 → is_eq r ≡ false
less_differs Less e = refl
less_differs Equal e = absurd (omega arith)
less_differs Greater e = refl

greater : (r : Ordering) → 0 < ordering_index r → is_eq r ≡ false → 1 < ordering_index r
greater Less h e = absurd (omega arith)
greater Equal h e = absurd (true≢false e)
greater Greater h e = omega arith

greater_differs : (r : Ordering) → 1 < ordering_index r → is_eq r ≡ false
greater_differs Less h = refl
greater_differs Equal h = absurd (omega arith)
greater_differs Greater h = refl

pub upper_half : {X : Type 0} (o : X → Ordering) (xs : List X) (low high middle : ℕ) (x : X) → IsNonDecreasingBy (λ y. ordering_index (o y)) xs → Between o xs low high → middle < length xs → x ≡ get_or xs middle x → is_lt (o x) ≡ true → Between o xs (middle + 1) high
upper_half {X} o xs low high middle x up b h is e = record {
  below = λ k d less.
      let here : ordering_index (o (get_or xs middle d)) ≡ 0 = lesser (o (get_or xs middle d)) (ap (λ (y : X). is_lt (o y)) (sym (get_or_read xs middle x h is d)) ∙ e) in
      let le : ordering_index (o (get_or xs k d)) ≤ ordering_index (o (get_or xs middle d)) = up k middle d (omega arith) h in
      omega arith;
  above = b.above;
}

pub lower_half : {X : Type 0} (o : X → Ordering) (xs : List X) (low high middle : ℕ) (x : X) → IsNonDecreasingBy (λ y. ordering_index (o y)) xs → Between o xs low high → middle < length xs → x ≡ get_or xs middle x → is_lt (o x) ≡ false → Between o xs low middle
lower_half {X} o xs low high middle x up b h is e = record {
  below = b.below;
  above = λ k d le more.
      let here : 0 < ordering_index (o (get_or xs middle d)) = not_lesser (o (get_or xs middle d)) (ap (λ (y : X). is_lt (o y)) (sym (get_or_read xs middle x h is d)) ∙ e) in
      let up_to : ordering_index (o (get_or xs middle d)) ≤ ordering_index (o (get_or xs k d)) = up middle k d le more in
      omega arith;
}

none_equal : {X : Type 0} (o : X → Ordering) (xs : List X) → ((k : ℕ) (d : X) → k < length xs → is_eq (o (get_or xs k d)) ≡ false) → find (λ y. is_eq (o y)) xs ≡ None
none_equal o [] h = refl
none_equal o (x ∷ xs) h = ap (λ b. cond b (Some x) (find (λ y. is_eq (o y)) xs)) (h 0 x (omega arith)) ∙ none_equal o xs (λ k d less. h (suc k) d (omega arith))

first_at : {X : Type 0} (o : X → Ordering) (xs : List X) (low : ℕ) (x : X) → ((k : ℕ) (d : X) → k < low → ordering_index (o (get_or xs k d)) ≡ 0) → low < length xs → x ≡ get_or xs low x → is_eq (o x) ≡ true → find (λ y. is_eq (o y)) xs ≡ Some x
first_at o [] low x below h is e = absurd (omega arith)
first_at {X} o (z ∷ xs) zero x below h is e = ap (λ b. cond b (Some z) (find (λ y. is_eq (o y)) xs)) (ap (λ (y : X). is_eq (o y)) (sym is) ∙ e) ∙ ap Some (sym is)
first_at o (z ∷ xs) (suc low) x below h is e =
    ap (λ b. cond b (Some z) (find (λ y. is_eq (o y)) xs)) (less_differs (o z) (below 0 z (omega arith)))
    ∙ first_at o xs low x (λ k d less. below (suc k) d (omega arith)) (omega arith) is e

pub found : {X : Type 0} (o : X → Ordering) (xs : List X) (low high : ℕ) (x : X) → Between o xs low high → low < length xs → x ≡ get_or xs low x → is_eq (o x) ≡ true → Some x ≡ find (λ y. is_eq (o y)) xs
found o xs low high x b h is e = sym (first_at o xs low x b.below h is e)

pub past_all : {X : Type 0} (o : X → Ordering) (xs : List X) (low high : ℕ) → Between o xs low high → length xs ≤ low → None ≡ find (λ y. is_eq (o y)) xs
past_all o xs low high b h = sym (none_equal o xs (λ k d less. less_differs (o (get_or xs k d)) (b.below k d (omega arith))))

split_at : (k low : ℕ) (P : Type 0) → (k < low → P) → (low ≤ k → P) → P
split_at k zero P less more = more (omega arith)
split_at zero (suc low) P less more = less (omega arith)
split_at (suc k) (suc low) P less more = split_at k low P (λ h. less (omega arith)) (λ h. more (omega arith))

pub differs : {X : Type 0} (o : X → Ordering) (xs : List X) (low high : ℕ) (x : X) → IsNonDecreasingBy (λ y. ordering_index (o y)) xs → Between o xs low high → high ≤ low → low < length xs → x ≡ get_or xs low x → is_eq (o x) ≡ false → None ≡ find (λ y. is_eq (o y)) xs
differs {X} o xs low high x up b ends h is e =
    sym (none_equal o xs (λ k d less.
    let here : 1 < ordering_index (o (get_or xs low d)) = greater (o (get_or xs low d)) (b.above low d ends h) (ap (λ (y : X). is_eq (o y)) (sym (get_or_read xs low x h is d)) ∙ e) in
    split_at k low (is_eq (o (get_or xs k d)) ≡ false)
    (λ lower. less_differs (o (get_or xs k d)) (b.below k d lower))
    (λ higher. greater_differs (o (get_or xs k d)) (let le : ordering_index (o (get_or xs low d)) ≤ ordering_index (o (get_or xs k d)) = up low k d higher less in omega arith))))
