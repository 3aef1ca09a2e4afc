-- The items of one map that take the places of those of another, number by number.
use Rattle.std.specs.Prelude.{◌≡◌, ◌∷◌, is_none, is_some}
use Rattle.std.specs.Borrow.{Bor}
use Rattle.std.specs.Option.{option_copied}
use Rattle.prost_reflect_maps.proofs.Common.{true, false, cond, ℕ, List, [], Option, None, Some, ap, ap₂, sym, ◌∙◌, subst, refl, true≢false, nat_cmp, Less, BTreeSet, AllByRecursion, IsStrictlySortedBy, IsAscending, item_at, with_item, without_item, AreReplaced, HavePlaces, has, has_place, is_among, taken_over}
use Rattle.prost_reflect_maps.proofs.ItemChanges.{Apart, by_number, apart_back, itself, with_same, with_apart, without_same, without_apart, ascending_with, ascending_without}

-- a number below all others is none of them
pub above_none : (n : ℕ) (ks : List ℕ) → AllByRecursion (λ y. nat_cmp n y ≡ Less) ks → is_among ks n ≡ false
above_none n [] all = refl
above_none n (k ∷ ks) all = rw all.0 (above_none n ks all.1)

pub first_among : (n : ℕ) (ks : List ℕ) → is_among (n ∷ ks) n ≡ true
first_among n ks = rw (itself n) refl

pub among_apart : (k n : ℕ) (ks : List ℕ) → Apart k n → is_among (n ∷ ks) k ≡ is_among ks k
among_apart k n ks apart = rw apart refl

module _ {T : Type 0} where
  -- a number more, at which there is a place
  pub place_more : (n : ℕ) (ks : List ℕ) (es ds : List (ℕ × T)) → has_place (item_at ds n) (item_at es n) ≡ true → HavePlaces ks es ds → HavePlaces (n ∷ ks) es ds
  place_more n ks es ds here rest k among = by_number k n
      (λ is. subst (λ z. has_place (item_at ds z) (item_at es z) ≡ true) (sym is) here)
      (λ apart. rest k (sym (among_apart k n ks apart) ∙ among))

  pub no_places : (es ds : List (ℕ × T)) → HavePlaces [] es ds
  no_places es ds k among = absurd (true≢false (sym among))

  -- an item that was found is a place, and where none is to be put in no place is asked for
  pub place_of : (r : Option (Bor T)) (o p : Option T) → is_none r ≡ false → option_copied r ≡ p → has_place o p ≡ true
  place_of None o p some is = absurd (true≢false some)
  place_of (Some r) None p some is = refl
  place_of (Some r) (Some t) p some is = subst (λ q. has_place (Some t) q ≡ true) is refl

  pub place_unasked : (r : Option (Bor T)) (o p : Option T) → is_some r ≡ false → option_copied r ≡ o → has_place o p ≡ true
  place_unasked None o p none is = subst (λ q. has_place q p ≡ true) is refl
  place_unasked (Some r) o p none is = absurd (true≢false none)

  -- what stands at the number then, and elsewhere
  taken_same : (o : Option T) (es : List (ℕ × T)) (n : ℕ) → has_place o (item_at es n) ≡ true → IsAscending es → item_at (taken_over o es n) n ≡ o
  taken_same None es n h s = without_same es n s
  taken_same (Some t) es n h s = old (item_at es n) refl h
    where
      old : (p : Option T) → item_at es n ≡ p → has_place (Some t) p ≡ true → item_at (with_item es n t) n ≡ Some t
      old None at there = absurd (true≢false (sym there))
      old (Some u) at there = with_same es n t u at

  taken_apart : (o : Option T) (es : List (ℕ × T)) (n k : ℕ) → Apart n k → item_at (taken_over o es n) k ≡ item_at es k
  taken_apart None es n k apart = without_apart es n k apart
  taken_apart (Some t) es n k apart = with_apart es n k t apart

  ascending_taken : (o : Option T) (es : List (ℕ × T)) (n : ℕ) → IsAscending es → IsAscending (taken_over o es n)
  ascending_taken None es n s = ascending_without es n s
  ascending_taken (Some t) es n s = ascending_with es n t s

  -- Where the numbers that are left have what the others have, and the rest is as it is, all numbers of the set have what they are to have.
  pub record IsMoving (numbers : BTreeSet ℕ) (olds all : List (ℕ × T)) (left : List ℕ) (es ds : List (ℕ × T)) : Type 0 where
    pub at : (k : ℕ) → cond (is_among left k) (item_at ds k) (item_at es k) ≡ cond (has numbers k) (item_at all k) (item_at olds k)
    pub places : HavePlaces left es ds
    pub ascends : IsAscending es
    pub others_ascend : IsAscending ds
    pub apart : IsStrictlySortedBy nat_cmp left

  module _ (numbers : BTreeSet ℕ) (olds all : List (ℕ × T)) where
    pub moving_begun : HavePlaces numbers.keys olds all → IsAscending olds → IsAscending all → IsStrictlySortedBy nat_cmp numbers.keys → IsMoving numbers olds all numbers.keys olds all
    moving_begun places s r sorted = record { at = λ k. refl; places = places; ascends = s; others_ascend = r; apart = sorted }

    pub first_place : (n : ℕ) (left : List ℕ) (es ds : List (ℕ × T)) → IsMoving numbers olds all (n ∷ left) es ds → has_place (item_at ds n) (item_at es n) ≡ true
    first_place n left es ds m = m.places n (first_among n left)

    pub moved_on : (n : ℕ) (left : List ℕ) (es ds : List (ℕ × T)) → IsMoving numbers olds all (n ∷ left) es ds → IsMoving numbers olds all left (taken_over (item_at ds n) es n) (without_item ds n)
    unfolding IsStrictlySortedBy
    moved_on n left es ds m = record {
      at = λ k. by_number k n (here k) (there k) ∙ m.at k;
      places = λ k among. by_number k n (λ is. absurd (true≢false (sym among ∙ ap (is_among left) is ∙ none)))
          (λ apart. ap₂ has_place (without_apart ds n k (apart_back k n apart)) (taken_apart (item_at ds n) es n k (apart_back k n apart)) ∙ m.places k (among_apart k n left apart ∙ among));
      ascends = ascending_taken (item_at ds n) es n m.ascends;
      others_ascend = ascending_without ds n m.others_ascend;
      apart = m.apart.1;
    }
      where
        none : is_among left n ≡ false
        none = above_none n left m.apart.0

        new : List (ℕ × T)
        new = taken_over (item_at ds n) es n

        own : cond (is_among left n) (item_at (without_item ds n) n) (item_at new n) ≡ cond (is_among (n ∷ left) n) (item_at ds n) (item_at es n)
        own = ap (λ b. cond b (item_at (without_item ds n) n) (item_at new n)) none ∙ taken_same (item_at ds n) es n (m.places n (first_among n left)) m.ascends
            ∙ ap (λ b. cond b (item_at ds n) (item_at es n)) (sym (first_among n left))

        here : (k : ℕ) → k ≡ n → cond (is_among left k) (item_at (without_item ds n) k) (item_at new k) ≡ cond (is_among (n ∷ left) k) (item_at ds k) (item_at es k)
        here k is = subst (λ z. cond (is_among left z) (item_at (without_item ds n) z) (item_at new z) ≡ cond (is_among (n ∷ left) z) (item_at ds z) (item_at es z)) (sym is) own

        there : (k : ℕ) → Apart k n → cond (is_among left k) (item_at (without_item ds n) k) (item_at new k) ≡ cond (is_among (n ∷ left) k) (item_at ds k) (item_at es k)
        there k apart = ap₂ (cond (is_among left k)) (without_apart ds n k (apart_back k n apart)) (taken_apart (item_at ds n) es n k (apart_back k n apart))
            ∙ ap (λ b. cond b (item_at ds k) (item_at es k)) (sym (among_apart k n left apart))

    pub all_moved : (es ds : List (ℕ × T)) → IsAscending olds → IsAscending all → IsMoving numbers olds all [] es ds → AreReplaced numbers olds all es
    all_moved es ds s r m = record { at = m.at; old_ascends = s; others_ascend = r; ascends = m.ascends }
