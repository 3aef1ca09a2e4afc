-- The items on the two sides of a number.
use Rattle.std.specs.Prelude.{◌≡◌, ◌∷◌, ◌++◌, ◌-◌, ◌+◌}
use Rattle.prost_reflect_maps.proofs.Common.{true, false, cond, ℕ, suc, List, [], take, drop, length, length-drop, filter, nat_le, nat_lt, not, Some, ap, ap₂, sym, ◌∙◌, subst, refl, arith, append-nil, common_steps, exact_unsigned, nat_cmp, is_le, match_ordering, Ordering, Less, Equal, Greater, Ok, Err, AllByRecursion, IsStrictlySortedBy, keys_of, seek, index_of, one_further, last, IsAscending, items_from, items_below, Runs, flat, IsLaid}
use Rattle.std.proofs.lemmas.List.Elements.{filter-append, filter_agree}
use Rattle.std.specs.declared.ops.Bound.TheVariants.{Excluded, Unbounded}
use Rattle.std_collections.specs.BTreeMap.Range.{range_contains}
use Rattle.prost_reflect_maps.proofs.Places.{further}
use Rattle.prost_reflect_maps.proofs.RunPlaces.{AllBelow, IsRunOf}
use Rattle.prost_reflect_maps.proofs.RunChanges.{above, parts}
use Rattle.prost_reflect_maps.proofs.Weaving.{AllAbove}

-- each order says on which side a number stands
from_less : (n k : ℕ) → nat_cmp n k ≡ Less → nat_le n k ≡ true
from_less n k at = grind (arith, common_steps, at)

below_less : (n k : ℕ) → nat_cmp n k ≡ Less → nat_lt k n ≡ false
below_less n k at = grind (arith, common_steps, at)

from_greater : (n k : ℕ) → nat_cmp n k ≡ Greater → nat_le n k ≡ false
from_greater n k at = grind (arith, common_steps, at)

pub below_greater : (n k : ℕ) → nat_cmp n k ≡ Greater → nat_lt k n ≡ true
below_greater n k at = grind (arith, common_steps, at)

from_equal : (n k : ℕ) → nat_cmp n k ≡ Equal → nat_le n k ≡ true
from_equal n k at = subst (λ z. nat_le n z ≡ true) (exact_unsigned n k at) (grind (arith, common_steps))

below_equal : (n k : ℕ) → nat_cmp n k ≡ Equal → nat_lt k n ≡ false
below_equal n k at = subst (λ z. nat_lt z n ≡ false) (exact_unsigned n k at) (grind (arith, common_steps))

-- the items below a number are those of a range that ends in front of it
in_range : (n k : ℕ) → range_contains nat_cmp Unbounded (Excluded n) k ≡ nat_lt k n
in_range n k = cases (nat_cmp n k) refl
  where
    cases : (o : Ordering) → nat_cmp n k ≡ o → not (is_le o) ≡ nat_lt k n
    cases Less at = sym (below_less n k at)
    cases Equal at = sym (below_equal n k at)
    cases Greater at = sym (below_greater n k at)

pub below_range : {T : Type 0} (n : ℕ) (es : List (ℕ × T)) → filter (λ e. range_contains nat_cmp Unbounded (Excluded n) e.0) es ≡ items_below es n
below_range n es = filter_agree (λ e. range_contains nat_cmp Unbounded (Excluded n) e.0) (λ e. nat_lt e.0 n) (λ e. in_range n e.0) es

-- where a list is cut
take_cut : {A : Type 0} (before : List A) (r : A) (after : List A) → take (length before) (before ++ r ∷ after) ≡ before
take_cut [] r after = refl
take_cut (b ∷ bs) r after = ap (λ l. b ∷ l) (take_cut bs r after)

drop_cut : {A : Type 0} (before : List A) (r : A) (after : List A) → drop (length before + 1) (before ++ r ∷ after) ≡ after
drop_cut [] r after = refl
drop_cut (b ∷ bs) r after = ap (λ k. drop k (b ∷ (bs ++ r ∷ after))) (one_on (length bs)) ∙ drop_cut bs r after
  where
    one_on : (k : ℕ) → suc k + 1 ≡ suc (k + 1)
    one_on k = omega arith

all_taken : {A : Type 0} (xs : List A) → take (length xs) xs ≡ xs
all_taken [] = refl
all_taken (x ∷ xs) = ap (λ l. x ∷ l) (all_taken xs)

module _ {T : Type 0} (n : ℕ) where
  -- of those above the number all are from it on, and of those below it none
  pub from_above : (es : List (ℕ × T)) → AllAbove n es → items_from es n ≡ es
  from_above [] all = refl
  from_above (e ∷ es) all = ap₂ (λ b l. cond b (e ∷ l) (items_from es n)) (from_less n e.0 all.0) (from_above es all.1)

  pub below_above : (es : List (ℕ × T)) → AllAbove n es → items_below es n ≡ []
  below_above [] all = refl
  below_above (e ∷ es) all = ap (λ b. cond b (e ∷ items_below es n) (items_below es n)) (below_less n e.0 all.0) ∙ below_above es all.1

  from_below : (es : List (ℕ × T)) → AllBelow n es → items_from es n ≡ []
  from_below [] all = refl
  from_below (e ∷ es) all = ap (λ b. cond b (e ∷ items_from es n) (items_from es n)) (from_greater n e.0 all.0) ∙ from_below es all.1

  below_below : (es : List (ℕ × T)) → AllBelow n es → items_below es n ≡ es
  below_below [] all = refl
  below_below (e ∷ es) all = ap₂ (λ b l. cond b (e ∷ l) (items_below es n)) (below_greater n e.0 all.0) (below_below es all.1)

  -- IN ONE LIST

  above_first : (e : ℕ × T) (es : List (ℕ × T)) → nat_cmp n e.0 ≡ Less → IsAscending (e ∷ es) → AllAbove n es
  unfolding IsStrictlySortedBy
  above_first e es at s = later (keys_of es) s.0
    where
      later : (ks : List ℕ) → AllByRecursion (λ y. nat_cmp e.0 y ≡ Less) ks → AllByRecursion (λ y. nat_cmp n y ≡ Less) ks
      later [] all = tt
      later (k ∷ ks) all = (grind (arith, common_steps, at, all.0), later ks all.1)

  above_same : (e : ℕ × T) (es : List (ℕ × T)) → nat_cmp n e.0 ≡ Equal → IsAscending (e ∷ es) → AllAbove n es
  unfolding IsStrictlySortedBy
  above_same e es at s = subst (λ z. AllAbove z es) (sym (exact_unsigned n e.0 at)) s.0

  pub below_place : (es : List (ℕ × T)) → IsAscending es → take (index_of (seek (nat_cmp n) es)) es ≡ items_below es n
  unfolding IsStrictlySortedBy
  below_place [] s = refl
  below_place (e ∷ es) s = cases (nat_cmp n e.0) refl (below_place es s.1)
    where
      none : nat_lt e.0 n ≡ false → AllAbove n es → [] ≡ items_below (e ∷ es) n
      none is all = sym (ap (λ b. cond b (e ∷ items_below es n) (items_below es n)) is ∙ below_above es all)

      cases : (o : Ordering) → nat_cmp n e.0 ≡ o → take (index_of (seek (nat_cmp n) es)) es ≡ items_below es n
          → take (index_of (match_ordering o (Err 0) (Ok 0) (one_further (seek (nat_cmp n) es)))) (e ∷ es) ≡ items_below (e ∷ es) n
      cases Less at rest = none (below_less n e.0 at) (above_first e es at s)
      cases Equal at rest = none (below_equal n e.0 at) (above_same e es at s)
      cases Greater at rest = ap (λ i. take i (e ∷ es)) (further (seek (nat_cmp n) es)) ∙ ap (λ l. e ∷ l) rest ∙ ap (λ b. cond b (e ∷ items_below es n) (items_below es n)) (sym (below_greater n e.0 at))

  pub from_place : (es : List (ℕ × T)) → IsAscending es → drop (index_of (seek (nat_cmp n) es)) es ≡ items_from es n
  unfolding IsStrictlySortedBy
  from_place [] s = refl
  from_place (e ∷ es) s = cases (nat_cmp n e.0) refl (from_place es s.1)
    where
      all_of : nat_le n e.0 ≡ true → AllAbove n es → e ∷ es ≡ items_from (e ∷ es) n
      all_of is all = sym (ap₂ (λ b l. cond b (e ∷ l) (items_from es n)) is (from_above es all))

      cases : (o : Ordering) → nat_cmp n e.0 ≡ o → drop (index_of (seek (nat_cmp n) es)) es ≡ items_from es n
          → drop (index_of (match_ordering o (Err 0) (Ok 0) (one_further (seek (nat_cmp n) es)))) (e ∷ es) ≡ items_from (e ∷ es) n
      cases Less at rest = all_of (from_less n e.0 at) (above_first e es at s)
      cases Equal at rest = all_of (from_equal n e.0 at) (above_same e es at s)
      cases Greater at rest = ap (λ i. drop i (e ∷ es)) (further (seek (nat_cmp n) es)) ∙ rest ∙ ap (λ b. cond b (e ∷ items_from es n) (items_from es n)) (sym (from_greater n e.0 at))

  -- IN RUNS

  module _ (rs : Runs T) (i : ℕ) (laid : IsLaid rs) (home : IsRunOf n rs i) where
    pub below_home : items_below (flat rs) n ≡ flat home.before ++ items_below home.run.1.items n
    below_home =
        ap (λ l. items_below l n) (parts n rs i laid home)
        ∙ filter-append (λ e. nat_lt e.0 n) (flat home.before) (home.run.1.items ++ flat home.after)
        ∙ ap₂ (λ xs ys. xs ++ ys) (below_below (flat home.before) home.below)
        (filter-append (λ e. nat_lt e.0 n) home.run.1.items (flat home.after) ∙ ap (λ l. items_below home.run.1.items n ++ l) (below_above (flat home.after) (above n rs i laid home)) ∙ append-nil (items_below home.run.1.items n))

    pub from_home : items_from (flat rs) n ≡ items_from home.run.1.items n ++ flat home.after
    from_home =
        ap (λ l. items_from l n) (parts n rs i laid home)
        ∙ filter-append (λ e. nat_le n e.0) (flat home.before) (home.run.1.items ++ flat home.after)
        ∙ ap₂ (λ xs ys. xs ++ ys) (from_below (flat home.before) home.below)
        (filter-append (λ e. nat_le n e.0) home.run.1.items (flat home.after) ∙ ap (λ l. items_from home.run.1.items n ++ l) (from_above (flat home.after) (above n rs i laid home)))

    -- the runs in front of it, and those behind
    pub in_front_of : take i rs ≡ home.before
    in_front_of = ap₂ take (sym home.place) home.cut ∙ take_cut home.before home.run home.after

    pub behind_it : take (length rs - (i + 1)) (drop (i + 1) rs) ≡ home.after
    behind_it = ap (λ k. take k (drop (i + 1) rs)) (sym (length-drop (i + 1) rs)) ∙ all_taken (drop (i + 1) rs) ∙ ap₂ (λ k l. drop (k + 1) l) (sym home.place) home.cut ∙ drop_cut home.before home.run home.after

-- the last of a list is what stands behind the others
pub last_behind : {A : Type 0} (xs : List A) (x : A) → last (xs ++ x ∷ []) ≡ Some x
last_behind [] x = refl
last_behind (y ∷ []) x = refl
last_behind (y ∷ z ∷ xs) x = last_behind (z ∷ xs) x
