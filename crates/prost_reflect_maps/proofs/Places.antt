-- Where a number stands among ascending numbers.
use Rattle.std.specs.Prelude.{◌≡◌, ◌<◌, ◌≤◌, ◌∷◌}
use Rattle.prost_reflect_maps.proofs.Common.{true, ℕ, zero, suc, List, [], length, slice_index_or, slice_set, None, Some, arith, ap, sym, ◌∙◌, subst, refl, slice_get, exact_unsigned, none-some, same_Some, nat_cmp_total, nat_cmp, ordering_index, ordering_reverse, is_le, Ordering, Less, Equal, Greater, Result, Ok, Err, AllByRecursion, AllWithin, HoldsAt, insert, remove, IsStrictlySortedBy, IsBinarySearchResult, IsSearchInRange, IsNonDecreasingBy, keys_of, values_of, is_at, seek, index_of, one_further, IsAscending, item_at, with_item, put_item, without_item}
use Rattle.std_collections.proofs.Seek.{AnswersAt, found_at, seek-Ok, seek_err, missing_at, insert_entry_err, insert_entry-Ok}
use Rattle.std_collections.proofs.Entries.{NonePasses, remove_entry_none, lookup-none, set_value_none}
use Rattle.std_collections.specs.Layout.Columns.{set_value_at}

flipped : (x y : ℕ) (o : Ordering) → nat_cmp x y ≡ o → nat_cmp y x ≡ ordering_reverse o
flipped x y o h = nat_cmp_total.antisymm y x ∙ ap ordering_reverse h

later : {T : Type 0} (k : ℕ) (es : List (ℕ × T)) (i : ℕ) (d : ℕ × T) → AllByRecursion (λ y. nat_cmp k y ≡ Less) (keys_of es) → i < length es → nat_cmp k (slice_index_or es i d).0 ≡ Less
later k [] i d all within = absurd (omega arith)
later k (e ∷ es) zero d all within = all.0
later k (e ∷ es) (suc i) d all within = later k es i d all.1 (omega arith)

index_le : (a b : Ordering) → (b ≡ Less → a ≡ Less) → (b ≡ Equal → a ≡ Less) → ordering_index a ≤ ordering_index b
index_le a Less h k = rw (h refl) (omega arith)
index_le a Equal h k = rw (k refl) (omega arith)
index_le Less Greater h k = omega arith
index_le Equal Greater h k = omega arith
index_le Greater Greater h k = omega arith

rises : (n x y : ℕ) → nat_cmp x y ≡ Less → ordering_index (nat_cmp x n) ≤ ordering_index (nat_cmp y n)
rises n x y h = index_le (nat_cmp x n) (nat_cmp y n) (λ l. nat_cmp_total.trans x y n h l) (λ l. subst (λ z. nat_cmp x z ≡ Less) (exact_unsigned y n l) h)

non_decreasing : {T : Type 0} (n : ℕ) (es : List (ℕ × T)) → IsAscending es → IsNonDecreasingBy (λ y. ordering_index (nat_cmp y.0 n)) es
unfolding IsStrictlySortedBy
non_decreasing n [] s i j d below within = absurd (omega arith)
non_decreasing n (e ∷ es) s zero zero d below within = omega arith
non_decreasing n (e ∷ es) s zero (suc j) d below within = rises n e.0 _ (later e.0 es j d s.0 (omega arith))
non_decreasing n (e ∷ es) s (suc i) zero d below within = absurd (omega arith)
non_decreasing n (e ∷ es) s (suc i) (suc j) d below within = non_decreasing n es s.1 i j d (omega arith) (omega arith)

found : {T : Type 0} (n : ℕ) (es : List (ℕ × T)) (i : ℕ) → IsAscending es → i < length es → HoldsAt (λ y. nat_cmp y.0 n ≡ Equal) es i → seek (nat_cmp n) es ≡ Ok i
unfolding IsStrictlySortedBy
found n [] i s within h = absurd (omega arith)
found n (e ∷ es) zero s within h = rw (flipped e.0 n Equal (h e)) refl
found n (e ∷ es) (suc i) s within h =
    let below : nat_cmp e.0 n ≡ Less = subst (λ z. nat_cmp e.0 z ≡ Less) (exact_unsigned _ n (h e)) (later e.0 es i e s.0 (omega arith)) in
    rw (flipped e.0 n Less below, found n es i s.1 (omega arith) h) refl

missing : {T : Type 0} (n : ℕ) (es : List (ℕ × T)) (i : ℕ) → i ≤ length es → AllWithin (λ y. nat_cmp y.0 n ≡ Less) es 0 i → AllWithin (λ y. nat_cmp y.0 n ≡ Greater) es i (length es) → seek (nat_cmp n) es ≡ Err i
missing n [] zero within below above = refl
missing n [] (suc i) within below above = absurd (omega arith)
missing n (e ∷ es) zero within below above = rw (flipped e.0 n Greater (above 0 e (omega arith) (omega arith))) refl
missing n (e ∷ es) (suc i) within below above =
    rw (flipped e.0 n Less (below 0 e (omega arith) (omega arith)), missing n es i (omega arith) (λ k d a b. below (suc k) d (omega arith) (omega arith)) (λ k d a b. above (suc k) d (omega arith) (omega arith))) refl

pub place_is : {T : Type 0} (n : ℕ) (es : List (ℕ × T)) (r : Result ℕ ℕ) → IsAscending es → IsSearchInRange r (length es) → IsBinarySearchResult (λ y. nat_cmp y.0 n) es r → r ≡ seek (nat_cmp n) es
place_is n es (Ok i) s within h = sym (found n es i s within h)
place_is n es (Err i) s within h = let parts = h (non_decreasing n es s) in sym (missing n es i within parts.0 parts.1)

later_got : {T : Type 0} (k : ℕ) (es : List (ℕ × T)) (i : ℕ) (e : ℕ × T) → AllByRecursion (λ y. nat_cmp k y ≡ Less) (keys_of es) → slice_get es i ≡ Some e → nat_cmp k e.0 ≡ Less
later_got k [] i e all at = absurd (none-some e at)
later_got k (x ∷ es) zero e all at = subst (λ z. nat_cmp k z.0 ≡ Less) (same_Some x e at) all.0
later_got k (x ∷ es) (suc i) e all at = later_got k es i e all.1 at

pub found_got : {T : Type 0} (n : ℕ) (es : List (ℕ × T)) (i : ℕ) (e : ℕ × T) → IsAscending es → slice_get es i ≡ Some e → nat_cmp n e.0 ≡ Equal → seek (nat_cmp n) es ≡ Ok i
unfolding IsStrictlySortedBy
found_got n [] i e s at same = absurd (none-some e at)
found_got n (x ∷ es) zero e s at same = rw (subst (λ z. nat_cmp n z.0 ≡ Equal) (sym (same_Some x e at)) same) refl
found_got n (x ∷ es) (suc i) e s at same =
    let below : nat_cmp x.0 n ≡ Less = subst (λ z. nat_cmp x.0 z ≡ Less) (sym (exact_unsigned n e.0 same)) (later_got x.0 es i e s.0 at) in
    rw (flipped x.0 n Less below, found_got n es i e s.1 at same) refl

-- a number above the last one goes behind all
pub missing_behind : {T : Type 0} (n : ℕ) (es : List (ℕ × T)) (i : ℕ) (e : ℕ × T) → IsAscending es → suc i ≡ length es → slice_get es i ≡ Some e → nat_cmp n e.0 ≡ Greater → seek (nat_cmp n) es ≡ Err (length es)
unfolding IsStrictlySortedBy
missing_behind n [] i e s len at above = absurd (none-some e at)
missing_behind n (x ∷ []) zero e s len at above = rw (subst (λ z. nat_cmp n z.0 ≡ Greater) (sym (same_Some x e at)) above) refl
missing_behind n (x ∷ y ∷ es) zero e s len at above = absurd (omega (arith, len))
missing_behind n (x ∷ es) (suc i) e s len at above =
    let below : nat_cmp x.0 n ≡ Less = nat_cmp_total.trans x.0 e.0 n (later_got x.0 es i e s.0 at) (flipped n e.0 Greater above) in
    rw (flipped x.0 n Less below, missing_behind n es i e s.1 (omega (arith, len)) at above) refl

pub keys-set : {T : Type 0} (es : List (ℕ × T)) (i : ℕ) (x : ℕ × T) → x.0 ≡ (slice_index_or es i x).0 → keys_of (slice_set es i x) ≡ keys_of es
keys-set [] i x h = refl
keys-set (e ∷ es) zero x h = ap (λ k. k ∷ keys_of es) h
keys-set (e ∷ es) (suc i) x h = ap (λ ks. e.0 ∷ ks) (keys-set es i x h)

pub set_is : {T : Type 0} (es : List (ℕ × T)) (i k : ℕ) (w : T) → k ≡ (slice_index_or es i (k, w)).0 → slice_set es i (k, w) ≡ set_value_at es i w
set_is [] i k w h = refl
set_is (e ∷ es) zero k w h = ap (λ n. (n, w) ∷ es) h
set_is (e ∷ es) (suc i) k w h = ap (λ l. e ∷ l) (set_is es i k w h)

pub empty_ascends : {T : Type 0} (es : List (ℕ × T)) → es ≡ [] → IsAscending es
unfolding IsStrictlySortedBy
empty_ascends es e = subst IsAscending (sym e) tt

-- an element read at an index has the number there, whatever its value becomes
pub number_kept : {T : Type 0} (es : List (ℕ × T)) (i : ℕ) (x : ℕ × T) (w : T) → x ≡ slice_index_or es i x → x.0 ≡ (slice_index_or es i (x.0, w)).0
number_kept [] i x w h = refl
number_kept (e ∷ es) zero x w h = ap (λ p. p.0) h
number_kept (e ∷ es) (suc i) x w h = number_kept es i x w h

pub value_got : {T : Type 0} (es : List (ℕ × T)) (i : ℕ) (x : ℕ × T) → i < length es → x ≡ slice_index_or es i x → slice_get (values_of es) i ≡ Some x.1
value_got [] i x l h = absurd (omega arith)
value_got (e ∷ es) zero x l h = ap (λ p. Some p.1) (sym h)
value_got (e ∷ es) (suc i) x l h = value_got es i x (omega arith) h

pub seek_within : {T : Type 0} (n : ℕ) (es : List (ℕ × T)) (i : ℕ) → Ok i ≡ seek (nat_cmp n) es → i < length es
seek_within n es i h = (seek-Ok (nat_cmp n) es i (sym h)).0

pub gap_within : {T : Type 0} (n : ℕ) (es : List (ℕ × T)) (i : ℕ) → Err i ≡ seek (nat_cmp n) es → i ≤ length es
gap_within n es i h = (seek_err (nat_cmp n) es i (sym h)).0

pub item_found : {T : Type 0} (n : ℕ) (es : List (ℕ × T)) (i : ℕ) → Ok i ≡ seek (nat_cmp n) es → item_at es n ≡ slice_get (values_of es) i
item_found n es i h = (found_at (nat_cmp n) es i (sym h)).value

below_all : (n x y : ℕ) → is_le (nat_cmp n x) ≡ true → nat_cmp x y ≡ Less → nat_cmp n y ≡ Less
below_all n x y h l = cases (nat_cmp n x) refl h
  where
    cases : (o : Ordering) → nat_cmp n x ≡ o → is_le o ≡ true → nat_cmp n y ≡ Less
    cases Less e t = nat_cmp_total.trans n x y e l
    cases Equal e t = subst (λ z. nat_cmp z y ≡ Less) (sym (exact_unsigned n x e)) l
    cases Greater e t = cc

module _ {T : Type 0} (n : ℕ) (es : List (ℕ × T)) (i : ℕ) (s : IsAscending es) (h : Err i ≡ seek (nat_cmp n) es) where
  none_passes : NonePasses (is_at (nat_cmp n)) es
  none_passes = missing_at (nat_cmp n) {cmp = nat_cmp} (below_all n) es i s (sym h)

  pub item_absent : item_at es n ≡ None
  item_absent = lookup-none (is_at (nat_cmp n)) es none_passes

  pub without_absent : without_item es n ≡ es
  without_absent = remove_entry_none (is_at (nat_cmp n)) es none_passes

  pub with_absent : (w : T) → with_item es n w ≡ es
  with_absent w = set_value_none (is_at (nat_cmp n)) es w none_passes

  pub put_absent : (w : T) → insert es i (n, w) ≡ put_item es n w
  put_absent w = insert_entry_err nat_cmp n w es i (sym h)

module _ {T : Type 0} (n : ℕ) (es : List (ℕ × T)) (i : ℕ) (h : Ok i ≡ seek (nat_cmp n) es) where
  pub without_found : remove es i ≡ without_item es n
  without_found = (found_at (nat_cmp n) es i (sym h)).removes

  pub with_found : (w : T) → set_value_at es i w ≡ with_item es n w
  with_found w = (found_at (nat_cmp n) es i (sym h)).writes w

  pub put_found : (w : T) → set_value_at es i w ≡ put_item es n w
  put_found w = insert_entry-Ok nat_cmp n w es i (sym h)

at_number : {T : Type 0} (n : ℕ) (es : List (ℕ × T)) (i : ℕ) (w : T) → i < length es → AnswersAt (nat_cmp n) es i Equal → n ≡ (slice_index_or es i (n, w)).0
at_number n [] i w l a = refl
at_number n (e ∷ es) zero w l a = exact_unsigned n e.0 a
at_number n (e ∷ es) (suc i) w l a = at_number n es i w (omega arith) a

-- the entry under the number, written over
module _ {T : Type 0} (n : ℕ) (es : List (ℕ × T)) (i : ℕ) (w : T) (h : Ok i ≡ seek (nat_cmp n) es) where
  at_place : n ≡ (slice_index_or es i (n, w)).0
  at_place = let r = seek-Ok (nat_cmp n) es i (sym h) in at_number n es i w r.0 r.2

  pub set_same : slice_set es i (n, w) ≡ put_item es n w
  set_same = set_is es i n w at_place ∙ put_found n es i h w

pub further : (r : Result ℕ ℕ) → index_of (one_further r) ≡ suc (index_of r)
further (Ok i) = refl
further (Err i) = refl
