-- What stands twice in a list stands twice in it sorted, and there beside itself.
use Rattle.std.specs.Prelude.{◌≡◌, ◌≤◌, ◌<◌, ◌+◌, ◌||◌, ◌∷◌, ◌++◌, nat_lt}
use Rattle.prost_reflect_definition_checks.proofs.Common.{ℕ, Bool, true, false, cond, List, [], length, map, refl, sym, ap, subst, ◌∙◌, arith, append_assoc, IsPermutation, list_any}
use mathlib.Core.Logic.{◌⊎◌, inl, inr}
use Rattle.std.specs.Cmp.{IsEquivalence, IsTotalOrder}
use Rattle.std.specs.List.{AllByRecursion, count_by, dedup, dedup_from}
use Rattle.std.specs.List.Sorted.{IsSorted, IsStrictlySortedBy}
use Rattle.std.specs.Ordering.{eq_by_cmp, is_eq}
use Rattle.std.specs.declared.cmp.Ordering.{Ordering}
use Rattle.std.specs.declared.cmp.Ordering.TheVariants.{Less}
use Rattle.std.proofs.Common.{zero-add}
use Rattle.std.proofs.lemmas.Bool.{or_parts}
use Rattle.std.proofs.lemmas.List.{append-nil}
use Rattle.std.proofs.lemmas.List.Kept.{IsStrictlySortedBy-dedup}
use Rattle.std.proofs.lemmas.List.Sorted.{IsPermutation-map, length_permutation, sum_by-IsPermutation}
use Rattle.std.proofs.lemmas.List.Sums.{sum_by-append, sum_by-cons, sum_by_push}
use Rattle.prost_reflect_tables.specs.Faults.{repeats_by}

-- HOW OFTEN EACH STANDS THERE

module _ {X : Type 0} (same : X → X → Bool) (equal : IsEquivalence same) where
  abbrev count : X → List X → ℕ
  count t = count_by (same t)

  abbrev Twice : List X → Type 0
  Twice xs = (t : X) × (2 ≤ count t xs)

  abbrev OnceEach : List X → Type 0
  OnceEach xs = (t : X) → count t xs ≤ 1

  count-cons : (t x : X) (xs : List X) → count t (x ∷ xs) ≡ cond (same t x) 1 0 + count t xs
  count-cons t = sum_by-cons (λ x. cond (same t x) 1 0)

  -- Nothing like t, as nothing is like n, and these are alike.
  none : (t n : X) → same t n ≡ true → (xs : List X) → list_any (same n) xs ≡ false → count t xs ≡ 0
  none t n e [] h = refl
  none t n e (x ∷ xs) h =
      let (head, rest) = or_parts (same n x) (list_any (same n) xs) h in
      count-cons t x xs ∙ (ap (λ b. cond b 1 0 + count t xs) (equal.congr t n x e ∙ head) ∙ (zero-add (count t xs) ∙ none t n e xs rest))

  some : (t : X) (xs : List X) → list_any (same t) xs ≡ true → 1 ≤ count t xs
  some t [] h = cc
  some t (x ∷ xs) h = subst (λ n. 1 ≤ n) (sym (count-cons t x xs)) (go (same t x) h (some t xs))
    where
      go : (b : Bool) → (b || list_any (same t) xs) ≡ true → (list_any (same t) xs ≡ true → 1 ≤ count t xs) → 1 ≤ cond b 1 0 + count t xs
      go true e more = omega arith
      go false e more = let m = more e in omega (arith, m)

  one_more : (before : List X) (n : X) → list_any (same n) before ≡ false → OnceEach before → OnceEach (before ++ n ∷ [])
  one_more before n new few t = subst (λ m. m ≤ 1) (sym (sum_by_push (λ x. cond (same t x) 1 0) before n)) (go (same t n) refl)
    where
      go : (b : Bool) → same t n ≡ b → count t before + cond b 1 0 ≤ 1
      go true e = subst (λ m. m + 1 ≤ 1) (sym (none t n e before new)) (omega arith)
      go false e = let one = few t in omega (arith, one)

  at_most : (before ns : List X) → repeats_by same before ns ≡ false → OnceEach before → OnceEach (before ++ ns)
  at_most before [] h few t = subst (λ l. count t l ≤ 1) (sym (append-nil before)) (few t)
  at_most before (n ∷ ns) h few t =
      let (new, rest) = or_parts (list_any (same n) before) (repeats_by same (before ++ n ∷ []) ns) h in
      subst (λ l. count t l ≤ 1) (append_assoc before (n ∷ []) ns) (at_most (before ++ n ∷ []) ns rest (one_more before n new few) t)

  own : (n : X) (ns : List X) → list_any (same n) (n ∷ ns) ≡ true
  own n ns = ap (λ b. b || list_any (same n) ns) (equal.refl n)

  twice : (before ns : List X) → repeats_by same before ns ≡ true → Twice (before ++ ns)
  twice before [] h = cc
  twice before (n ∷ ns) h = go (list_any (same n) before) refl h (twice (before ++ n ∷ []) ns)
    where
      go : (b : Bool) → list_any (same n) before ≡ b → (b || repeats_by same (before ++ n ∷ []) ns) ≡ true
          → (repeats_by same (before ++ n ∷ []) ns ≡ true → Twice ((before ++ n ∷ []) ++ ns)) → Twice (before ++ n ∷ ns)
      go true e f more =
          let here = some n (n ∷ ns) (own n ns) in
          let there = some n before e in
          (n, subst (λ m. 2 ≤ m) (sym (sum_by-append (λ x. cond (same n x) 1 0) before (n ∷ ns))) (omega (arith, here, there)))
      go false e f more = let (t, two) = more f in (t, subst (λ l. 2 ≤ count t l) (append_assoc before (n ∷ []) ns) two)

  both : (t a b : X) (l : List X) → same t a ≡ true → same t b ≡ true → 2 ≤ count t (a ∷ b ∷ l)
  both t a b l e f =
      subst (λ n. 2 ≤ n)
      (sym (count-cons t a (b ∷ l) ∙ (ap (λ c. cond c 1 0 + count t (b ∷ l)) e ∙ ap (λ n. 1 + n) (count-cons t b l ∙ ap (λ c. cond c 1 0 + count t l) f))))
      (omega arith)

-- BESIDE ITSELF

-- Items that are told apart by what they show.
module _ {X K : Type 0} (same : X → X → Bool) (equal : IsEquivalence same) (shown : K → X) where
  abbrev pub alike : K → K → Bool
  alike x y = same (shown x) (shown y)

  at_length : (k : K) (xs : List K) → length (dedup_from alike k xs) ≤ 1 + length xs
  at_length k [] = omega arith
  at_length k (x ∷ xs) = go (alike x k) (at_length k xs) (at_length x xs)
    where
      go : (b : Bool) → length (dedup_from alike k xs) ≤ 1 + length xs → length (dedup_from alike x xs) ≤ 1 + length xs
          → length (cond b (dedup_from alike k xs) (k ∷ dedup_from alike x xs)) ≤ 1 + length (x ∷ xs)
      go true h i = omega (arith, h)
      go false h i = omega (arith, i)

  -- All stand there still, or one stood there twice, and they are fewer.
  abbrev Kept : K → List K → List K → Type 0
  Kept k xs left = (left ≡ k ∷ xs) ⊎ (Twice same equal (map shown (k ∷ xs)) × (length left ≤ length xs))

  kept_or_twice : (k : K) (xs : List K) → Kept k xs (dedup_from alike k xs)
  kept_or_twice k [] = inl refl
  kept_or_twice k (x ∷ xs) = go (alike x k) refl (kept_or_twice x xs)
    where
      behind : Kept x xs (dedup_from alike x xs) → Kept k (x ∷ xs) (k ∷ dedup_from alike x xs)
      behind (inl e) = inl (ap (λ l. k ∷ l) e)
      behind (inr ((t, more), short)) = inr ((t, subst (λ n. 2 ≤ n) (sym (count-cons same equal t (shown k) (map shown (x ∷ xs)))) (omega (arith, more))), omega (arith, short))

      go : (b : Bool) → alike x k ≡ b → Kept x xs (dedup_from alike x xs) → Kept k (x ∷ xs) (cond b (dedup_from alike k xs) (k ∷ dedup_from alike x xs))
      go true e rest = let short = at_length k xs in inr ((shown x, both same equal (shown x) (shown k) (shown x) (map shown xs) e (equal.refl (shown x))), omega (arith, short))
      go false e rest = behind rest

  -- IN ORDER

  module _ (order : K → K → Ordering) (total : IsTotalOrder order) (ties : (x y : K) → alike x y ≡ eq_by_cmp order x y) where
    others : (z : K) (zs : List K) → AllByRecursion (λ y. order z y ≡ Less) zs → list_any (same (shown z)) (map shown zs) ≡ false
    others z [] h = refl
    others z (y ∷ zs) h = ap (λ b. b || list_any (same (shown z)) (map shown zs)) (ties z y ∙ ap is_eq h.0) ∙ others z zs h.1

    strict : (zs : List K) → IsStrictlySortedBy order zs → OnceEach same equal (map shown zs)
    unfolding IsStrictlySortedBy
    strict [] h t = omega arith
    strict (z ∷ zs) h t = subst (λ n. n ≤ 1) (sym (count-cons same equal t (shown z) (map shown zs))) (go (same t (shown z)) refl (strict zs h.1 t))
      where
        go : (b : Bool) → same t (shown z) ≡ b → count same equal t (map shown zs) ≤ 1 → cond b 1 0 + count same equal t (map shown zs) ≤ 1
        go true e more = subst (λ m. 1 + m ≤ 1) (sym (none same equal t (shown z) e (map shown zs) (others z zs h.0))) (omega arith)
        go false e more = omega (arith, more)

    -- Of items in order those that are like the one before are left out.
    module _ (xs ys zs : List K) (moved : IsPermutation xs ys) (in_order : IsSorted order ys) (left : zs ≡ dedup alike ys) where
      same_counts : (t : X) → count same equal t (map shown ys) ≡ count same equal t (map shown xs)
      same_counts t = sum_by-IsPermutation (λ x. cond (same t x) 1 0) (map shown xs) (map shown ys) (IsPermutation-map shown xs ys moved)

      as_long : length ys ≡ length xs
      as_long = length_permutation xs ys moved

      all_or_twice : (zs ≡ ys) ⊎ (Twice same equal (map shown ys) × (length zs < length ys))
      all_or_twice = go ys left
        where
          go : (ys : List K) → zs ≡ dedup alike ys → (zs ≡ ys) ⊎ (Twice same equal (map shown ys) × (length zs < length ys))
          go [] e = inl e
          go (y ∷ ys) e = told (kept_or_twice y ys)
            where
              told : Kept y ys (dedup_from alike y ys) → (zs ≡ y ∷ ys) ⊎ (Twice same equal (map shown (y ∷ ys)) × (length zs < length (y ∷ ys)))
              told (inl all) = inl (e ∙ all)
              told (inr (two, short)) = inr (two, subst (λ l. length l < length (y ∷ ys)) (sym e) (omega (arith, short)))

      repeated : length zs < length xs → repeats_by same [] (map shown xs) ≡ true
      repeated fewer = go all_or_twice (repeats_by same [] (map shown xs)) refl
        where
          go : (zs ≡ ys) ⊎ (Twice same equal (map shown ys) × (length zs < length ys)) → (b : Bool) → repeats_by same [] (map shown xs) ≡ b → b ≡ true
          go told true e = refl
          go (inl all) false e = absurd (let same = ap length all in omega (arith, fewer, same, as_long))
          go (inr ((t, two), short)) false e =
              let once = at_most same equal [] (map shown xs) e (λ t. omega arith) t in
              let counts = same_counts t in
              absurd (omega (arith, once, two, counts))

      unrepeated : length xs ≤ length zs → repeats_by same [] (map shown xs) ≡ false
      unrepeated all = go all_or_twice (repeats_by same [] (map shown xs)) refl
        where
          go : (zs ≡ ys) ⊎ (Twice same equal (map shown ys) × (length zs < length ys)) → (b : Bool) → repeats_by same [] (map shown xs) ≡ b → b ≡ false
          go told false e = refl
          go (inr (two, short)) true e = absurd (omega (arith, all, short, as_long))
          go (inl whole) true e =
              let (t, two) = twice same equal [] (map shown xs) e in
              let once : count same equal t (map shown ys) ≤ 1 = subst (λ l. count same equal t (map shown l) ≤ 1) (sym left ∙ whole) (strict (dedup alike ys) (IsStrictlySortedBy-dedup total ties ys in_order) t) in
              let counts = same_counts t in
              absurd (omega (arith, once, two, counts))

      -- So they are fewer exactly where one stood among those before it.
      pub fewer : (m n : ℕ) → m ≡ length zs → n ≡ length xs → nat_lt m n ≡ repeats_by same [] (map shown xs)
      fewer m n e f = go (nat_lt m n) refl
        where
          go : (b : Bool) → nat_lt m n ≡ b → b ≡ repeats_by same [] (map shown xs)
          go true h = sym (repeated (grind (arith, h, e, f)))
          go false h = sym (unrepeated (grind (arith, h, e, f)))
