-- Which run of a map a number belongs to, and what stands in front of the run and behind it.
use Rattle.std.specs.Prelude.{◌≡◌, ◌+◌, ◌∷◌, ◌++◌}
use Rattle.prost_reflect_maps.proofs.Common.{true, false, Bool, cond, ℕ, zero, suc, List, [], length, None, Some, Result, Ok, Err, Vec, ap, sym, ◌∙◌, subst, refl, arith, exact_unsigned, common_steps, nat_cmp_total, nat_cmp, is_eq, is_le, ordering_reverse, match_ordering, Ordering, Less, Equal, Greater, AllByRecursion, IsStrictlySortedBy, keys_of, seek, one_further, IsAscending, item_at, with_item, put_item, without_item, IsAhead, Runs, marks, flat, IsLaid, run_at}
use Rattle.std.specs.declared.alloc.Global.{Global}
use Rattle.prost_reflect_maps.proofs.ItemChanges.{none_above, all_later}
use Rattle.prost_reflect_maps.proofs.Weaving.{AllAbove, or_else, or_none, item_appended, all_both}

-- below the first run that is not beyond the number
passed : (n : ℕ) (ks : List ℕ) (q : ℕ) → AllByRecursion (λ k. nat_cmp k q ≡ Less) ks → is_le (nat_cmp q n) ≡ true → AllByRecursion (λ y. nat_cmp n y ≡ Greater) ks
passed n [] q all h = tt
passed n (k ∷ ks) q all h = (nat_cmp_total.antisymm n k ∙ ap ordering_reverse (less (nat_cmp q n) refl h), passed n ks q all.1 h)
  where
    less : (o : Ordering) → nat_cmp q n ≡ o → is_le o ≡ true → nat_cmp k n ≡ Less
    less Less at h = nat_cmp_total.trans k q n all.0 at
    less Equal at h = subst (λ z. nat_cmp k z ≡ Less) (exact_unsigned q n at) all.0
    less Greater at h = cc

some_is : (i j : ℕ) → Some i ≡ Some j → j ≡ i
some_is i j e = cc

-- a number that is not above the first of them is below what is above it
pub ahead_first : (n m : ℕ) (k : ℕ) → is_le (nat_cmp n k) ≡ true → nat_cmp k m ≡ Less → nat_cmp n m ≡ Less
ahead_first n m k h less = cases (nat_cmp n k) refl h
  where
    cases : (o : Ordering) → nat_cmp n k ≡ o → is_le o ≡ true → nat_cmp n m ≡ Less
    cases Less at up = nat_cmp_total.trans n k m at less
    cases Equal at up = subst (λ z. nat_cmp z m ≡ Less) (sym (exact_unsigned n k at)) less
    cases Greater at up = cc

pub lowest : (n : ℕ) → is_le (nat_cmp 0 n) ≡ true
lowest n = cases (nat_cmp 0 n) refl
  where
    cases : (o : Ordering) → nat_cmp 0 n ≡ o → is_le o ≡ true
    cases Less at = refl
    cases Equal at = refl
    cases Greater at = absurd (grind (arith, common_steps, at))

module _ {T : Type 0} where
  -- each number is below n
  abbrev pub AllBelow : ℕ → List (ℕ × T) → Type 0
  AllBelow n es = AllByRecursion (λ y. nat_cmp n y ≡ Greater) (keys_of es)

  -- each number is n or above it
  abbrev pub AllFrom : ℕ → List (ℕ × T) → Type 0
  AllFrom n es = AllByRecursion (λ k. is_le (nat_cmp n k) ≡ true) (keys_of es)

  -- BETWEEN OTHERS

  none_below : (n : ℕ) (es : List (ℕ × T)) → AllBelow n es → item_at es n ≡ None
  none_below n [] all = refl
  none_below n (e ∷ es) all = ap (λ o. cond (is_eq o) (Some e.1) (item_at es n)) all.0 ∙ none_below n es all.1

  put_below : (n : ℕ) (t : T) (xs ys : List (ℕ × T)) → AllBelow n xs → put_item (xs ++ ys) n t ≡ xs ++ put_item ys n t
  put_below n t [] ys all = refl
  put_below n t (x ∷ xs) ys all = ap (λ o. match_ordering o ((n, t) ∷ x ∷ (xs ++ ys)) ((x.0, t) ∷ (xs ++ ys)) (x ∷ put_item (xs ++ ys) n t)) all.0 ∙ ap (λ es. x ∷ es) (put_below n t xs ys all.1)

  pub put_above : (n : ℕ) (t : T) (es zs : List (ℕ × T)) → AllAbove n zs → put_item (es ++ zs) n t ≡ put_item es n t ++ zs
  put_above n t [] [] all = refl
  put_above n t [] (z ∷ zs) all = ap (λ o. match_ordering o ((n, t) ∷ z ∷ zs) ((z.0, t) ∷ zs) (z ∷ put_item zs n t)) all.0
  put_above n t (e ∷ es) zs all = cases (nat_cmp n e.0) (put_above n t es zs all)
    where
      cases : (o : Ordering) → put_item (es ++ zs) n t ≡ put_item es n t ++ zs
          → match_ordering o ((n, t) ∷ e ∷ (es ++ zs)) ((e.0, t) ∷ (es ++ zs)) (e ∷ put_item (es ++ zs) n t) ≡ match_ordering o ((n, t) ∷ e ∷ es) ((e.0, t) ∷ es) (e ∷ put_item es n t) ++ zs
      cases Less rest = refl
      cases Equal rest = refl
      cases Greater rest = ap (λ l. e ∷ l) rest

  without_below : (n : ℕ) (xs ys : List (ℕ × T)) → AllBelow n xs → without_item (xs ++ ys) n ≡ xs ++ without_item ys n
  without_below n [] ys all = refl
  without_below n (x ∷ xs) ys all = ap (λ o. cond (is_eq o) (xs ++ ys) (x ∷ without_item (xs ++ ys) n)) all.0 ∙ ap (λ es. x ∷ es) (without_below n xs ys all.1)

  pub without_above : (n : ℕ) (es zs : List (ℕ × T)) → AllAbove n zs → without_item (es ++ zs) n ≡ without_item es n ++ zs
  without_above n [] [] all = refl
  without_above n [] (z ∷ zs) all = ap (λ o. cond (is_eq o) zs (z ∷ without_item zs n)) all.0 ∙ ap (λ l. z ∷ l) (without_above n [] zs all.1)
  without_above n (e ∷ es) zs all = cases (is_eq (nat_cmp n e.0)) (without_above n es zs all)
    where
      cases : (b : Bool) → without_item (es ++ zs) n ≡ without_item es n ++ zs → cond b (es ++ zs) (e ∷ without_item (es ++ zs) n) ≡ cond b es (e ∷ without_item es n) ++ zs
      cases true rest = refl
      cases false rest = ap (λ l. e ∷ l) rest

  with_below : (n : ℕ) (t : T) (xs ys : List (ℕ × T)) → AllBelow n xs → with_item (xs ++ ys) n t ≡ xs ++ with_item ys n t
  with_below n t [] ys all = refl
  with_below n t (x ∷ xs) ys all = ap (λ o. cond (is_eq o) ((x.0, t) ∷ (xs ++ ys)) (x ∷ with_item (xs ++ ys) n t)) all.0 ∙ ap (λ es. x ∷ es) (with_below n t xs ys all.1)

  with_above : (n : ℕ) (t : T) (es zs : List (ℕ × T)) → AllAbove n zs → with_item (es ++ zs) n t ≡ with_item es n t ++ zs
  with_above n t [] [] all = refl
  with_above n t [] (z ∷ zs) all = ap (λ o. cond (is_eq o) ((z.0, t) ∷ zs) (z ∷ with_item zs n t)) all.0 ∙ ap (λ l. z ∷ l) (with_above n t [] zs all.1)
  with_above n t (e ∷ es) zs all = cases (is_eq (nat_cmp n e.0)) (with_above n t es zs all)
    where
      cases : (b : Bool) → with_item (es ++ zs) n t ≡ with_item es n t ++ zs → cond b ((e.0, t) ∷ (es ++ zs)) (e ∷ with_item (es ++ zs) n t) ≡ cond b ((e.0, t) ∷ es) (e ∷ with_item es n t) ++ zs
      cases true rest = refl
      cases false rest = ap (λ l. e ∷ l) rest

  module _ (n : ℕ) (xs es zs : List (ℕ × T)) (below : AllBelow n xs) (above : AllAbove n zs) where
    pub item_between : item_at (xs ++ (es ++ zs)) n ≡ item_at es n
    item_between = item_appended xs (es ++ zs) n ∙ ap (λ o. or_else o (item_at (es ++ zs) n)) (none_below n xs below)
        ∙ item_appended es zs n ∙ ap (or_else (item_at es n)) (none_above n zs above) ∙ or_none (item_at es n)

    pub put_between : (t : T) → put_item (xs ++ (es ++ zs)) n t ≡ xs ++ (put_item es n t ++ zs)
    put_between t = put_below n t xs (es ++ zs) below ∙ ap (λ l. xs ++ l) (put_above n t es zs above)

    pub without_between : without_item (xs ++ (es ++ zs)) n ≡ xs ++ (without_item es n ++ zs)
    without_between = without_below n xs (es ++ zs) below ∙ ap (λ l. xs ++ l) (without_above n es zs above)

    pub with_between : (t : T) → with_item (xs ++ (es ++ zs)) n t ≡ xs ++ (with_item es n t ++ zs)
    with_between t = with_below n t xs (es ++ zs) below ∙ ap (λ l. xs ++ l) (with_above n t es zs above)

  -- WHAT RUNS SAY OF THEIR ITEMS

  -- below that of the first run, and so below all
  pub ahead_above : (n : ℕ) (rs : Runs T) → IsAhead n (marks rs) → IsLaid rs → AllAbove n (flat rs)
  ahead_above n [] ahead laid = tt
  ahead_above n (r ∷ rs) ahead laid = all_both (λ y. nat_cmp n y ≡ Less) r.1.items (flat rs) (own (keys_of r.1.items) laid.1) (ahead_above n rs (next rs laid.2) laid.4)
    where
      less : (k : ℕ) (o : Ordering) → nat_cmp r.0 k ≡ o → is_le o ≡ true → nat_cmp n k ≡ Less
      less k Less at h = nat_cmp_total.trans n r.0 k ahead at
      less k Equal at h = subst (λ z. nat_cmp n z ≡ Less) (exact_unsigned r.0 k at) ahead
      less k Greater at h = cc

      own : (ks : List ℕ) → AllByRecursion (λ k. is_le (nat_cmp r.0 k) ≡ true) ks → AllByRecursion (λ y. nat_cmp n y ≡ Less) ks
      own [] a = tt
      own (k ∷ ks) a = (less k (nat_cmp r.0 k) refl a.0, own ks a.1)

      next : (qs : Runs T) → IsAhead r.0 (marks qs) → IsAhead n (marks qs)
      next [] a = tt
      next (q ∷ qs) a = nat_cmp_total.trans n r.0 q.0 ahead a

  appended_ascends : (xs ys : List (ℕ × T)) → IsAscending xs → IsAscending ys → AllByRecursion (λ k. AllAbove k ys) (keys_of xs) → IsAscending (xs ++ ys)
  unfolding IsStrictlySortedBy
  appended_ascends [] ys s r all = r
  appended_ascends (x ∷ xs) ys s r all = (all_both (λ y. nat_cmp x.0 y ≡ Less) xs ys s.0 all.0, appended_ascends xs ys s.1 r all.1)

  pub flat_ascends : (rs : Runs T) → IsLaid rs → IsAscending (flat rs)
  unfolding IsStrictlySortedBy
  flat_ascends [] laid = tt
  flat_ascends (r ∷ rs) laid = appended_ascends r.1.items (flat rs) laid.0 (flat_ascends rs laid.4) (each (keys_of r.1.items) laid.3)
    where
      each : (ks : List ℕ) → AllByRecursion (λ k. IsAhead k (marks rs)) ks → AllByRecursion (λ k. AllAbove k (flat rs)) ks
      each [] a = tt
      each (k ∷ ks) a = (ahead_above k rs a.0 laid.4, each ks a.1)

  -- the numbers that stand with the runs ascend
  pub runs_ascend : (rs : Runs T) → IsLaid rs → IsAscending rs
  unfolding IsStrictlySortedBy
  runs_ascend [] laid = tt
  runs_ascend (r ∷ rs) laid = (later rs laid.2 (runs_ascend rs laid.4), runs_ascend rs laid.4)
    where
      later : (qs : Runs T) → IsAhead r.0 (marks qs) → IsAscending qs → AllByRecursion (λ y. nat_cmp r.0 y ≡ Less) (keys_of qs)
      later [] a s = tt
      later (q ∷ qs) a s = (a, all_later r.0 q.0 (keys_of qs) a s.0)

  -- THE RUN OF A NUMBER

  -- the run at a place, between those in front of it and those behind it
  pub record IsRunOf (n : ℕ) (rs : Runs T) (i : ℕ) : Type 0 where
    pub before : Runs T
    pub run : ℕ × Vec (ℕ × T) Global
    pub after : Runs T
    pub cut : rs ≡ before ++ run ∷ after
    pub place : length before ≡ i
    pub below : AllBelow n (flat before)
    pub from : is_le (nat_cmp run.0 n) ≡ true
    pub ahead : IsAhead n (marks after)

  one_more : (n : ℕ) (r : ℕ × Vec (ℕ × T) Global) (rs : Runs T) (i : ℕ) → AllBelow n r.1.items → IsRunOf n rs i → IsRunOf n (r ∷ rs) (suc i)
  one_more n r rs i below home = record {
    before = r ∷ home.before;
    run = home.run;
    after = home.after;
    cut = ap (λ l. r ∷ l) home.cut;
    place = ap suc home.place;
    below = all_both (λ y. nat_cmp n y ≡ Greater) r.1.items (flat home.before) below home.below;
    from = home.from;
    ahead = home.ahead;
  }

  pub run_found : (n : ℕ) (rs : Runs T) (i : ℕ) → IsLaid rs → Some i ≡ run_at (seek (nat_cmp n) rs) → IsRunOf n rs i
  run_found n [] i laid h = cc
  run_found n (r ∷ rs) i laid h = cases (λ j e. run_found n rs j laid.4 e) (nat_cmp n r.0) refl h
    where
      le : nat_cmp n r.0 ≡ Equal → is_le (nat_cmp r.0 n) ≡ true
      le at = ap is_le (nat_cmp_total.antisymm r.0 n ∙ ap ordering_reverse at)

      le_greater : nat_cmp n r.0 ≡ Greater → is_le (nat_cmp r.0 n) ≡ true
      le_greater at = ap is_le (nat_cmp_total.antisymm r.0 n ∙ ap ordering_reverse at)

      first : is_le (nat_cmp r.0 n) ≡ true → IsAhead n (marks rs) → IsRunOf n (r ∷ rs) 0
      first from ahead = record { before = []; run = r; after = rs; cut = refl; place = refl; below = tt; from = from; ahead = ahead }

      next : (qs : Runs T) → n ≡ r.0 → IsAhead r.0 (marks qs) → IsAhead n (marks qs)
      next [] is a = tt
      next (q ∷ qs) is a = subst (λ z. nat_cmp z q.0 ≡ Less) (sym is) a

      -- behind the first run
      further : ((j : ℕ) → Some j ≡ run_at (seek (nat_cmp n) rs) → IsRunOf n rs j) → nat_cmp n r.0 ≡ Greater → (qs : Runs T) → qs ≡ rs → Some i ≡ run_at (one_further (seek (nat_cmp n) qs)) → IsRunOf n (r ∷ rs) i
      further rest at [] is e = subst (IsRunOf n (r ∷ rs)) (some_is i 0 e) (first (le_greater at) (subst (λ l. IsAhead n (marks l)) is tt))
      further rest at (q ∷ qs) is e = there (nat_cmp n q.0) refl e
        where
          below : is_le (nat_cmp q.0 n) ≡ true → AllBelow n r.1.items
          below up = passed n (keys_of r.1.items) q.0 (subst (λ l. AllByRecursion (λ k. IsAhead k (marks l)) (keys_of r.1.items)) (sym is) laid.3) up

          deeper : (j : ℕ) → is_le (nat_cmp q.0 n) ≡ true → Some j ≡ run_at (seek (nat_cmp n) (q ∷ qs)) → i ≡ suc j → IsRunOf n (r ∷ rs) i
          deeper j up f k = subst (IsRunOf n (r ∷ rs)) (sym k) (one_more n r rs j (below up) (rest j (f ∙ ap (λ l. run_at (seek (nat_cmp n) l)) is)))

          back : (o : Ordering) → nat_cmp n q.0 ≡ o → is_le (ordering_reverse o) ≡ true → is_le (nat_cmp q.0 n) ≡ true
          back o at h = ap is_le (nat_cmp_total.antisymm q.0 n ∙ ap ordering_reverse at) ∙ h

          behind : (p : Result ℕ ℕ) → seek (nat_cmp n) qs ≡ p → is_le (nat_cmp q.0 n) ≡ true → nat_cmp n q.0 ≡ Greater → Some i ≡ run_at (one_further (one_further p)) → IsRunOf n (r ∷ rs) i
          behind (Ok j) s up at e = deeper (suc j) up (sym (ap (λ o. run_at (match_ordering o (Err 0) (Ok 0) (one_further (seek (nat_cmp n) qs)))) at ∙ ap (λ p. run_at (one_further p)) s)) (sym (some_is i (suc (suc j)) e))
          behind (Err zero) s up at e = deeper 0 up (sym (ap (λ o. run_at (match_ordering o (Err 0) (Ok 0) (one_further (seek (nat_cmp n) qs)))) at ∙ ap (λ p. run_at (one_further p)) s)) (sym (some_is i 1 e))
          behind (Err (suc j)) s up at e = deeper (suc j) up (sym (ap (λ o. run_at (match_ordering o (Err 0) (Ok 0) (one_further (seek (nat_cmp n) qs)))) at ∙ ap (λ p. run_at (one_further p)) s)) (sym (some_is i (suc (suc j)) e))

          there : (o : Ordering) → nat_cmp n q.0 ≡ o → Some i ≡ run_at (one_further (match_ordering o (Err 0) (Ok 0) (one_further (seek (nat_cmp n) qs)))) → IsRunOf n (r ∷ rs) i
          there Less less e = subst (IsRunOf n (r ∷ rs)) (some_is i 0 e) (first (le_greater at) (subst (λ l. IsAhead n (marks l)) is less))
          there Equal o e = deeper 0 (back Equal o refl) (sym (ap (λ o. run_at (match_ordering o (Err 0) (Ok 0) (one_further (seek (nat_cmp n) qs)))) o)) (sym (some_is i 1 e))
          there Greater o e = behind (seek (nat_cmp n) qs) refl (back Greater o refl) o e

      cases : ((j : ℕ) → Some j ≡ run_at (seek (nat_cmp n) rs) → IsRunOf n rs j) → (o : Ordering) → nat_cmp n r.0 ≡ o → Some i ≡ run_at (match_ordering o (Err 0) (Ok 0) (one_further (seek (nat_cmp n) rs))) → IsRunOf n (r ∷ rs) i
      cases rest Less at e = cc
      cases rest Equal at e = subst (IsRunOf n (r ∷ rs)) (some_is i 0 e) (first (le at) (next rs (exact_unsigned n r.0 at) laid.2))
      cases rest Greater at e = further rest at rs refl e

  -- no run has the number, so it is below all
  pub none_found : (n : ℕ) (rs : Runs T) → None ≡ run_at (seek (nat_cmp n) rs) → IsAhead n (marks rs)
  none_found n [] h = tt
  none_found n (r ∷ rs) h = cases (nat_cmp n r.0) refl h
    where
      cases : (o : Ordering) → nat_cmp n r.0 ≡ o → None ≡ run_at (match_ordering o (Err 0) (Ok 0) (one_further (seek (nat_cmp n) rs))) → nat_cmp n r.0 ≡ Less
      cases Less at e = at
      cases Equal at e = cc
      cases Greater at e = never (seek (nat_cmp n) rs) e
        where
          never : (p : Result ℕ ℕ) → None ≡ run_at (one_further p) → nat_cmp n r.0 ≡ Less
          never (Ok j) f = cc
          never (Err j) f = cc
