-- Two lists whose numbers ascend, walked in step.
use Rattle.std.specs.Prelude.{◌≡◌, ◌∷◌, ◌++◌}
use Rattle.prost_reflect_maps.proofs.Common.{ℕ, Bool, true, false, cond, List, [], Option, Some, None, refl, ap, sym, subst, ◌∙◌, append_assoc, arith, nat_le, length, true≢false, append-nil, common_steps, nat_cmp, is_eq, Ordering, Less, Equal, Greater, BTreeSet, AllByRecursion, IsStrictlySortedBy, keys_of, IsAscending, item_at, has, is_up_to, chosen_up_to, left_beyond, AreReplaced}
use Rattle.prost_reflect_maps.proofs.ItemChanges.{Apart, by_number, itself, all_later}

pub none_of : {A : Type 0} (xs : List A) → length xs ≡ 0 → xs ≡ []
none_of [] h = refl
none_of (x ∷ xs) h = absurd (omega (arith, h))

module _ {T : Type 0} where
  -- each number is above n
  abbrev pub AllAbove : ℕ → List (ℕ × T) → Type 0
  AllAbove n es = AllByRecursion (λ y. nat_cmp n y ≡ Less) (keys_of es)

  abbrev pub or_else : Option T → Option T → Option T
  or_else None o = o
  or_else (Some t) o = Some t

  pub or_none : (o : Option T) → or_else o None ≡ o
  or_none None = refl
  or_none (Some t) = refl

  or_assoc : (o p q : Option T) → or_else (or_else o p) q ≡ or_else o (or_else p q)
  or_assoc None p q = refl
  or_assoc (Some t) p q = refl

  pub item_appended : (xs ys : List (ℕ × T)) (k : ℕ) → item_at (xs ++ ys) k ≡ or_else (item_at xs k) (item_at ys k)
  item_appended [] ys k = refl
  item_appended (x ∷ xs) ys k = cases (is_eq (nat_cmp k x.0)) (item_appended xs ys k)
    where
      cases : (b : Bool) → item_at (xs ++ ys) k ≡ or_else (item_at xs k) (item_at ys k) → cond b (Some x.1) (item_at (xs ++ ys) k) ≡ or_else (cond b (Some x.1) (item_at xs k)) (item_at ys k)
      cases true rest = refl
      cases false rest = rest

  -- IN ORDER

  pub all_left : (P : ℕ → Type 0) (xs ys : List (ℕ × T)) → AllByRecursion P (keys_of (xs ++ ys)) → AllByRecursion P (keys_of xs)
  all_left P [] ys a = tt
  all_left P (x ∷ xs) ys a = (a.0, all_left P xs ys a.1)

  pub all_right : (P : ℕ → Type 0) (xs ys : List (ℕ × T)) → AllByRecursion P (keys_of (xs ++ ys)) → AllByRecursion P (keys_of ys)
  all_right P [] ys a = a
  all_right P (x ∷ xs) ys a = all_right P xs ys a.1

  pub all_both : (P : ℕ → Type 0) (xs ys : List (ℕ × T)) → AllByRecursion P (keys_of xs) → AllByRecursion P (keys_of ys) → AllByRecursion P (keys_of (xs ++ ys))
  all_both P [] ys a b = b
  all_both P (x ∷ xs) ys a b = (a.0, all_both P xs ys a.1 b)

  pub ascending_left : (xs ys : List (ℕ × T)) → IsAscending (xs ++ ys) → IsAscending xs
  unfolding IsStrictlySortedBy
  ascending_left [] ys s = tt
  ascending_left (x ∷ xs) ys s = (all_left (λ y. nat_cmp x.0 y ≡ Less) xs ys s.0, ascending_left xs ys s.1)

  pub ascending_right : (xs ys : List (ℕ × T)) → IsAscending (xs ++ ys) → IsAscending ys
  unfolding IsStrictlySortedBy
  ascending_right [] ys s = s
  ascending_right (x ∷ xs) ys s = ascending_right xs ys s.1

  -- without an item between
  ascending_dropped : (xs : List (ℕ × T)) (e : ℕ × T) (ys : List (ℕ × T)) → IsAscending (xs ++ e ∷ ys) → IsAscending (xs ++ ys)
  unfolding IsStrictlySortedBy
  ascending_dropped [] e ys s = s.1
  ascending_dropped (x ∷ xs) e ys s =
      let above : ℕ → Type 0 = λ y. nat_cmp x.0 y ≡ Less in
      (all_both above xs ys (all_left above xs (e ∷ ys) s.0) (all_right above xs (e ∷ ys) s.0).1, ascending_dropped xs e ys s.1)

  -- with an item between
  ascending_between : (xs : List (ℕ × T)) (e : ℕ × T) (ds ys : List (ℕ × T)) → IsAscending (xs ++ e ∷ ds) → IsAscending (xs ++ ys) → AllAbove e.0 ys → IsAscending (xs ++ e ∷ ys)
  unfolding IsStrictlySortedBy
  ascending_between [] e ds ys s r above = (above, r)
  ascending_between (x ∷ xs) e ds ys s r above =
      let P : ℕ → Type 0 = λ y. nat_cmp x.0 y ≡ Less in
      (all_both P xs (e ∷ ys) (all_left P xs ys r.0) ((all_right P xs (e ∷ ds) s.0).0, all_right P xs ys r.0), ascending_between xs e ds ys s.1 r.1 above)

  -- WALKED IN STEP

  -- what is behind `items` already, with what is left of both, is what all of both say
  pub record IsWoven (numbers : BTreeSet ℕ) (items olds others all_olds all_others : List (ℕ × T)) : Type 0 where
    pub at : (k : ℕ) → or_else (item_at items k) (cond (has numbers k) (item_at others k) (item_at olds k)) ≡ cond (has numbers k) (item_at all_others k) (item_at all_olds k)
    pub olds_ascend : IsAscending (items ++ olds)
    pub others_ascend : IsAscending (items ++ others)

  module _ (numbers : BTreeSet ℕ) (all_olds all_others : List (ℕ × T)) where
    abbrev Woven : List (ℕ × T) → List (ℕ × T) → List (ℕ × T) → Type 0
    Woven items olds others = IsWoven numbers items olds others all_olds all_others

    abbrev said : ℕ → List (ℕ × T) → List (ℕ × T) → Option T
    said k olds others = cond (has numbers k) (item_at others k) (item_at olds k)

    one : (e : ℕ × T) (k : ℕ) → k ≡ e.0 → is_eq (nat_cmp k e.0) ≡ true
    one e k is = ap is_eq (ap (λ z. nat_cmp z e.0) is ∙ itself e.0)

    -- an item of the others that is in the set
    other_taken : (items olds : List (ℕ × T)) (d : ℕ × T) (ds : List (ℕ × T)) → has numbers d.0 ≡ true → AllAbove d.0 olds → Woven items olds (d ∷ ds) → Woven (items ++ d ∷ []) olds ds
    other_taken items olds d ds inside above w = record {
      at = λ k. ap (λ o. or_else o (said k olds ds)) (item_appended items (d ∷ []) k) ∙ or_assoc (item_at items k) (item_at (d ∷ []) k) (said k olds ds)
          ∙ ap (or_else (item_at items k)) (by_number k d.0 (here k) (there k)) ∙ w.at k;
      olds_ascend = subst IsAscending (sym (append_assoc items (d ∷ []) olds)) (ascending_between items d ds olds w.others_ascend w.olds_ascend above);
      others_ascend = subst IsAscending (sym (append_assoc items (d ∷ []) ds)) w.others_ascend;
    }
      where
        here : (k : ℕ) → k ≡ d.0 → or_else (item_at (d ∷ []) k) (said k olds ds) ≡ said k olds (d ∷ ds)
        here k is = ap (λ b. or_else (cond b (Some d.1) None) (said k olds ds)) (one d k is)
            ∙ ap (λ b. cond b (Some d.1) (item_at olds k)) (sym (ap (has numbers) is ∙ inside)) ∙ ap (λ b. cond (has numbers k) (cond b (Some d.1) (item_at ds k)) (item_at olds k)) (sym (one d k is))

        there : (k : ℕ) → Apart k d.0 → or_else (item_at (d ∷ []) k) (said k olds ds) ≡ said k olds (d ∷ ds)
        there k apart = ap (λ b. or_else (cond b (Some d.1) None) (said k olds ds)) apart ∙ ap (λ b. cond (has numbers k) (cond b (Some d.1) (item_at ds k)) (item_at olds k)) (sym apart)

    -- or is not
    other_passed : (items olds : List (ℕ × T)) (d : ℕ × T) (ds : List (ℕ × T)) → has numbers d.0 ≡ false → Woven items olds (d ∷ ds) → Woven items olds ds
    other_passed items olds d ds outside w = record {
      at = λ k. ap (or_else (item_at items k)) (by_number k d.0 (here k) (there k)) ∙ w.at k;
      olds_ascend = w.olds_ascend;
      others_ascend = ascending_dropped items d ds w.others_ascend;
    }
      where
        here : (k : ℕ) → k ≡ d.0 → said k olds ds ≡ said k olds (d ∷ ds)
        here k is = let no : has numbers k ≡ false = ap (has numbers) is ∙ outside in
            ap (λ b. cond b (item_at ds k) (item_at olds k)) no ∙ ap (λ b. cond b (item_at (d ∷ ds) k) (item_at olds k)) (sym no)

        there : (k : ℕ) → Apart k d.0 → said k olds ds ≡ said k olds (d ∷ ds)
        there k apart = ap (λ b. cond (has numbers k) (cond b (Some d.1) (item_at ds k)) (item_at olds k)) (sym apart)

    -- an old item that is in the set
    pub old_passed : (items : List (ℕ × T)) (e : ℕ × T) (olds ds : List (ℕ × T)) → has numbers e.0 ≡ true → Woven items (e ∷ olds) ds → Woven items olds ds
    old_passed items e olds ds inside w = record {
      at = λ k. ap (or_else (item_at items k)) (by_number k e.0 (here k) (there k)) ∙ w.at k;
      olds_ascend = ascending_dropped items e olds w.olds_ascend;
      others_ascend = w.others_ascend;
    }
      where
        here : (k : ℕ) → k ≡ e.0 → said k olds ds ≡ said k (e ∷ olds) ds
        here k is = let yes : has numbers k ≡ true = ap (has numbers) is ∙ inside in
            ap (λ b. cond b (item_at ds k) (item_at olds k)) yes ∙ ap (λ b. cond b (item_at ds k) (item_at (e ∷ olds) k)) (sym yes)

        there : (k : ℕ) → Apart k e.0 → said k olds ds ≡ said k (e ∷ olds) ds
        there k apart = ap (λ b. cond (has numbers k) (item_at ds k) (cond b (Some e.1) (item_at olds k))) (sym apart)

    -- or is not
    old_taken : (items : List (ℕ × T)) (e : ℕ × T) (olds ds : List (ℕ × T)) → has numbers e.0 ≡ false → AllAbove e.0 ds → Woven items (e ∷ olds) ds → Woven (items ++ e ∷ []) olds ds
    old_taken items e olds ds outside above w = record {
      at = λ k. ap (λ o. or_else o (said k olds ds)) (item_appended items (e ∷ []) k) ∙ or_assoc (item_at items k) (item_at (e ∷ []) k) (said k olds ds)
          ∙ ap (or_else (item_at items k)) (by_number k e.0 (here k) (there k)) ∙ w.at k;
      olds_ascend = subst IsAscending (sym (append_assoc items (e ∷ []) olds)) w.olds_ascend;
      others_ascend = subst IsAscending (sym (append_assoc items (e ∷ []) ds)) (ascending_between items e olds ds w.olds_ascend w.others_ascend above);
    }
      where
        here : (k : ℕ) → k ≡ e.0 → or_else (item_at (e ∷ []) k) (said k olds ds) ≡ said k (e ∷ olds) ds
        here k is = ap (λ b. or_else (cond b (Some e.1) None) (said k olds ds)) (one e k is)
            ∙ ap (λ b. cond b (item_at ds k) (Some e.1)) (sym (ap (has numbers) is ∙ outside)) ∙ ap (λ b. cond (has numbers k) (item_at ds k) (cond b (Some e.1) (item_at olds k))) (sym (one e k is))

        there : (k : ℕ) → Apart k e.0 → or_else (item_at (e ∷ []) k) (said k olds ds) ≡ said k (e ∷ olds) ds
        there k apart = ap (λ b. or_else (cond b (Some e.1) None) (said k olds ds)) apart ∙ ap (λ b. cond (has numbers k) (item_at ds k) (cond b (Some e.1) (item_at olds k))) (sym apart)

    -- those of the set up to the bound are below what is old
    abbrev Bounds : Option ℕ → List (ℕ × T) → Type 0
    Bounds bound olds = (n : ℕ) → is_up_to bound n ≡ true → has numbers n ≡ true → AllAbove n olds

    walked : (bound : Option ℕ) (items olds ds : List (ℕ × T)) → Bounds bound olds → Woven items olds ds → Woven (items ++ chosen_up_to (has numbers) bound ds) olds (left_beyond bound ds)
    walked bound items olds [] bounds w = subst (λ es. Woven es olds []) (sym (append-nil items)) w
    walked bound items olds (d ∷ ds) bounds w = cases (is_up_to bound d.0) refl (λ done rest. walked bound done olds ds bounds rest)
      where
        taken : (b : Bool) → has numbers d.0 ≡ b → is_up_to bound d.0 ≡ true → ((done : List (ℕ × T)) → Woven done olds ds → Woven (done ++ chosen_up_to (has numbers) bound ds) olds (left_beyond bound ds)) → Woven (items ++ cond b (d ∷ chosen_up_to (has numbers) bound ds) (chosen_up_to (has numbers) bound ds)) olds (left_beyond bound ds)
        taken true inside up rest = subst (λ es. Woven es olds (left_beyond bound ds)) (append_assoc items (d ∷ []) (chosen_up_to (has numbers) bound ds))
            (rest (items ++ d ∷ []) (other_taken items olds d ds inside (bounds d.0 up inside) w))
        taken false outside up rest = rest items (other_passed items olds d ds outside w)

        cases : (b : Bool) → is_up_to bound d.0 ≡ b → ((done : List (ℕ × T)) → Woven done olds ds → Woven (done ++ chosen_up_to (has numbers) bound ds) olds (left_beyond bound ds))
            → Woven (items ++ cond b (cond (has numbers d.0) (d ∷ chosen_up_to (has numbers) bound ds) (chosen_up_to (has numbers) bound ds)) []) olds (cond b (left_beyond bound ds) (d ∷ ds))
        cases true up rest = taken (has numbers d.0) refl up rest
        cases false beyond rest = subst (λ es. Woven es olds (d ∷ ds)) (sym (append-nil items)) w

    -- what is beyond a number is above it
    beyond_above : (n : ℕ) (ds : List (ℕ × T)) → IsAscending ds → AllAbove n (left_beyond (Some n) ds)
    unfolding IsStrictlySortedBy
    beyond_above n [] s = tt
    beyond_above n (d ∷ ds) s = cases (nat_le d.0 n) refl (beyond_above n ds s.1)
      where
        cases : (b : Bool) → nat_le d.0 n ≡ b → AllAbove n (left_beyond (Some n) ds) → AllAbove n (cond b (left_beyond (Some n) ds) (d ∷ ds))
        cases true h rest = rest
        cases false h rest = let less : nat_cmp n d.0 ≡ Less = grind (arith, common_steps, h) in (less, all_later n d.0 (keys_of ds) less s.0)

    -- what is up to a number that is not in the set, and is in the set, is below it
    below_old : (items : List (ℕ × T)) (e : ℕ × T) (olds : List (ℕ × T)) → has numbers e.0 ≡ false → IsAscending (items ++ e ∷ olds) → Bounds (Some e.0) (e ∷ olds)
    unfolding IsStrictlySortedBy
    below_old items e olds outside s n up inside = cases (nat_cmp n e.0) refl
      where
        cases : (o : Ordering) → nat_cmp n e.0 ≡ o → AllAbove n (e ∷ olds)
        cases Less at = (at, all_later n e.0 (keys_of olds) at (ascending_right items (e ∷ olds) s).0)
        cases Equal at = absurd (true≢false (sym inside ∙ by_number n e.0 (λ is. ap (has numbers) is ∙ outside) (λ apart. absurd (true≢false (sym (ap is_eq at) ∙ apart)))))
        cases Greater at = let no : nat_le n e.0 ≡ false = grind (arith, common_steps, at) in absurd (true≢false (sym up ∙ no))

    -- an old item of no number of the set, behind the others up to it
    old_walked : (items : List (ℕ × T)) (e : ℕ × T) (olds ds : List (ℕ × T)) → has numbers e.0 ≡ false → Woven items (e ∷ olds) ds
        → Woven ((items ++ chosen_up_to (has numbers) (Some e.0) ds) ++ e ∷ []) olds (left_beyond (Some e.0) ds)
    old_walked items e olds ds outside w =
        old_taken (items ++ chosen_up_to (has numbers) (Some e.0) ds) e olds (left_beyond (Some e.0) ds) outside
        (beyond_above e.0 ds (ascending_right items ds w.others_ascend))
        (walked (Some e.0) items (e ∷ olds) ds (below_old items e olds outside w.olds_ascend) w)

    pub pushed : (items up new : List (ℕ × T)) (e : ℕ × T) (olds ds left : List (ℕ × T)) → has numbers e.0 ≡ false → Woven items (e ∷ olds) ds
        → up ≡ items ++ chosen_up_to (has numbers) (Some e.0) ds → new ≡ up ++ e ∷ [] → left ≡ left_beyond (Some e.0) ds → Woven new olds left
    pushed items up new e olds ds left outside w is last beyond =
        subst (λ es. Woven es olds left) (sym (last ∙ ap (λ es. es ++ e ∷ []) is)) (subst (λ es. Woven ((items ++ chosen_up_to (has numbers) (Some e.0) ds) ++ e ∷ []) olds es) (sym beyond) (old_walked items e olds ds outside w))

    none_left : (ds : List (ℕ × T)) → left_beyond None ds ≡ []
    none_left [] = refl
    none_left (d ∷ ds) = none_left ds

    walked_whole : (items ds : List (ℕ × T)) → Woven items [] ds → IsAscending all_olds → IsAscending all_others → AreReplaced numbers all_olds all_others (items ++ chosen_up_to (has numbers) None ds)
    walked_whole items ds w s r =
        let done : Woven (items ++ chosen_up_to (has numbers) None ds) [] (left_beyond None ds) = walked None items [] ds (λ n up inside. tt) w in
        record {
          at = λ k. sym (or_none (item_at (items ++ chosen_up_to (has numbers) None ds) k)) ∙ ap (or_else (item_at (items ++ chosen_up_to (has numbers) None ds) k)) (sym (nothing k (has numbers k))) ∙ done.at k;
          old_ascends = s;
          others_ascend = r;
          ascends = ascending_left (items ++ chosen_up_to (has numbers) None ds) [] done.olds_ascend;
        }
      where
        nothing : (k : ℕ) (b : Bool) → cond b (item_at (left_beyond None ds) k) None ≡ None
        nothing k true = ap (λ es. item_at es k) (none_left ds)
        nothing k false = refl

    pub all_walked : (items new olds ds : List (ℕ × T)) → olds ≡ [] → Woven items olds ds → new ≡ items ++ chosen_up_to (has numbers) None ds → IsAscending all_olds → IsAscending all_others → AreReplaced numbers all_olds all_others new
    all_walked items new olds ds none w is s r = subst (AreReplaced numbers all_olds all_others) (sym is) (walked_whole items ds (subst (λ es. Woven items es ds) none w) s r)
