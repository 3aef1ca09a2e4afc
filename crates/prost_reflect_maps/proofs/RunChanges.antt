-- What a change in one run of a map leaves of all its items.
use Rattle.std.specs.Prelude.{◌≡◌, ◌+◌, ◌<◌, ◌∷◌, ◌++◌}
use Rattle.prost_reflect_maps.proofs.Common.{true, ℕ, zero, suc, List, [], length, take, drop, slice_index_or, slice_set, None, Some, Ok, Err, Vec, ap, ap₂, sym, ◌∙◌, subst, refl, append_assoc, arith, append-nil, exact_unsigned, nat_cmp_total, nat_cmp, is_le, Ordering, Less, Equal, Greater, AllByRecursion, insert, IsStrictlySortedBy, keys_of, seek, IsAscending, item_at, with_item, put_item, without_item, IsAhead, Runs, marks, flat, IsLaid}
use Rattle.std.specs.declared.alloc.Global.{Global}
use Rattle.prost_reflect_maps.proofs.ItemChanges.{itself, all_put, all_without, ascending_put_item, ascending_without}
use Rattle.prost_reflect_maps.proofs.Places.{keys-set, number_kept, set_is, with_found, item_found, item_absent, seek_within, value_got}
use Rattle.prost_reflect_maps.proofs.Weaving.{AllAbove, all_left, all_right, ascending_left, ascending_right}
use Rattle.prost_reflect_maps.proofs.RunPlaces.{AllFrom, ahead_first, lowest, put_above, item_between, put_between, without_between, with_between, ahead_above, IsRunOf}

module _ {T : Type 0} where
  -- CHANGED

  flat_cut : (before : Runs T) (r : ℕ × Vec (ℕ × T) Global) (after : Runs T) → flat (before ++ r ∷ after) ≡ flat before ++ (r.1.items ++ flat after)
  flat_cut [] r after = refl
  flat_cut (b ∷ bs) r after = ap (λ l. b.1.items ++ l) (flat_cut bs r after) ∙ sym (append_assoc b.1.items (flat bs) (r.1.items ++ flat after))

  flat_behind : (before rest : Runs T) → flat (before ++ rest) ≡ flat before ++ flat rest
  flat_behind [] rest = refl
  flat_behind (b ∷ bs) rest = ap (λ l. b.1.items ++ l) (flat_behind bs rest) ∙ sym (append_assoc b.1.items (flat bs) (flat rest))

  -- a run of the same first number in the place of another
  laid_after : (before : Runs T) (r : ℕ × Vec (ℕ × T) Global) (after : Runs T) → IsLaid (before ++ r ∷ after) → IsLaid (r ∷ after)
  laid_after [] r after laid = laid
  laid_after (b ∷ bs) r after laid = laid_after bs r after laid.4

  pub laid_changed : (before : Runs T) (r q : ℕ × Vec (ℕ × T) Global) (after rest : Runs T) → q.0 ≡ r.0 → IsLaid (before ++ r ∷ after) → IsLaid (q ∷ rest) → IsLaid (before ++ q ∷ rest)
  laid_changed [] r q after rest same laid new = new
  laid_changed (b ∷ bs) r q after rest same laid new =
      (laid.0, laid.1, first bs b.0 laid.2, each bs (keys_of b.1.items) laid.3, laid_changed bs r q after rest same laid.4 new)
    where
      first : (cs : Runs T) (n : ℕ) → IsAhead n (marks (cs ++ r ∷ after)) → IsAhead n (marks (cs ++ q ∷ rest))
      first [] n a = subst (λ z. nat_cmp n z ≡ Less) (sym same) a
      first (c ∷ cs) n a = a

      each : (cs : Runs T) (ks : List ℕ) → AllByRecursion (λ k. IsAhead k (marks (cs ++ r ∷ after))) ks → AllByRecursion (λ k. IsAhead k (marks (cs ++ q ∷ rest))) ks
      each cs [] a = tt
      each cs (k ∷ ks) a = (first cs k a.0, each cs ks a.1)

  set_cut : (before : Runs T) (r q : ℕ × Vec (ℕ × T) Global) (after : Runs T) → slice_set (before ++ r ∷ after) (length before) q ≡ before ++ q ∷ after
  set_cut [] r q after = refl
  set_cut (b ∷ bs) r q after = ap (λ l. b ∷ l) (set_cut bs r q after)

  got_cut : (before : Runs T) (r d : ℕ × Vec (ℕ × T) Global) (after : Runs T) → slice_index_or (before ++ r ∷ after) (length before) d ≡ r
  got_cut [] r d after = refl
  got_cut (b ∷ bs) r d after = got_cut bs r d after

  insert_cut : (before : Runs T) (r q : ℕ × Vec (ℕ × T) Global) (after : Runs T) → insert (before ++ r ∷ after) (length before + 1) q ≡ before ++ r ∷ q ∷ after
  insert_cut [] r q after = refl
  insert_cut (b ∷ bs) r q after = ap (λ k. insert (b ∷ (bs ++ r ∷ after)) k q) (further (length bs)) ∙ ap (λ l. b ∷ l) (insert_cut bs r q after)
    where
      further : (k : ℕ) → suc k + 1 ≡ suc (k + 1)
      further k = omega arith

  module _ (n : ℕ) (rs : Runs T) (i : ℕ) (laid : IsLaid rs) (home : IsRunOf n rs i) where
    abbrev in_front : List (ℕ × T)
    in_front = flat home.before

    abbrev own : List (ℕ × T)
    own = home.run.1.items

    abbrev behind : List (ℕ × T)
    behind = flat home.after

    laid_cut : IsLaid (home.before ++ home.run ∷ home.after)
    laid_cut = subst IsLaid home.cut laid

    laid_own : IsLaid (home.run ∷ home.after)
    laid_own = laid_after home.before home.run home.after laid_cut

    pub above : AllAbove n behind
    above = ahead_above n home.after home.ahead laid_own.4

    pub own_ascends : IsAscending own
    own_ascends = laid_own.0

    pub run_got : (d : ℕ × Vec (ℕ × T) Global) → slice_index_or rs i d ≡ home.run
    run_got d = ap (λ l. slice_index_or l i d) home.cut ∙ ap (λ k. slice_index_or (home.before ++ home.run ∷ home.after) k d) (sym home.place) ∙ got_cut home.before home.run d home.after

    pub run_set : (q : ℕ × Vec (ℕ × T) Global) → slice_set rs i q ≡ home.before ++ q ∷ home.after
    run_set q = ap (λ l. slice_set l i q) home.cut ∙ ap (λ k. slice_set (home.before ++ home.run ∷ home.after) k q) (sym home.place) ∙ set_cut home.before home.run q home.after

    pub parts : flat rs ≡ in_front ++ (own ++ behind)
    parts = ap flat home.cut ∙ flat_cut home.before home.run home.after

    pub item_home : item_at (flat rs) n ≡ item_at own n
    item_home = ap (λ l. item_at l n) parts ∙ item_between n in_front own behind home.below above

    pub item_found_in : (es : List (ℕ × T)) → es ≡ own → item_at es n ≡ item_at (flat rs) n
    item_found_in es is = ap (λ l. item_at l n) is ∙ sym item_home

    -- what the run then has, between the others
    flat_set : (q : ℕ × Vec (ℕ × T) Global) → flat (slice_set rs i q) ≡ in_front ++ (q.1.items ++ behind)
    flat_set q = ap flat (run_set q) ∙ flat_cut home.before q home.after

    pub put_home : (q : ℕ × Vec (ℕ × T) Global) (t : T) → q.1.items ≡ put_item own n t → flat (slice_set rs i q) ≡ put_item (flat rs) n t
    put_home q t is = flat_set q ∙ ap (λ l. in_front ++ (l ++ behind)) is ∙ sym (put_between n in_front own behind home.below above t) ∙ ap (λ l. put_item l n t) (sym parts)

    pub without_home : (q : ℕ × Vec (ℕ × T) Global) → q.1.items ≡ without_item own n → flat (slice_set rs i q) ≡ without_item (flat rs) n
    without_home q is = flat_set q ∙ ap (λ l. in_front ++ (l ++ behind)) is ∙ sym (without_between n in_front own behind home.below above) ∙ ap (λ l. without_item l n) (sym parts)

    pub with_home : (q : ℕ × Vec (ℕ × T) Global) (t : T) → q.1.items ≡ with_item own n t → flat (slice_set rs i q) ≡ with_item (flat rs) n t
    with_home q t is = flat_set q ∙ ap (λ l. in_front ++ (l ++ behind)) is ∙ sym (with_between n in_front own behind home.below above t) ∙ ap (λ l. with_item l n t) (sym parts)

    pub same_home : (q : ℕ × Vec (ℕ × T) Global) → q.1.items ≡ own → flat (slice_set rs i q) ≡ flat rs
    same_home q is = flat_set q ∙ ap (λ l. in_front ++ (l ++ behind)) is ∙ sym parts

    -- in order where the items of the run are, and are its own
    laid_set : (q : ℕ × Vec (ℕ × T) Global) → q.0 ≡ home.run.0 → IsAscending q.1.items → AllFrom home.run.0 q.1.items → AllByRecursion (λ k. IsAhead k (marks home.after)) (keys_of q.1.items) → IsLaid (slice_set rs i q)
    laid_set q same s from ahead =
        subst IsLaid (sym (run_set q))
        (laid_changed home.before home.run q home.after home.after same laid_cut
        (s, subst (λ z. AllByRecursion (λ k. is_le (nat_cmp z k) ≡ true) (keys_of q.1.items)) (sym same) from, subst (λ z. IsAhead z (marks home.after)) (sym same) laid_own.2, ahead, laid_own.4))

    pub laid_keys : (q : ℕ × Vec (ℕ × T) Global) → q.0 ≡ home.run.0 → keys_of q.1.items ≡ keys_of own → IsLaid (slice_set rs i q)
    laid_keys q same keys =
        laid_set q same (subst (IsStrictlySortedBy nat_cmp) (sym keys) laid_own.0) (subst (AllByRecursion (λ k. is_le (nat_cmp home.run.0 k) ≡ true)) (sym keys) laid_own.1)
        (subst (AllByRecursion (λ k. IsAhead k (marks home.after))) (sym keys) laid_own.3)

    pub laid_put : (q : ℕ × Vec (ℕ × T) Global) (t : T) → q.0 ≡ home.run.0 → q.1.items ≡ put_item own n t → IsLaid (slice_set rs i q)
    laid_put q t same is =
        laid_set q same (subst IsAscending (sym is) (ascending_put_item own n t laid_own.0))
        (subst (AllFrom home.run.0) (sym is) (all_put (λ k. is_le (nat_cmp home.run.0 k) ≡ true) own n t home.from laid_own.1))
        (subst (λ es. AllByRecursion (λ k. IsAhead k (marks home.after)) (keys_of es)) (sym is) (all_put (λ k. IsAhead k (marks home.after)) own n t home.ahead laid_own.3))

    pub laid_without : (q : ℕ × Vec (ℕ × T) Global) → q.0 ≡ home.run.0 → q.1.items ≡ without_item own n → IsLaid (slice_set rs i q)
    laid_without q same is =
        laid_set q same (subst IsAscending (sym is) (ascending_without own n laid_own.0))
        (subst (AllFrom home.run.0) (sym is) (all_without (λ k. is_le (nat_cmp home.run.0 k) ≡ true) own n laid_own.1))
        (subst (λ es. AllByRecursion (λ k. IsAhead k (marks home.after)) (keys_of es)) (sym is) (all_without (λ k. IsAhead k (marks home.after)) own n laid_own.3))

    -- the item at a place of the run, lent
    module _ (r : ℕ × Vec (ℕ × T) Global) (is : r ≡ home.run) (place : ℕ) where
      pub own_of : r.1.items ≡ own
      own_of = ap (λ q. q.1.items) is

      pub found_within : (es : List (ℕ × T)) → es ≡ own → Ok place ≡ seek (nat_cmp n) es → place < length r.1.items
      found_within es same h = subst (λ l. place < length l) (same ∙ sym own_of) (seek_within n es place h)

      module _ (es : List (ℕ × T)) (same : es ≡ own) (h : Ok place ≡ seek (nat_cmp n) es) (x : ℕ × T) (at : x ≡ slice_index_or r.1.items place x) where
        found : Ok place ≡ seek (nat_cmp n) r.1.items
        found = h ∙ ap (seek (nat_cmp n)) (same ∙ sym own_of)

        pub lent_keys : (w : T) → keys_of (slice_set r.1.items place (x.0, w)) ≡ keys_of own
        lent_keys w = keys-set r.1.items place (x.0, w) (number_kept r.1.items place x w at) ∙ ap keys_of own_of

        pub lent_is : (w : T) → slice_set r.1.items place (x.0, w) ≡ with_item own n w
        lent_is w = set_is r.1.items place x.0 w (number_kept r.1.items place x w at) ∙ with_found n r.1.items place found w ∙ ap (λ l. with_item l n w) own_of

        pub lent_value : item_at (flat rs) n ≡ Some x.1
        lent_value = item_home ∙ ap (λ l. item_at l n) (sym own_of) ∙ item_found n r.1.items place found ∙ value_got r.1.items place x (seek_within n r.1.items place found) at

    pub none_lent : (es : List (ℕ × T)) (j : ℕ) → es ≡ own → Err j ≡ seek (nat_cmp n) es → item_at (flat rs) n ≡ None
    none_lent es j same h = sym (item_found_in es same) ∙ item_absent n es j (subst IsAscending (sym same) own_ascends) h

  -- A RUN IN TWO

  record IsCutAt (rs : Runs T) (i : ℕ) (r : ℕ × Vec (ℕ × T) Global) : Type 0 where
    before : Runs T
    after : Runs T
    cut : rs ≡ before ++ r ∷ after
    place : length before ≡ i

  cut_at : (rs : Runs T) (i : ℕ) (r : ℕ × Vec (ℕ × T) Global) → i < length rs → r ≡ slice_index_or rs i r → IsCutAt rs i r
  cut_at [] i r l is = absurd (omega arith)
  cut_at (q ∷ rs) zero r l is = record { before = []; after = rs; cut = ap (λ z. z ∷ rs) (sym is); place = refl }
  cut_at (q ∷ rs) (suc i) r l is =
      let rest = cut_at rs i r (omega arith) is in
      record { before = q ∷ rest.before; after = rest.after; cut = ap (λ l. q ∷ l) rest.cut; place = ap suc rest.place }

  record IsParted (es : List (ℕ × T)) (m : ℕ) (x : ℕ × T) : Type 0 where
    rest : List (ℕ × T)
    front : es ≡ take m es ++ x ∷ rest
    back : drop m es ≡ x ∷ rest

  parted_at : (es : List (ℕ × T)) (m : ℕ) (x : ℕ × T) → m < length es → x ≡ slice_index_or es m x → IsParted es m x
  parted_at [] m x l is = absurd (omega arith)
  parted_at (e ∷ es) zero x l is = record { rest = es; front = ap (λ z. z ∷ es) (sym is); back = ap (λ z. z ∷ es) (sym is) }
  parted_at (e ∷ es) (suc m) x l is =
      let deeper = parted_at es m x (omega arith) is in
      record { rest = deeper.rest; front = ap (λ l. e ∷ l) deeper.front; back = deeper.back }

  below_next : (xs : List (ℕ × T)) (x : ℕ × T) (ys : List (ℕ × T)) → IsAscending (xs ++ x ∷ ys) → AllByRecursion (λ k. nat_cmp k x.0 ≡ Less) (keys_of xs)
  unfolding IsStrictlySortedBy
  below_next [] x ys s = tt
  below_next (e ∷ xs) x ys s = ((all_right (λ y. nat_cmp e.0 y ≡ Less) xs (x ∷ ys) s.0).0, below_next xs x ys s.1)

  -- from the first of them on
  from_first : (x : ℕ × T) (ys : List (ℕ × T)) → IsAscending (x ∷ ys) → AllFrom x.0 (x ∷ ys)
  unfolding IsStrictlySortedBy
  from_first x ys s = (ap is_le (itself x.0), each (keys_of ys) s.0)
    where
      each : (ks : List ℕ) → AllByRecursion (λ y. nat_cmp x.0 y ≡ Less) ks → AllByRecursion (λ k. is_le (nat_cmp x.0 k) ≡ true) ks
      each [] a = tt
      each (k ∷ ks) a = (ap is_le a.0, each ks a.1)

  ahead_of : (n m : ℕ) (es : List (ℕ × T)) → 0 < length es → AllFrom n es → AllByRecursion (λ k. nat_cmp k m ≡ Less) (keys_of es) → nat_cmp n m ≡ Less
  ahead_of n m [] l from below = absurd (omega arith)
  ahead_of n m (e ∷ es) l from below = ahead_first n m e.0 from.0 below.0

  taken_some : (es : List (ℕ × T)) (m : ℕ) → 0 < m → m < length es → 0 < length (take m es)
  taken_some [] m a b = absurd (omega arith)
  taken_some (e ∷ es) zero a b = absurd (omega arith)
  taken_some (e ∷ es) (suc m) a b = omega arith

  -- both parts are laid as the whole was
  two_laid : (r q p : ℕ × Vec (ℕ × T) Global) (after : Runs T) (m : ℕ) (x : ℕ × T) → IsLaid (r ∷ after) → 0 < m → m < length r.1.items → x ≡ slice_index_or r.1.items m x
      → q.0 ≡ r.0 → q.1.items ≡ take m r.1.items → p.0 ≡ x.0 → p.1.items ≡ drop m r.1.items → IsLaid (q ∷ p ∷ after)
  two_laid r q p after m x laid some within is same low first high =
      let two = parted_at r.1.items m x within is in
      let s : IsAscending (take m r.1.items ++ x ∷ two.rest) = subst IsAscending two.front laid.0 in
      let below = below_next (take m r.1.items) x two.rest s in
      let from : AllFrom r.0 (take m r.1.items ++ x ∷ two.rest) = subst (AllFrom r.0) two.front laid.1 in
      let ahead : AllByRecursion (λ k. IsAhead k (marks after)) (keys_of (take m r.1.items ++ x ∷ two.rest)) = subst (λ es. AllByRecursion (λ k. IsAhead k (marks after)) (keys_of es)) two.front laid.3 in
      let behind : AllByRecursion (λ k. IsAhead k (marks after)) (keys_of (x ∷ two.rest)) = all_right (λ k. IsAhead k (marks after)) (take m r.1.items) (x ∷ two.rest) ahead in
      let lows : AllFrom r.0 (take m r.1.items) = all_left (λ k. is_le (nat_cmp r.0 k) ≡ true) (take m r.1.items) (x ∷ two.rest) from in
      let upper : p.1.items ≡ x ∷ two.rest = high ∙ two.back in
      let rises : IsAscending (x ∷ two.rest) = ascending_right (take m r.1.items) (x ∷ two.rest) s in (
        subst IsAscending (sym low) (ascending_left (take m r.1.items) (x ∷ two.rest) s),
        subst (λ z. AllByRecursion (λ k. is_le (nat_cmp z k) ≡ true) (keys_of q.1.items)) (sym same) (subst (AllFrom r.0) (sym low) lows),
        subst (λ z. nat_cmp z p.0 ≡ Less) (sym same) (subst (λ z. nat_cmp r.0 z ≡ Less) (sym first) (ahead_of r.0 x.0 (take m r.1.items) (taken_some r.1.items m some within) lows below)),
        subst (λ es. AllByRecursion (λ k. nat_cmp k p.0 ≡ Less) (keys_of es)) (sym low) (subst (λ z. AllByRecursion (λ k. nat_cmp k z ≡ Less) (keys_of (take m r.1.items))) (sym first) below),
        (
          subst IsAscending (sym upper) rises,
          subst (λ z. AllByRecursion (λ k. is_le (nat_cmp z k) ≡ true) (keys_of p.1.items)) (sym first) (subst (AllFrom x.0) (sym upper) (from_first x two.rest rises)),
          subst (λ z. IsAhead z (marks after)) (sym first) behind.0,
          subst (λ es. AllByRecursion (λ k. IsAhead k (marks after)) (keys_of es)) (sym upper) behind,
          laid.4,
        ),
      )

  two_flat : (r q p : ℕ × Vec (ℕ × T) Global) (after : Runs T) (m : ℕ) (x : ℕ × T) → m < length r.1.items → x ≡ slice_index_or r.1.items m x → q.1.items ≡ take m r.1.items → p.1.items ≡ drop m r.1.items → flat (q ∷ p ∷ after) ≡ flat (r ∷ after)
  two_flat r q p after m x within is low high =
      let two = parted_at r.1.items m x within is in
      ap₂ (λ xs ys. xs ++ (ys ++ flat after)) low (high ∙ two.back) ∙ sym (append_assoc (take m r.1.items) (x ∷ two.rest) (flat after)) ∙ ap (λ es. es ++ flat after) (sym two.front)

  module _ (rs new : Runs T) (i : ℕ) (r q p : ℕ × Vec (ℕ × T) Global) (m : ℕ) (x : ℕ × T) (laid : IsLaid rs) (inside : i < length rs) (own_run : r ≡ slice_index_or rs i r)
      (some : 0 < m) (within : m < length r.1.items) (is : x ≡ slice_index_or r.1.items m x)
      (same : q.0 ≡ r.0) (low : q.1.items ≡ take m r.1.items) (first : p.0 ≡ x.0) (high : p.1.items ≡ drop m r.1.items) (put : new ≡ insert (slice_set rs i q) (i + 1) p) where
    cut_here : IsCutAt rs i r
    cut_here = cut_at rs i r inside own_run

    in_two : new ≡ cut_here.before ++ q ∷ p ∷ cut_here.after
    in_two = put ∙ ap (λ l. insert (slice_set l i q) (i + 1) p) cut_here.cut ∙ ap (λ k. insert (slice_set (cut_here.before ++ r ∷ cut_here.after) k q) (k + 1) p) (sym cut_here.place)
        ∙ ap (λ l. insert l (length cut_here.before + 1) p) (set_cut cut_here.before r q cut_here.after) ∙ insert_cut cut_here.before q p cut_here.after

    before_laid : IsLaid (cut_here.before ++ r ∷ cut_here.after)
    before_laid = subst IsLaid cut_here.cut laid

    pub parted_laid : IsLaid new
    parted_laid = subst IsLaid (sym in_two)
        (laid_changed cut_here.before r q cut_here.after (p ∷ cut_here.after) same before_laid
        (two_laid r q p cut_here.after m x (laid_after cut_here.before r cut_here.after before_laid) some within is same low first high))

    pub parted_flat : flat new ≡ flat rs
    parted_flat = ap flat in_two ∙ flat_behind cut_here.before (q ∷ p ∷ cut_here.after) ∙ ap (λ l. flat cut_here.before ++ l) (two_flat r q p cut_here.after m x within is low high)
        ∙ sym (flat_behind cut_here.before (r ∷ cut_here.after)) ∙ ap flat (sym cut_here.cut)

  -- THE LAST RUN

  pub last_run : (rs rest : Runs T) (r : ℕ × Vec (ℕ × T) Global) → rs ≡ rest ++ r ∷ [] → flat rs ≡ flat rest ++ r.1.items
  last_run rs rest r is = ap flat is ∙ flat_behind rest (r ∷ []) ∙ ap (λ l. flat rest ++ l) (append-nil r.1.items)

  -- AN ITEM IN FRONT OF ALL

  pub insert_first : (rs : Runs T) (q : ℕ × Vec (ℕ × T) Global) → insert rs 0 q ≡ q ∷ rs
  insert_first [] q = refl
  insert_first (r ∷ rs) q = refl

  pub put_ahead : (n : ℕ) (t : T) (rs : Runs T) → IsLaid rs → IsAhead n (marks rs) → (n, t) ∷ flat rs ≡ put_item (flat rs) n t
  put_ahead n t rs laid ahead = sym (put_above n t [] (flat rs) (ahead_above n rs ahead laid))

  zero_ahead : (n : ℕ) (rs : Runs T) → IsAhead n (marks rs) → IsAhead 0 (marks rs)
  zero_ahead n [] a = tt
  zero_ahead n (r ∷ rs) a = cases (nat_cmp 0 n) refl (lowest n)
    where
      cases : (o : Ordering) → nat_cmp 0 n ≡ o → is_le (nat_cmp 0 n) ≡ true → nat_cmp 0 r.0 ≡ Less
      cases Less at h = nat_cmp_total.trans 0 n r.0 at a
      cases Equal at h = subst (λ z. nat_cmp z r.0 ≡ Less) (sym (exact_unsigned 0 n at)) a
      cases Greater at h = cc

  pub laid_ahead : (n : ℕ) (t : T) (v : Vec (ℕ × T) Global) (rs : Runs T) → IsLaid rs → IsAhead n (marks rs) → v.items ≡ (n, t) ∷ [] → IsLaid ((0, v) ∷ rs)
  unfolding IsStrictlySortedBy
  laid_ahead n t v rs laid ahead is =
      let none : IsAhead 0 (marks rs) = zero_ahead n rs ahead in (
        subst IsAscending (sym is) (tt, tt),
        subst (AllFrom 0) (sym is) (lowest n, tt),
        none,
        subst (λ es. AllByRecursion (λ k. IsAhead k (marks rs)) (keys_of es)) (sym is) (ahead, tt),
        laid,
      )
