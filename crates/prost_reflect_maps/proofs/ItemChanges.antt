-- What a change at one number of a map leaves at each number.
use Rattle.std.specs.Prelude.{◌≡◌, ◌≢◌, ◌∷◌}
use Rattle.prost_reflect_maps.proofs.Common.{true, false, Bool, cond, ℕ, List, [], Option, None, Some, ap, sym, ◌∙◌, subst, refl, exact_unsigned, nat_cmp_total, nat_cmp, is_eq, ordering_reverse, match_ordering, Ordering, Less, Equal, Greater, is_at, AllByRecursion, IsStrictlySortedBy, keys_of, AreApart, IsAscending, item_at, with_item, put_item, without_item}
use Rattle.std_collections.proofs.Entries.{lookup-set_value_same, lookup-set_value_apart, lookup-remove_entry_apart, keys-set_value}

abbrev pub Apart : ℕ → ℕ → Type 0
Apart n k = is_eq (nat_cmp n k) ≡ false

pub by_number : {P : Type 0} (n k : ℕ) → (n ≡ k → P) → (Apart n k → P) → P
by_number {P} n k same apart = cases (nat_cmp n k) refl
  where
    cases : (o : Ordering) → nat_cmp n k ≡ o → P
    cases Less e = apart (ap is_eq e)
    cases Equal e = same (exact_unsigned n k e)
    cases Greater e = apart (ap is_eq e)

pub not_both : {P : Type 0} (b : Bool) → b ≡ true → b ≡ false → P
not_both true t f = cc
not_both false t f = cc

pub equal_is : (o : Ordering) → is_eq o ≡ true → o ≡ Equal
equal_is Less h = cc
equal_is Equal h = refl
equal_is Greater h = cc

eq_reverse : (o : Ordering) → is_eq (ordering_reverse o) ≡ is_eq o
eq_reverse Less = refl
eq_reverse Equal = refl
eq_reverse Greater = refl

pub apart_back : (n k : ℕ) → Apart n k → Apart k n
apart_back n k a = ap is_eq (nat_cmp_total.antisymm k n) ∙ eq_reverse (nat_cmp n k) ∙ a

apart_tests : (n k : ℕ) → Apart n k → AreApart (is_at (nat_cmp n)) (is_at (nat_cmp k))
apart_tests n k a x h = subst (λ z. is_eq (nat_cmp k z) ≡ false) (exact_unsigned n x (equal_is _ h)) (apart_back n k a)

pub itself : (n : ℕ) → nat_cmp n n ≡ Equal
itself n = self_reverse (nat_cmp n n) (nat_cmp_total.antisymm n n)
  where
    self_reverse : (o : Ordering) → o ≡ ordering_reverse o → o ≡ Equal
    self_reverse Less h = cc
    self_reverse Equal h = refl
    self_reverse Greater h = cc

pub apart_of : (n k : ℕ) → k ≢ n → Apart n k
apart_of n k h = by_number n k (λ e. absurd (h (sym e))) (λ a. a)

-- a fact at a number and apart from it
pub at_each : (P : ℕ → Type 0) (n : ℕ) → P n → ((k : ℕ) → Apart n k → P k) → (k : ℕ) → P k
at_each P n here apart k = by_number n k (λ e. subst P e here) (apart k)

pub all_later : (n m : ℕ) (ks : List ℕ) → nat_cmp n m ≡ Less → AllByRecursion (λ y. nat_cmp m y ≡ Less) ks → AllByRecursion (λ y. nat_cmp n y ≡ Less) ks
all_later n m [] l all = tt
all_later n m (k ∷ ks) l all = (nat_cmp_total.trans n m k l all.0, all_later n m ks l all.1)

module _ {T : Type 0} where
  pub put_same : (es : List (ℕ × T)) (n : ℕ) (t : T) → item_at (put_item es n t) n ≡ Some t
  put_same [] n t = rw (itself n) refl
  put_same (e ∷ es) n t = cases (nat_cmp n e.0) refl (put_same es n t)
    where
      cases : (o : Ordering) → nat_cmp n e.0 ≡ o → item_at (put_item es n t) n ≡ Some t
          → item_at (match_ordering o ((n, t) ∷ e ∷ es) ((e.0, t) ∷ es) (e ∷ put_item es n t)) n ≡ Some t
      cases Less at rest = rw (itself n) refl
      cases Equal at rest = rw at refl
      cases Greater at rest = rw at rest

  pub put_apart : (es : List (ℕ × T)) (n k : ℕ) (t : T) → Apart k n → item_at (put_item es n t) k ≡ item_at es k
  put_apart [] n k t a = rw a refl
  put_apart (e ∷ es) n k t a = cases (nat_cmp n e.0) refl (put_apart es n k t a)
    where
      cases : (o : Ordering) → nat_cmp n e.0 ≡ o → item_at (put_item es n t) k ≡ item_at es k
          → item_at (match_ordering o ((n, t) ∷ e ∷ es) ((e.0, t) ∷ es) (e ∷ put_item es n t)) k ≡ cond (is_eq (nat_cmp k e.0)) (Some e.1) (item_at es k)
      cases Less at rest = rw a refl
      cases Equal at rest = let here : is_eq (nat_cmp k e.0) ≡ false = subst (λ z. is_eq (nat_cmp k z) ≡ false) (exact_unsigned n e.0 at) a in rw here refl
      cases Greater at rest = ap (λ o. cond (is_eq (nat_cmp k e.0)) (Some e.1) o) rest

  pub none_above : (n : ℕ) (es : List (ℕ × T)) → AllByRecursion (λ y. nat_cmp n y ≡ Less) (keys_of es) → item_at es n ≡ None
  none_above n [] all = refl
  none_above n (e ∷ es) all = rw all.0 (none_above n es all.1)

  pub without_same : (es : List (ℕ × T)) (n : ℕ) → IsAscending es → item_at (without_item es n) n ≡ None
  unfolding IsStrictlySortedBy
  without_same [] n s = refl
  without_same (e ∷ es) n s = cases (is_eq (nat_cmp n e.0)) refl (without_same es n s.1)
    where
      cases : (b : Bool) → is_eq (nat_cmp n e.0) ≡ b → item_at (without_item es n) n ≡ None → item_at (cond b es (e ∷ without_item es n)) n ≡ None
      cases true at rest = none_above n es (subst (λ z. AllByRecursion (λ y. nat_cmp z y ≡ Less) (keys_of es)) (sym (exact_unsigned n e.0 (equal_is _ at))) s.0)
      cases false at rest = rw at rest

  pub all_without : (P : ℕ → Type 0) (es : List (ℕ × T)) (n : ℕ) → AllByRecursion P (keys_of es) → AllByRecursion P (keys_of (without_item es n))
  all_without P [] n a = a
  all_without P (e ∷ es) n a = cases (is_eq (nat_cmp n e.0)) (all_without P es n a.1)
    where
      cases : (b : Bool) → AllByRecursion P (keys_of (without_item es n)) → AllByRecursion P (keys_of (cond b es (e ∷ without_item es n)))
      cases true rest = a.1
      cases false rest = (a.0, rest)

  pub ascending_without : (es : List (ℕ × T)) (n : ℕ) → IsAscending es → IsAscending (without_item es n)
  unfolding IsStrictlySortedBy
  ascending_without [] n s = s
  ascending_without (e ∷ es) n s = cases (is_eq (nat_cmp n e.0)) (ascending_without es n s.1)
    where
      cases : (b : Bool) → IsAscending (without_item es n) → IsAscending (cond b es (e ∷ without_item es n))
      cases true rest = s.1
      cases false rest = (all_without (λ y. nat_cmp e.0 y ≡ Less) es n s.0, rest)

  pub ascending_with : (es : List (ℕ × T)) (n : ℕ) (t : T) → IsAscending es → IsAscending (with_item es n t)
  ascending_with es n t s = subst (IsStrictlySortedBy nat_cmp) (sym (keys-set_value (is_at (nat_cmp n)) es t)) s

  pub with_same : (es : List (ℕ × T)) (n : ℕ) (t e : T) → item_at es n ≡ Some e → item_at (with_item es n t) n ≡ Some t
  with_same es n t e h = lookup-set_value_same (is_at (nat_cmp n)) es t (rw h refl)

  pub with_apart : (es : List (ℕ × T)) (n k : ℕ) (t : T) → Apart n k → item_at (with_item es n t) k ≡ item_at es k
  with_apart es n k t a = lookup-set_value_apart (is_at (nat_cmp n)) (is_at (nat_cmp k)) (apart_tests n k a) es t

  pub without_apart : (es : List (ℕ × T)) (n k : ℕ) → Apart n k → item_at (without_item es n) k ≡ item_at es k
  without_apart es n k a = lookup-remove_entry_apart (is_at (nat_cmp n)) (is_at (nat_cmp k)) (apart_tests n k a) es

  pub all_put : (P : ℕ → Type 0) (es : List (ℕ × T)) (n : ℕ) (t : T) → P n → AllByRecursion P (keys_of es) → AllByRecursion P (keys_of (put_item es n t))
  all_put P [] n t p all = (p, tt)
  all_put P (e ∷ es) n t p all = cases (nat_cmp n e.0) (all_put P es n t p all.1)
    where
      cases : (o : Ordering) → AllByRecursion P (keys_of (put_item es n t)) → AllByRecursion P (keys_of (match_ordering o ((n, t) ∷ e ∷ es) ((e.0, t) ∷ es) (e ∷ put_item es n t)))
      cases Less rest = (p, all)
      cases Equal rest = all
      cases Greater rest = (all.0, rest)

  pub ascending_put_item : (es : List (ℕ × T)) (n : ℕ) (t : T) → IsAscending es → IsAscending (put_item es n t)
  unfolding IsStrictlySortedBy
  ascending_put_item [] n t s = (tt, tt)
  ascending_put_item (e ∷ es) n t s = cases (nat_cmp n e.0) refl (ascending_put_item es n t s.1)
    where
      cases : (o : Ordering) → nat_cmp n e.0 ≡ o → IsAscending (put_item es n t) → IsAscending (match_ordering o ((n, t) ∷ e ∷ es) ((e.0, t) ∷ es) (e ∷ put_item es n t))
      cases Less at rest = ((at, all_later n e.0 (keys_of es) at s.0), s)
      cases Equal at rest = s
      cases Greater at rest = (all_put (λ y. nat_cmp e.0 y ≡ Less) es n t (nat_cmp_total.antisymm e.0 n ∙ ap ordering_reverse at) s.0, rest)

-- lists whose numbers ascend are known by what stands at each number
module _ {T : Type 0} where
  front : (e : ℕ × T) (es : List (ℕ × T)) → item_at (e ∷ es) e.0 ≡ Some e.1
  front e es = ap (λ o. cond (is_eq o) (Some e.1) (item_at es e.0)) (itself e.0)

  not_some : {P : Type 0} (o : Option T) (t : T) → o ≡ None → o ≡ Some t → P
  not_some None t h e = cc
  not_some (Some x) t h e = cc

  -- nothing stands in front of the first
  none_first : (n : ℕ) (d : ℕ × T) (ds : List (ℕ × T)) → IsAscending (d ∷ ds) → nat_cmp n d.0 ≡ Less → item_at (d ∷ ds) n ≡ None
  unfolding IsStrictlySortedBy
  none_first n d ds s less = none_above n (d ∷ ds) (less, all_later n d.0 (keys_of ds) less s.0)

  behind_same : (e d : ℕ × T) (es ds : List (ℕ × T)) → IsAscending (e ∷ es) → IsAscending (d ∷ ds) → e.0 ≡ d.0
      → ((k : ℕ) → item_at (e ∷ es) k ≡ item_at (d ∷ ds) k) → (k : ℕ) → item_at es k ≡ item_at ds k
  unfolding IsStrictlySortedBy
  behind_same e d es ds s r same h k = by_number k e.0
      (λ is. subst (λ z. item_at es z ≡ None) (sym is) (none_above e.0 es s.0) ∙ sym (subst (λ z. item_at ds z ≡ None) (sym (is ∙ same)) (none_above d.0 ds r.0)))
      (λ apart.
      let first : item_at (e ∷ es) k ≡ item_at es k = ap (λ b. cond b (Some e.1) (item_at es k)) apart in
      let second : item_at (d ∷ ds) k ≡ item_at ds k = ap (λ b. cond b (Some d.1) (item_at ds k)) (subst (λ z. is_eq (nat_cmp k z) ≡ false) same apart) in
      sym first ∙ h k ∙ second)

  pub same_items : (es ds : List (ℕ × T)) → IsAscending es → IsAscending ds → ((k : ℕ) → item_at es k ≡ item_at ds k) → es ≡ ds
  unfolding IsStrictlySortedBy
  same_items [] [] s r h = refl
  same_items [] (d ∷ ds) s r h = not_some (item_at (d ∷ ds) d.0) d.1 (sym (h d.0)) (front d ds)
  same_items (e ∷ es) [] s r h = not_some (item_at (e ∷ es) e.0) e.1 (h e.0) (front e es)
  same_items (e ∷ es) (d ∷ ds) s r h = cases (nat_cmp e.0 d.0) refl (λ same. same_items es ds s.1 r.1 (behind_same e d es ds s r same h))
    where
      value : (o q : Option T) (t u : T) → o ≡ q → o ≡ Some t → q ≡ Some u → t ≡ u
      value o q t u e f g = cc

      cases : (o : Ordering) → nat_cmp e.0 d.0 ≡ o → (e.0 ≡ d.0 → es ≡ ds) → e ∷ es ≡ d ∷ ds
      cases Less at rest = not_some (item_at (d ∷ ds) e.0) e.1 (none_first e.0 d ds r at) (sym (h e.0) ∙ front e es)
      cases Equal at rest =
          let same : e.0 ≡ d.0 = exact_unsigned e.0 d.0 at in
          let equal : e.1 ≡ d.1 = value (item_at (e ∷ es) e.0) (item_at (d ∷ ds) e.0) e.1 d.1 (h e.0) (front e es) (subst (λ z. item_at (d ∷ ds) z ≡ Some d.1) (sym same) (front d ds)) in
          λ i. (same i, equal i) ∷ rest same i
      cases Greater at rest = not_some (item_at (e ∷ es) d.0) d.1 (none_first d.0 e es s (nat_cmp_total.antisymm d.0 e.0 ∙ ap ordering_reverse at)) (h d.0 ∙ front d ds)
