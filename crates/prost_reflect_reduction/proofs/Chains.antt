-- Members of a oneof that follow one another, in two lists of fields of ascending numbers.
use Rattle.std.specs.Prelude.{◌≡◌, ◌≢◌, ◌⊎◌, ◌+◌, ◌<◌, ◌≤◌, ◌&&◌, ◌∷◌}
use Rattle.prost_reflect_reduction.proofs.Common.{inl, inr, ⊎_elim, ℕ, zero, suc, nat_eq, nat_lt, eq-eqb, Bool, true, false, cond, List, [], Option, Some, None, refl, ap, sym, ◌∙◌, arith, true≢false, cases_lt, eqb-true, eqb-false, ne_eqb, ltb-true, and_parts, Field, field_of, same_oneof, first_member}
use Rattle.prost_reflect_wire.proofs.Numbers.{eqb-sym}

-- RISING NUMBERS

abbrev pub rising : ℕ → List Field → Bool
rising low [] = true
rising low (f ∷ fields) = nat_lt low f.number && rising f.number fields

-- The number of the next member of the oneof of a number's field, or 0.
abbrev pub next_in : List Field → ℕ → ℕ
next_in [] n = 0
next_in (f ∷ fields) n = cond (nat_eq f.number n) (first_member fields f.oneof) (next_in fields n)

abbrev pub oneof_at : List Field → ℕ → Option ℕ
oneof_at [] n = None
oneof_at (f ∷ fields) n = cond (nat_eq f.number n) f.oneof (oneof_at fields n)

-- The fields of two numbers are members of one oneof.
abbrev pub same : List Field → ℕ → ℕ → Bool
same fields n m = same_oneof (oneof_at fields n) (oneof_at fields m)

pub rise : (low : ℕ) (f : Field) (fields : List Field) → rising low (f ∷ fields) ≡ true → low < f.number
rise low f fields h = ltb-true low f.number (and_parts (nat_lt low f.number) (rising f.number fields) h).0

pub onward : (low : ℕ) (f : Field) (fields : List Field) → rising low (f ∷ fields) ≡ true → rising f.number fields ≡ true
onward low f fields h = (and_parts (nat_lt low f.number) (rising f.number fields) h).1

pub below_none : (low n : ℕ) (fields : List Field) → rising low fields ≡ true → n ≤ low → field_of fields n ≡ None
below_none low n [] h l = refl
below_none low n (f ∷ fields) h l =
    let up = rise low f fields h in
    ap (λ b. cond b (Some f) (field_of fields n)) (ne_eqb f.number n (λ s. absurd (omega arith))) ∙ below_none f.number n fields (onward low f fields h) (omega arith)

pub below_next : (low n : ℕ) (fields : List Field) → rising low fields ≡ true → n ≤ low → next_in fields n ≡ 0
below_next low n [] h l = refl
below_next low n (f ∷ fields) h l =
    let up = rise low f fields h in
    ap (λ b. cond b (first_member fields f.oneof) (next_in fields n)) (ne_eqb f.number n (λ s. absurd (omega arith))) ∙ below_next f.number n fields (onward low f fields h) (omega arith)

pub below_oneof : (low n : ℕ) (fields : List Field) → rising low fields ≡ true → n ≤ low → oneof_at fields n ≡ None
below_oneof low n [] h l = refl
below_oneof low n (f ∷ fields) h l =
    let up = rise low f fields h in
    ap (λ b. cond b f.oneof (oneof_at fields n)) (ne_eqb f.number n (λ s. absurd (omega arith))) ∙ below_oneof f.number n fields (onward low f fields h) (omega arith)

-- ONEOFS

pub turned_oneof : (a b : Option ℕ) → same_oneof a b ≡ same_oneof b a
turned_oneof (Some a) (Some b) = eqb-sym a b
turned_oneof (Some a) None = refl
turned_oneof None (Some b) = refl
turned_oneof None None = refl

pub same_through : (a b c : Option ℕ) → same_oneof a b ≡ true → same_oneof a c ≡ true → same_oneof b c ≡ true
same_through (Some a) (Some b) (Some c) e d = eq-eqb b c (sym (eqb-true a b e) ∙ eqb-true a c d)
same_through (Some a) (Some b) None e d = absurd (true≢false (sym d))
same_through (Some a) None c e d = absurd (true≢false (sym e))
same_through None b c e d = absurd (true≢false (sym e))

-- a member's number is above
above : (low m : ℕ) (fields : List Field) (o : Option ℕ) → rising low fields ≡ true → same_oneof (oneof_at fields m) o ≡ true → low < m
above low m fields o h s =
    ⊎_elim
    (λ (under : low < m). under)
    (λ over. let l : m ≤ low = omega arith in absurd (true≢false (sym s ∙ ap (λ x. same_oneof x o) (below_oneof low m fields h l))))
    (cases_lt low m)

at_head : (f : Field) (fields : List Field) (m : ℕ) (o : Option ℕ) → same_oneof (oneof_at (f ∷ fields) m) o ≡ true → ((f.number ≡ m) × (same_oneof f.oneof o ≡ true)) ⊎ ((f.number ≢ m) × (same_oneof (oneof_at fields m) o ≡ true))
at_head f fields m o s = go (nat_eq f.number m) refl s
  where
    go : (b : Bool) → nat_eq f.number m ≡ b → same_oneof (cond b f.oneof (oneof_at fields m)) o ≡ true → ((f.number ≡ m) × (same_oneof f.oneof o ≡ true)) ⊎ ((f.number ≢ m) × (same_oneof (oneof_at fields m) o ≡ true))
    go true e s = inl (eqb-true f.number m e, s)
    go false e s = inr (eqb-false f.number m e, s)

-- THE FIRST MEMBER

first_found : (low : ℕ) (fields : List Field) (o : Option ℕ) → rising low fields ≡ true → first_member fields o ≢ 0 → (low < first_member fields o) × (same_oneof (oneof_at fields (first_member fields o)) o ≡ true)
first_found low [] o h k = absurd (k refl)
first_found low (f ∷ fields) o h k = go (same_oneof f.oneof o) refl k (first_found f.number fields o (onward low f fields h))
  where
    go : (b : Bool) → same_oneof f.oneof o ≡ b → cond b f.number (first_member fields o) ≢ 0 →
        (first_member fields o ≢ 0 → (f.number < first_member fields o) × (same_oneof (oneof_at fields (first_member fields o)) o ≡ true)) →
        (low < cond b f.number (first_member fields o)) × (same_oneof (oneof_at (f ∷ fields) (cond b f.number (first_member fields o))) o ≡ true)
    go true e k more = (rise low f fields h, ap (λ c. same_oneof (cond c f.oneof (oneof_at fields f.number)) o) (eq-eqb f.number f.number refl) ∙ e)
    go false e k more =
        let (further, one) = more k in
        let up = rise low f fields h in
        (omega arith, ap (λ c. same_oneof (cond c f.oneof (oneof_at fields (first_member fields o))) o) (ne_eqb f.number (first_member fields o) (λ s. absurd (omega arith))) ∙ one)

first_reached : (low : ℕ) (fields : List Field) (o : Option ℕ) (m : ℕ) → rising low fields ≡ true → same_oneof (oneof_at fields m) o ≡ true → (low < first_member fields o) × (first_member fields o ≤ m)
first_reached low [] o m h s = absurd (true≢false (sym s))
first_reached low (f ∷ fields) o m h s = go (same_oneof f.oneof o) refl (at_head f fields m o s) (first_reached f.number fields o m (onward low f fields h))
  where
    up : low < f.number
    up = rise low f fields h

    go : (b : Bool) → same_oneof f.oneof o ≡ b → ((f.number ≡ m) × (same_oneof f.oneof o ≡ true)) ⊎ ((f.number ≢ m) × (same_oneof (oneof_at fields m) o ≡ true)) →
        (same_oneof (oneof_at fields m) o ≡ true → (f.number < first_member fields o) × (first_member fields o ≤ m)) → (low < cond b f.number (first_member fields o)) × (cond b f.number (first_member fields o) ≤ m)
    go true e (inl p) more = (up, omega (arith, p.0))
    go true e (inr p) more = let over = above f.number m fields o (onward low f fields h) p.1 in (up, omega arith)
    go false e (inl p) more = absurd (true≢false (sym p.1 ∙ e))
    go false e (inr p) more = let (further, most) = more p.1 in (omega (arith, up), most)

-- THE NEXT MEMBER

pub next_found : (low : ℕ) (fields : List Field) (n : ℕ) → rising low fields ≡ true → next_in fields n ≢ 0 → (n < next_in fields n) × (same fields n (next_in fields n) ≡ true)
next_found low [] n h k = absurd (k refl)
next_found low (f ∷ fields) n h k = go (nat_eq f.number n) refl k (next_found f.number fields n (onward low f fields h))
  where
    go : (b : Bool) → nat_eq f.number n ≡ b → cond b (first_member fields f.oneof) (next_in fields n) ≢ 0 →
        (next_in fields n ≢ 0 → (n < next_in fields n) × (same fields n (next_in fields n) ≡ true)) →
        (n < cond b (first_member fields f.oneof) (next_in fields n)) × (same_oneof (cond b f.oneof (oneof_at fields n)) (oneof_at (f ∷ fields) (cond b (first_member fields f.oneof) (next_in fields n))) ≡ true)
    go true e k more =
        let (further, one) = first_found f.number fields f.oneof (onward low f fields h) k in
        let is : f.number ≡ n = eqb-true f.number n e in
        (omega arith, ap (λ c. same_oneof f.oneof (cond c f.oneof (oneof_at fields (first_member fields f.oneof)))) (ne_eqb f.number (first_member fields f.oneof) (λ s. absurd (omega arith))) ∙ (turned_oneof f.oneof (oneof_at fields (first_member fields f.oneof)) ∙ one))
    go false e k more =
        let (further, one) = more k in
        let over : f.number < next_in fields n = above f.number (next_in fields n) fields (oneof_at fields n) (onward low f fields h) (turned_oneof (oneof_at fields (next_in fields n)) (oneof_at fields n) ∙ one) in
        (further, ap (λ c. same_oneof (oneof_at fields n) (cond c f.oneof (oneof_at fields (next_in fields n)))) (ne_eqb f.number (next_in fields n) (λ s. absurd (omega arith))) ∙ one)

pub next_reached : (low : ℕ) (fields : List Field) (n m : ℕ) → rising low fields ≡ true → n < m → same fields n m ≡ true → (n < next_in fields n) × (next_in fields n ≤ m)
next_reached low [] n m h l s = absurd (true≢false (sym s))
next_reached low (f ∷ fields) n m h l s = go (nat_eq f.number n) refl s (next_reached f.number fields n m (onward low f fields h) l)
  where
    go : (b : Bool) → nat_eq f.number n ≡ b → same_oneof (cond b f.oneof (oneof_at fields n)) (oneof_at (f ∷ fields) m) ≡ true →
        (same fields n m ≡ true → (n < next_in fields n) × (next_in fields n ≤ m)) → (n < cond b (first_member fields f.oneof) (next_in fields n)) × (cond b (first_member fields f.oneof) (next_in fields n) ≤ m)
    go true e s more = here (eqb-true f.number n e) (at_head f fields m f.oneof (turned_oneof (oneof_at (f ∷ fields) m) f.oneof ∙ s))
      where
        here : f.number ≡ n → ((f.number ≡ m) × (same_oneof f.oneof f.oneof ≡ true)) ⊎ ((f.number ≢ m) × (same_oneof (oneof_at fields m) f.oneof ≡ true)) → (n < first_member fields f.oneof) × (first_member fields f.oneof ≤ m)
        here is (inl p) = absurd (omega (arith, p.0, is, l))
        here is (inr p) = let (further, most) = first_reached f.number fields f.oneof m (onward low f fields h) p.1 in (omega arith, most)
    go false e s more = further (above f.number n fields (oneof_at (f ∷ fields) m) (onward low f fields h) s) (at_head f fields m (oneof_at fields n) (turned_oneof (oneof_at (f ∷ fields) m) (oneof_at fields n) ∙ s)) more
      where
        further : f.number < n → ((f.number ≡ m) × (same_oneof f.oneof (oneof_at fields n) ≡ true)) ⊎ ((f.number ≢ m) × (same_oneof (oneof_at fields m) (oneof_at fields n) ≡ true)) → (same fields n m ≡ true → (n < next_in fields n) × (next_in fields n ≤ m)) → (n < next_in fields n) × (next_in fields n ≤ m)
        further up (inl p) more = absurd (omega (arith, p.0, up, l))
        further up (inr p) more = more (turned_oneof (oneof_at fields n) (oneof_at fields m) ∙ p.1)

-- WHERE THE NEXT ONES ARE THE SAME

module _ (xs ys : List Field) (low : ℕ) (up : rising low xs ≡ true) (up' : rising low ys ≡ true) where
  chained : ((n : ℕ) → next_in xs n ≡ next_in ys n) → (d n m : ℕ) → m ≤ n + d → n < m → same xs n m ≡ true → same ys n m ≡ true
  chained nexts zero n m few l s = absurd (omega arith)
  chained nexts (suc d) n m few l s = go (cases_lt (next_in xs n) m) (chained nexts d (next_in xs n) m)
    where
      reached : (n < next_in xs n) × (next_in xs n ≤ m)
      reached = next_reached low xs n m up l s

      more : next_in xs n ≢ 0
      more = λ z. absurd (omega (arith, z, reached.0))

      one : same xs n (next_in xs n) ≡ true
      one = (next_found low xs n up more).1

      other : same ys n (next_in xs n) ≡ true
      other = ap (same ys n) (nexts n) ∙ (next_found low ys n up' (λ z. more (nexts n ∙ z))).1

      go : (next_in xs n < m) ⊎ (m ≤ next_in xs n) → (m ≤ next_in xs n + d → next_in xs n < m → same xs (next_in xs n) m ≡ true → same ys (next_in xs n) m ≡ true) → same ys n m ≡ true
      go (inl under) more =
          let rest : same ys (next_in xs n) m ≡ true = more (omega (arith, reached.0)) under (same_through (oneof_at xs n) (oneof_at xs (next_in xs n)) (oneof_at xs m) one s) in
          same_through (oneof_at ys (next_in xs n)) (oneof_at ys n) (oneof_at ys m) (turned_oneof (oneof_at ys (next_in xs n)) (oneof_at ys n) ∙ other) rest
      go (inr over) more = let is : m ≡ next_in xs n = omega (arith, reached.1) in ap (same ys n) is ∙ other

  -- then members of one oneof are so in the other list
  pub carried : ((n : ℕ) → next_in xs n ≡ next_in ys n) → (n m : ℕ) → n ≢ m → same xs n m ≡ true → same ys n m ≡ true
  carried nexts n m differ s =
      ⊎_elim
      (λ (under : n < m). chained nexts m n m (omega arith) under s)
      (λ over. turned_oneof (oneof_at ys n) (oneof_at ys m) ∙ chained nexts n m n (omega arith) (below over) (turned_oneof (oneof_at xs m) (oneof_at xs n) ∙ s))
      (cases_lt n m)
    where
      below : m ≤ n → m < n
      below over = ⊎_elim (λ (under : m < n). under) (λ back. absurd (differ (omega arith))) (cases_lt m n)

  pub next_carried : ((n m : ℕ) → n ≢ m → same xs n m ≡ true → same ys n m ≡ true) → (n : ℕ) → next_in xs n ≢ 0 → (n < next_in ys n) × (next_in ys n ≤ next_in xs n)
  next_carried held n k =
      let (further, one) = next_found low xs n up k in
      next_reached low ys n (next_in xs n) up' further (held n (next_in xs n) (λ s. absurd (omega arith)) one)

-- and the other way round
pub nexts_same : (xs ys : List Field) (low : ℕ) → rising low xs ≡ true → rising low ys ≡ true → ((n m : ℕ) → n ≢ m → same xs n m ≡ true → same ys n m ≡ true) → ((n m : ℕ) → n ≢ m → same ys n m ≡ true → same xs n m ≡ true) → (n : ℕ) → next_in xs n ≡ next_in ys n
nexts_same xs ys low up up' there back n = go (nat_eq (next_in xs n) 0) (nat_eq (next_in ys n) 0) refl refl
  where
    go : (b c : Bool) → nat_eq (next_in xs n) 0 ≡ b → nat_eq (next_in ys n) 0 ≡ c → next_in xs n ≡ next_in ys n
    go true true e d = eqb-true (next_in xs n) 0 e ∙ sym (eqb-true (next_in ys n) 0 d)
    go true false e d =
        let (further, most) = next_carried ys xs low up' up back n (eqb-false (next_in ys n) 0 d) in
        absurd (omega (arith, eqb-true (next_in xs n) 0 e))
    go false true e d =
        let (further, most) = next_carried xs ys low up up' there n (eqb-false (next_in xs n) 0 e) in
        absurd (omega (arith, eqb-true (next_in ys n) 0 d))
    go false false e d =
        let (further, most) = next_carried xs ys low up up' there n (eqb-false (next_in xs n) 0 e) in
        let (further', most') = next_carried ys xs low up' up back n (eqb-false (next_in ys n) 0 d) in
        omega arith
