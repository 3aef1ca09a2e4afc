-- Records of different numbers that share no oneof commute in what they mean.
use Rattle.std.specs.Prelude.{◌≡◌, ◌≢◌, ◌∷◌, ◌++◌, ◌⊎◌}
use Rattle.prost_reflect_laws.proofs.Common.{ℕ, zero, suc, Bool, true, false, cond, List, [], map, filter, flat_map, nat_eq, Option, Some, None, refl, ap, ap₂, sym, ◌∙◌, true≢false, inl, inr, ne_eqb, eqb-true, ◌>>=◌, Record, Payload, Field, Schema, known, field_of, is_sibling, Value, has_number, value_records, value_payloads, unknown_payloads, MeansInside, JoinsInside, value_meaning, unknowns_meaning, meaning_at, meaning_by, empty_inside, joins_nothing, meaning, value_joined, value_step, value_steps, steps, slots_same, field_number, Joins, flat_append, surviving_value, value_all, unknowns_further, meaning_same, nothing_joins, level_joins, Apart, block}

pub steps_append : (inner : MeansInside) (further : JoinsInside) (fields : List Field) (f : Field) (o : Option Value) (xs ys : List Record) →
    value_steps inner further fields f o (xs ++ ys) ≡ value_steps inner further fields f (value_steps inner further fields f o xs) ys
steps_append inner further fields f o [] ys = refl
steps_append inner further fields f o (x ∷ xs) ys = steps_append inner further fields f (value_step inner further fields f o x) xs ys

pub value_records_block : (fields : List Field) (r : Record) → (ps : List Payload) × (value_records fields r ≡ block r.number ps)
value_records_block fields r = go (field_of fields r.number)
  where
    go : (o : Option Field) → (ps : List Payload) × ((elim o [ None ↦ [] | Some f ↦ map (λ p. record { number = r.number; payload = p }) (value_payloads f.form f.value_type r.payload) ]) ≡ block r.number ps)
    go None = ([], refl)
    go (Some f) = (value_payloads f.form f.value_type r.payload, refl)

-- of another number: either nothing changes, or the value goes
abbrev pub Inert : MeansInside → JoinsInside → List Field → Field → List Record → Type 0
Inert inner further fields f xs = (o : Option Value) → value_steps inner further fields f o xs ≡ o

abbrev pub Clears : MeansInside → JoinsInside → List Field → Field → List Record → Type 0
Clears inner further fields f xs = (o : Option Value) → value_steps inner further fields f o xs ≡ None

module _ (inner : MeansInside) (further : JoinsInside) (fields : List Field) (f : Field) where
  other_step : (o : Option Value) (n : ℕ) (p : Payload) → nat_eq n f.number ≡ false →
      value_step inner further fields f o (record { number = n; payload = p }) ≡ cond (is_sibling fields f n) None o
  other_step o n p e = ap (λ b. cond b (value_joined inner further f.form f.value_type o p) (cond (is_sibling fields f n) None o)) e

  pub inert : (n : ℕ) (ps : List Payload) → nat_eq n f.number ≡ false → is_sibling fields f n ≡ false → Inert inner further fields f (block n ps)
  inert n [] e s o = refl
  inert n (p ∷ ps) e s o =
      ap (λ o. value_steps inner further fields f o (block n ps)) (other_step o n p e ∙ ap (λ b. cond b None o) s) ∙ inert n ps e s o

  pub effect : (n : ℕ) (ps : List Payload) → nat_eq n f.number ≡ false → Inert inner further fields f (block n ps) ⊎ Clears inner further fields f (block n ps)
  effect n ps e = go (is_sibling fields f n) refl ps
    where
      clear : (ps : List Payload) → is_sibling fields f n ≡ true → value_steps inner further fields f None (block n ps) ≡ None
      clear [] s = refl
      clear (p ∷ ps) s = ap (λ o. value_steps inner further fields f o (block n ps)) (other_step None n p e ∙ ap (λ b. cond {A = Option Value} b None None) s) ∙ clear ps s

      go : (b : Bool) → is_sibling fields f n ≡ b → (ps : List Payload) → Inert inner further fields f (block n ps) ⊎ Clears inner further fields f (block n ps)
      go false s ps = inl (inert n ps e s)
      go true s [] = inl (λ o. refl)
      go true s (p ∷ ps) = inr (λ o. ap (λ o. value_steps inner further fields f o (block n ps)) (other_step o n p e ∙ ap (λ b. cond b None o) s) ∙ clear ps s)

differ : (n m k : ℕ) → n ≢ m → nat_eq n k ≡ true → nat_eq m k ≡ false
differ n m k h e = ne_eqb m k (λ f. h (eqb-true n k e ∙ sym f))

swap : (inner : MeansInside) (further : JoinsInside) (fields : List Field) (f : Field) (o : Option Value) (a b : ℕ) (ps qs : List Payload) → field_of fields f.number ≡ Some f → Apart fields a b →
    value_steps inner further fields f (value_steps inner further fields f o (block a ps)) (block b qs) ≡ value_steps inner further fields f (value_steps inner further fields f o (block b qs)) (block a ps)
swap inner further fields f o a b ps qs found apart = go (nat_eq a f.number) (nat_eq b f.number) refl refl
  where
    run : Option Value → List Record → Option Value
    run o xs = value_steps inner further fields f o xs

    past : (xs ys : List Record) → Inert inner further fields f ys → run (run o xs) ys ≡ run (run o ys) xs
    past xs ys h = h (run o xs) ∙ ap (λ o. run o xs) (sym (h o))

    both : Inert inner further fields f (block a ps) ⊎ Clears inner further fields f (block a ps) → Inert inner further fields f (block b qs) ⊎ Clears inner further fields f (block b qs) → run (run o (block a ps)) (block b qs) ≡ run (run o (block b qs)) (block a ps)
    both (inl h) k = sym (past (block b qs) (block a ps) h)
    both (inr h) (inl k) = past (block a ps) (block b qs) k
    both (inr h) (inr k) = k (run o (block a ps)) ∙ sym (h (run o (block b qs)))

    go : (x y : Bool) → nat_eq a f.number ≡ x → nat_eq b f.number ≡ y → run (run o (block a ps)) (block b qs) ≡ run (run o (block b qs)) (block a ps)
    go true y e d = past (block a ps) (block b qs) (inert inner further fields f b qs (differ a b f.number apart.differ e) (apart.left f (ap (field_of fields) (eqb-true a f.number e) ∙ found)))
    go false true e d = sym (past (block b qs) (block a ps) (inert inner further fields f a ps e (apart.right f (ap (field_of fields) (eqb-true b f.number d) ∙ found))))
    go false false e d = both (effect inner further fields f a ps e) (effect inner further fields f b qs d)

filter_swap : {A : Type 0} (test : A → Bool) (a b : A) (xs : List A) → (test a ≡ true → test b ≡ false) → filter test (a ∷ b ∷ xs) ≡ filter test (b ∷ a ∷ xs)
filter_swap test a b xs h = go (test a) (test b) refl refl
  where
    go : (p q : Bool) → test a ≡ p → test b ≡ q → filter test (a ∷ b ∷ xs) ≡ filter test (b ∷ a ∷ xs)
    go p false e f = simp f
    go false true e f = simp (e, f)
    go true true e f = absurd (true≢false (sym f ∙ h e))

commute_by : (inner : MeansInside) (further : JoinsInside) (schema : Schema) (T : ℕ) (front behind : List Record) (r s : Record) → Joins inner further → Apart (known schema T) r.number s.number →
    meaning_by inner schema T (front ++ (r ∷ s ∷ behind)) ≡ meaning_by inner schema T (front ++ (s ∷ r ∷ behind))
commute_by inner further schema T front behind r s j apart = meaning_same inner schema T (front ++ (r ∷ s ∷ behind)) (front ++ (s ∷ r ∷ behind))
    (λ n. slots_same (meaning_at inner fields (front ++ (r ∷ s ∷ behind)) n) (meaning_at inner fields (front ++ (s ∷ r ∷ behind)) n) (value n) (unknowns n))
  where
    fields : List Field
    fields = known schema T

    values : Field → List Record → Option Value
    values f rs = surviving_value inner (known schema T) f (flat_map (value_records (known schema T)) rs)

    one : (f : Field) (x y : Record) → values f (front ++ (x ∷ y ∷ behind)) ≡
        value_steps inner further (known schema T) f (value_steps inner further (known schema T) f (value_steps inner further (known schema T) f (values f front) (value_records (known schema T) x)) (value_records (known schema T) y)) (flat_map (value_records (known schema T)) behind)
    one f x y = ap (surviving_value inner fields f) (flat_append (value_records fields) front (x ∷ y ∷ behind))
        ∙ value_all inner further fields f (flat_map (value_records fields) front) (value_records fields x ++ (value_records fields y ++ flat_map (value_records fields) behind)) j
        ∙ steps_append inner further fields f (values f front) (value_records fields x) (value_records fields y ++ flat_map (value_records fields) behind)
        ∙ steps_append inner further fields f (value_steps inner further fields f (values f front) (value_records fields x)) (value_records fields y) (flat_map (value_records fields) behind)

    swapped : (f : Field) → field_of (known schema T) f.number ≡ Some f → values f (front ++ (r ∷ s ∷ behind)) ≡ values f (front ++ (s ∷ r ∷ behind))
    swapped f found =
        let (ps, e) = value_records_block (known schema T) r in
        let (qs, d) = value_records_block (known schema T) s in
        one f r s ∙ ap (λ o. value_steps inner further fields f o (flat_map (value_records fields) behind))
        (ap₂ (λ x y. value_steps inner further fields f (value_steps inner further fields f (values f front) x) y) e d
        ∙ swap inner further fields f (values f front) r.number s.number ps qs found apart
        ∙ sym (ap₂ (λ x y. value_steps inner further fields f (value_steps inner further fields f (values f front) y) x) e d))
        ∙ sym (one f s r)

    value : (n : ℕ) → value_meaning inner (known schema T) (front ++ (r ∷ s ∷ behind)) n ≡ value_meaning inner (known schema T) (front ++ (s ∷ r ∷ behind)) n
    value n = go (field_of fields n) refl
      where
        go : (o : Option Field) → field_of (known schema T) n ≡ o → (o >>= λ f. values f (front ++ (r ∷ s ∷ behind))) ≡ (o >>= λ f. values f (front ++ (s ∷ r ∷ behind)))
        go None e = refl
        go (Some f) e = swapped f (ap (field_of (known schema T)) (field_number (known schema T) n f e) ∙ e)

    unknowns : (n : ℕ) → unknowns_meaning (known schema T) (front ++ (r ∷ s ∷ behind)) n ≡ unknowns_meaning (known schema T) (front ++ (s ∷ r ∷ behind)) n
    unknowns n = unknowns_further fields front (r ∷ s ∷ behind) n
        ∙ ap (λ l. unknowns_meaning fields front n ++ flat_map (unknown_payloads fields) l) (filter_swap (has_number n) r s behind (differ r.number s.number n apart.differ))
        ∙ sym (unknowns_further fields front (s ∷ r ∷ behind) n)

pub commute : (schema : Schema) (k T : ℕ) (front behind : List Record) (r s : Record) → Apart (known schema T) r.number s.number →
    meaning schema k T (front ++ (r ∷ s ∷ behind)) ≡ meaning schema k T (front ++ (s ∷ r ∷ behind))
unfolding meaning
commute schema zero T front behind r s apart = commute_by (empty_inside schema) joins_nothing schema T front behind r s (nothing_joins schema) apart
commute schema (suc k) T front behind r s apart = commute_by (meaning schema k) (steps k) schema T front behind r s (level_joins schema k) apart
