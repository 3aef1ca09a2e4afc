-- The same records of a field survive in two message types of a reduction.
use Rattle.std.specs.Prelude.{◌≡◌, ◌||◌, ◌∷◌, ◌++◌}
use Rattle.prost_reflect_laws.proofs.Common.{ℕ, Bool, true, false, cond, List, [], map, filter, flat_map, nat_eq, Option, Some, None, refl, ap, ap₂, sym, ◌∙◌, eqb-true, list_any, list_any-append, none-some, Record, Payload, Field, field_of, is_sibling, has_number, value_records, value_payloads, after_last, survive, TypePairs, field_number, filter_append, filter_none, after_append, block}
use Rattle.prost_reflect_laws.proofs.Commuting.{value_records_block}
use Rattle.prost_reflect_laws.proofs.Alike.{values_alike}
use Rattle.prost_reflect_laws.proofs.Matches.{TypesMatch, Like, like}
use Rattle.prost_reflect_laws.proofs.Fellows.{unknown_no_sibling, fellows}
use Rattle.prost_reflect_laws.proofs.ByNumber.{after_none}

after_same : (p q : Record → Bool) (rs : List Record) → ((r : Record) → p r ≡ q r) → after_last p rs ≡ after_last q rs
after_same p q [] h = refl
after_same p q (r ∷ rs) h = ap₂ (λ b c. cond b (after_last p rs) (cond c rs (r ∷ rs))) (any_same rs) (h r) ∙ ap (λ l. cond (list_any q rs) l (cond (q r) rs (r ∷ rs))) (after_same p q rs h)
  where
    any_same : (rs : List Record) → list_any p rs ≡ list_any q rs
    any_same [] = refl
    any_same (r ∷ rs) = ap₂ ◌||◌ (h r) (any_same rs)

-- two lists of records that the tests don't tell apart
record Agree (t p : Record → Bool) (xs ys : List Record) : Type 0 where
  any : list_any p xs ≡ list_any p ys
  kept : filter t xs ≡ filter t ys
  survive : filter t (after_last p xs) ≡ filter t (after_last p ys)

agree_append : (t p : Record → Bool) (xs ys us vs : List Record) → Agree t p xs ys → Agree t p us vs → Agree t p (xs ++ us) (ys ++ vs)
agree_append t p xs ys us vs a b = record {
  any = list_any-append p xs us ∙ ap₂ ◌||◌ a.any b.any ∙ sym (list_any-append p ys vs);
  kept = filter_append t xs us ∙ ap₂ ◌++◌ a.kept b.kept ∙ sym (filter_append t ys vs);
  survive = after_append p t xs us ∙ ap (λ c. cond c (filter t (after_last p us)) (filter t (after_last p xs) ++ filter t us)) b.any
      ∙ ap₂ (λ x y. cond (list_any p vs) x y) b.survive (ap₂ ◌++◌ a.survive b.kept) ∙ sym (after_append p t ys vs);
}

none_pass : (test : Record → Bool) (n : ℕ) (ps : List Payload) → ((p : Payload) → test (record { number = n; payload = p }) ≡ false) → list_any test (block n ps) ≡ false
none_pass test n [] h = refl
none_pass test n (p ∷ ps) h = ap (λ b. b || list_any test (block n ps)) (h p) ∙ none_pass test n ps h

-- records that neither test passes are as none
agree_none : (t p : Record → Bool) (n : ℕ) (ps : List Payload) → ((x : Payload) → t (record { number = n; payload = x }) ≡ false) → ((x : Payload) → p (record { number = n; payload = x }) ≡ false) → Agree t p (block n ps) []
agree_none t p n ps ht hp =
    let any : list_any p (block n ps) ≡ false = none_pass p n ps hp in
    let kept : filter t (block n ps) ≡ [] = filter_none t (block n ps) (none_pass t n ps ht) in
    record { any = any; kept = kept; survive = ap (filter t) (after_none p (block n ps) any) ∙ kept }

agree_itself : (t p : Record → Bool) (xs ys : List Record) → xs ≡ ys → Agree t p xs ys
agree_itself t p xs ys e = record { any = ap (list_any p) e; kept = ap (filter t) e; survive = ap (λ l. filter t (after_last p l)) e }

module _ (pairs : TypePairs) (older newer : List Field) (n : ℕ) where
  -- what both types take of a record
  values_agree : (f : Field) (r : Record) → TypesMatch pairs older newer → field_of older n ≡ Some f →
      Agree (has_number n) (λ r. is_sibling older f r.number) (value_records newer r) (value_records older r)
  values_agree f r m found = go (field_of older r.number) refl
    where
      t : Record → Bool
      t = has_number n

      p : Record → Bool
      p r = is_sibling older f r.number

      taken : Option Field → List Record
      taken o = elim o [ None ↦ [] | Some h ↦ map (λ p. record { number = r.number; payload = p }) (value_payloads h.form h.value_type r.payload) ]

      go : (o : Option Field) → field_of older r.number ≡ o → Agree (has_number n) (λ r. is_sibling older f r.number) (value_records newer r) (value_records older r)
      go (Some h) e =
          let (g, l) = like pairs older newer r.number h m e in
          agree_itself t p (value_records newer r) (value_records older r)
          (ap taken (ap (field_of newer) (sym (field_number older r.number h e)) ∙ l.found) ∙ ap (block r.number) (values_alike pairs h.form g.form h.value_type g.value_type r.payload l.form l.type.kind) ∙ sym (ap taken e))
      go None e =
          let (ps, b) = value_records_block newer r in
          by ps b (nat_eq r.number n) refl
        where
          by : (ps : List Payload) → value_records newer r ≡ block r.number ps → (b : Bool) → nat_eq r.number n ≡ b → Agree (has_number n) (λ r. is_sibling older f r.number) (value_records newer r) (value_records older r)
          by ps b true d = absurd (none-some _ (sym (sym found ∙ ap (field_of older) (sym (eqb-true r.number n d)) ∙ e)))
          by ps b false d =
              let a : Agree (has_number n) (λ r. is_sibling older f r.number) (block r.number ps) [] = agree_none t p r.number ps (λ x. d) (λ x. unknown_no_sibling older f r.number e) in
              let none : value_records older r ≡ [] = ap taken e in
              record {
                any = ap (list_any p) b ∙ a.any ∙ ap (list_any p) (sym none);
                kept = ap (filter t) b ∙ a.kept ∙ ap (filter t) (sym none);
                survive = ap (λ l. filter t (after_last p l)) b ∙ a.survive ∙ ap (λ l. filter t (after_last p l)) (sym none);
              }

  all_agree : (f : Field) (rs : List Record) → TypesMatch pairs older newer → field_of older n ≡ Some f →
      Agree (has_number n) (λ r. is_sibling older f r.number) (flat_map (value_records newer) rs) (flat_map (value_records older) rs)
  all_agree f [] m found = record { any = refl; kept = refl; survive = refl }
  all_agree f (r ∷ rs) m found =
      agree_append (has_number n) (λ r. is_sibling older f r.number) (value_records newer r) (value_records older r) (flat_map (value_records newer) rs) (flat_map (value_records older) rs)
      (values_agree f r m found) (all_agree f rs m found)

  pub same_survivors : (f g : Field) (rs : List Record) → TypesMatch pairs older newer → field_of older n ≡ Some f → Like pairs older newer f g →
      survive newer g (flat_map (value_records newer) rs) ≡ survive older f (flat_map (value_records older) rs)
  same_survivors f g rs m found l =
      let number : f.number ≡ n = field_number older n f found in
      let same : g.number ≡ n = field_number newer f.number g l.found ∙ number in
      let a : Agree (has_number n) (λ r. is_sibling older f r.number) (flat_map (value_records newer) rs) (flat_map (value_records older) rs) = all_agree f rs m found in
      ap₂ (λ (k : ℕ) xs. filter (has_number k) xs) same (after_same (λ r. is_sibling newer g r.number) (λ r. is_sibling older f r.number) (flat_map (value_records newer) rs) (λ r. fellows pairs older newer f g r.number m l))
      ∙ a.survive ∙ ap (λ (k : ℕ). filter (has_number k) (after_last (λ r. is_sibling older f r.number) (flat_map (value_records older) rs))) (sym number)
