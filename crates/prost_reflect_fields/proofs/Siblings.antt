-- The members of one oneof.
use Rattle.std.specs.Prelude.{◌≡◌, ◌&&◌, ◌||◌, ◌∷◌}
use Rattle.prost_reflect_fields.proofs.Common.{ℕ, zero, suc, Bool, true, false, cond, not, nat_eq, List, [], Option, Some, None, refl, ap, sym, ◌∙◌, true≢false, eq-eqb, ne_eqb, eqb-true, eqb-false, and_parts, and_from, or_parts, not-true, list_any, list_all, Field, MessageType, Schema, known, field_of, is_sibling, same_oneof, passes, numbers_differ, field_valid, field_number, schema_at, pool_rows, known_of, are_siblings, PooledType}
use Rattle.prost_reflect_tables.proofs.Keeping.{schema_is_valid}

-- NUMBERS DIFFER

differ_in : (schema types : Schema) (T : ℕ) → list_all (λ (m : MessageType). numbers_differ m.known && list_all (field_valid schema) m.known) types ≡ true → numbers_differ (known types T) ≡ true
differ_in schema [] T h = refl
differ_in schema (m ∷ types) zero h =
    (and_parts (numbers_differ m.known) (list_all (field_valid schema) m.known) (and_parts (numbers_differ m.known && list_all (field_valid schema) m.known) (list_all (λ (m : MessageType). numbers_differ m.known && list_all (field_valid schema) m.known) types) h).0).0
differ_in schema (m ∷ types) (suc T) h =
    differ_in schema types T (and_parts (numbers_differ m.known && list_all (field_valid schema) m.known) (list_all (λ (m : MessageType). numbers_differ m.known && list_all (field_valid schema) m.known) types) h).1

pub known_differ : (d : PooledType) → numbers_differ (known_of d) ≡ true
known_differ d = differ_in (schema_at d) (schema_at d) d.index (schema_is_valid (pool_rows d.pool) d.pool.value.tables.linked)

-- SIBLINGS

abbrev numbered : ℕ → (Field → Bool) → Field → Bool
numbered k p g = nat_eq g.number k && p g

none_numbered : (n : ℕ) (p : Field → Bool) (fields : List Field) → list_any (λ g. nat_eq g.number n) fields ≡ false → list_any (numbered n p) fields ≡ false
none_numbered n p [] h = refl
none_numbered n p (f ∷ fields) h =
    let (here, rest) = or_parts (nat_eq f.number n) (list_any (λ g. nat_eq g.number n) fields) h in
    ap (λ b. (b && p f) || list_any (numbered n p) fields) here ∙ none_numbered n p fields rest

-- where numbers differ, a field that passes is the one of its number
pub found_passes : (k : ℕ) (p : Field → Bool) (fields : List Field) → numbers_differ fields ≡ true → list_any (numbered k p) fields ≡ true → passes (field_of fields k) p ≡ true
found_passes k p [] d h = cc
found_passes k p (f ∷ fields) d h = cases (nat_eq f.number k) refl h (found_passes k p fields (and_parts (not (list_any (λ g. nat_eq g.number f.number) fields)) (numbers_differ fields) d).1)
  where
    alone : not (list_any (λ g. nat_eq g.number f.number) fields) ≡ true
    alone = (and_parts (not (list_any (λ g. nat_eq g.number f.number) fields)) (numbers_differ fields) d).0

    without : (b c : Bool) → b || c ≡ true → c ≡ false → b ≡ true
    without true c h e = refl
    without false c h e = absurd (true≢false (sym h ∙ e))

    cases : (b : Bool) → nat_eq f.number k ≡ b → (b && p f) || list_any (numbered k p) fields ≡ true → (list_any (numbered k p) fields ≡ true → passes (field_of fields k) p ≡ true) → passes (cond b (Some f) (field_of fields k)) p ≡ true
    cases true at h rest = without (p f) (list_any (numbered k p) fields) h (none_numbered k p fields (ap (λ n. list_any (λ g. nat_eq g.number n) fields) (sym (eqb-true f.number k at)) ∙ not-true (list_any (λ g. nat_eq g.number f.number) fields) alone))
    cases false at h rest = rest h

pub passes_found : (k : ℕ) (p : Field → Bool) (fields : List Field) (g : Field) → field_of fields k ≡ Some g → p g ≡ true → list_any (numbered k p) fields ≡ true
passes_found k p [] g e h = cc
passes_found k p (f ∷ fields) g e h = cases (nat_eq f.number k) refl e (λ e. passes_found k p fields g e h)
  where
    one : (x y : Field) → Some x ≡ Some y → x ≡ y
    one x y e = cc

    cases : (b : Bool) → nat_eq f.number k ≡ b → cond b (Some f) (field_of fields k) ≡ Some g → (field_of fields k ≡ Some g → list_any (numbered k p) fields ≡ true) → (nat_eq f.number k && p f) || list_any (numbered k p) fields ≡ true
    cases true at e rest = ap (λ b. (b && p f) || list_any (numbered k p) fields) at ∙ ap (λ b. b || list_any (numbered k p) fields) (ap p (one f g e) ∙ h)
    cases false at e rest = ap (λ b. (b && p f) || list_any (numbered k p) fields) at ∙ rest e

same_back : (a b : Option ℕ) → same_oneof a b ≡ true → same_oneof b a ≡ true
same_back None b h = cc
same_back (Some i) None h = cc
same_back (Some i) (Some j) h = eq-eqb j i (sym (eqb-true i j h))

other_way : (n k : ℕ) → not (nat_eq k n) ≡ true → not (nat_eq n k) ≡ true
other_way n k h = cases (nat_eq k n) refl h
  where
    cases : (b : Bool) → nat_eq k n ≡ b → not b ≡ true → not (nat_eq n k) ≡ true
    cases true at h = absurd (true≢false (sym h))
    cases false at h = ap not (ne_eqb n k (λ e. eqb-false k n at (sym e)))

-- a sibling's sibling
pub siblings_back : (fields : List Field) (n k : ℕ) → numbers_differ fields ≡ true → are_siblings fields n k ≡ true → are_siblings fields k n ≡ true
siblings_back fields n k d h = first (field_of fields n) refl h
  where
    second : (f g : Field) → field_of fields n ≡ Some f → field_of fields k ≡ Some g → not (nat_eq k f.number) ≡ true → same_oneof g.oneof f.oneof ≡ true → is_sibling fields g n ≡ true
    second f g at there apart same =
        let number : f.number ≡ n = field_number fields n f at in
        let other : g.number ≡ k = field_number fields k g there in
        and_from _ _ (ap (λ z. not (nat_eq n z)) other ∙ other_way n k (ap (λ z. not (nat_eq k z)) (sym number) ∙ apart)) (passes_found n (λ h. same_oneof h.oneof g.oneof) fields f at (same_back g.oneof f.oneof same))

    of : (o : Option Field) (f : Field) → field_of fields k ≡ o → field_of fields n ≡ Some f → not (nat_eq k f.number) ≡ true → passes o (λ g. same_oneof g.oneof f.oneof) ≡ true → passes o (λ g. is_sibling fields g n) ≡ true
    of None f there at apart same = cc
    of (Some g) f there at apart same = second f g at there apart same

    first : (o : Option Field) → field_of fields n ≡ o → passes o (λ f. is_sibling fields f k) ≡ true → are_siblings fields k n ≡ true
    first None at h = cc
    first (Some f) at h =
        let (apart, any) = and_parts (not (nat_eq k f.number)) (list_any (λ g. nat_eq g.number k && same_oneof g.oneof f.oneof) fields) h in
        of (field_of fields k) f refl at apart (found_passes k (λ g. same_oneof g.oneof f.oneof) fields d any)

-- no number is its own sibling
pub siblings_self : (fields : List Field) (n : ℕ) → are_siblings fields n n ≡ false
siblings_self fields n = cases (field_of fields n) refl
  where
    cases : (o : Option Field) → field_of fields n ≡ o → passes o (λ f. is_sibling fields f n) ≡ false
    cases None at = refl
    cases (Some f) at = ap (λ b. not b && list_any (λ g. nat_eq g.number n && same_oneof g.oneof f.oneof) fields) (eq-eqb n f.number (sym (field_number fields n f at)))
