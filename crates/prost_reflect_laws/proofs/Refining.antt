-- The test of reduction answers yes exactly for a reduction.
use Rattle.std.specs.Prelude.{◌≡◌, ◌≤◌, ◌<◌, ◌↔◌, ◌⊎◌, ◌&&◌, ◌||◌, ◌∷◌}
use Rattle.prost_reflect_laws.proofs.Common.{ℕ, zero, suc, inl, inr, nat_eq, nat_lt, eq-eqb, Bool, true, false, cond, List, [], length, map, filter, flat_map, Option, Some, None, refl, ap, ap₂, sym, ◌∙◌, arith, true≢false, IsTrue, beq, list_all, eqb-true, eqb-false, ltb-true, and_parts, and_from, list_any-append, or-true, Kind, ScalarOf, MessageOf, GroupOf, ValueType, FieldForm, Singular, Repeated, MapFrom, Field, Schema, message_type, known, field_of, is_key_kind, kind_valid, field_valid, schema_valid, passes, TypePairs, holds, same_kind, same_default, value_types_match, same_form, fields_match, same_siblings, has_match, has_no_fellow, entries_whole, types_match, all_match, Reduced, filter_passes, numbers_below, all_pairs, refined, refined_times, greatest_reduction, is_reduced}
use Rattle.prost_reflect_laws.proofs.Checked.{known_valid, found_valid, CheckedField, checked_field, CheckedMap, checked_map}
use Rattle.prost_reflect_laws.proofs.Matches.{pair_matches}

-- WHAT STAYS MATCHES

fewer : {A : Type 0} (test : A → Bool) (xs : List A) → (length (filter test xs) < length xs) ⊎ (filter test xs ≡ xs)
fewer test [] = inr refl
fewer test (x ∷ xs) = go (test x) (fewer test xs)
  where
    go : (b : Bool) → (length (filter test xs) < length xs) ⊎ (filter test xs ≡ xs) → (length (cond b (x ∷ filter test xs) (filter test xs)) < length (x ∷ xs)) ⊎ (cond b (x ∷ filter test xs) (filter test xs) ≡ x ∷ xs)
    go true (inl l) = inl (omega arith)
    go true (inr e) = inr (ap (λ l. x ∷ l) e)
    go false (inl l) = inl (omega arith)
    go false (inr e) = inl (omega (arith, ap length e))

-- what no longer changes stays
settled : (n : ℕ) (older newer : Schema) (pairs : TypePairs) → refined older newer pairs ≡ pairs → refined_times n older newer pairs ≡ pairs
unfolding refined_times
settled zero older newer pairs e = refl
settled (suc n) older newer pairs e = ap (refined_times n older newer) e ∙ settled n older newer pairs e

pub settles : (n : ℕ) (older newer : Schema) (pairs : TypePairs) → length pairs ≤ n → refined older newer (refined_times n older newer pairs) ≡ refined_times n older newer pairs
unfolding refined_times
settles zero older newer [] l = refl
settles zero older newer (p ∷ pairs) l = absurd (omega arith)
settles (suc n) older newer pairs l = go (fewer (λ p. types_match pairs (message_type older p.0) (message_type newer p.1)) pairs) (settles n older newer (refined older newer pairs))
  where
    go : (length (refined older newer pairs) < length pairs) ⊎ (refined older newer pairs ≡ pairs) → (length (refined older newer pairs) ≤ n → refined older newer (refined_times n older newer (refined older newer pairs)) ≡ refined_times n older newer (refined older newer pairs)) → refined older newer (refined_times n older newer (refined older newer pairs)) ≡ refined_times n older newer (refined older newer pairs)
    go (inl short) more = more (omega arith)
    go (inr e) more =
        let stays : refined_times n older newer (refined older newer pairs) ≡ pairs = ap (refined_times n older newer) e ∙ settled n older newer pairs e in
        ap (refined older newer) stays ∙ e ∙ sym stays

pub greatest_matches : (older newer : Schema) → all_match (greatest_reduction older newer) older newer ≡ true
greatest_matches older newer =
    let pairs : TypePairs = greatest_reduction older newer in
    ap (list_all (λ p. types_match pairs (message_type older p.0) (message_type newer p.1))) (sym (settles (length (all_pairs older newer)) older newer (all_pairs older newer) (omega arith)))
    ∙ filter_passes (λ p. types_match pairs (message_type older p.0) (message_type newer p.1)) pairs

-- MORE PAIRS MATCH NO LESS

-- of the types of both schemas, what is a pair of these is one of those
pub record Within (older newer : Schema) (pairs more : TypePairs) : Type 0 where
  pub each : (A B : ℕ) → A < length older → B < length newer → holds pairs A B ≡ true → holds more A B ≡ true

kind_more : (older newer : Schema) (pairs more : TypePairs) (k l : Kind) → Within older newer pairs more → kind_valid older k ≡ true → kind_valid newer l ≡ true → same_kind pairs k l ≡ true → same_kind more k l ≡ true
kind_more older newer pairs more (ScalarOf k) (ScalarOf l) w a b h = h
kind_more older newer pairs more (MessageOf A) (MessageOf B) w a b h =
    w.each A B (ltb-true A (length older) (and_parts (nat_lt A (length older)) _ a).0) (ltb-true B (length newer) (and_parts (nat_lt B (length newer)) _ b).0) h
kind_more older newer pairs more (GroupOf A) (GroupOf B) w a b h =
    w.each A B (ltb-true A (length older) (and_parts (nat_lt A (length older)) _ a).0) (ltb-true B (length newer) (and_parts (nat_lt B (length newer)) _ b).0) h
kind_more older newer pairs more _ _ w a b h = absurd (true≢false (sym h))

key_more : (pairs more : TypePairs) (k l : Kind) → is_key_kind k ≡ true → same_kind pairs k l ≡ true → same_kind more k l ≡ true
key_more pairs more (ScalarOf k) (ScalarOf l) key h = h
key_more pairs more _ l key h = cc

type_more : (pairs more : TypePairs) (s t : ValueType) → (same_kind pairs s.kind t.kind ≡ true → same_kind more s.kind t.kind ≡ true) → value_types_match pairs s t ≡ true → value_types_match more s t ≡ true
type_more pairs more s t kind h =
    let (abc, d) = and_parts (same_kind pairs s.kind t.kind && beq s.required t.required && beq s.presence t.presence) (same_default s.kind s.default t.default) h in
    let (ab, c) = and_parts (same_kind pairs s.kind t.kind && beq s.required t.required) (beq s.presence t.presence) abc in
    let (a, b) = and_parts (same_kind pairs s.kind t.kind) (beq s.required t.required) ab in
    and_from _ _ (and_from _ _ (and_from _ _ (kind a) b) c) d

form_more : (older : Schema) (pairs more : TypePairs) (f : Field) (c d : FieldForm) → f.form ≡ c → CheckedField older f → same_form pairs c d ≡ true → same_form more c d ≡ true
form_more older pairs more f Singular Singular e checked h = refl
form_more older pairs more f (Repeated x) (Repeated y) e checked h = refl
form_more older pairs more f (MapFrom s) (MapFrom t) e checked h =
    let m : CheckedMap f s = checked_map older f s checked e in
    type_more pairs more s t (key_more pairs more s.kind t.kind m.keyed) h
form_more older pairs more f _ _ e checked h = absurd (true≢false (sym h))

match_more : (older newer : Schema) (pairs more : TypePairs) (olders newers : List Field) (f : Field) → Within older newer pairs more → field_valid older f ≡ true → list_all (field_valid newer) newers ≡ true → has_match pairs olders newers f ≡ true → has_match more olders newers f ≡ true
match_more older newer pairs more olders newers f w ok oks h = go (field_of newers f.number) refl h
  where
    checked : CheckedField older f
    checked = checked_field older f ok

    go : (o : Option Field) → field_of newers f.number ≡ o → passes o (λ g. fields_match pairs f g && same_siblings olders newers f g) ≡ true → passes o (λ g. fields_match more f g && same_siblings olders newers f g) ≡ true
    go None e h = h
    go (Some g) e h =
        let like : CheckedField newer g = checked_field newer g (found_valid newer newers f.number g oks e) in
        let (abc, d) = and_parts (fields_match pairs f g) (same_siblings olders newers f g) h in
        let (ab, c) = and_parts (beq f.is_extension g.is_extension && same_form pairs f.form g.form) (value_types_match pairs f.value_type g.value_type) abc in
        let (a, b) = and_parts (beq f.is_extension g.is_extension) (same_form pairs f.form g.form) ab in
        and_from _ _ (and_from _ _ (and_from _ _ a (form_more older pairs more f f.form g.form refl checked b)) (type_more pairs more f.value_type g.value_type (kind_more older newer pairs more f.value_type.kind g.value_type.kind w checked.kind like.kind) c)) d

all_more : {A : Type 0} (valid test more : A → Bool) (xs : List A) → ((x : A) → valid x ≡ true → test x ≡ true → more x ≡ true) → list_all valid xs ≡ true → list_all test xs ≡ true → list_all more xs ≡ true
all_more valid test more [] h a b = refl
all_more valid test more (x ∷ xs) h a b =
    let (a', a'') = and_parts (valid x) (list_all valid xs) a in
    let (b', b'') = and_parts (test x) (list_all test xs) b in
    and_from _ _ (h x a' b') (all_more valid test more xs h a'' b'')

pub types_more : (older newer : Schema) (pairs more : TypePairs) (A B : ℕ) → Within older newer pairs more → schema_valid older ≡ true → schema_valid newer ≡ true → types_match pairs (message_type older A) (message_type newer B) ≡ true → types_match more (message_type older A) (message_type newer B) ≡ true
types_more older newer pairs more A B w okA okB h =
    let (ab, c) = and_parts (entries_whole (message_type older A) (message_type newer B) && list_all (has_match pairs (known older A) (known newer B)) (known older A)) (list_all (has_no_fellow (known older A) (known newer B)) (known newer B)) h in
    let (a, b) = and_parts (entries_whole (message_type older A) (message_type newer B)) (list_all (has_match pairs (known older A) (known newer B)) (known older A)) ab in
    and_from _ _ (and_from _ _ a (all_more (field_valid older) (has_match pairs (known older A) (known newer B)) (has_match more (known older A) (known newer B)) (known older A)
    (λ f ok m. match_more older newer pairs more (known older A) (known newer B) f w ok (known_valid newer B okB) m) (known_valid older A okA) b)) c

-- WHAT REDUCES STAYS

pub held_filtered : (test : ℕ × ℕ → Bool) (pairs : TypePairs) (A B : ℕ) → test (A, B) ≡ true → holds pairs A B ≡ true → holds (filter test pairs) A B ≡ true
held_filtered test [] A B t h = h
held_filtered test (p ∷ pairs) A B t h = go (nat_eq p.0 A) refl (nat_eq p.1 B) refl (test p) refl h (held_filtered test pairs A B t)
  where
    go : (x : Bool) → nat_eq p.0 A ≡ x → (y : Bool) → nat_eq p.1 B ≡ y → (b : Bool) → test p ≡ b → ((x && y) || holds pairs A B) ≡ true → (holds pairs A B ≡ true → holds (filter test pairs) A B ≡ true) → holds (cond b (p ∷ filter test pairs) (filter test pairs)) A B ≡ true
    go true d true e true k h more = ap₂ (λ x y. (x && y) || holds (filter test pairs) A B) d e
    go true d true e false k h more = absurd (true≢false (sym t ∙ ap₂ (λ x y. test (x, y)) (sym (eqb-true p.0 A d)) (sym (eqb-true p.1 B e)) ∙ k))
    go true d false e true k h more = ap₂ (λ x y. (x && y) || holds (filter test pairs) A B) d e ∙ more h
    go true d false e false k h more = more h
    go false d y e true k h more = ap (λ x. (x && nat_eq p.1 B) || holds (filter test pairs) A B) d ∙ more h
    go false d y e false k h more = more h

pub refined_within : (older newer : Schema) (pairs more : TypePairs) → schema_valid older ≡ true → schema_valid newer ≡ true → all_match pairs older newer ≡ true → Within older newer pairs more → Within older newer pairs (refined older newer more)
refined_within older newer pairs more okA okB all w = record {
  each = λ A B a b h.
      held_filtered (λ p. types_match more (message_type older p.0) (message_type newer p.1)) more A B (types_more older newer pairs more A B w okA okB (pair_matches pairs pairs older newer A B h all)) (w.each A B a b h);
}

times_within : (n : ℕ) (older newer : Schema) (pairs more : TypePairs) → schema_valid older ≡ true → schema_valid newer ≡ true → all_match pairs older newer ≡ true → Within older newer pairs more → Within older newer pairs (refined_times n older newer more)
unfolding refined_times
times_within zero older newer pairs more okA okB all w = w
times_within (suc n) older newer pairs more okA okB all w = times_within n older newer pairs (refined older newer more) okA okB all (refined_within older newer pairs more okA okB all w)

-- each type with each

row_holds : (A B m : ℕ) → B < m → holds (map (λ B. (A, B)) (numbers_below m)) A B ≡ true
row_holds A B zero l = absurd (omega arith)
row_holds A B (suc m) l = go (nat_eq m B) refl (row_holds A B m)
  where
    go : (b : Bool) → nat_eq m B ≡ b → (B < m → holds (map (λ B. (A, B)) (numbers_below m)) A B ≡ true) → ((nat_eq A A && nat_eq m B) || holds (map (λ B. (A, B)) (numbers_below m)) A B) ≡ true
    go true e more = ap₂ (λ x y. (x && y) || holds (map (λ B. (A, B)) (numbers_below m)) A B) (eq-eqb A A refl) e
    go false e more =
        let below : B < m = omega (arith, l, eqb-false m B e) in
        ap₂ (λ x y. (x && y) || holds (map (λ B. (A, B)) (numbers_below m)) A B) (eq-eqb A A refl) e ∙ more below

pub rows_hold : (A B n m : ℕ) → A < n → B < m → holds (flat_map (λ A. map (λ B. (A, B)) (numbers_below m)) (numbers_below n)) A B ≡ true
rows_hold A B zero m a b = absurd (omega arith)
rows_hold A B (suc n) m a b = list_any-append (λ p. nat_eq p.0 A && nat_eq p.1 B) (map (λ B. (n, B)) (numbers_below m)) rest ∙ go (nat_eq n A) refl (rows_hold A B n m)
  where
    rest : TypePairs
    rest = flat_map (λ A. map (λ B. (A, B)) (numbers_below m)) (numbers_below n)

    go : (c : Bool) → nat_eq n A ≡ c → (A < n → B < m → holds (flat_map (λ A. map (λ B. (A, B)) (numbers_below m)) (numbers_below n)) A B ≡ true) → (holds (map (λ B. (n, B)) (numbers_below m)) A B || holds (flat_map (λ A. map (λ B. (A, B)) (numbers_below m)) (numbers_below n)) A B) ≡ true
    go true e more = ap (λ (x : ℕ). holds (map (λ B. (x, B)) (numbers_below m)) A B || holds rest A B) (eqb-true n A e) ∙ ap (λ b. b || holds rest A B) (row_holds A B m b)
    go false e more = ap (λ b. holds (map (λ B. (n, B)) (numbers_below m)) A B || b) (more (omega (arith, a, eqb-false n A e)) b) ∙ or-true (holds (map (λ B. (n, B)) (numbers_below m)) A B)

-- THE TEST

-- a set of pairs that match, which holds every such set, holds what reduces
pub greatest_reduces : (older newer : Schema) (pairs : TypePairs) (A B : ℕ) → all_match pairs older newer ≡ true → ((others : TypePairs) → all_match others older newer ≡ true → Within older newer others pairs) → A < length older → B < length newer →
    Reduced older A newer B ↔ IsTrue (holds pairs A B)
greatest_reduces older newer pairs A B all greatest a b = (λ r. (greatest r.pairs r.each).each A B a b r.first, λ h. record { pairs = pairs; first = h; each = all })

pub reduced_is_test : (older newer : Schema) (A B : ℕ) → schema_valid older ≡ true → schema_valid newer ≡ true → A < length older → B < length newer → Reduced older A newer B ↔ IsTrue (is_reduced older A newer B)
reduced_is_test older newer A B okA okB = greatest_reduces older newer (greatest_reduction older newer) A B (greatest_matches older newer)
    (λ others all. times_within (length (all_pairs older newer)) older newer others (all_pairs older newer) okA okB all (record { each = λ A B a b h. rows_hold A B (length older) (length newer) a b }))
