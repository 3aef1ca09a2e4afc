-- Pairs that are listed once each are no more than all pairs, and what a walk over them keeps.
use Rattle.std.specs.Prelude.{◌≡◌, ◌+◌, ◌≤◌, ◌<◌, ◌&&◌, ◌||◌, ◌∷◌, ◌++◌}
use Rattle.prost_reflect_reduction.proofs.Common.{⊎_elim, ℕ, zero, suc, nat_eq, nat_lt, Bool, true, false, not, cond, List, [], length, map, take, drop, get_or, drop-cons, add-one, flat_map, Option, Some, None, refl, ap, ap₂, sym, ◌∙◌, arith, true≢false, eq-eqb, subst, nat_cmp, is_eq, ordering_then, list_any, list_all, IsDistinct, AllByRecursion, BTreeSet, contains, cases_lt, ne_eqb, eqb-true, eqb-false, ltb-true, lt-ltb, and_parts, and_from, take_more, length-map, Kind, MessageOf, GroupOf, Field, Schema, message_type, known, field_of, kind_valid, field_valid, schema_valid, TypePairs, holds, Reduced, FieldRow, field_row, FieldTable, Tables, schema_message, schema_from, rows_of, schema_of, numbers_below, all_pairs, known_valid, found_valid, checked_field, kinds_ask, asked_beside, field_asks, all_held, types_alike, types_ask, all_alike, all_ask, Walked, joined, IsSetOf, Walking}
use Rattle.std.specs.declared.cmp.Ordering.{Ordering}
use Rattle.std.specs.declared.cmp.Ordering.TheVariants.{Less, Equal, Greater}
use Rattle.std.specs.Cmp.{nat_cmp_is, IsEquivalence}
use Rattle.std.proofs.lemmas.List.Folds.{list_any-append, list_all-append}
use Rattle.std.proofs.lemmas.Map.Made.{length-le_from_is_member}
use Rattle.prost_reflect_reduction.proofs.Reaching.{needed_asks, needed_alike, walked_reduces}

-- THE ORDER OF A SET

both_equal : (a b : Ordering) → is_eq (ordering_then a b) ≡ is_eq a && is_eq b
both_equal Less b = refl
both_equal Equal b = refl
both_equal Greater b = refl

equal_numbers : (a b : ℕ) → is_eq (nat_cmp a b) ≡ nat_eq a b
equal_numbers a b =
    ⊎_elim
    (λ (less : a < b). ap is_eq (sym (nat_cmp_is a b Less less)) ∙ sym (ne_eqb a b (λ same. absurd (omega arith))))
    (λ back. ⊎_elim
    (λ (more : b < a). ap is_eq (sym (nat_cmp_is a b Greater more)) ∙ sym (ne_eqb a b (λ same. absurd (omega arith))))
    (λ fore. let same : a ≡ b = omega arith in ap is_eq (sym (nat_cmp_is a b Equal same)) ∙ sym (eq-eqb a b same))
    (cases_lt b a))
    (cases_lt a b)

pub same_pair : (k q : ℕ × ℕ) → is_eq (ordering_then (nat_cmp k.0 q.0) (nat_cmp k.1 q.1)) ≡ (nat_eq k.0 q.0 && nat_eq k.1 q.1)
same_pair k q = both_equal (nat_cmp k.0 q.0) (nat_cmp k.1 q.1) ∙ ap₂ (λ a b. a && b) (equal_numbers k.0 q.0) (equal_numbers k.1 q.1)

turned : (a b : ℕ) → nat_eq a b ≡ nat_eq b a
turned a b = go (nat_eq a b) refl
  where
    go : (x : Bool) → nat_eq a b ≡ x → nat_eq a b ≡ nat_eq b a
    go true e = e ∙ sym (eq-eqb b a (sym (eqb-true a b e)))
    go false e = e ∙ sym (ne_eqb b a (λ s. true≢false (sym (eq-eqb a b (sym s)) ∙ e)))

-- ONE PAIR MORE

pub held_behind : (pairs : TypePairs) (k : ℕ × ℕ) (A B : ℕ) → holds (pairs ++ k ∷ []) A B ≡ (holds pairs A B || (nat_eq k.0 A && nat_eq k.1 B))
held_behind pairs k A B = list_any-append (λ p. nat_eq p.0 A && nat_eq p.1 B) pairs (k ∷ []) ∙ ap (λ b. holds pairs A B || b) (or_false (nat_eq k.0 A && nat_eq k.1 B))
  where
    or_false : (b : Bool) → (b || false) ≡ b
    or_false true = refl
    or_false false = refl

pub joined_append : (pairs xs ys : TypePairs) → joined pairs (xs ++ ys) ≡ joined (joined pairs xs) ys
unfolding joined
joined_append pairs [] ys = refl
joined_append pairs (x ∷ xs) ys = joined_append (cond (holds pairs x.0 x.1) pairs (pairs ++ x ∷ [])) xs ys

pub joined_there : (pairs : TypePairs) (k : ℕ × ℕ) → holds pairs k.0 k.1 ≡ true → joined pairs (k ∷ []) ≡ pairs
unfolding joined
joined_there pairs k h = ap (λ b. cond b pairs (pairs ++ k ∷ [])) h

pub joined_new : (pairs : TypePairs) (k : ℕ × ℕ) → holds pairs k.0 k.1 ≡ false → joined pairs (k ∷ []) ≡ pairs ++ k ∷ []
unfolding joined
joined_new pairs k h = ap (λ b. cond b pairs (pairs ++ k ∷ [])) h

pub set_more : (set new : BTreeSet (ℕ × ℕ)) (pairs : TypePairs) (k : ℕ × ℕ) → IsSetOf set pairs → ((q : ℕ × ℕ) → contains (λ x y. ordering_then (nat_cmp x.0 y.0) (nat_cmp x.1 y.1)) new q ≡ cond (is_eq (ordering_then (nat_cmp k.0 q.0) (nat_cmp k.1 q.1))) true (contains (λ x y. ordering_then (nat_cmp x.0 y.0) (nat_cmp x.1 y.1)) set q)) → IsSetOf new (pairs ++ k ∷ [])
unfolding IsSetOf
set_more set new pairs k is updates = λ q. updates q ∙ (ap₂ (λ a b. cond a true b) (same_pair k q) (is q) ∙ (either (nat_eq k.0 q.0 && nat_eq k.1 q.1) (holds pairs q.0 q.1) ∙ sym (held_behind pairs k q.0 q.1)))
  where
    either : (b c : Bool) → cond b true c ≡ (c || b)
    either true true = refl
    either true false = refl
    either false true = refl
    either false false = refl

pub set_is : (set : BTreeSet (ℕ × ℕ)) (pairs : TypePairs) (k : ℕ × ℕ) → IsSetOf set pairs → contains (λ x y. ordering_then (nat_cmp x.0 y.0) (nat_cmp x.1 y.1)) set k ≡ holds pairs k.0 k.1
unfolding IsSetOf
set_is set pairs k is = is k

pub was_new : (b : Bool) → not b ≡ true → b ≡ false
was_new false e = refl
was_new true e = sym e

pub was_there : (b : Bool) → not b ≡ false → b ≡ true
was_there true e = refl
was_there false e = sym e

pub joined_next : (pairs : TypePairs) (g : Field → TypePairs) (s : FieldRow → Field) (items : List FieldTable) (i : ℕ) (x : FieldTable) → i < length items → x ≡ get_or items i x →
    joined (joined pairs (g (s (field_row x)))) (flat_map g (map s (map field_row (drop (i + 1) items)))) ≡ joined pairs (flat_map g (map s (map field_row (drop i items))))
joined_next pairs g s items i x h e = ap (λ y. joined (joined pairs (g (s (field_row y)))) (flat_map g (map s (map field_row (drop (i + 1) items))))) e ∙ at_item
  where
    at_item : joined (joined pairs (g (s (field_row (get_or items i x))))) (flat_map g (map s (map field_row (drop (i + 1) items)))) ≡ joined pairs (flat_map g (map s (map field_row (drop i items))))
    at_item = rw (drop-cons items i x, add-one i) (sym (joined_append pairs (g (s (field_row (get_or items i x)))) (flat_map g (map s (map field_row (drop (suc i) items))))))

pub joined_done : (pairs : TypePairs) (g : Field → TypePairs) (s : FieldRow → Field) (items : List FieldTable) (i : ℕ) → length items ≤ i → joined pairs (flat_map g (map s (map field_row (drop i items)))) ≡ pairs
unfolding joined
joined_done pairs g s [] zero h = refl
joined_done pairs g s [] (suc i) h = refl
joined_done pairs g s (x ∷ items) zero h = absurd (omega arith)
joined_done pairs g s (x ∷ items) (suc i) h = joined_done pairs g s items i (omega arith)

pub joined_none : (pairs : TypePairs) → joined pairs [] ≡ pairs
unfolding joined
joined_none pairs = refl

-- ALL PAIRS

laws : IsEquivalence (λ (q p : ℕ × ℕ). nat_eq p.0 q.0 && nat_eq p.1 q.1)
laws = record {
  refl = λ x. ap₂ (λ a b. a && b) (eq-eqb x.0 x.0 refl) (eq-eqb x.1 x.1 refl);
  symm = λ x y. ap₂ (λ a b. a && b) (turned y.0 x.0) (turned y.1 x.1);
  congr = λ x y z e.
      let (a, b) = and_parts (nat_eq y.0 x.0) (nat_eq y.1 x.1) e in
      ap₂ (λ c d. nat_eq z.0 c && nat_eq z.1 d) (sym (eqb-true y.0 x.0 a)) (sym (eqb-true y.1 x.1 b));
}

held_ranged : (n m : ℕ) (pairs : TypePairs) (A B : ℕ) → list_all (λ p. nat_lt p.0 n && nat_lt p.1 m) pairs ≡ true → holds pairs A B ≡ true → (nat_lt A n ≡ true) × (nat_lt B m ≡ true)
held_ranged n m [] A B all h = absurd (true≢false (sym h))
held_ranged n m (p ∷ pairs) A B all h =
    let (one, more) = and_parts (nat_lt p.0 n && nat_lt p.1 m) (list_all (λ p. nat_lt p.0 n && nat_lt p.1 m) pairs) all in
    go (nat_eq p.0 A) (nat_eq p.1 B) refl refl h (and_parts (nat_lt p.0 n) (nat_lt p.1 m) one) (λ e. held_ranged n m pairs A B more e)
  where
    go : (b c : Bool) → nat_eq p.0 A ≡ b → nat_eq p.1 B ≡ c → ((b && c) || holds pairs A B) ≡ true → (nat_lt p.0 n ≡ true) × (nat_lt p.1 m ≡ true) → (holds pairs A B ≡ true → (nat_lt A n ≡ true) × (nat_lt B m ≡ true)) → (nat_lt A n ≡ true) × (nat_lt B m ≡ true)
    go true true d e h one more = (ap (λ x. nat_lt x n) (sym (eqb-true p.0 A d)) ∙ one.0, ap (λ x. nat_lt x m) (sym (eqb-true p.1 B e)) ∙ one.1)
    go true false d e h one more = more h
    go false c d e h one more = more h

-- as in Refining, where it is private
row_holds : (A B m : ℕ) → B < m → holds (map (λ B. (A, B)) (numbers_below m)) A B ≡ true
row_holds A B zero l = absurd (omega arith)
row_holds A B (suc m) l = go (nat_eq m B) refl (row_holds A B m)
  where
    go : (b : Bool) → nat_eq m B ≡ b → (B < m → holds (map (λ B. (A, B)) (numbers_below m)) A B ≡ true) → ((nat_eq A A && nat_eq m B) || holds (map (λ B. (A, B)) (numbers_below m)) A B) ≡ true
    go true e more = ap₂ (λ x y. (x && y) || holds (map (λ B. (A, B)) (numbers_below m)) A B) (eq-eqb A A refl) e
    go false e more =
        let below : B < m = omega (arith, l, eqb-false m B e) in
        ap₂ (λ x y. (x && y) || holds (map (λ B. (A, B)) (numbers_below m)) A B) (eq-eqb A A refl) e ∙ more below

rows_hold : (A B n m : ℕ) → A < n → B < m → holds (flat_map (λ A. map (λ B. (A, B)) (numbers_below m)) (numbers_below n)) A B ≡ true
rows_hold A B zero m a b = absurd (omega arith)
rows_hold A B (suc n) m a b = list_any-append (λ p. nat_eq p.0 A && nat_eq p.1 B) (map (λ B. (n, B)) (numbers_below m)) rest ∙ go (nat_eq n A) refl (rows_hold A B n m)
  where
    rest : TypePairs
    rest = flat_map (λ A. map (λ B. (A, B)) (numbers_below m)) (numbers_below n)

    or_true : (b : Bool) → (b || true) ≡ true
    or_true true = refl
    or_true false = refl

    go : (c : Bool) → nat_eq n A ≡ c → (A < n → B < m → holds (flat_map (λ A. map (λ B. (A, B)) (numbers_below m)) (numbers_below n)) A B ≡ true) → (holds (map (λ B. (n, B)) (numbers_below m)) A B || holds (flat_map (λ A. map (λ B. (A, B)) (numbers_below m)) (numbers_below n)) A B) ≡ true
    go true e more = ap (λ (x : ℕ). holds (map (λ B. (x, B)) (numbers_below m)) A B || holds rest A B) (eqb-true n A e) ∙ ap (λ b. b || holds rest A B) (row_holds A B m b)
    go false e more = ap (λ b. holds (map (λ B. (n, B)) (numbers_below m)) A B || b) (more (omega (arith, a, eqb-false n A e)) b) ∙ or_true (holds (map (λ B. (n, B)) (numbers_below m)) A B)

-- what is listed once each is no more than all pairs
pub listed_few : (older : Schema) (A : ℕ) (newer : Schema) (B next : ℕ) (seen : TypePairs) → Walking older A newer B next seen → length seen ≤ length (all_pairs older newer)
listed_few older A newer B next seen w =
    length-le_from_is_member laws seen (all_pairs older newer) w.distinct
    (λ q h. let (a, b) = held_ranged (length older) (length newer) seen q.0 q.1 w.ranged h in rows_hold q.0 q.1 (length older) (length newer) (ltb-true q.0 (length older) a) (ltb-true q.1 (length newer) b))

-- WHAT JOINING KEEPS

all_joined_pairs : (test : ℕ × ℕ → Bool) (pairs xs : TypePairs) → list_all test pairs ≡ true → list_all test xs ≡ true → list_all test (joined pairs xs) ≡ true
unfolding joined
all_joined_pairs test pairs [] a b = a
all_joined_pairs test pairs (x ∷ xs) a b = go (holds pairs x.0 x.1) (and_parts (test x) (list_all test xs) b) (λ ps h k. all_joined_pairs test ps xs h k)
  where
    go : (c : Bool) → (test x ≡ true) × (list_all test xs ≡ true) → ((ps : TypePairs) → list_all test ps ≡ true → list_all test xs ≡ true → list_all test (joined ps xs) ≡ true) → list_all test (joined (cond c pairs (pairs ++ x ∷ [])) xs) ≡ true
    go true p more = more pairs a p.1
    go false p more = more (pairs ++ x ∷ []) (list_all-append test pairs (x ∷ []) ∙ and_from _ _ a (and_from _ _ p.0 refl)) p.1

held_joined : (pairs xs : TypePairs) (A B : ℕ) → holds pairs A B ≡ true → holds (joined pairs xs) A B ≡ true
unfolding joined
held_joined pairs [] A B h = h
held_joined pairs (x ∷ xs) A B h = go (holds pairs x.0 x.1) (λ ps k. held_joined ps xs A B k)
  where
    go : (c : Bool) → ((ps : TypePairs) → holds ps A B ≡ true → holds (joined ps xs) A B ≡ true) → holds (joined (cond c pairs (pairs ++ x ∷ [])) xs) A B ≡ true
    go true more = more pairs h
    go false more = more (pairs ++ x ∷ []) (held_behind pairs x A B ∙ ap (λ b. b || (nat_eq x.0 A && nat_eq x.1 B)) h)

all_held_joined : (pairs xs qs : TypePairs) → all_held pairs qs ≡ true → all_held (joined pairs xs) qs ≡ true
all_held_joined pairs xs [] h = refl
all_held_joined pairs xs (q ∷ qs) h = let (a, b) = and_parts (holds pairs q.0 q.1) (all_held pairs qs) h in and_from _ _ (held_joined pairs xs q.0 q.1 a) (all_held_joined pairs xs qs b)

asked_joined : (pairs xs : TypePairs) → all_held (joined pairs xs) xs ≡ true
unfolding joined
asked_joined pairs [] = refl
asked_joined pairs (x ∷ xs) = go (holds pairs x.0 x.1) refl (λ ps. asked_joined ps xs)
  where
    go : (c : Bool) → holds pairs x.0 x.1 ≡ c → ((ps : TypePairs) → all_held (joined ps xs) xs ≡ true) → all_held (joined (cond c pairs (pairs ++ x ∷ [])) xs) (x ∷ xs) ≡ true
    go true e more = and_from _ _ (held_joined pairs xs x.0 x.1 e) (more pairs)
    go false e more = and_from _ _ (held_joined (pairs ++ x ∷ []) xs x.0 x.1 (held_behind pairs x x.0 x.1 ∙ ap₂ (λ a b. a || b) e (laws.refl x))) (more (pairs ++ x ∷ []))

kept : (n : ℕ) (ps : TypePairs) (x : ℕ × ℕ) → n ≤ length ps → take n (ps ++ x ∷ []) ≡ take n ps
kept zero ps x h = refl
kept (suc n) [] x h = absurd (omega arith)
kept (suc n) (p ∷ ps) x h = ap (λ l. p ∷ l) (kept n ps x (omega arith))

pub longer : (ps : TypePairs) (x : ℕ × ℕ) → length ps ≤ length (ps ++ x ∷ [])
longer [] x = omega arith
longer (p ∷ ps) x = let l = longer ps x in omega (arith, l)

take_joined : (n : ℕ) (pairs xs : TypePairs) → n ≤ length pairs → take n (joined pairs xs) ≡ take n pairs
unfolding joined
take_joined n pairs [] h = refl
take_joined n pairs (x ∷ xs) h = go (holds pairs x.0 x.1) (λ ps k. take_joined n ps xs k)
  where
    go : (c : Bool) → ((ps : TypePairs) → n ≤ length ps → take n (joined ps xs) ≡ take n ps) → take n (joined (cond c pairs (pairs ++ x ∷ [])) xs) ≡ take n pairs
    go true more = more pairs h
    go false more = let l = longer pairs x in more (pairs ++ x ∷ []) (omega (arith, h, l)) ∙ kept n pairs x h

each_push : (P : ℕ × ℕ → Type 0) (ps : TypePairs) (x : ℕ × ℕ) → AllByRecursion P ps → P x → AllByRecursion P (ps ++ x ∷ [])
each_push P [] x a h = (h, tt)
each_push P (p ∷ ps) x a h = (a.0, each_push P ps x a.1 h)

distinct_push : (ps : TypePairs) (x : ℕ × ℕ) → IsDistinct (λ q p. nat_eq p.0 q.0 && nat_eq p.1 q.1) ps → holds ps x.0 x.1 ≡ false → IsDistinct (λ q p. nat_eq p.0 q.0 && nat_eq p.1 q.1) (ps ++ x ∷ [])
unfolding IsDistinct
distinct_push [] x d h = (tt, tt)
distinct_push (p ∷ ps) x d h =
    let (a, b) = neither (nat_eq p.0 x.0 && nat_eq p.1 x.1) (holds ps x.0 x.1) h in
    (each_push (λ y. (nat_eq y.0 p.0 && nat_eq y.1 p.1) ≡ false) ps x d.0 (laws.symm p x ∙ a), distinct_push ps x d.1 b)
  where
    neither : (a b : Bool) → (a || b) ≡ false → (a ≡ false) × (b ≡ false)
    neither false false e = (refl, refl)
    neither false true e = absurd (true≢false e)
    neither true b e = absurd (true≢false e)

distinct_joined : (pairs xs : TypePairs) → IsDistinct (λ q p. nat_eq p.0 q.0 && nat_eq p.1 q.1) pairs → IsDistinct (λ q p. nat_eq p.0 q.0 && nat_eq p.1 q.1) (joined pairs xs)
unfolding joined
distinct_joined pairs [] d = d
distinct_joined pairs (x ∷ xs) d = go (holds pairs x.0 x.1) refl (λ ps k. distinct_joined ps xs k)
  where
    go : (c : Bool) → holds pairs x.0 x.1 ≡ c → ((ps : TypePairs) → IsDistinct (λ q p. nat_eq p.0 q.0 && nat_eq p.1 q.1) ps → IsDistinct (λ q p. nat_eq p.0 q.0 && nat_eq p.1 q.1) (joined ps xs)) → IsDistinct (λ q p. nat_eq p.0 q.0 && nat_eq p.1 q.1) (joined (cond c pairs (pairs ++ x ∷ [])) xs)
    go true e more = more pairs d
    go false e more = more (pairs ++ x ∷ []) (distinct_push pairs x d e)

-- what is asked for stands in the schemas

kind_ranged : (older newer : Schema) (k l : Kind) → kind_valid older k ≡ true → kind_valid newer l ≡ true → list_all (λ p. nat_lt p.0 (length older) && nat_lt p.1 (length newer)) (kinds_ask k l) ≡ true
kind_ranged older newer (MessageOf A) (MessageOf B) a b = and_from _ _ (and_from _ _ (and_parts (nat_lt A (length older)) _ a).0 (and_parts (nat_lt B (length newer)) _ b).0) refl
kind_ranged older newer (GroupOf A) (GroupOf B) a b = and_from _ _ (and_from _ _ (and_parts (nat_lt A (length older)) _ a).0 (and_parts (nat_lt B (length newer)) _ b).0) refl
kind_ranged older newer _ _ a b = refl

field_ranged : (older newer : Schema) (newers : List Field) (f : Field) → field_valid older f ≡ true → list_all (field_valid newer) newers ≡ true → list_all (λ p. nat_lt p.0 (length older) && nat_lt p.1 (length newer)) (field_asks newers f) ≡ true
field_ranged older newer newers f ok oks = go (field_of newers f.number) refl
  where
    go : (o : Option Field) → field_of newers f.number ≡ o → list_all (λ p. nat_lt p.0 (length older) && nat_lt p.1 (length newer)) (asked_beside f o) ≡ true
    go None e = refl
    go (Some g) e = kind_ranged older newer f.value_type.kind g.value_type.kind (checked_field older f ok).kind (checked_field newer g (found_valid newer newers f.number g oks e)).kind

fields_ranged : (older newer : Schema) (newers fields : List Field) → list_all (field_valid older) fields ≡ true → list_all (field_valid newer) newers ≡ true → list_all (λ p. nat_lt p.0 (length older) && nat_lt p.1 (length newer)) (flat_map (field_asks newers) fields) ≡ true
fields_ranged older newer newers [] ok oks = refl
fields_ranged older newer newers (f ∷ fields) ok oks =
    let (a, b) = and_parts (field_valid older f) (list_all (field_valid older) fields) ok in
    list_all-append _ (field_asks newers f) (flat_map (field_asks newers) fields) ∙ and_from _ _ (field_ranged older newer newers f a oks) (fields_ranged older newer newers fields b oks)

-- THE WALK

at_place : (seen : TypePairs) (i : ℕ) (d : ℕ × ℕ) → i < length seen → holds seen (get_or seen i d).0 (get_or seen i d).1 ≡ true
at_place [] i d h = absurd (omega arith)
at_place (p ∷ seen) zero d h = ap (λ b. b || holds seen p.0 p.1) (laws.refl p)
at_place (p ∷ seen) (suc i) d h = ap (λ b. (nat_eq p.0 q.0 && nat_eq p.1 q.1) || b) (at_place seen i d (omega arith)) ∙ or_true (nat_eq p.0 q.0 && nat_eq p.1 q.1)
  where
    q : ℕ × ℕ
    q = get_or seen i d

    or_true : (b : Bool) → (b || true) ≡ true
    or_true true = refl
    or_true false = refl

held_at : (seen : TypePairs) (i : ℕ) (x : ℕ × ℕ) → i < length seen → x ≡ get_or seen i x → holds seen x.0 x.1 ≡ true
held_at seen i x h e = ap (λ (y : ℕ × ℕ). holds seen y.0 y.1) e ∙ at_place seen i x h

pub walking_in : (older : Schema) (A : ℕ) (newer : Schema) (B i : ℕ) (seen : TypePairs) (x : ℕ × ℕ) → Walking older A newer B i seen → i < length seen → x ≡ get_or seen i x → (x.0 < length older) × (x.1 < length newer)
walking_in older A newer B i seen x w h e =
    let (a, b) = held_ranged (length older) (length newer) seen x.0 x.1 w.ranged (held_at seen i x h e) in
    (ltb-true x.0 (length older) a, ltb-true x.1 (length newer) b)

pub walking_far : (older : Schema) (A : ℕ) (newer : Schema) (B i : ℕ) (seen : TypePairs) (x : ℕ × ℕ) → schema_valid older ≡ true → Walking older A newer B i seen → i < length seen → x ≡ get_or seen i x → types_alike (message_type older x.0) (message_type newer x.1) ≡ false → Reduced older A newer B → false ≡ true
walking_far older A newer B i seen x ok w h e far r = sym far ∙ needed_alike older A newer B seen x.0 x.1 ok w.walked.needed (held_at seen i x h e) r

pub walking_done : (older : Schema) (A : ℕ) (newer : Schema) (B i : ℕ) (seen : TypePairs) → Walking older A newer B i seen → length seen ≤ i → Reduced older A newer B
walking_done older A newer B i seen w h =
    walked_reduces older A newer B seen (subst (λ done. Walked older A newer B done seen) (whole i seen h) w.walked)
  where
    whole : (i : ℕ) (xs : TypePairs) → length xs ≤ i → take i xs ≡ xs
    whole zero [] h = refl
    whole zero (x ∷ xs) h = absurd (omega arith)
    whole (suc i) [] h = refl
    whole (suc i) (x ∷ xs) h = ap (λ l. x ∷ l) (whole i xs (omega arith))

pub walking_start : (older : Schema) (A : ℕ) (newer : Schema) (B : ℕ) → A < length older → B < length newer → Walking older A newer B 0 (joined [] ((A, B) ∷ []))
unfolding joined all_alike all_ask IsDistinct
walking_start older A newer B a b = record {
  walked = record {
    first = ap (λ b. b || false) (laws.refl (A, B));
    needed = record { each = λ others all h. and_from _ _ h refl };
    alike = refl;
    asked = refl;
  };
  distinct = (tt, tt);
  ranged = and_from _ _ (and_from _ _ (lt-ltb A (length older) a) (lt-ltb B (length newer) b)) refl;
}

alike_more : (older newer : Schema) (ps : TypePairs) (x : ℕ × ℕ) → all_alike older newer ps ≡ true → types_alike (message_type older x.0) (message_type newer x.1) ≡ true → all_alike older newer (ps ++ x ∷ []) ≡ true
unfolding all_alike
alike_more older newer ps x h n = list_all-append (λ p. types_alike (message_type older p.0) (message_type newer p.1)) ps (x ∷ []) ∙ and_from _ _ h (and_from _ _ n refl)

ask_more : (older newer : Schema) (held ps : TypePairs) (x : ℕ × ℕ) → all_held held (all_ask older newer ps) ≡ true → all_held held (types_ask (message_type older x.0) (message_type newer x.1)) ≡ true → all_held held (all_ask older newer (ps ++ x ∷ [])) ≡ true
unfolding all_ask
ask_more older newer held [] x h n = list_all-append (λ q. holds held q.0 q.1) (types_ask (message_type older x.0) (message_type newer x.1)) [] ∙ and_from _ _ n refl
ask_more older newer held (p ∷ ps) x h n =
    let test : ℕ × ℕ → Bool = λ q. holds held q.0 q.1 in
    let one : TypePairs = types_ask (message_type older p.0) (message_type newer p.1) in
    let (a, b) = and_parts (list_all test one) (list_all test (all_ask older newer ps)) (sym (list_all-append test one (all_ask older newer ps)) ∙ h) in
    list_all-append test one (all_ask older newer (ps ++ x ∷ [])) ∙ and_from _ _ a (ask_more older newer held ps x b n)

pub walking_next : (older : Schema) (A : ℕ) (newer : Schema) (B i : ℕ) (seen : TypePairs) (x : ℕ × ℕ) → schema_valid older ≡ true → schema_valid newer ≡ true → Walking older A newer B i seen → i < length seen → x ≡ get_or seen i x → types_alike (message_type older x.0) (message_type newer x.1) ≡ true →
    Walking older A newer B (i + 1) (joined seen (types_ask (message_type older x.0) (message_type newer x.1)))
walking_next older A newer B i seen x okA okB w h e alike = record {
  walked = subst (λ done. Walked older A newer B done (joined seen asks)) (sym done_is) (record {
    first = held_joined seen asks A B w.walked.first;
    needed = record { each = λ others all first. all_joined_pairs (λ q. holds others q.0 q.1) seen asks (w.walked.needed.each others all first) ((needed_asks older A newer B seen x.0 x.1 okA w.walked.needed (held_at seen i x h e)).each others all first) };
    alike = alike_more older newer (take i seen) x w.walked.alike alike;
    asked = ask_more older newer (joined seen asks) (take i seen) x (all_held_joined seen asks (all_ask older newer (take i seen)) w.walked.asked) (asked_joined seen asks);
  });
  distinct = distinct_joined seen asks w.distinct;
  ranged = all_joined_pairs (λ p. nat_lt p.0 (length older) && nat_lt p.1 (length newer)) seen asks w.ranged (fields_ranged older newer (known newer x.1) (known older x.0) (known_valid older x.0 okA) (known_valid newer x.1 okB));
}
  where
    asks : TypePairs
    asks = types_ask (message_type older x.0) (message_type newer x.1)

    done_is : take (i + 1) (joined seen asks) ≡ take i seen ++ x ∷ []
    done_is = take_joined (i + 1) seen asks (omega arith) ∙ (take_more seen i x h ∙ ap (λ (y : ℕ × ℕ). take i seen ++ y ∷ []) (sym e))

-- WHAT THE TABLES SAY

pub shown_length : (tables : Tables) → length (schema_of tables) ≡ length (rows_of tables).messages
unfolding schema_from
shown_length tables = length-map (rows_of tables).messages (schema_message (rows_of tables))

pub set_empty : (set : BTreeSet (ℕ × ℕ)) → set.keys ≡ [] → IsSetOf set []
unfolding IsSetOf
set_empty set h = λ q. ap (list_any _) h
