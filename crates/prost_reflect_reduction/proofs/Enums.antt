-- Sets of the numbers of enums, and of pairs of enums that are the same.
use Rattle.std.specs.Prelude.{◌≡◌, ◌+◌, ◌<◌, ◌≤◌, ◌&&◌, ◌||◌, ◌∷◌, ◌++◌}
use Rattle.prost_reflect_reduction.proofs.Common.{ℕ, ℤ, Bool, true, false, cond, List, [], length, take, get_or, zero, suc, refl, ap, ap₂, sym, ◌∙◌, subst, arith, nat_eq, true≢false, slice_get, nat_cmp, int_cmp, int_eq, is_eq, ordering_then, list_any, list_all, BTreeSet, contains, eqb-true, take_more, all_among, same_scalar_kind, EnumRow, enum_kind, table_numbers, HasNumbers, AreSameEnums}
use Rattle.std.proofs.lemmas.Bool.Decides.{Decides-int_eq}
use Rattle.prost_reflect_tables.specs.declared.tables.EnumValueTable.{EnumValueTable}
use Rattle.prost_reflect_reduction.proofs.Walking.{same_pair}

-- NUMBERS

turned : (a b : ℤ) → int_eq a b ≡ int_eq b a
turned a b = grind (arith, Decides-int_eq a b, Decides-int_eq b a)

any_behind : (xs : List EnumValueTable) (x : EnumValueTable) (z : ℤ) → list_any (int_eq z) (table_numbers (xs ++ x ∷ [])) ≡ (list_any (int_eq z) (table_numbers xs) || int_eq z x.number)
any_behind [] x z = or_false (int_eq z x.number)
  where
    or_false : (b : Bool) → (b || false) ≡ b
    or_false true = refl
    or_false false = refl
any_behind (y ∷ xs) x z = go (int_eq z y.number) (any_behind xs x z)
  where
    go : (b : Bool) → list_any (int_eq z) (table_numbers (xs ++ x ∷ [])) ≡ (list_any (int_eq z) (table_numbers xs) || int_eq z x.number) → (b || list_any (int_eq z) (table_numbers (xs ++ x ∷ []))) ≡ ((b || list_any (int_eq z) (table_numbers xs)) || int_eq z x.number)
    go true e = refl
    go false e = e

pub no_numbers : (set : BTreeSet ℤ) → set.keys ≡ [] → HasNumbers set []
unfolding HasNumbers
no_numbers set h = λ z. ap (list_any _) h

pub number_more : (old new : BTreeSet ℤ) (values : List EnumValueTable) (i : ℕ) (x : EnumValueTable) → i < length values → x ≡ get_or values i x → ((z : ℤ) → contains int_cmp new z ≡ cond (is_eq (int_cmp x.number z)) true (contains int_cmp old z)) →
    HasNumbers old (table_numbers (take i values)) → HasNumbers new (table_numbers (take (i + 1) values))
unfolding HasNumbers
number_more old new values i x h e updates has = λ z.
    updates z ∙ (ap₂ (λ b c. cond b true c) (turned x.number z) (has z) ∙ (either (int_eq z x.number) (list_any (int_eq z) (table_numbers (take i values))) ∙
    sym (ap (λ (ys : List EnumValueTable). list_any (int_eq z) (table_numbers ys)) (take_more values i x h ∙ ap (λ (y : EnumValueTable). take i values ++ y ∷ []) (sym e)) ∙ any_behind (take i values) x z)))
  where
    either : (b c : Bool) → cond b true c ≡ (c || b)
    either true true = refl
    either true false = refl
    either false true = refl
    either false false = refl

pub all_numbers : (set : BTreeSet ℤ) (values : List EnumValueTable) (i : ℕ) → length values ≤ i → HasNumbers set (table_numbers (take i values)) → HasNumbers set (table_numbers values)
all_numbers set values i h has = subst (λ (ys : List EnumValueTable). HasNumbers set (table_numbers ys)) (whole i values h) has
  where
    whole : (i : ℕ) (xs : List EnumValueTable) → length xs ≤ i → take i xs ≡ xs
    whole zero [] h = refl
    whole zero (x ∷ xs) h = absurd (omega arith)
    whole (suc i) [] h = refl
    whole (suc i) (x ∷ xs) h = ap (λ l. x ∷ l) (whole i xs (omega arith))

-- what is in the set is among the numbers
pub among_is : (set : BTreeSet ℤ) (xs ys : List ℤ) → HasNumbers set ys → list_all (contains int_cmp set) xs ≡ all_among xs ys
unfolding HasNumbers
among_is set [] ys has = refl
among_is set (x ∷ xs) ys has = ap₂ (λ a b. a && b) (has x) (among_is set xs ys has)

-- PAIRS

pub no_pairs : (set : BTreeSet (ℕ × ℕ)) (older newer : List EnumRow) → set.keys ≡ [] → AreSameEnums set older newer
unfolding AreSameEnums
no_pairs set older newer h = λ q has. absurd (true≢false (sym has ∙ ap (list_any _) h))

pub pair_noted : (set : BTreeSet (ℕ × ℕ)) (older newer : List EnumRow) (q : ℕ × ℕ) → AreSameEnums set older newer → contains (λ x y. ordering_then (nat_cmp x.0 y.0) (nat_cmp x.1 y.1)) set q ≡ true → true ≡ same_scalar_kind (enum_kind (slice_get older q.0)) (enum_kind (slice_get newer q.1))
unfolding AreSameEnums
pair_noted set older newer q are has = sym (are q has)

pub pair_more : (old new : BTreeSet (ℕ × ℕ)) (older newer : List EnumRow) (k : ℕ × ℕ) → AreSameEnums old older newer → true ≡ same_scalar_kind (enum_kind (slice_get older k.0)) (enum_kind (slice_get newer k.1)) →
    ((q : ℕ × ℕ) → contains (λ x y. ordering_then (nat_cmp x.0 y.0) (nat_cmp x.1 y.1)) new q ≡ cond (is_eq (ordering_then (nat_cmp k.0 q.0) (nat_cmp k.1 q.1))) true (contains (λ x y. ordering_then (nat_cmp x.0 y.0) (nat_cmp x.1 y.1)) old q)) → AreSameEnums new older newer
unfolding AreSameEnums
pair_more old new older newer k are same updates = λ q has. go q (nat_eq k.0 q.0) (nat_eq k.1 q.1) refl refl (sym (updates q ∙ ap (λ b. cond b true (contains (λ x y. ordering_then (nat_cmp x.0 y.0) (nat_cmp x.1 y.1)) old q)) (same_pair k q)) ∙ has)
  where
    go : (q : ℕ × ℕ) (b c : Bool) → nat_eq k.0 q.0 ≡ b → nat_eq k.1 q.1 ≡ c → cond (b && c) true (contains (λ x y. ordering_then (nat_cmp x.0 y.0) (nat_cmp x.1 y.1)) old q) ≡ true → same_scalar_kind (enum_kind (slice_get older q.0)) (enum_kind (slice_get newer q.1)) ≡ true
    go q true true e d has = sym (ap₂ (λ a b. same_scalar_kind (enum_kind (slice_get older a)) (enum_kind (slice_get newer b))) (eqb-true k.0 q.0 e) (eqb-true k.1 q.1 d)) ∙ sym same
    go q true false e d has = are q has
    go q false c e d has = are q has
