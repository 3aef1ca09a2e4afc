-- What is first among places in order is first among them as they stand.
use Rattle.std.specs.Prelude.{◌≡◌, ◌+◌, ◌<◌, ◌≤◌, ◌&&◌, ◌∷◌}
use Rattle.prost_reflect_pool.proofs.Common.{ℕ, zero, suc, ℤ, pos, Bool, true, false, cond, List, [], map, length, get_or, Option, Some, refl, sym, ap, subst, ◌∙◌, arith, true≢false, find, position, slice_get, unwrap_or, option_map, bytes_eq, is_lt, is_eq, ordering_index, ordering_reverse, nat_cmp, int_cmp, int_eq, Ordering, position_from, IsNonDecreasingBy, slice_get-map, places_from, places_where, all_places, put_by, sorted_by, text_at, by_text, number_at, by_number}
use Rattle.std.specs.Cmp.{IsTotalOrder}
use Rattle.std.specs.Cmp.Lexicographic.{slice_cmp}
use Rattle.std.specs.declared.cmp.Ordering.TheVariants.{Less, Equal, Greater}
use Rattle.std.proofs.lemmas.Cmp.{nat_list_cmp_total, int_cmp_total}
use Rattle.std.proofs.lemmas.Map.Text.{is_eq-slice_cmp}
use Rattle.std.proofs.lemmas.Iterator.Adapters.{position_from-zero}

-- THE FIRST THAT PASSES

-- An item that passes is not put in front of another that does.
find_put : {X : Type 0} (lt : X → X → Bool) (p : X → Bool) → ((x y : X) → p x ≡ true → p y ≡ true → lt y x ≡ false) → (x : X) (ys : List X) → find p (put_by lt x ys) ≡ find p (x ∷ ys)
find_put lt p same x [] = refl
find_put {X} lt p same x (y ∷ ys) = go (lt y x) (p x) (p y) refl refl refl (find_put lt p same x ys)
  where
    go : (b c d : Bool) → lt y x ≡ b → p x ≡ c → p y ≡ d → find p (put_by lt x ys) ≡ cond (p x) (Some x) (find p ys) → find p (cond b (y ∷ put_by lt x ys) (x ∷ y ∷ ys)) ≡ cond (p x) (Some x) (cond (p y) (Some y) (find p ys))
    go false c d e f g more = refl
    go true true true e f g more = absurd (true≢false (sym e ∙ same x y f g))
    go true true false e f g more = rw g (more)
    go true false d e f g more = ap (λ r. cond (p y) (Some y) r) (more ∙ ap (λ c. cond c (Some x) (find p ys)) f) ∙ sym (ap (λ c. cond c (Some x) (cond (p y) (Some y) (find p ys))) f)

find_sorted : {X : Type 0} (lt : X → X → Bool) (p : X → Bool) → ((x y : X) → p x ≡ true → p y ≡ true → lt y x ≡ false) → (xs : List X) → find p (sorted_by lt xs) ≡ find p xs
find_sorted lt p same [] = refl
find_sorted lt p same (x ∷ xs) = find_put lt p same x (sorted_by lt xs) ∙ ap (λ r. cond (p x) (Some x) r) (find_sorted lt p same xs)

-- RANKS

abbrev AllFrom : {X : Type 0} → (X → ℕ) → ℕ → List X → Type 0
AllFrom rank n [] = Unit {0}
AllFrom rank n (y ∷ ys) = (n ≤ rank y) × AllFrom rank n ys

abbrev Up : {X : Type 0} → (X → ℕ) → List X → Type 0
Up rank [] = Unit {0}
Up rank (x ∷ xs) = AllFrom rank (rank x) xs × Up rank xs

all_lower : {X : Type 0} (rank : X → ℕ) (m n : ℕ) (ys : List X) → m ≤ n → AllFrom rank n ys → AllFrom rank m ys
all_lower rank m n [] h all = tt
all_lower rank m n (y ∷ ys) h all = (omega (arith, all.0), all_lower rank m n ys h all.1)

all_put : {X : Type 0} (lt : X → X → Bool) (rank : X → ℕ) (n : ℕ) (x : X) (ys : List X) → n ≤ rank x → AllFrom rank n ys → AllFrom rank n (put_by lt x ys)
all_put lt rank n x [] h all = (h, tt)
all_put lt rank n x (y ∷ ys) h all = go (lt y x) (all_put lt rank n x ys h all.1)
  where
    go : (b : Bool) → AllFrom rank n (put_by lt x ys) → AllFrom rank n (cond b (y ∷ put_by lt x ys) (x ∷ y ∷ ys))
    go true more = (all.0, more)
    go false more = (h, all)

record Ranks {X : Type 0} (lt : X → X → Bool) (rank : X → ℕ) : Type 0 where
  pub before : (x y : X) → lt y x ≡ true → rank y ≤ rank x
  pub behind : (x y : X) → lt y x ≡ false → rank x ≤ rank y

up_put : {X : Type 0} (lt : X → X → Bool) (rank : X → ℕ) → Ranks lt rank → (x : X) (ys : List X) → Up rank ys → Up rank (put_by lt x ys)
up_put lt rank ranks x [] h = (tt, tt)
up_put lt rank ranks x (y ∷ ys) h = go (lt y x) refl (up_put lt rank ranks x ys h.1)
  where
    go : (b : Bool) → lt y x ≡ b → Up rank (put_by lt x ys) → Up rank (cond b (y ∷ put_by lt x ys) (x ∷ y ∷ ys))
    go true e more = (all_put lt rank (rank y) x ys (ranks.before x y e) h.0, more)
    go false e more = ((ranks.behind x y e, all_lower rank (rank x) (rank y) ys (ranks.behind x y e) h.0), h)

up_sorted : {X : Type 0} (lt : X → X → Bool) (rank : X → ℕ) → Ranks lt rank → (xs : List X) → Up rank (sorted_by lt xs)
up_sorted lt rank ranks [] = tt
up_sorted lt rank ranks (x ∷ xs) = up_put lt rank ranks x (sorted_by lt xs) (up_sorted lt rank ranks xs)

all_at : {X : Type 0} (rank : X → ℕ) (n : ℕ) (ys : List X) (j : ℕ) (d : X) → AllFrom rank n ys → j < length ys → n ≤ rank (get_or ys j d)
all_at rank n [] j d all h = absurd (omega arith)
all_at rank n (y ∷ ys) zero d all h = all.0
all_at rank n (y ∷ ys) (suc j) d all h = all_at rank n ys j d all.1 (omega arith)

up_at : {X : Type 0} (rank : X → ℕ) (xs : List X) → Up rank xs → IsNonDecreasingBy rank xs
up_at rank [] h i j d le less = absurd (omega arith)
up_at rank (x ∷ xs) h zero zero d le less = omega arith
up_at rank (x ∷ xs) h zero (suc j) d le less = all_at rank (rank x) xs j d h.0 (omega arith)
up_at rank (x ∷ xs) h (suc i) zero d le less = absurd (omega arith)
up_at rank (x ∷ xs) h (suc i) (suc j) d le less = up_at rank xs h.1 i j d (omega arith) (omega arith)

-- ORDERS OF KEYS

reversed_less : (r s : Ordering) → r ≡ ordering_reverse s → s ≡ Less → r ≡ Greater
reversed_less r Less e f = e
reversed_less r Equal e f = cc
reversed_less r Greater e f = cc

reversed_greater : (r s : Ordering) → r ≡ ordering_reverse s → s ≡ Greater → r ≡ Less
reversed_greater r Less e f = cc
reversed_greater r Equal e f = cc
reversed_greater r Greater e f = e

reversed_equal : (r s : Ordering) → r ≡ ordering_reverse s → s ≡ Equal → r ≡ Equal
reversed_equal r Less e f = cc
reversed_equal r Equal e f = e
reversed_equal r Greater e f = cc

-- What stands before another compares with a third as less where the other does.
less_ranks : {K : Type 0} (R : K → K → Ordering) → IsTotalOrder R → (a b w : K) → R a b ≡ Less → ordering_index (R a w) ≤ ordering_index (R b w)
less_ranks {K} R o a b w e = go (R b w) refl
  where
    swapped : (r : Ordering) → R a w ≡ r → r ≡ Less → ordering_index (R a w) ≤ 0
    swapped r is less = omega (arith, ap ordering_index (is ∙ less))

    top : (r : Ordering) → ordering_index r ≤ 2
    top Less = omega arith
    top Equal = omega arith
    top Greater = omega arith

    go : (r : Ordering) → R b w ≡ r → ordering_index (R a w) ≤ ordering_index (R b w)
    go Less is = omega (arith, swapped Less (o.trans a b w e is) refl)
    go Equal is =
        let back : R b a ≡ Greater = reversed_less (R b a) (R a b) (o.antisymm b a) e in
        let tied : R w a ≡ Greater = sym (o.congr b w a is) ∙ back in
        let less : R a w ≡ Less = reversed_greater (R a w) (R w a) (o.antisymm a w) tied in
        omega (arith, swapped Less less refl)
    go Greater is = omega (arith, ap ordering_index is, top (R a w))

key_ranks : {X K : Type 0} (R : K → K → Ordering) → IsTotalOrder R → (key : X → K) (w : K) → Ranks (λ x y. is_lt (R (key x) (key y))) (λ x. ordering_index (R (key x) w))
key_ranks {X} {K} R o key w = record {
  before = λ x y e. less_ranks R o (key y) (key x) w (is_less (R (key y) (key x)) e);
  behind = λ x y e. not_less x y (R (key y) (key x)) refl e;
}
  where
    is_less : (r : Ordering) → is_lt r ≡ true → r ≡ Less
    is_less Less e = refl
    is_less Equal e = absurd (true≢false (sym e))
    is_less Greater e = absurd (true≢false (sym e))

    not_less : (x y : X) (r : Ordering) → R (key y) (key x) ≡ r → is_lt (R (key y) (key x)) ≡ false → ordering_index (R (key x) w) ≤ ordering_index (R (key y) w)
    not_less x y Less is e = absurd (true≢false (sym (ap is_lt is) ∙ e))
    not_less x y Equal is e = omega (arith, ap ordering_index (o.congr (key y) (key x) w is))
    not_less x y Greater is e = less_ranks R o (key x) (key y) w (reversed_greater (R (key x) (key y)) (R (key y) (key x)) (o.antisymm (key x) (key y)) is)

key_tied : {X K : Type 0} (R : K → K → Ordering) → IsTotalOrder R → (key : X → K) (w : K) (x y : X) → is_eq (R (key x) w) ≡ true → is_eq (R (key y) w) ≡ true → is_lt (R (key y) (key x)) ≡ false
key_tied R o key w x y e f =
    let first : R (key x) w ≡ Equal = is_equal (R (key x) w) e in
    let back : R w (key x) ≡ Equal = reversed_equal (R w (key x)) (R (key x) w) (o.antisymm w (key x)) first in
    ap is_lt (o.congr (key y) w (key x) (is_equal (R (key y) w) f) ∙ back)
  where
    is_equal : (r : Ordering) → is_eq r ≡ true → r ≡ Equal
    is_equal Less e = absurd (true≢false (sym e))
    is_equal Equal e = refl
    is_equal Greater e = absurd (true≢false (sym e))

-- What is found among items in the order of their keys.
pub key_found : {X K : Type 0} (R : K → K → Ordering) → IsTotalOrder R → (key : X → K) (w : K) (own places : List X) (r : Option X) → places ≡ sorted_by (λ i j. is_lt (R (key i) (key j))) own →
    (IsNonDecreasingBy (λ p. ordering_index (R (key p) w)) places → r ≡ find (λ p. is_eq (R (key p) w)) places) → r ≡ find (λ p. is_eq (R (key p) w)) own
key_found R o key w own places r e h =
    let up : IsNonDecreasingBy (λ p. ordering_index (R (key p) w)) places =
    subst (IsNonDecreasingBy (λ p. ordering_index (R (key p) w))) (sym e) (up_at (λ p. ordering_index (R (key p) w)) (sorted_by (λ i j. is_lt (R (key i) (key j))) own) (up_sorted (λ i j. is_lt (R (key i) (key j))) (λ p. ordering_index (R (key p) w)) (key_ranks R o key w) own)) in
    h up ∙ (ap (find (λ p. is_eq (R (key p) w))) e ∙ find_sorted (λ i j. is_lt (R (key i) (key j))) (λ p. is_eq (R (key p) w)) (key_tied R o key w) own)

-- PLACES OF ITEMS

-- The first of the places of items that pass, by a test of places that tells what one of items does.
places_found : {X : Type 0} (test q : X → Bool) (p : ℕ → Bool) (k : ℕ) (xs : List X) → ((i : ℕ) (x : X) → slice_get xs i ≡ Some x → p (k + i) ≡ q x) → find p (places_from test k xs) ≡ position_from (λ x. test x && q x) k xs
places_found test q p k [] h = refl
places_found {X} test q p k (x ∷ xs) h = go (test x) (places_found test q p (k + 1) xs (λ i y at. ap p (omega arith) ∙ h (suc i) y at))
  where
    here : p k ≡ q x
    here = ap p (omega arith) ∙ h 0 x refl

    go : (b : Bool) → find p (places_from test (k + 1) xs) ≡ position_from (λ y. test y && q y) (k + 1) xs → find p (cond b (k ∷ places_from test (k + 1) xs) (places_from test (k + 1) xs)) ≡ cond (b && q x) (Some k) (position_from (λ y. test y && q y) (k + 1) xs)
    go true more = ap (λ b. cond b (Some k) (find p (places_from test (k + 1) xs))) here ∙ ap (λ r. cond (q x) (Some k) r) more
    go false more = more

shown_places : {X Y : Type 0} (row : X → Y) (k : ℕ) (xs : List X) → places_from (λ (y : Y). true) k (map row xs) ≡ places_from (λ (x : X). true) k xs
shown_places row k [] = refl
shown_places row k (x ∷ xs) = ap (λ l. k ∷ l) (shown_places row (k + 1) xs)

-- BY TEXTS

abbrev pub text_order : List (List ℕ) → List ℕ → ℕ → Ordering
text_order texts w p = slice_cmp nat_cmp (text_at texts p) w

text_here : {X : Type 0} (text : X → List ℕ) (xs : List X) (w : List ℕ) (i : ℕ) (x : X) → slice_get xs i ≡ Some x → is_eq (text_order (map text xs) w i) ≡ bytes_eq (text x) w
text_here text xs w i x at =
    let there : text_at (map text xs) i ≡ text x = ap (λ o. unwrap_or o []) (slice_get-map text xs i ∙ ap (option_map text) at) in
    is_eq-slice_cmp (text_at (map text xs) i) w ∙ ap (λ t. bytes_eq t w) there

-- The first item of a text among those that pass.
pub text_found : {X : Type 0} (text : X → List ℕ) (test : X → Bool) (xs : List X) (w : List ℕ) (places : List ℕ) (r : Option ℕ) → places ≡ by_text (map text xs) (places_where test xs) →
    (IsNonDecreasingBy (λ p. ordering_index (text_order (map text xs) w p)) places → r ≡ find (λ p. is_eq (text_order (map text xs) w p)) places) → r ≡ position (λ x. test x && bytes_eq (text x) w) xs
text_found text test xs w places r e h =
    key_found (slice_cmp nat_cmp) nat_list_cmp_total (text_at (map text xs)) w (places_where test xs) places r e h
    ∙ (places_found test (λ x. bytes_eq (text x) w) (λ p. is_eq (text_order (map text xs) w p)) 0 xs (λ i x at. ap (λ j. is_eq (text_order (map text xs) w j)) (omega arith) ∙ text_here text xs w i x at)
    ∙ sym (position_from-zero (λ x. test x && bytes_eq (text x) w) xs))

-- The first item of a text.
pub named_found : {X : Type 0} (text : X → List ℕ) (xs : List X) (w : List ℕ) (places : List ℕ) (r : Option ℕ) → places ≡ by_text (map text xs) (all_places (map text xs)) →
    (IsNonDecreasingBy (λ p. ordering_index (text_order (map text xs) w p)) places → r ≡ find (λ p. is_eq (text_order (map text xs) w p)) places) → r ≡ position (λ x. bytes_eq (text x) w) xs
named_found {X} text xs w places r e h = text_found text (λ (x : X). true) xs w places r (e ∙ ap (by_text (map text xs)) (shown_places text 0 xs)) h

-- BY NUMBERS

abbrev pub number_order : List ℤ → ℤ → ℕ → Ordering
number_order numbers w p = int_cmp (number_at numbers p) w

number_here : {X : Type 0} (number : X → ℤ) (xs : List X) (w : ℤ) (i : ℕ) (x : X) → slice_get xs i ≡ Some x → is_eq (number_order (map number xs) w i) ≡ int_eq (number x) w
number_here number xs w i x at =
    let there : number_at (map number xs) i ≡ number x = ap (λ o. unwrap_or o (pos 0)) (slice_get-map number xs i ∙ ap (option_map number) at) in
    ap (λ z. is_eq (int_cmp z w)) there

-- The first item of a number.
pub numbered_found : {X : Type 0} (number : X → ℤ) (xs : List X) (w : ℤ) (places : List ℕ) (r : Option ℕ) → places ≡ by_number (map number xs) (all_places (map number xs)) →
    (IsNonDecreasingBy (λ p. ordering_index (number_order (map number xs) w p)) places → r ≡ find (λ p. is_eq (number_order (map number xs) w p)) places) → r ≡ position (λ x. int_eq (number x) w) xs
numbered_found {X} number xs w places r e h =
    key_found int_cmp int_cmp_total (number_at (map number xs)) w (places_where (λ (x : X). true) xs) places r (e ∙ ap (by_number (map number xs)) (shown_places number 0 xs)) h
    ∙ (places_found (λ (x : X). true) (λ x. int_eq (number x) w) (λ p. is_eq (number_order (map number xs) w p)) 0 xs (λ i x at. ap (λ j. is_eq (number_order (map number xs) w j)) (omega arith) ∙ number_here number xs w i x at)
    ∙ sym (position_from-zero (λ x. int_eq (number x) w) xs))
