-- Lists in which something is looked up: first places, and tests of their items.
use Rattle.std.specs.Prelude.{◌≡◌, ◌+◌, ◌<◌, ◌||◌, ◌∷◌}
use Rattle.std.specs.Bool.{one_answer}
use Rattle.std.specs.List.{list_any, position_from, position_or_len}
use Rattle.std.specs.Option.{is_some}
use Rattle.std.specs.Prelude.{find, nat_lt, position, slice_get}
use Rattle.std.specs.Str.{bytes_eq}
use Rattle.std.proofs.Common.{ℕ, zero, suc, Bool, true, false, cond, List, [], length, map, Option, Some, None, refl, sym, ap, ap₂, ◌∙◌, arith, ltb-true}
use Rattle.std.proofs.Math.Bool.{or-true}
use Rattle.std.proofs.lemmas.Iterator.Adapters.{position_from-zero}
use Rattle.std.proofs.lemmas.List.Folds.{find_at}
use Rattle.std.proofs.lemmas.Option.{cond_some, same_Some}
use Rattle.std.proofs.lemmas.Slice.Eq.{bytes_eq-Decides}
use Rattle.prost_reflect_tables.specs.Faults.{name_place}
use Rattle.prost_reflect_tables.proofs.Walks.{rows_any}

-- TESTS

pub same_answers : (a b : Bool) → (a ≡ true → b ≡ true) → (b ≡ true → a ≡ true) → a ≡ b
same_answers true b f g = sym (f refl)
same_answers false true f g = g refl
same_answers false false f g = refl

pub turned : (a b : List ℕ) → bytes_eq a b ≡ bytes_eq b a
turned a b = one_answer {P = a ≡ b} (bytes_eq a b) (bytes_eq b a) (bytes_eq-Decides a b) (λ e. sym ((bytes_eq-Decides b a).0 e), λ e. (bytes_eq-Decides b a).1 (sym e))

-- An item that passes settles the test of all.
pub any_at : {X : Type 0} (p : X → Bool) (xs : List X) (i : ℕ) (x : X) → slice_get xs i ≡ Some x → p x ≡ true → list_any p xs ≡ true
any_at p [] i x at is = absurd cc
any_at p (y ∷ xs) zero x at is = ap (λ b. b || list_any p xs) (ap p (same_Some y x at) ∙ is)
any_at p (y ∷ xs) (suc i) x at is = ap (λ b. p y || b) (any_at p xs i x at is) ∙ or-true (p y)

-- An item that passes, at its place.
pub record Passing {X : Type 0} (p : X → Bool) (xs : List X) : Type 0 where
  pub place : ℕ
  pub it : X
  pub at : slice_get xs place ≡ Some it
  pub passes : p it ≡ true

pub any_where : {X : Type 0} (p : X → Bool) (xs : List X) → list_any p xs ≡ true → Passing p xs
any_where p [] e = absurd cc
any_where {X} p (x ∷ xs) e = go (p x) refl e (any_where p xs)
  where
    go : (b : Bool) → p x ≡ b → (b || list_any p xs) ≡ true → (list_any p xs ≡ true → Passing p xs) → Passing p (x ∷ xs)
    go true is e more = record { place = 0; it = x; at = refl; passes = is }
    go false is e more = let found = more e in record { place = suc found.place; it = found.it; at = found.at; passes = found.passes }

-- Where no item passes, none does at its place.
pub none_at : {X : Type 0} (p : X → Bool) (xs : List X) (i : ℕ) (x : X) → list_any p xs ≡ false → slice_get xs i ≡ Some x → p x ≡ false
none_at {X} p xs i x none at = go (p x) refl
  where
    go : (b : Bool) → p x ≡ b → p x ≡ false
    go true is = absurd (let some : list_any p xs ≡ true = any_at p xs i x at is in cc)
    go false is = is

pub any_mapped : {X Y : Type 0} (p : Y → Bool) (f : X → Y) (xs : List X) → list_any p (map f xs) ≡ list_any (λ x. p (f x)) xs
any_mapped p f xs = sym (rows_any p f xs)

pub any_same : {X : Type 0} (p q : X → Bool) (xs : List X) → ((x : X) → p x ≡ q x) → list_any p xs ≡ list_any q xs
any_same p q [] h = refl
any_same p q (x ∷ xs) h = ap₂ (λ (a b : Bool). a || b) (h x) (any_same p q xs h)

-- FIRST PLACES

some_from : {X : Type 0} (p : X → Bool) (i : ℕ) (xs : List X) → is_some (position_from p i xs) ≡ list_any p xs
some_from p i [] = refl
some_from {X} p i (x ∷ xs) = go (p x) (some_from p (i + 1) xs)
  where
    go : (b : Bool) → is_some (position_from p (i + 1) xs) ≡ list_any p xs → is_some (cond b (Some i) (position_from p (i + 1) xs)) ≡ (b || list_any p xs)
    go true e = refl
    go false e = e

-- There is a first place exactly where an item passes.
pub some_place : {X : Type 0} (p : X → Bool) (xs : List X) → is_some (position p xs) ≡ list_any p xs
some_place p xs = ap is_some (position_from-zero p xs) ∙ some_from p 0 xs

-- What stands at the first place is what is found.
pub found_there : {X : Type 0} (p : X → Bool) (xs : List X) (i : ℕ) → position p xs ≡ Some i → find p xs ≡ slice_get xs i
found_there p xs i e = find_at p xs ∙ ap (slice_get xs) (cond_some (nat_lt (position_or_len p xs) (length xs)) (position_or_len p xs) i e).1

pub place_within : {X : Type 0} (p : X → Bool) (xs : List X) (i : ℕ) → position p xs ≡ Some i → i < length xs
place_within p xs i e =
    let parts = cond_some (nat_lt (position_or_len p xs) (length xs)) (position_or_len p xs) i e in
    let less = ltb-true (position_or_len p xs) (length xs) parts.0 in
    let same = parts.1 in
    omega arith

none_from : {X : Type 0} (p : X → Bool) (i : ℕ) (xs : List X) → position_from p i xs ≡ None → find p xs ≡ None
none_from p i [] e = refl
none_from {X} p i (x ∷ xs) e = go (p x) e (none_from p (i + 1) xs)
  where
    go : (b : Bool) → cond b (Some i) (position_from p (i + 1) xs) ≡ None → (position_from p (i + 1) xs ≡ None → find p xs ≡ None) → cond b (Some x) (find p xs) ≡ None
    go true e more = absurd cc
    go false e more = more e

pub found_nowhere : {X : Type 0} (p : X → Bool) (xs : List X) → position p xs ≡ None → find p xs ≡ None
found_nowhere p xs e = none_from p 0 xs (sym (position_from-zero p xs) ∙ e)

-- NAMES

named_from : {X : Type 0} (text : X → List ℕ) (name : List ℕ) (i : ℕ) (xs : List X) → position_from (λ x. bytes_eq (text x) name) i xs ≡ position_from (λ n. bytes_eq name n) i (map text xs)
named_from text name i [] = refl
named_from text name i (x ∷ xs) = ap₂ (λ (b : Bool) (o : Option ℕ). cond b (Some i) o) (turned (text x) name) (named_from text name (i + 1) xs)

-- The first item of a name stands at the first place of that name among all names.
pub first_named : {X : Type 0} (text : X → List ℕ) (name : List ℕ) (xs : List X) → position (λ x. bytes_eq (text x) name) xs ≡ name_place (map text xs) name
first_named text name xs = position_from-zero (λ x. bytes_eq (text x) name) xs ∙ named_from text name 0 xs

-- Some item has the name exactly where it is one of all names.
pub some_named : {X : Type 0} (text : X → List ℕ) (name : List ℕ) (xs : List X) → is_some (position (λ x. bytes_eq (text x) name) xs) ≡ list_any (bytes_eq name) (map text xs)
some_named text name xs = ap is_some (first_named text name xs) ∙ some_from (bytes_eq name) 0 (map text xs)
