-- Whether an enum declares a number, told by the place that is found.
use Rattle.std.specs.Prelude.{◌≡◌, ◌+◌, ◌||◌, ◌∷◌}
use Rattle.prost_reflect_rows.proofs.Common.{ℕ, suc, ℤ, Bool, true, false, cond, not, List, [], length, map, Option, Some, None, refl, ap, ap₂, ◌∙◌, arith, nat_lt, is_some, slice_get, list_any, position, position_or_len, int_eq, lt-ltb, le-ltb, ltb-true, ltb-false, Decides-int_eq, EnumRow, EnumValueRow, TableRows, value_numbers, values_at, values_or_none, numbered_value}

further : (p n : ℕ) → nat_lt (1 + p) (suc n) ≡ nat_lt p n
further p n = go (nat_lt p n) refl
  where
    go : (b : Bool) → nat_lt p n ≡ b → nat_lt (1 + p) (suc n) ≡ b
    go true e = lt-ltb (1 + p) (suc n) (omega (arith, ltb-true p n e))
    go false e = le-ltb (1 + p) (suc n) (omega (arith, ltb-false p n e))

-- a place is found where an item passes
place_found : {X : Type 0} (p : X → Bool) (xs : List X) → nat_lt (position_or_len p xs) (length xs) ≡ list_any p xs
place_found p [] = refl
place_found p (x ∷ xs) = go (p x) (place_found p xs)
  where
    go : (b : Bool) → nat_lt (position_or_len p xs) (length xs) ≡ list_any p xs → nat_lt (cond (not b) (1 + position_or_len p xs) 0) (suc (length xs)) ≡ (b || list_any p xs)
    go true more = lt-ltb 0 (suc (length xs)) (omega arith)
    go false more = further (position_or_len p xs) (length xs) ∙ more

found_any : {X : Type 0} (p : X → Bool) (xs : List X) → is_some (position p xs) ≡ list_any p xs
found_any p xs = go (nat_lt (position_or_len p xs) (length xs)) ∙ place_found p xs
  where
    go : (b : Bool) → is_some (cond b (Some (position_or_len p xs)) None) ≡ b
    go true = refl
    go false = refl

turned : (a b : ℤ) → int_eq a b ≡ int_eq b a
turned a b = grind (arith, Decides-int_eq a b, Decides-int_eq b a)

numbers_of_values : (values : List EnumValueRow) (n : ℤ) → list_any (λ (v : EnumValueRow). int_eq v.number n) values ≡ list_any (int_eq n) (map (λ (v : EnumValueRow). v.number) values)
numbers_of_values [] n = refl
numbers_of_values (v ∷ values) n = ap₂ (λ a b. a || b) (turned v.number n) (numbers_of_values values n)

pub number_found : (rows : TableRows) (place : ℕ) (e : EnumRow) (n : ℤ) → slice_get rows.enums place ≡ Some e → is_some (numbered_value (values_at rows place) n) ≡ list_any (int_eq n) (value_numbers e)
number_found rows place e n at =
    ap (λ (o : Option EnumRow). is_some (numbered_value (values_or_none o) n)) at
    ∙ (found_any (λ (v : EnumValueRow). int_eq v.number n) e.values ∙ numbers_of_values e.values n)
