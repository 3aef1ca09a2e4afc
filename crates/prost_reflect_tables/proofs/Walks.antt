-- Walks over definitions, whose rows are tested.
use Rattle.std.specs.Prelude.{◌≡◌, ◌+◌, ◌<◌, ◌||◌, ◌∷◌}
use Rattle.prost_reflect_tables.proofs.Common.{ℕ, suc, Bool, true, false, List, [], length, map, drop, get_or, refl, sym, ap, ◌∙◌, drop-cons, add-one, list_any}

pub rows_any : {X Y : Type 0} (p : Y → Bool) (row : X → Y) (xs : List X) → list_any (λ x. p (row x)) xs ≡ list_any p (map row xs)
rows_any p row [] = refl
rows_any p row (x ∷ xs) = ap (λ b. p (row x) || b) (rows_any p row xs)

any_from : {X : Type 0} (p : X → Bool) (xs : List X) (i : ℕ) (x : X) → i < length xs → x ≡ get_or xs i x → list_any p (drop i xs) ≡ (p x || list_any p (drop (i + 1) xs))
any_from p xs i x h is = rw (drop-cons xs i x, add-one i) (ap (λ (y : _). p y || list_any p (drop (suc i) xs)) (sym is))

-- An item that passes the test is found, and one that does not is left behind.
pub any_found : {X : Type 0} (p : X → Bool) (xs : List X) (i : ℕ) (x : X) → i < length xs → x ≡ get_or xs i x → p x ≡ true → list_any p (drop i xs) ≡ true
any_found p xs i x h is passes = any_from p xs i x h is ∙ ap (λ b. b || list_any p (drop (i + 1) xs)) passes

pub any_left : {X : Type 0} (p : X → Bool) (xs : List X) (i : ℕ) (x : X) → i < length xs → x ≡ get_or xs i x → p x ≡ false → list_any p (drop i xs) ≡ list_any p (drop (i + 1) xs)
any_left p xs i x h is fails = any_from p xs i x h is ∙ ap (λ b. b || list_any p (drop (i + 1) xs)) fails

-- The same over rows.
pub row_found : {X Y : Type 0} (p : Y → Bool) (row : X → Y) (xs : List X) (i : ℕ) (x : X) → i < length xs → x ≡ get_or xs i x → p (row x) ≡ true → list_any p (map row (drop i xs)) ≡ true
row_found p row xs i x h is passes = sym (rows_any p row (drop i xs)) ∙ any_found (λ x. p (row x)) xs i x h is passes

pub row_left : {X Y : Type 0} (p : Y → Bool) (row : X → Y) (xs : List X) (i : ℕ) (x : X) → i < length xs → x ≡ get_or xs i x → p (row x) ≡ false → list_any p (map row (drop i xs)) ≡ list_any p (map row (drop (i + 1) xs))
row_left p row xs i x h is fails = sym (rows_any p row (drop i xs)) ∙ (any_left (λ x. p (row x)) xs i x h is fails ∙ rows_any p row (drop (i + 1) xs))
