-- What text stands at a place, seen from what has the text.
use Rattle.std.specs.Prelude.{◌≡◌, ◌<◌, ◌≤◌}
use Rattle.prost_reflect_tables.proofs.Common.{ℕ, List, [], map, length, get_or, Option, Some, None, sym, ap, ◌∙◌, slice_get, unwrap_or, option_map, slice_get-map, slice_get-get_or, slice_get_past}
use Rattle.prost_reflect_tables.specs.Orders.{text_at, text_in}

-- ITEMS

row_there : {X Y : Type 0} (row : X → Y) (xs ys : List X) (i : ℕ) (x : X) → ys ≡ xs → i < length ys → x ≡ get_or ys i x → slice_get (map row xs) i ≡ Some (row x)
row_there {X} row xs ys i x e h is =
    let at : slice_get xs i ≡ Some x = ap (λ (zs : List X). slice_get zs i) (sym e) ∙ (slice_get-get_or ys i x h ∙ ap Some (sym is)) in
    slice_get-map row xs i ∙ ap (option_map row) at

no_row : {X Y : Type 0} (row : X → Y) (xs ys : List X) (i : ℕ) → ys ≡ xs → length ys ≤ i → slice_get (map row xs) i ≡ None
no_row {X} row xs ys i e h =
    let none : slice_get xs i ≡ None = ap (λ (zs : List X). slice_get zs i) (sym e) ∙ slice_get_past ys i h in
    slice_get-map row xs i ∙ ap (option_map row) none

-- TEXTS

pub text_there : {X Y : Type 0} (row : X → Y) (text : Y → List ℕ) (xs ys : List X) (i : ℕ) (x : X) → ys ≡ xs → i < length ys → x ≡ get_or ys i x → text (row x) ≡ text_at (map text (map row xs)) i
text_there row text xs ys i x e h is = sym (ap (λ (o : Option (List ℕ)). unwrap_or o []) (slice_get-map text (map row xs) i ∙ ap (option_map text) (row_there row xs ys i x e h is)))

pub no_text : {X Y : Type 0} (row : X → Y) (text : Y → List ℕ) (xs ys : List X) (i : ℕ) → ys ≡ xs → length ys ≤ i → [] ≡ text_at (map text (map row xs)) i
no_text row text xs ys i e h = sym (ap (λ (o : Option (List ℕ)). unwrap_or o []) (slice_get-map text (map row xs) i ∙ ap (option_map text) (no_row row xs ys i e h)))

-- IN LISTS

pub texts_there : {X Y : Type 0} (row : X → Y) (texts : Y → List (List ℕ)) (xs ys : List X) (p : ℕ × ℕ) (x : X) → ys ≡ xs → p.0 < length ys → x ≡ get_or ys p.0 x → text_at (texts (row x)) p.1 ≡ text_in (map texts (map row xs)) p
texts_there row texts xs ys p x e h is = sym (ap (λ (o : Option (List (List ℕ))). text_at (unwrap_or o []) p.1) (slice_get-map texts (map row xs) p.0 ∙ ap (option_map texts) (row_there row xs ys p.0 x e h is)))

pub no_texts : {X Y : Type 0} (row : X → Y) (texts : Y → List (List ℕ)) (xs ys : List X) (p : ℕ × ℕ) → ys ≡ xs → length ys ≤ p.0 → [] ≡ text_in (map texts (map row xs)) p
no_texts row texts xs ys p e h = sym (ap (λ (o : Option (List (List ℕ))). text_at (unwrap_or o []) p.1) (slice_get-map texts (map row xs) p.0 ∙ ap (option_map texts) (no_row row xs ys p.0 e h)))
