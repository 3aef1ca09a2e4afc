-- Loops that push what is made of each item: what is pushed so far and what is made of the items left is what is made of all.
use Rattle.std.specs.Prelude.{◌≡◌, ◌+◌, ◌<◌, ◌∷◌, ◌++◌}
use Rattle.prost_reflect_tables.proofs.Common.{ℕ, List, [], length, map, drop, get_or, sym, ap, ◌∙◌, append_assoc, drop-cons, add-one, map-append}

pub front_at : {X : Type 0} (xs : List X) (i : ℕ) (d : X) → i < length xs → drop i xs ≡ get_or xs i d ∷ drop (i + 1) xs
front_at xs i d h = drop-cons xs i d h ∙ ap (λ j. get_or xs i d ∷ drop j xs) (sym (add-one i))

pub front_left : {X : Type 0} (xs : List X) (i : ℕ) (x : X) → i < length xs → x ≡ get_or xs i x → drop i xs ≡ x ∷ drop (i + 1) xs
front_left xs i x h is = front_at xs i x h ∙ ap (λ y. y ∷ drop (i + 1) xs) (sym is)

pub made_more : {X Z : Type 0} (make : X → Z) (made : List Z) (z : Z) (xs : List X) (i : ℕ) (d : X) → i < length xs → z ≡ make (get_or xs i d)
    → (made ++ z ∷ []) ++ map make (drop (i + 1) xs) ≡ made ++ map make (drop i xs)
made_more make made z xs i d h told =
    append_assoc made (z ∷ []) (map make (drop (i + 1) xs))
    ∙ (ap (λ y. made ++ y ∷ map make (drop (i + 1) xs)) told ∙ sym (ap (λ ys. made ++ map make ys) (front_at xs i d h)))

-- The same of rows,
pub rows_more : {X Y Z : Type 0} (make : Y → Z) (row : X → Y) (made : List Z) (z : Z) (xs : List X) (i : ℕ) (x : X) → i < length xs → x ≡ get_or xs i x → z ≡ make (row x)
    → (made ++ z ∷ []) ++ map make (map row (drop (i + 1) xs)) ≡ made ++ map make (map row (drop i xs))
rows_more make row made z xs i x h is told =
    append_assoc made (z ∷ []) (map make (map row (drop (i + 1) xs)))
    ∙ (ap (λ y. made ++ y ∷ map make (map row (drop (i + 1) xs))) told ∙ sym (ap (λ ys. made ++ map make (map row ys)) (front_left xs i x h is)))

-- and where what is pushed is itself seen as something.
pub seen_more : {X Y Z T : Type 0} (see : T → Z) (make : Y → Z) (row : X → Y) (made : List T) (t : T) (xs : List X) (i : ℕ) (x : X) → i < length xs → x ≡ get_or xs i x → see t ≡ make (row x)
    → map see (made ++ t ∷ []) ++ map make (map row (drop (i + 1) xs)) ≡ map see made ++ map make (map row (drop i xs))
seen_more see make row made t xs i x h is told =
    ap (λ zs. zs ++ map make (map row (drop (i + 1) xs))) (map-append see made (t ∷ [])) ∙ rows_more make row (map see made) (see t) xs i x h is told
