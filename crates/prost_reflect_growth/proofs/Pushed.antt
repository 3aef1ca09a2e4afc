-- One item more behind a list, of what each item gives at its place.
use Rattle.std.specs.Prelude.{◌≡◌, ◌+◌, ◌∷◌, ◌++◌, option_map, slice_get}
use Rattle.std.proofs.Common.{Some}
use Rattle.std.proofs.lemmas.Option.{get_or_from_slice_get, slice_get-map, slice_get_within}
use Rattle.prost_reflect_tables.proofs.Pushing.{front_left}
use Rattle.std.proofs.lemmas.List.{map-append}
use Rattle.prost_reflect_growth.proofs.Common.{ℕ, List, [], map, drop, sym, ap, ◌∙◌, append_assoc, each_from}

pub pushed_each : {A X R : Type 0} (row : A → R) (f : ℕ → X → R) (made pushed : List A) (new : A) (T U : ℕ) (x : X) (left rest : List X) → pushed ≡ made ++ new ∷ [] → left ≡ x ∷ rest → row new ≡ f T x → U ≡ T + 1 →
    map row pushed ++ each_from f U rest ≡ map row made ++ each_from f T left
pushed_each row f made pushed new T U x left rest e front is next =
    ap (λ (l : List _). map row l ++ each_from f U rest) e
    ∙ (ap (λ l. l ++ each_from f U rest) (map-append row made (new ∷ []))
    ∙ (append_assoc (map row made) (row new ∷ []) (each_from f U rest)
    ∙ (ap (λ r. map row made ++ r ∷ each_from f U rest) is
    ∙ (ap (λ k. map row made ++ f T x ∷ each_from f k rest) next ∙ ap (λ (l : List _). map row made ++ each_from f T l) (sym front)))))

-- What is left begins with the item of the place.
pub front_got : {X : Type 0} (xs : List X) (i : ℕ) (x : X) → slice_get xs i ≡ Some x → drop i xs ≡ x ∷ drop (i + 1) xs
front_got xs i x at = front_left xs i x (slice_get_within xs i x at) (sym (get_or_from_slice_get xs i x x at))

pub mapped : {X Y : Type 0} (row : X → Y) (xs : List X) (i : ℕ) (x : X) → slice_get xs i ≡ Some x → slice_get (map row xs) i ≡ Some (row x)
mapped row xs i x at = slice_get-map row xs i ∙ ap (option_map row) at
