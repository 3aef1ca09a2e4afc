-- The places of a range.
use Rattle.std.specs.Prelude.{◌≡◌, ◌∷◌, ◌<◌, ◌≤◌, ◌+◌, ◌-◌}
use Rattle.prost_reflect_walks.proofs.Common.{List, [], IsTrue, nat_lt, rules, ℕ, zero, suc, length, refl, ap, arith, All, list_all, places_from}

pub range_next : (s e : ℕ) → s < e → places_from s (e - s) ≡ s ∷ places_from (s + 1) (e - (s + 1))
range_next s e less = let more : e - s ≡ suc (e - (s + 1)) = omega arith in ap (places_from s) more

pub range_count : (s n : ℕ) → length (places_from s n) ≡ n
range_count s zero = refl
range_count s (suc n) = ap suc (range_count (s + 1) n)

pub range_within : (n s k : ℕ) → s + k ≤ n → IsTrue (list_all (λ i. nat_lt i n) (places_from s k))
range_within n s zero h = refl
range_within n s (suc k) h = search (rules, range_within n (s + 1) k (omega arith))

pub all_below : (n : ℕ) (xs : List ℕ) → All (λ i. i < n) xs → IsTrue (list_all (λ i. nat_lt i n) xs)
all_below n [] h = refl
all_below n (x ∷ xs) h = search (rules, h 0 x (omega arith), all_below n xs (λ k d within. h (suc k) d (omega arith)))

pub listed_below : (n : ℕ) (xs ys : List ℕ) → ys ≡ xs → All (λ i. i < n) xs → IsTrue (list_all (λ i. nat_lt i n) ys)
listed_below n xs ys same h = rw same (all_below n xs h)
