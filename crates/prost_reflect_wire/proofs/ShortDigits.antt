-- The shortest spelling of a number, digit by digit.
use Rattle.std.specs.Prelude.{◌≡◌, ◌+◌, ◌*◌, ◌/◌, ◌%◌, ◌^◌, ◌<◌, ◌≤◌, ◌∷◌}
use Rattle.prost_reflect_wire.proofs.Common.{ℕ, zero, suc, List, [], length, refl, ap, ◌∙◌, sym, arith, inl, inr, pow-suc, cases_lt, le-ltb, lt-ltb, short, short_within}
use Rattle.prost_reflect_wire.proofs.Shortest.{short_varint}

within_low : (n v : ℕ) → v < 128 → short_within (suc n) v ≡ v ∷ []
within_low n v low = rw (lt-ltb v 128 low, short_within) refl

within_up : (n v : ℕ) → 128 ≤ v → short_within (suc n) v ≡ (128 + v % 128) ∷ short_within n (v / 128)
within_up n v up = rw (le-ltb v 128 up, short_within) refl

within_more : (n v : ℕ) → v < 128 ^ suc n → short_within n v ≡ short_within (suc n) v
within_more zero v h = sym (within_low zero v (omega arith))
within_more (suc n) v h = elim (cases_lt v 128) [
  | inl low ↦ within_low n v low ∙ sym (within_low (suc n) v low)
  | inr up ↦ within_up n v up ∙ ap (λ (l : List ℕ). (128 + v % 128) ∷ l) (within_more n (v / 128) (let e : 128 ^ suc (suc n) ≡ 128 ^ suc n * 128 = pow-suc 128 (suc n) in omega arith)) ∙ sym (within_up (suc n) v up)
]

pub short_low : (v : ℕ) → v < 128 → short v ≡ v ∷ []
unfolding short
short_low v low = within_low 8 v low

pub short_up : (v : ℕ) → 128 ≤ v → v < 2 ^ 64 → short v ≡ (128 + v % 128) ∷ short (v / 128)
unfolding short
short_up v up below = within_up 8 v up ∙ ap (λ (l : List ℕ). (128 + v % 128) ∷ l) (within_more 8 (v / 128) (omega arith))

pub length_short : (v : ℕ) → v < 2 ^ 64 → length (short v) ≤ 10
length_short v below = let s = short_varint v below in s.few
