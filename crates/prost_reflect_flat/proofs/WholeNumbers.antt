-- Whole numbers in a text, digit by digit.
use Rattle.std.specs.Prelude.{◌≡◌, ◌+◌, ◌-◌, ◌*◌, ◌<◌, ◌∷◌}
use Rattle.prost_reflect_flat.proofs.Common.{ℕ, suc, true, false, cond, List, [], length, get_or, drop, Some, None, refl, arith, drop-cons, nat_le, is_digit, digits_from, whole_number, up_to}

-- DIGITS

past_limit : (limit n : ℕ) → limit < n → up_to limit (Some n) ≡ None
past_limit limit n h = rw (not_at_most n limit h) refl
  where
    not_at_most : (n limit : ℕ) → limit < n → nat_le n limit ≡ false
    not_at_most n limit h = grind arith

-- Further digits make a number no smaller.
pub past_digits : (limit n : ℕ) (text : List ℕ) → limit < n → up_to limit (digits_from n text) ≡ None
past_digits limit n [] h = past_limit limit n h
past_digits limit n (b ∷ text) h =
    elim (is_digit b) as (λ d. up_to limit (cond d (digits_from (10 * n + (b - 48)) text) None) ≡ None) [
      | true ↦ past_digits limit (10 * n + (b - 48)) text (omega arith)
      | false ↦ refl
    ]

-- The digit at this place passes the limit.
pub digit_past : (limit n i : ℕ) (text : List ℕ) → i < length text → limit < 10 * n + (get_or text i 0 - 48) → up_to limit (digits_from n (drop i text)) ≡ None
digit_past limit n i text within h =
    rw (drop-cons text i 0) (elim (is_digit (get_or text i 0)) as (λ d. up_to limit (cond d (digits_from (10 * n + (get_or text i 0 - 48)) (drop (suc i) text)) None) ≡ None) [
      | true ↦ past_digits limit (10 * n + (get_or text i 0 - 48)) (drop (suc i) text) h
      | false ↦ refl
    ])

pub from_start : (text : List ℕ) (i : ℕ) → i < length text → whole_number text ≡ digits_from 0 text
from_start [] i h = absurd (omega arith)
from_start (b ∷ text) i h = refl
