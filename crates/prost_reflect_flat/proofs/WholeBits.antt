-- The bits that floating-point formats have for whole numbers.
use Rattle.std.specs.Prelude.{◌≡◌, ◌+◌, ◌-◌, ◌*◌, ◌/◌, ◌^◌, ◌<◌, ◌≤◌}
use Rattle.prost_reflect_flat.proofs.Common.{⊎_elim, ℕ, zero, suc, true, false, refl, sym, ap, ◌∙◌, subst, arith, add-one, nat_le, cases_lt, ne_eqb, greatest_exponent, bits_at, whole_bits}
use Rattle.std.proofs.lemmas.Nat.{shl-shr, pow_pos}
use Rattle.std.proofs.Math.Nat.{pow-succ', le_of_mul-le-mul_right, lt_of_mul-lt-mul_right, mul-le-mul, mul-le-mul_right, mul-lt-mul_of_pos_right, pow-le-pow_right, mul-sub, mul_comm, mul_assoc}

pub power_fits : (f : ℕ) → f ≤ 52 → 2 ^ f ≤ 2 ^ 52
power_fits f h = pow-le-pow_right {n = 2} (omega arith) h

pub product_fits : (a f : ℕ) → a ≤ 2 ^ 11 → f ≤ 52 → a * 2 ^ f ≤ 2 ^ 63
product_fits a f h g = mul-le-mul h (power_fits f g)

doubled : (e : ℕ) → 2 ^ (suc e) ≡ 2 * 2 ^ e
doubled e = pow-succ' 2 e

at_most_true : (a b : ℕ) → a ≤ b → nat_le a b ≡ true
at_most_true a b h = grind arith

at_most_false : (a b : ℕ) → b < a → nat_le a b ≡ false
at_most_false a b h = grind arith

-- The greatest power of two that is at most a number is the one whose double is above it.
pub greatest : (limit n e : ℕ) → e ≤ limit → 2 ^ e ≤ n → n < 2 * 2 ^ e → greatest_exponent limit n ≡ e
unfolding greatest_exponent
greatest zero n e h low high = omega arith
greatest (suc limit) n e h low high =
    ⊎_elim
    (λ (less : e < suc limit).
    let rises : 2 ^ (suc e) ≤ 2 ^ (suc limit) = pow-le-pow_right {n = 2} (omega arith) {i = suc e} {j = suc limit} (omega arith) in
    rw (at_most_false (2 ^ (suc limit)) n (omega (arith, doubled e))) (greatest limit n e (omega arith) low high))
    (λ (top : suc limit ≤ e).
    let same : e ≡ suc limit = omega arith in
    rw (at_most_true (2 ^ (suc limit)) n (subst (λ x. 2 ^ x ≤ n) same low)) (sym same))
    (cases_lt e (suc limit))

some_bits : (f bias n e : ℕ) → 0 < n → greatest_exponent (f + 1) n ≡ e → bits_at f bias n e ≡ whole_bits f bias n
some_bits f bias n e some is = rw (ne_eqb n 0 (λ none. absurd (omega arith)), is) refl

-- The number 2^e with a significand: what is above the greatest power of two, scaled.
pub normal_bits : (f bias n s e : ℕ) → s * 2 ^ e ≡ n * 2 ^ f → 2 ^ f ≤ s → s < 2 * 2 ^ f → e ≤ f → (e + bias) * 2 ^ f + (s - 2 ^ f) ≡ whole_bits f bias n
normal_bits f bias n s e scaled low high le =
    let some_f : 0 < 2 ^ f = pow_pos f in
    let some_e : 0 < 2 ^ e = pow_pos e in
    let least : 2 ^ e * 2 ^ f ≤ n * 2 ^ f = omega (arith, mul_comm (2 ^ e) (2 ^ f), mul-le-mul_right {m = 2 ^ f} {n = s} (2 ^ e) low) in
    let at_least : 2 ^ e ≤ n = le_of_mul-le-mul_right least some_f in
    let most : s * 2 ^ e < (2 * 2 ^ f) * 2 ^ e = mul-lt-mul_of_pos_right high some_e in
    let turned : (2 * 2 ^ f) * 2 ^ e ≡ (2 * 2 ^ e) * 2 ^ f = mul_assoc 2 (2 ^ f) (2 ^ e) ∙ (ap (λ x. 2 * x) (mul_comm (2 ^ f) (2 ^ e)) ∙ sym (mul_assoc 2 (2 ^ e) (2 ^ f))) in
    let below : n < 2 * 2 ^ e = lt_of_mul-lt-mul_right (2 ^ f) (omega arith) in
    let rest : (n - 2 ^ e) * 2 ^ f ≡ (s - 2 ^ f) * 2 ^ e =
    mul_comm (n - 2 ^ e) (2 ^ f) ∙ (mul-sub (2 ^ f) n (2 ^ e) ∙ (omega (arith, mul_comm (2 ^ f) n, mul_comm (2 ^ e) s, mul_comm (2 ^ f) (2 ^ e)) ∙ (sym (mul-sub (2 ^ e) s (2 ^ f)) ∙ mul_comm (2 ^ e) (s - 2 ^ f)))) in
    let quotient : (n - 2 ^ e) * 2 ^ f / 2 ^ e ≡ s - 2 ^ f = ap (λ x. x / 2 ^ e) rest ∙ shl-shr (s - 2 ^ f) e in
    ap (λ x. (e + bias) * 2 ^ f + x) (sym quotient) ∙ some_bits f bias n e (omega arith) (greatest (f + 1) n e (omega arith) at_least below)

-- The greatest number is a power of two itself.
pub double_one : (f bias n : ℕ) → n ≡ 2 * 2 ^ f → (f + 1 + bias) * 2 ^ f ≡ whole_bits f bias n
double_one f bias n is =
    let some_f : 0 < 2 ^ f = pow_pos f in
    let power : 2 ^ (f + 1) ≡ n = ap (λ x. 2 ^ x) (add-one f) ∙ (doubled f ∙ sym is) in
    let none : n - 2 ^ (f + 1) ≡ 0 = omega arith in
    let still : 0 * 2 ^ f ≡ 0 * 2 ^ (f + 1) = omega arith in
    let nothing : (n - 2 ^ (f + 1)) * 2 ^ f / 2 ^ (f + 1) ≡ 0 = ap (λ x. x * 2 ^ f / 2 ^ (f + 1)) none ∙ (ap (λ x. x / 2 ^ (f + 1)) still ∙ shl-shr 0 (f + 1)) in
    omega (arith, nothing, some_bits f bias n (f + 1) (omega arith) (greatest (f + 1) n (f + 1) (omega arith) (omega arith) (omega arith)))

-- A significand that is doubled takes one from the exponent.
pub halved : (s e m : ℕ) → s * 2 ^ e ≡ m → 0 < e → (s * 2) * 2 ^ (e - 1) ≡ m
halved s zero m scaled some = absurd (omega arith)
halved s (suc e) m scaled some =
    let less : suc e - 1 ≡ e = omega arith in
    ap (λ x. (s * 2) * 2 ^ x) less ∙ (mul_assoc s 2 (2 ^ e) ∙ (ap (λ x. s * x) (sym (doubled e)) ∙ scaled))

-- A significand below the least one can still be doubled.
pub exponent_left : (s e n p : ℕ) → s * 2 ^ e ≡ n * p → s < p → 0 < n → 0 < e
exponent_left s zero n p scaled less some = absurd (omega (arith, mul-le-mul_right {m = 1} {n = n} p (omega arith)))
exponent_left s (suc e) n p scaled less some = omega arith
