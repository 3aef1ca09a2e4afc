-- Reading a varint digit by digit, the least first.
use Rattle.std.specs.Prelude.{◌≡◌, ◌+◌, ◌-◌, ◌*◌, ◌%◌, ◌^◌, ◌<◌, ◌≤◌, ◌∷◌, ◌++◌, ◌⊎◌}
use Rattle.prost_reflect_wire.proofs.Common.{ℕ, List, [], length, get_or, take, drop, drop-cons, refl, sym, ap, ◌∙◌, arith, add-one, inl, inr, take-suc, pow-suc, pow-le-pow_right, mul-le-mul_left, length-take, take-append-drop, take_all, length-drop, AreBytes, AreDigits, digits_value, VarintFront, AreOpen, VarintEnds, VarintPasses}

-- A DIGIT AT THE END

open_end : (front : List ℕ) (b : ℕ) → AreOpen front → 128 ≤ b → AreOpen (front ++ b ∷ [])
open_end [] b h up = (up, tt)
open_end (x ∷ front) b h up = (h.0, open_end front b h.1 up)

bytes_end : (front : List ℕ) (b : ℕ) → AreBytes front → b < 256 → AreBytes (front ++ b ∷ [])
bytes_end [] b h small = (small, tt)
bytes_end (x ∷ front) b h small = (h.0, bytes_end front b h.1 small)

digits_end : (front : List ℕ) (b : ℕ) → AreOpen front → AreBytes front → b < 128 → AreDigits (front ++ b ∷ [])
digits_end [] b h small low = low
digits_end (x ∷ []) b h small low = (h.0, small.0, low)
digits_end (x ∷ y ∷ front) b h small low = (h.0, small.0, digits_end (y ∷ front) b h.1 small.1 low)

value_end : (front : List ℕ) (b : ℕ) → digits_value (front ++ b ∷ []) ≡ digits_value front + 128 ^ length front * (b % 128)
value_end [] b = omega arith
value_end (x ∷ front) b = rw (pow-suc 128 (length front)) (omega (arith, value_end front b))

value_below : (front : List ℕ) → digits_value front < 128 ^ length front
value_below [] = omega arith
value_below (x ∷ front) = rw (pow-suc 128 (length front)) (omega (arith, value_below front))

-- WHAT HAS BEEN READ

-- So many bytes were read, each with its top bit set: their digits make the value, and the next digit counts so much.
pub record Digits (bytes : List ℕ) (count value scale : ℕ) : Type 0 where
  pub unended : AreOpen (take count bytes)
  pub small : AreBytes (take count bytes)
  pub means : digits_value (take count bytes) ≡ value
  pub scaled : 128 ^ count ≡ scale
  pub few : count ≤ 9
  pub within : count ≤ length bytes

pub digits_none : (bytes : List ℕ) → Digits bytes 0 0 1
digits_none bytes = record { unended = tt; small = tt; means = refl; scaled = refl; few = omega arith; within = omega arith }

next_taken : (bytes : List ℕ) (i : ℕ) → i < length bytes → take (i + 1) bytes ≡ take i bytes ++ get_or bytes i 0 ∷ []
next_taken bytes i lt = rw add-one (take-suc bytes i 0 lt)

length_taken : (bytes : List ℕ) (i : ℕ) → i ≤ length bytes → length (take i bytes) ≡ i
length_taken bytes i le = omega (arith, length-take i bytes)

value_next : (bytes : List ℕ) (i value scale digit : ℕ) → i < length bytes → digit ≡ get_or bytes i 0 % 128 → Digits bytes i value scale → digits_value (take (i + 1) bytes) ≡ value + scale * digit
value_next bytes i value scale digit lt is d =
    ap digits_value (next_taken bytes i lt) ∙ value_end (take i bytes) (get_or bytes i 0)
    ∙ ap (λ (n : ℕ). digits_value (take i bytes) + 128 ^ n * (get_or bytes i 0 % 128)) (length_taken bytes i d.within)
    ∙ ap (λ (n : ℕ). n + 128 ^ i * (get_or bytes i 0 % 128)) d.means
    ∙ ap (λ (n : ℕ). value + n * (get_or bytes i 0 % 128)) d.scaled
    ∙ ap (λ (n : ℕ). value + scale * n) (sym is)

-- a digit that another follows
pub digits_more : (bytes : List ℕ) (i value scale digit : ℕ) → i < length bytes → i < 9 → 128 ≤ get_or bytes i 0 → get_or bytes i 0 < 256 → digit ≡ get_or bytes i 0 % 128 → Digits bytes i value scale
    → Digits bytes (i + 1) (value + scale * digit) (scale * 128)
digits_more bytes i value scale digit lt few up small is d =
    let next = next_taken bytes i lt in
    record {
      unended = rw next (open_end (take i bytes) (get_or bytes i 0) d.unended up);
      small = rw next (bytes_end (take i bytes) (get_or bytes i 0) d.small small);
      means = value_next bytes i value scale digit lt is d;
      scaled = rw add-one (pow-suc 128 i ∙ ap (λ (n : ℕ). n * 128) d.scaled);
      few = omega arith;
      within = omega arith;
    }

-- BOUNDS

scale_fits : (i scale : ℕ) → i ≤ 9 → 128 ^ i ≡ scale → scale ≤ 2 ^ 63
scale_fits i scale few is = let h : 128 ^ i ≤ 128 ^ 9 = pow-le-pow_right {n = 128} (omega arith) few in omega (arith, h)

scale_low : (i scale : ℕ) → i ≤ 8 → 128 ^ i ≡ scale → scale * 128 ≤ 2 ^ 63
scale_low i scale few is = let h : 128 ^ i ≤ 128 ^ 8 = pow-le-pow_right {n = 128} (omega arith) few in omega (arith, h)

value_small : (bytes : List ℕ) (i value scale : ℕ) → Digits bytes i value scale → value < scale
value_small bytes i value scale d = omega (arith, value_below (take i bytes), ap (λ (n : ℕ). 128 ^ n) (length_taken bytes i d.within), d.means, d.scaled)

pub scale_more : (bytes : List ℕ) (i value scale : ℕ) → i < 9 → Digits bytes i value scale → scale * 128 < 2 ^ 64
scale_more bytes i value scale few d = omega (arith, scale_low i scale (omega arith) d.scaled)

-- the tenth digit is a bit
pub value_fits : (bytes : List ℕ) (i value scale digit : ℕ) → Digits bytes i value scale → digit < 128 → ((i ≡ 9) × (digit ≤ 1)) ⊎ (i ≡ 9 → ⊥) → value + scale * digit < 2 ^ 64
value_fits bytes i value scale digit d low (inl (nine, one)) =
    let h : scale * digit ≤ scale * 1 = mul-le-mul_left scale one in omega (arith, h, value_small bytes i value scale d, scale_fits i scale d.few d.scaled)
value_fits bytes i value scale digit d low (inr other) =
    let few : i ≤ 8 = omega (arith, d.few, other) in
    let h : scale * digit ≤ scale * 127 = mul-le-mul_left scale (let g : digit ≤ 127 = omega arith in g) in
    omega (arith, h, value_small bytes i value scale d, scale_low i scale few d.scaled)

-- a tenth byte of 1 at most has a bit as its digit, and no byte behind it
pub tenth : (i b digit : ℕ) → digit ≡ b % 128 → ((i ≡ 9) × (b ≤ 1)) ⊎ (i ≡ 9 → ⊥) → ((i ≡ 9) × (digit ≤ 1)) ⊎ (i ≡ 9 → ⊥)
tenth i b digit is (inl (nine, low)) = inl (nine, omega arith)
tenth i b digit is (inr other) = inr other

pub before_tenth : (i b : ℕ) → i ≤ 9 → 128 ≤ b → ((i ≡ 9) × (b ≤ 1)) ⊎ (i ≡ 9 → ⊥) → i < 9
before_tenth i b few up (inl (nine, low)) = absurd (omega arith)
before_tenth i b few up (inr other) = omega (arith, other)

-- THE END OF THE READING

-- the last digit
pub digits_last : (bytes : List ℕ) (i value scale digit : ℕ) → i < length bytes → get_or bytes i 0 < 128 → digit ≡ get_or bytes i 0 % 128 → value + scale * digit < 2 ^ 64 → Digits bytes i value scale
    → VarintFront (value + scale * digit) bytes (take (length bytes - (i + 1)) (drop (i + 1) bytes))
digits_last bytes i value scale digit lt low is fits d = rw (take_all (length bytes - (i + 1)) (drop (i + 1) bytes) (omega (arith, length-drop (i + 1) bytes))) (record {
  front = take (i + 1) bytes;
  varint = record {
    below = fits;
    digits = rw (next_taken bytes i lt) (digits_end (take i bytes) (get_or bytes i 0) d.unended d.small low);
    few = omega (arith, length-take (i + 1) bytes, d.few);
    means = value_next bytes i value scale digit lt is d;
  };
  parts = sym (take-append-drop (i + 1) bytes);
})

drop_next : (bytes : List ℕ) (i : ℕ) → i < length bytes → drop i bytes ≡ get_or bytes i 0 ∷ drop (i + 1) bytes
drop_next bytes i lt = rw (add-one, drop-cons bytes i 0) refl

-- a tenth byte above 1
pub digits_pass : (bytes : List ℕ) (i value scale : ℕ) → i < length bytes → i ≡ 9 → 1 < get_or bytes i 0 → Digits bytes i value scale → VarintPasses bytes
digits_pass bytes i value scale lt nine above d = record {
  nine = take i bytes;
  tenth = get_or bytes i 0;
  rest = drop (i + 1) bytes;
  parts = sym (take-append-drop i bytes) ∙ ap (λ (l : List ℕ). take i bytes ++ l) (drop_next bytes i lt);
  count = length_taken bytes i d.within ∙ nine;
  unended = d.unended;
  above = above;
}

pub digits_stop : (bytes : List ℕ) (i value scale : ℕ) → length bytes ≤ i → Digits bytes i value scale → VarintEnds bytes
digits_stop bytes i value scale le d = record { few = omega (arith, d.few); unended = rw (take_all i bytes le) at d.unended }
