-- A front of the bytes spells at most one varint, and none where a fault stands.
use Rattle.std.specs.Prelude.{◌≡◌, ◌+◌, ◌*◌, ◌%◌, ◌^◌, ◌<◌, ◌≤◌, ◌∷◌, ◌++◌}
use Rattle.prost_reflect_wire.proofs.Common.{ℕ, suc, List, [], length, Option, Some, sym, ap, ◌∙◌, arith, inl, inr, Result, Ok, Err, IfOk, IfErr, IsOkAnd, Bor, pow-suc, cases_lt, le-ltb, lt-ltb, DecodeError, digits_at, VarintFront, AreOpen, VarintFault}
use Rattle.prost_reflect_wire.specs.declared.error.DecodeError.TheVariants as errors
use Rattle.prost_reflect_wire.proofs.Reading.{digits_read}
use Rattle.prost_reflect_wire.proofs.Sound.{bind_ok}

abbrev Found : Type 0
Found = Option (ℕ × List ℕ)

abbrev found : ℕ → List ℕ → Found
found v rest = Some (v, rest)

found_same : (v w : ℕ) (rest end : List ℕ) → found v rest ≡ found w end → (v ≡ w) × (rest ≡ end)
found_same v w rest end e = let p : (v, rest) ≡ (w, end) = cc in (ap (λ (x : ℕ × List ℕ). x.0) p, ap (λ (x : ℕ × List ℕ). x.1) p)

digits_front : (v : ℕ) (bytes rest : List ℕ) → VarintFront v bytes rest → digits_at 10 bytes ≡ found v rest
digits_front v bytes rest f = ap (digits_at 10) f.parts ∙ digits_read 10 f.front rest f.varint.digits f.varint.few ∙ ap (λ (n : ℕ). found n rest) f.varint.means

pub varint_once : (v w : ℕ) (bytes rest end : List ℕ) → VarintFront v bytes rest → VarintFront w bytes end → (v ≡ w) × (rest ≡ end)
varint_once v w bytes rest end f g = found_same v w rest end (sym (digits_front v bytes rest f) ∙ digits_front w bytes end g)

-- FAULTS

open_unread : (fuel : ℕ) (bytes : List ℕ) (v : ℕ) (rest : List ℕ) → AreOpen bytes → digits_at fuel bytes ≡ found v rest → ⊥
open_unread (suc fuel) (b ∷ bytes) v rest h e =
    let (x, m, _) = bind_ok (λ high. found (b % 128 + 128 * high.0) high.1) (digits_at fuel bytes) (v, rest) (rw (le-ltb b 128 h.0, digits_at) at e) in
    open_unread fuel bytes x.0 x.1 h.1 m
open_unread _ _ v rest h e = absurd cc

passing_high : (nine : List ℕ) (tenth : ℕ) (behind : List ℕ) (v : ℕ) (rest : List ℕ) → AreOpen nine → 1 < tenth → digits_at (suc (length nine)) (nine ++ tenth ∷ behind) ≡ found v rest → 2 * 128 ^ length nine ≤ v
passing_high [] tenth behind v rest h above e = elim (cases_lt tenth 128) [
  | inl low ↦ let p = found_same tenth v behind rest (rw (lt-ltb tenth 128 low, digits_at) at e) in omega (arith, p.0)
  | inr up ↦ absurd (let g = rw (le-ltb tenth 128 up, digits_at) at e in cc)
]
passing_high (b ∷ nine) tenth behind v rest h above e =
    let (x, m, f) = bind_ok (λ high. found (b % 128 + 128 * high.0) high.1) (digits_at (suc (length nine)) (nine ++ tenth ∷ behind)) (v, rest) (rw (le-ltb b 128 h.0, digits_at) at e) in
    let more = passing_high nine tenth behind x.0 x.1 h.1 above m in
    let p = found_same (b % 128 + 128 * x.0) v x.1 rest f in
    rw (pow-suc 128 (length nine)) (omega (arith, more, p.0))

pub varint_no_fault : (e : DecodeError) (v : ℕ) (bytes rest : List ℕ) → VarintFront v bytes rest → VarintFault e bytes → ⊥
varint_no_fault errors.Truncated v bytes rest f ends = open_unread 10 bytes v rest ends.unended (digits_front v bytes rest f)
varint_no_fault errors.Varint v bytes rest f passes =
    let e : digits_at (suc (length passes.nine)) (passes.nine ++ passes.tenth ∷ passes.rest) ≡ found v rest =
    ap (λ (n : ℕ). digits_at (suc n) (passes.nine ++ passes.tenth ∷ passes.rest)) passes.count ∙ ap (digits_at 10) (sym passes.parts) ∙ digits_front v bytes rest f in
    omega (arith, passing_high passes.nine passes.tenth passes.rest v rest passes.unended passes.above e, ap (λ (n : ℕ). 128 ^ n) passes.count, f.varint.below)
varint_no_fault e v bytes rest f h = absurd h

pub varint_only : (r : Result (ℕ × Bor (List ℕ)) DecodeError) (bytes : List ℕ) → IfOk r (λ x. VarintFront x.0 bytes x.1.now) → IfErr r (λ e. VarintFault e bytes)
    → (v : ℕ) (rest : List ℕ) → VarintFront v bytes rest → IsOkAnd r (λ x. (x.0 ≡ v) × (x.1.now ≡ rest))
varint_only (Ok x) bytes ok fault v rest f = varint_once x.0 v bytes x.1.now rest ok f
varint_only (Err e) bytes ok fault v rest f = varint_no_fault e v bytes rest f fault

-- A byte below 128 is a varint.
pub one_byte : (b : ℕ) (bytes rest : List ℕ) → bytes ≡ b ∷ rest → b < 128 → VarintFront b bytes rest
one_byte b bytes rest parts low = record { front = b ∷ []; varint = record { below = omega arith; digits = low; few = omega arith; means = omega arith }; parts = parts }
