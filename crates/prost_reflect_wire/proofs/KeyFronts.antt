-- A front of the bytes is at most one key, and none where a fault stands.
use Rattle.std.specs.Prelude.{◌≡◌, ◌≤◌, ◌<◌, ◌^◌, ◌+◌, ◌*◌, ◌++◌}
use Rattle.prost_reflect_wire.proofs.Common.{ℕ, List, Option, Some, refl, sym, ap, ◌∙◌, arith, DecodeError, WireType, key_at, wire_code, short_key, VarintFront, KeyFront, KeyFault}
use Rattle.prost_reflect_wire.specs.declared.error.DecodeError.TheVariants as errors
use Rattle.prost_reflect_wire.proofs.Reading.{key_read, wire_small}
use Rattle.prost_reflect_wire.proofs.Shortest.{short_varint}
use Rattle.prost_reflect_wire.proofs.VarintFronts.{varint_once, varint_no_fault}

abbrev Found : Type 0
Found = Option (ℕ × WireType × List ℕ)

abbrev found : ℕ → WireType → List ℕ → Found
found n w rest = Some (n, w, rest)

key_varint : (n : ℕ) (w : WireType) (bytes rest : List ℕ) → KeyFront n w bytes rest → VarintFront (8 * n + wire_code w) bytes rest
key_varint n w bytes rest k = record { front = k.front; varint = k.key.varint; parts = k.parts }

pub key_once : (n m : ℕ) (v w : WireType) (bytes rest end : List ℕ) → KeyFront n v bytes rest → KeyFront m w bytes end → (n ≡ m) × (v ≡ w) × (rest ≡ end)
key_once n m v w bytes rest end k l =
    let e : found n v rest ≡ found m w end = sym (ap key_at k.parts ∙ key_read n v k.front rest k.key) ∙ ap key_at l.parts ∙ key_read m w l.front end l.key in
    let p : ◌≡◌ {A = ℕ × WireType × List ℕ} (n, v, rest) (m, w, end) = cc in
    (ap (λ (x : ℕ × WireType × List ℕ). x.0) p, ap (λ (x : ℕ × WireType × List ℕ). x.1) p, ap (λ (x : ℕ × WireType × List ℕ). x.2) p)

pub key_no_fault : (e : DecodeError) (n : ℕ) (w : WireType) (bytes rest : List ℕ) → KeyFront n w bytes rest → KeyFault e bytes → ⊥
key_no_fault errors.Truncated n w bytes rest k f = varint_no_fault errors.Truncated (8 * n + wire_code w) bytes rest (key_varint n w bytes rest k) f
key_no_fault errors.Varint n w bytes rest k f = varint_no_fault errors.Varint (8 * n + wire_code w) bytes rest (key_varint n w bytes rest k) f
key_no_fault errors.Key n w bytes rest k f =
    f.none n w k.key.from_one k.key.below (varint_once f.value (8 * n + wire_code w) bytes f.rest rest f.front (key_varint n w bytes rest k)).0
key_no_fault e n w bytes rest k f = absurd f

-- The shortest key is a key.
pub short_key_front : (n : ℕ) (w : WireType) (bytes : List ℕ) → 1 ≤ n → n < 2 ^ 29 → KeyFront n w (short_key n w ++ bytes) bytes
short_key_front n w bytes some below = record {
  front = short_key n w;
  key = record { from_one = omega arith; below = below; varint = short_varint (8 * n + wire_code w) (omega (arith, wire_small w)) };
  parts = refl;
}
