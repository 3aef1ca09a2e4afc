-- Records are written one in front of another.
use Rattle.std.specs.Prelude.{◌≡◌, ◌<◌, ◌^◌, ◌∷◌, ◌++◌}
use Rattle.prost_reflect_wire.proofs.Common.{ℕ, true, List, [], length, Result, Ok, Err, refl, OnOk, eq-eqb, lt-ltb, and_from, are_bytes, EncodeError, Record, Fix64, Len, Fix32, Flat, body_of, spelled, valid, payload_valid, RecordFront}
use Rattle.prost_reflect_wire.proofs.Shortest.{short_spells}

abbrev Answer : Type 0
Answer = Result (Unit {0}) EncodeError

-- RECORDS

pub fixed64_valid : (bytes : List ℕ) → length bytes ≡ 8 → are_bytes bytes ≡ true → payload_valid (Flat (Fix64 bytes)) ≡ true
fixed64_valid bytes len small = and_from _ _ (eq-eqb (length bytes) 8 len) small

pub fixed32_valid : (bytes : List ℕ) → length bytes ≡ 4 → are_bytes bytes ≡ true → payload_valid (Flat (Fix32 bytes)) ≡ true
fixed32_valid bytes len small = and_from _ _ (eq-eqb (length bytes) 4 len) small

pub delimited_valid : (bytes : List ℕ) → length bytes < 2 ^ 64 → are_bytes bytes ≡ true → payload_valid (Flat (Len bytes)) ≡ true
delimited_valid bytes fits small = and_from _ _ (lt-ltb (length bytes) (2 ^ 64) fits) small

pub on_ok : {P : Type 0} (r : Answer) → P → OnOk r P
on_ok (Ok u) p = p
on_ok (Err d) p = tt

-- the shortest spelling is read as its record
pub spelled_front : (r : Record) (tail : List ℕ) → valid (body_of (r ∷ [])) ≡ true → RecordFront r (spelled (r ∷ []) ++ tail) tail
spelled_front r tail h = record { front = spelled (r ∷ []); spelled = short_spells (body_of (r ∷ [])) h; parts = refl }
