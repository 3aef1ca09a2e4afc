-- Elements of a list of bytes.
use Rattle.std.specs.Prelude.{◌≡◌, ◌∷◌, ◌++◌}
use Rattle.prost_reflect_wire.proofs.Common.{ℕ, suc, true, List, [], get_or, nat_lt, refl, Fits, w8, lt-ltb, ltb-true, and_parts, and_from, AreBytes, are_bytes}

pub bytes_by_index : (bytes : List ℕ) → ((i : ℕ) → Fits w8 (get_or bytes i 0)) → are_bytes bytes ≡ true
bytes_by_index [] h = refl
bytes_by_index (b ∷ bytes) h = and_from _ _ (lt-ltb b 256 (let first = h 0 in first.fits)) (bytes_by_index bytes (λ i. h (suc i)))

pub bytes_below : (bytes : List ℕ) → ((i : ℕ) → Fits w8 (get_or bytes i 0)) → AreBytes bytes
bytes_below [] h = tt
bytes_below (b ∷ bytes) h = ((let first = h 0 in first.fits), bytes_below bytes (λ i. h (suc i)))

pub bytes_test : (bytes : List ℕ) → AreBytes bytes → are_bytes bytes ≡ true
bytes_test [] h = refl
bytes_test (b ∷ bytes) h = and_from _ _ (lt-ltb b 256 h.0) (bytes_test bytes h.1)

pub test_bytes : (bytes : List ℕ) → are_bytes bytes ≡ true → AreBytes bytes
test_bytes [] h = tt
test_bytes (b ∷ bytes) h = let (one, more) = and_parts (nat_lt b 256) (are_bytes bytes) h in (ltb-true b 256 one, test_bytes bytes more)

pub bytes_front : (front rest : List ℕ) → AreBytes (front ++ rest) → AreBytes front
bytes_front [] rest h = tt
bytes_front (b ∷ front) rest h = (h.0, bytes_front front rest h.1)

pub bytes_behind : (front rest : List ℕ) → AreBytes (front ++ rest) → AreBytes rest
bytes_behind [] rest h = h
bytes_behind (b ∷ front) rest h = bytes_behind front rest h.1
