-- What the fronts of bytes leave, and where there are none.
use Rattle.std.specs.Prelude.{◌≡◌, ◌≢◌, ◌∷◌, ◌++◌}
use Rattle.prost_reflect_laws.proofs.Common.{ℕ, List, [], ap, subst, ◌∙◌, WireType, AreBytes, Plain, Var, Fix64, Len, Fix32, NoRecords, Payload, Flat, Group, Key, payload_wire, KeyFront, PlainFront, DelimitedFront, RecordsFront, PayloadFront, bytes_front, bytes_behind}
use Rattle.prost_reflect_wire.specs.declared.key.WireType.TheVariants as wires

-- No payload stands behind an end key.
pub payload_no_end : (p : Payload) → payload_wire p ≢ wires.EndGroup
payload_no_end (Flat (Var v)) e = cc
payload_no_end (Flat (Fix64 b)) e = cc
payload_no_end (Flat (Len b)) e = cc
payload_no_end (Flat (Fix32 b)) e = cc
payload_no_end (Group inside) e = cc

pub key_not_empty : (n : ℕ) (w : WireType) (rest : List ℕ) → KeyFront n w [] rest → ⊥
key_not_empty n w rest k = go k.front k.key k.parts
  where
    go : (front : List ℕ) → Key n w front → [] ≡ front ++ rest → ⊥
    go [] key e = elim key.varint.digits [ ]
    go (b ∷ front) key e = absurd cc

pub none_first : (bytes rest : List ℕ) → RecordsFront NoRecords bytes rest → bytes ≡ rest
none_first bytes rest f = f.parts ∙ ap (λ l. l ++ rest) f.spelled

-- BYTES BELOW 256

pub key_bytes : (n : ℕ) (w : WireType) (bytes rest : List ℕ) → AreBytes bytes → KeyFront n w bytes rest → AreBytes rest
key_bytes n w bytes rest small k = bytes_behind k.front rest (subst AreBytes k.parts small)

pub plain_bytes : (p : Plain) (bytes rest : List ℕ) → AreBytes bytes → PlainFront p bytes rest → AreBytes rest
plain_bytes p bytes rest small f = bytes_behind f.front rest (subst AreBytes f.parts small)

pub payload_bytes : (n : ℕ) (p : Payload) (bytes rest : List ℕ) → AreBytes bytes → PayloadFront n p bytes rest → AreBytes rest
payload_bytes n (Flat p) bytes rest small f = plain_bytes p bytes rest small f
payload_bytes n (Group inside) bytes rest small f = key_bytes n wires.EndGroup f.end rest (bytes_behind f.records.front f.end (subst AreBytes f.records.parts small)) f.stop

pub delimited_bytes : (body bytes rest : List ℕ) → AreBytes bytes → DelimitedFront body bytes rest → AreBytes body
delimited_bytes body bytes rest small d = let (len, _, whole) = d.spelled in bytes_behind len body (subst AreBytes whole (bytes_front d.front rest (subst AreBytes d.parts small)))
