-- At the front of bytes there is a key or a plain payload, or what keeps it from standing there.
use Rattle.std.specs.Prelude.{◌≡◌, ◌≢◌, ◌⊎◌}
use Rattle.prost_reflect_laws.proofs.Common.{ℕ, inl, inr, List, sym, DecodeError, WireType, AreBytes, Plain, Payload, Flat, Group, plain_wire, payload_wire, KeyFront, PlainFront, PayloadFront, KeyFault, PlainFault, ValueComes}
use Rattle.prost_reflect_wire.specs.declared.error.DecodeError.TheVariants as errors
use Rattle.prost_reflect_wire.specs.declared.key.WireType.TheVariants as wires
use Rattle.prost_reflect_laws.proofs.FieldOrFault.{KeyRead, KeyHere, NoKeyHere, key_or_fault, ValueRead, ValueHere, NoValue, value_or_fault}

-- A fault of some name.
pub record SomeFault (Fault : DecodeError → Type 0) : Type 0 where
  pub error : DecodeError
  pub fault : Fault error

pub record SomeKey (bytes : List ℕ) : Type 0 where
  pub number : ℕ
  pub wire : WireType
  pub rest : List ℕ
  pub front : KeyFront number wire bytes rest

pub key_or : (bytes : List ℕ) → AreBytes bytes → SomeKey bytes ⊎ SomeFault (λ e. KeyFault e bytes)
key_or bytes small = go (key_or_fault bytes small)
  where
    go : KeyRead bytes → SomeKey bytes ⊎ SomeFault (λ e. KeyFault e bytes)
    go (KeyHere n w rest key) = inl (record { number = n; wire = w; rest = rest; front = key })
    go (NoKeyHere e f) = inr (record { error = e; fault = f })

pub record SomePlain (w : WireType) (bytes : List ℕ) : Type 0 where
  pub plain : Plain
  pub rest : List ℕ
  pub front : PlainFront plain bytes rest
  pub wire : plain_wire plain ≡ w

module _ (w : WireType) (bytes : List ℕ) (start : w ≢ wires.StartGroup) (end : w ≢ wires.EndGroup) where
  plain_of : (p : Payload) (rest : List ℕ) → payload_wire p ≡ w → PayloadFront 1 p bytes rest → SomePlain w bytes
  plain_of (Flat p) rest is f = record { plain = p; rest = rest; front = f; wire = is }
  plain_of (Group inside) rest is f = absurd (start (sym is))

  plain_fault : (e : DecodeError) → ValueComes e w 0 bytes → PlainFault e w bytes
  plain_fault errors.EndGroup f = absurd (end f)
  plain_fault errors.Depth f = absurd (start f.0)
  plain_fault errors.Truncated f = f
  plain_fault errors.Varint f = f
  plain_fault e f = absurd f

  -- a value at no levels, of a wire type that opens none
  pub plain_or : AreBytes bytes → SomePlain w bytes ⊎ SomeFault (λ e. PlainFault e w bytes)
  plain_or small = go (value_or_fault 0 1 w bytes small)
    where
      go : ValueRead 0 1 w bytes → SomePlain w bytes ⊎ SomeFault (λ e. PlainFault e w bytes)
      go (ValueHere p rest v) = inl (plain_of p rest v.wire v.front)
      go (NoValue e (inl f)) = inr (record { error = e; fault = plain_fault e f })
      go (NoValue e (inr f)) = absurd (start f.0)
