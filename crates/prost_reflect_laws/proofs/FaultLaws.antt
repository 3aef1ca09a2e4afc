-- Bytes are accepted unless a fault stands in them.
use Rattle.std.specs.Prelude.{◌≡◌, ◌≢◌, ◌↔◌}
use Rattle.prost_reflect_laws.proofs.Common.{ℕ, suc, Bool, true, false, inl, inr, List, [], length, None, refl, sym, subst, ◌∙◌, arith, append-nil, true≢false, AreBytes, items, Schema, Accepts, accepts, Place, OfType, Comes, Stands, Here, Behind, InMessage, InGroup, InUnknown, InEntry, StandsInMessage, DecodeError, only_memory}
use Rattle.prost_reflect_wire.specs.declared.error.DecodeError.TheVariants as errors
use Rattle.prost_reflect_laws.proofs.Places.{Body, allows_at, body_spells}
use Rattle.prost_reflect_laws.proofs.Accepted.{accepts_is_test}
use Rattle.prost_reflect_laws.proofs.NoFaultInside.{body_no_fault}
use Rattle.prost_reflect_laws.proofs.BodyOrFault.{SomeBody, body_or_fault}

-- Where a message of the type is read.
abbrev message_place : ℕ → ℕ → List ℕ → Place
message_place levels T bytes = record { bytes = bytes; inside = OfType T; levels = levels; open_group = None }

accepted_body : (schema : Schema) (levels T : ℕ) (bytes : List ℕ) → AreBytes bytes → (a : Accepts schema levels T bytes) → Body schema (message_place levels T bytes) a.records []
accepted_body schema levels T bytes small a = record {
  small = small;
  end = [];
  records = record { front = bytes; spelled = a.spelled; parts = sym (append-nil bytes) };
  ends = (refl, refl);
  allowed = sym (allows_at schema (message_place levels T bytes) T (items a.records) refl) ∙ a.allowed;
}

pub accepted_has_no_fault : (schema : Schema) (levels T : ℕ) (bytes : List ℕ) → AreBytes bytes → Accepts schema levels T bytes → (e : DecodeError) → StandsInMessage schema T levels e bytes → ⊥
accepted_has_no_fault schema levels T bytes small a e stands = body_no_fault schema stands a.records [] (accepted_body schema levels T bytes small a)

-- Want of memory stands in no bytes.
pub memory_never_stands : (schema : Schema) {e : DecodeError} {place : Place} → Stands schema e place → e ≡ errors.OutOfMemory → ⊥
memory_never_stands schema (Here {place} c) is = subst (λ x. Comes schema x place) is c
memory_never_stands schema (Behind r rest front more) is = memory_never_stands schema more is
memory_never_stands schema (InMessage n T k f body rest after found m kind left key d more) is = memory_never_stands schema more is
memory_never_stands schema (InGroup n T k f rest found m kind left key more) is = memory_never_stands schema more is
memory_never_stands schema (InUnknown n k rest found left key more) is = memory_never_stands schema more is
memory_never_stands schema (InEntry n f key_type body rest after found form level key d more) is = memory_never_stands schema more is

module _ (schema : Schema) (levels T : ℕ) (bytes : List ℕ) where
  -- Accepted bytes are refused for want of memory alone, where each other refusal is a fault that stands.
  pub accepted_only_memory : AreBytes bytes → Accepts schema levels T bytes → (e : DecodeError) → (e ≢ errors.OutOfMemory → StandsInMessage schema T levels e bytes) → e ≡ errors.OutOfMemory
  accepted_only_memory small a e stands = only_memory e (λ other. accepted_has_no_fault schema levels T bytes small a e (stands other))

  -- COMPLETENESS

  body_accepted : SomeBody schema (message_place levels T bytes) → Accepts schema levels T bytes
  body_accepted x = record {
    records = x.records;
    spelled = body_spells schema (message_place levels T bytes) x.records x.rest refl x.body;
    allowed = allows_at schema (message_place levels T bytes) T (items x.records) refl ∙ x.body.allowed;
  }

  refused_not_accepted : AreBytes bytes → accepts schema levels T bytes ≡ false → Accepts schema levels T bytes → ⊥
  refused_not_accepted small refused a = true≢false (sym ((accepts_is_test schema levels T bytes small).0 a) ∙ refused)

  -- What is not accepted has a fault.
  fault_of : AreBytes bytes → accepts schema levels T bytes ≡ false → (e : DecodeError) × StandsInMessage schema T levels e bytes
  fault_of small refused = elim (body_or_fault schema (suc (length bytes)) (message_place levels T bytes) (omega arith) small) [
    | inl x ↦ absurd (refused_not_accepted small refused (body_accepted x))
    | inr f ↦ (f.error, f.fault)
  ]

-- What has a fault is not accepted.
refused_by : (schema : Schema) (levels T : ℕ) (bytes : List ℕ) → AreBytes bytes → (e : DecodeError) → StandsInMessage schema T levels e bytes → accepts schema levels T bytes ≡ false
refused_by schema levels T bytes small e stands = go (accepts schema levels T bytes) refl
  where
    go : (b : Bool) → accepts schema levels T bytes ≡ b → accepts schema levels T bytes ≡ false
    go false is = is
    go true is = absurd (accepted_has_no_fault schema levels T bytes small ((accepts_is_test schema levels T bytes small).1 is) e stands)

pub accepted_unless_fault : (schema : Schema) (levels T : ℕ) (bytes : List ℕ) → AreBytes bytes → (accepts schema levels T bytes ≡ false) ↔ ((e : DecodeError) × StandsInMessage schema T levels e bytes)
accepted_unless_fault schema levels T bytes small = (fault_of schema levels T bytes small, λ x. refused_by schema levels T bytes small x.0 x.1)
