-- A front of the bytes is at most one plain payload of a wire type, and none where a fault stands.
use Rattle.std.specs.Prelude.{◌≡◌, ◌≤◌, ◌++◌}
use Rattle.prost_reflect_wire.proofs.Common.{ℕ, List, length, take, drop, Option, Some, refl, sym, ap, subst, ◌∙◌, arith, append_assoc, length-append, inl, inr, length-take, take-append-drop, DecodeError, Varint, Plain, Var, Fix64, Len, Fix32, plain_wire, plain_at, VarintFront, PlainFront, DelimitedFront, LengthPasses, PlainFault}
use Rattle.prost_reflect_wire.specs.declared.error.DecodeError.TheVariants as errors
use Rattle.prost_reflect_wire.specs.declared.key.WireType.TheVariants as wires
use Rattle.prost_reflect_wire.proofs.Reading.{plain_read}
use Rattle.prost_reflect_wire.proofs.VarintFronts.{varint_once, varint_no_fault}

abbrev Found : Type 0
Found = Option (Plain × List ℕ)

abbrev found : Plain → List ℕ → Found
found p rest = Some (p, rest)

-- ONE READING

pub plain_once : (p q : Plain) (bytes rest end : List ℕ) → plain_wire p ≡ plain_wire q → PlainFront p bytes rest → PlainFront q bytes end → (p ≡ q) × (rest ≡ end)
plain_once p q bytes rest end same f g =
    let e : found p rest ≡ found q end = sym (ap (plain_at (plain_wire p)) f.parts ∙ plain_read p f.front rest f.spelled) ∙ ap (λ w. plain_at w bytes) same ∙ ap (plain_at (plain_wire q)) g.parts ∙ plain_read q g.front end g.spelled in
    let both : ◌≡◌ {A = Plain × List ℕ} (p, rest) (q, end) = cc in
    (ap (λ (x : Plain × List ℕ). x.0) both, ap (λ (x : Plain × List ℕ). x.1) both)

pub fix64_once : (a b bytes rest end : List ℕ) → PlainFront (Fix64 a) bytes rest → PlainFront (Fix64 b) bytes end → (a ≡ b) × (rest ≡ end)
fix64_once a b bytes rest end f g = let (same, behind) = plain_once (Fix64 a) (Fix64 b) bytes rest end refl f g in (cc, behind)

pub fix32_once : (a b bytes rest end : List ℕ) → PlainFront (Fix32 a) bytes rest → PlainFront (Fix32 b) bytes end → (a ≡ b) × (rest ≡ end)
fix32_once a b bytes rest end f g = let (same, behind) = plain_once (Fix32 a) (Fix32 b) bytes rest end refl f g in (cc, behind)

pub delimited_plain : (body bytes rest : List ℕ) → DelimitedFront body bytes rest → PlainFront (Len body) bytes rest
delimited_plain body bytes rest f = record { front = f.front; spelled = f.spelled; parts = f.parts }

pub varint_plain : (v : ℕ) (bytes rest : List ℕ) → VarintFront v bytes rest → PlainFront (Var v) bytes rest
varint_plain v bytes rest f = record { front = f.front; spelled = f.varint; parts = f.parts }

pub plain_delimited : (body bytes rest : List ℕ) → PlainFront (Len body) bytes rest → DelimitedFront body bytes rest
plain_delimited body bytes rest f = record { front = f.front; spelled = f.spelled; parts = f.parts }

pub delimited_once : (a b bytes rest end : List ℕ) → DelimitedFront a bytes rest → DelimitedFront b bytes end → (a ≡ b) × (rest ≡ end)
delimited_once a b bytes rest end f g = let (same, behind) = plain_once (Len a) (Len b) bytes rest end refl (delimited_plain a bytes rest f) (delimited_plain b bytes end g) in (cc, behind)

-- WHAT A LENGTH COUNTS

pub delimited_cut : (len : ℕ) (body bytes after rest : List ℕ) → VarintFront len bytes after → body ≡ take len after → rest ≡ drop len after → len ≤ length after → DelimitedFront body bytes rest
delimited_cut len body bytes after rest f is behind long =
    let size : len ≡ length body = sym (ap length is ∙ omega (arith, length-take len after)) in
    let cut : after ≡ body ++ rest = rw (is, behind) (sym (take-append-drop len after)) in
    record {
      front = f.front ++ body;
      spelled = (f.front, subst (λ (n : ℕ). Varint n f.front) size f.varint, refl);
      parts = f.parts ∙ ap (λ (l : List ℕ). f.front ++ l) cut ∙ sym (append_assoc f.front body rest);
    }

-- the length of a payload at the front
pub delimited_length : (body bytes rest : List ℕ) → DelimitedFront body bytes rest → VarintFront (length body) bytes (body ++ rest)
delimited_length body bytes rest f = let (len, varint, whole) = f.spelled in
    record { front = len; varint = varint; parts = f.parts ∙ ap (λ (l : List ℕ). l ++ rest) whole ∙ append_assoc len body rest }

-- FAULTS

length_passes_none : (body bytes rest : List ℕ) → DelimitedFront body bytes rest → LengthPasses bytes → ⊥
length_passes_none body bytes rest f passes =
    let (size, behind) = varint_once (length body) passes.size bytes (body ++ rest) passes.rest (delimited_length body bytes rest f) passes.front in
    omega (arith, size, ap length behind, length-append body rest, passes.short)

pub delimited_no_fault : (e : DecodeError) (body bytes rest : List ℕ) → DelimitedFront body bytes rest → PlainFault e wires.LengthDelimited bytes → ⊥
delimited_no_fault errors.Truncated body bytes rest f (inl ends) = varint_no_fault errors.Truncated (length body) bytes (body ++ rest) (delimited_length body bytes rest f) ends
delimited_no_fault errors.Truncated body bytes rest f (inr passes) = length_passes_none body bytes rest f passes
delimited_no_fault errors.Varint body bytes rest f passes = varint_no_fault errors.Varint (length body) bytes (body ++ rest) (delimited_length body bytes rest f) passes
delimited_no_fault e body bytes rest f h = absurd h

pub plain_no_fault : (e : DecodeError) (p : Plain) (bytes rest : List ℕ) → PlainFront p bytes rest → PlainFault e (plain_wire p) bytes → ⊥
plain_no_fault errors.Truncated (Var v) bytes rest f h = varint_no_fault errors.Truncated v bytes rest (record { front = f.front; varint = f.spelled; parts = f.parts }) h
plain_no_fault errors.Varint (Var v) bytes rest f h = varint_no_fault errors.Varint v bytes rest (record { front = f.front; varint = f.spelled; parts = f.parts }) h
plain_no_fault errors.Truncated (Fix64 eight) bytes rest f h = omega (arith, ap length f.parts, length-append f.front rest, ap length f.spelled.1, f.spelled.0, h)
plain_no_fault errors.Truncated (Fix32 four) bytes rest f h = omega (arith, ap length f.parts, length-append f.front rest, ap length f.spelled.1, f.spelled.0, h)
plain_no_fault e (Len body) bytes rest f h = delimited_no_fault e body bytes rest (plain_delimited body bytes rest f) h
plain_no_fault e p bytes rest f h = absurd h
