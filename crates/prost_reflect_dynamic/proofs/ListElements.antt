-- Elements of lists, read and put behind others.
use Rattle.std.specs.Prelude.{◌≡◌, ◌≢◌, ◌∷◌, ◌++◌}
use Rattle.prost_reflect_dynamic.proofs.Common.{ℕ, true, List, [], map, Some, sym, ap, ◌∙◌, subst, IsSomeAnd, WireType, DecodeError, DelimitedFront, ScalarKind, kind_wire, is_packable, ScalarValue, ScalarRead, ScalarFault, map-append, TableKind, Value, value_of, plain_kind, HasWire, ReadsScalar, RefusesScalar, AddsPacked, RefusesPacked, AddsElements, RefusesElements}
use Rattle.prost_reflect_wire.specs.declared.key.WireType.TheVariants as wires
use Rattle.prost_reflect_laws.proofs.PackedElements.{ElementsSoFar, elements_more, elements_done, elements_fault, packed_read, single_read, packed_refused}
use Rattle.prost_reflect_dynamic.proofs.Merging.{same_kind}

-- PACKED

pub record PackedSoFar (kind : TableKind) (old new : List Value) (body rest : List ℕ) : Type 0 where
  pub scalar_kind : ScalarKind
  pub plain : plain_kind kind ≡ Some scalar_kind
  pub packable : is_packable scalar_kind ≡ true
  pub elements : ElementsSoFar scalar_kind (map value_of old) (map value_of new) body rest

has_wire : (kind : TableKind) (k : ScalarKind) (w : WireType) → plain_kind kind ≡ Some k → HasWire kind w → kind_wire k ≡ w
has_wire kind k w e h = subst (λ o. IsSomeAnd o (λ k. kind_wire k ≡ w)) e h

pub packed_more : (kind : TableKind) (w : WireType) (v : Value) (old new newer : List Value) (body mid rest : List ℕ) → PackedSoFar kind old new body mid → HasWire kind w → ReadsScalar kind w v mid rest → newer ≡ new ++ v ∷ [] → PackedSoFar kind old newer body rest
packed_more kind w v old new newer body mid rest s h r e =
    let own : r.scalar_kind ≡ s.scalar_kind = same_kind r.plain s.plain in
    record {
      scalar_kind = s.scalar_kind;
      plain = s.plain;
      packable = s.packable;
      elements = elements_more s.scalar_kind r.scalar (map value_of old) (map value_of new) (map value_of newer) body mid rest s.elements
          (subst (λ w. ScalarRead s.scalar_kind w r.scalar mid rest) (sym (has_wire kind s.scalar_kind w s.plain h)) (subst (λ k. ScalarRead k w r.scalar mid rest) own r.read))
          (ap (map value_of) e ∙ map-append value_of new (v ∷ []) ∙ ap (λ v. map value_of new ++ v ∷ []) r.value);
    }

pub packed_done : (kind : TableKind) (old new : List Value) (body rest : List ℕ) → PackedSoFar kind old new body rest → rest ≡ [] → AddsPacked kind old new body
packed_done kind old new body rest s e =
    let (vs, read, appended) = elements_done s.scalar_kind (map value_of old) (map value_of new) body rest s.elements e in
    record { scalar_kind = s.scalar_kind; plain = s.plain; added = vs; appended = appended; read = read }

pub packed_fault : (kind : TableKind) (w : WireType) (e : DecodeError) (old new : List Value) (body rest : List ℕ) → PackedSoFar kind old new body rest → HasWire kind w → rest ≢ [] → RefusesScalar kind w e rest → RefusesPacked kind e body
packed_fault kind w e old new body rest s h some r =
    let own : r.scalar_kind ≡ s.scalar_kind = same_kind r.plain s.plain in
    record {
      scalar_kind = s.scalar_kind;
      plain = s.plain;
      fault = elements_fault s.scalar_kind (map value_of old) (map value_of new) e body rest s.packable s.elements some
          (subst (λ w. ScalarFault s.scalar_kind w e rest) (sym (has_wire kind s.scalar_kind w s.plain h)) (subst (λ k. ScalarFault k w e rest) own r.fault));
    }

-- A RECORD

pub packed_added : (kind : TableKind) (w : WireType) (old new : List Value) (body bytes rest : List ℕ) → w ≡ wires.LengthDelimited → IsSomeAnd (plain_kind kind) (λ k. is_packable k ≡ true) → DelimitedFront body bytes rest → AddsPacked kind old new body →
    AddsElements kind w old new bytes rest
packed_added kind w old new body bytes rest wire h front a =
    let packable : is_packable a.scalar_kind ≡ true = subst (λ o. IsSomeAnd o (λ k. is_packable k ≡ true)) a.plain h in
    record { scalar_kind = a.scalar_kind; plain = a.plain; added = a.added; appended = a.appended; read = packed_read a.scalar_kind w a.added body bytes rest packable wire front a.read }

pub single_added : (kind : TableKind) (w : WireType) (v : Value) (old new : List Value) (bytes rest : List ℕ) → ReadsScalar kind w v bytes rest → new ≡ old ++ v ∷ [] → AddsElements kind w old new bytes rest
single_added kind w v old new bytes rest r e = record {
  scalar_kind = r.scalar_kind;
  plain = r.plain;
  added = ScalarValue r.scalar ∷ [];
  appended = ap (map value_of) e ∙ map-append value_of old (v ∷ []) ∙ ap (λ v. map value_of old ++ v ∷ []) r.value;
  read = single_read r.scalar_kind w r.scalar bytes rest r.read;
}

pub body_refused : (kind : TableKind) (w : WireType) (e : DecodeError) (body bytes rest : List ℕ) → w ≡ wires.LengthDelimited → IsSomeAnd (plain_kind kind) (λ k. is_packable k ≡ true) → DelimitedFront body bytes rest → RefusesPacked kind e body → RefusesElements kind w e bytes
body_refused kind w e body bytes rest wire h front r =
    let packable : is_packable r.scalar_kind ≡ true = subst (λ o. IsSomeAnd o (λ k. is_packable k ≡ true)) r.plain h in
    record { scalar_kind = r.scalar_kind; plain = r.plain; fault = λ f packed form is. packed_refused r.scalar_kind f packed w e body bytes rest form is packable wire front r.fault }
