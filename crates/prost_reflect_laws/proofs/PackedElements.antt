-- Elements of a packed record, read one behind another.
use Rattle.std.specs.Prelude.{◌||◌, ◌≡◌, ◌≢◌, ◌&&◌, ◌⊎◌, ◌∷◌, ◌++◌}
use Rattle.prost_reflect_laws.proofs.Common.{or_left, or_right, ℕ, Bool, true, false, cond, inl, inr, List, [], map, flat_map, Option, Some, refl, ap, ap₂, sym, ◌∙◌, subst, append_assoc, true≢false, ◌>>=◌, is_some, and_from, same_Some, DecodeError, WireType, Plain, Var, Fix64, Len, Fix32, Flat, DelimitedFront, PlainFault, PayloadEnds, PayloadPasses, Scalar, ScalarKind, elem, kind_wire, ScalarOf, Repeated, Field, is_packable, is_map, Value, ScalarValue, or_none, unpacked, element_payloads_in, fits, packed_allowed, scalar_values, ElementFault, ElementEnds, ElementPasses, PackedNext, takes, same_wire, ScalarRead, ScalarFault, FieldFault, ElementsRead, packed_values, bind_ok, flat_append, delimited_plain}
use Rattle.prost_reflect_wire.specs.declared.error.DecodeError.TheVariants as errors
use Rattle.prost_reflect_wire.specs.declared.key.WireType.TheVariants as wires
use Rattle.prost_reflect_laws.proofs.KindsAllowed.{kind_no_end, element_name}
use Rattle.prost_reflect_laws.proofs.KindsTaken.{not_both, packable_no_len}
use Rattle.prost_reflect_laws.proofs.PackedNumbers.{PlainsFront, plains_more, fault_behind, plains_unpacked}

-- the values of payloads
abbrev pub plain_values : ScalarKind → List Plain → List Value
plain_values kind ps = flat_map (λ p. scalar_values (elem kind (Flat p))) ps

-- elements read so far
pub record ElementsSoFar (kind : ScalarKind) (old new : List Value) (body rest : List ℕ) : Type 0 where
  pub plains : List Plain
  pub front : PlainsFront (kind_wire kind) plains body rest
  pub added : new ≡ old ++ plain_values kind plains

module _ (kind : ScalarKind) where
  pub elements_more : (v : Scalar) (old new newer : List Value) (body mid rest : List ℕ) → ElementsSoFar kind old new body mid → ScalarRead kind (kind_wire kind) v mid rest → newer ≡ new ++ ScalarValue v ∷ [] →
      ElementsSoFar kind old newer body rest
  elements_more v old new newer body mid rest s r e = record {
    plains = s.plains ++ r.plain ∷ [];
    front = plains_more (kind_wire kind) s.plains r.plain body mid rest s.front r.front r.wire;
    added = e ∙ ap (λ l. l ++ ScalarValue v ∷ []) s.added ∙ append_assoc old (plain_values kind s.plains) (ScalarValue v ∷ [])
        ∙ ap (λ l. old ++ l) (sym (flat_append (λ p. scalar_values (elem kind (Flat p))) s.plains (r.plain ∷ []) ∙ ap (λ o. plain_values kind s.plains ++ (scalar_values o ++ [])) r.value));
  }

  element_fault : (e : DecodeError) (rest : List ℕ) → is_packable kind ≡ true → rest ≢ [] → ScalarFault kind (kind_wire kind) e rest → ElementFault (kind_wire kind) e rest
  element_fault errors.Truncated [] p some f = absurd (some refl)
  element_fault errors.Truncated (b ∷ rest) p some f = ElementEnds f
  element_fault errors.Varint rest p some f = ElementPasses f
  element_fault errors.WireType rest p some f = absurd (true≢false (sym (same_itself (kind_wire kind)) ∙ f.1))
    where
      same_itself : (w : WireType) → same_wire w w ≡ true
      same_itself wires.Varint = refl
      same_itself wires.SixtyFourBit = refl
      same_itself wires.LengthDelimited = refl
      same_itself wires.StartGroup = refl
      same_itself wires.EndGroup = refl
      same_itself wires.ThirtyTwoBit = refl
  element_fault errors.EndGroup rest p some f = absurd (kind_no_end kind f)
  element_fault errors.Utf8 rest p some f = absurd (true≢false (sym p ∙ ap is_packable f.1))
  element_fault e rest p some f = absurd f

  -- an element that is refused
  pub elements_fault : (old new : List Value) (e : DecodeError) (body rest : List ℕ) → is_packable kind ≡ true → ElementsSoFar kind old new body rest → rest ≢ [] → ScalarFault kind (kind_wire kind) e rest → ElementFault (kind_wire kind) e body
  elements_fault old new e body rest p s some f = fault_behind (kind_wire kind) e s.plains body rest s.front (element_fault e rest p some f)

  -- WHAT IS READ

  pub elements_done : (old new : List Value) (body rest : List ℕ) → ElementsSoFar kind old new body rest → rest ≡ [] → (vs : List Value) × (packed_values kind body ≡ Some vs) × (new ≡ old ++ vs)
  elements_done old new body rest s e = (
    plain_values kind s.plains,
    ap (λ (o : Option (List Plain)). o >>= λ ps. Some (plain_values kind ps)) (plains_unpacked kind s.plains body (subst (PlainsFront (kind_wire kind) s.plains body) e s.front)),
    s.added,
  )

  flat_values : (ps : List Plain) → flat_map (λ q. scalar_values (elem kind q)) (map Flat ps) ≡ plain_values kind ps
  flat_values [] = refl
  flat_values (p ∷ ps) = ap (λ l. scalar_values (elem kind (Flat p)) ++ l) (flat_values ps)

  -- packed elements
  pub packed_read : (w : WireType) (vs : List Value) (body bytes rest : List ℕ) → is_packable kind ≡ true → w ≡ wires.LengthDelimited → DelimitedFront body bytes rest → packed_values kind body ≡ Some vs → ElementsRead kind w vs bytes rest
  packed_read w vs body bytes rest p wire front h =
      let (plains, whole, values) = bind_ok (λ ps. Some (plain_values kind ps)) (unpacked kind body) vs h in
      record {
        plain = Len body;
        wire = sym wire;
        front = delimited_plain body bytes rest front;
        taken = or_right (fits kind (Flat (Len body))) (packed_allowed (ScalarOf kind) (Flat (Len body))) (and_from _ _ p (ap is_some whole));
        values = sym (ap (λ b. flat_map (λ q. scalar_values (elem kind q)) (cond b (map Flat (or_none (unpacked kind body))) (Flat (Len body) ∷ []))) p
            ∙ ap (λ o. flat_map (λ q. scalar_values (elem kind q)) (map Flat (or_none o))) whole
            ∙ flat_values plains ∙ same_Some _ _ values);
      }

  -- a payload that the kind itself takes is one element
  lone_element : (p : Plain) → fits kind (Flat p) ≡ true → element_payloads_in (ScalarOf kind) (Flat p) ≡ Flat p ∷ []
  lone_element (Var v) h = refl
  lone_element (Fix64 b) h = refl
  lone_element (Fix32 b) h = refl
  lone_element (Len b) h = go (is_packable kind) refl
    where
      go : (x : Bool) → is_packable kind ≡ x → cond x (map Flat (or_none (unpacked kind b))) (Flat (Len b) ∷ []) ≡ Flat (Len b) ∷ []
      go true e = absurd (not_both h (packable_no_len kind b e))
      go false e = refl

  pub single_read : (w : WireType) (v : Scalar) (bytes rest : List ℕ) → ScalarRead kind w v bytes rest → ElementsRead kind w (ScalarValue v ∷ []) bytes rest
  single_read w v bytes rest r =
      let fit : fits kind (Flat r.plain) ≡ true = ap is_some r.value in
      record {
        plain = r.plain;
        wire = r.wire;
        front = r.front;
        taken = or_left (fits kind (Flat r.plain)) (packed_allowed (ScalarOf kind) (Flat r.plain)) fit;
        values = sym (ap (flat_map (λ q. scalar_values (elem kind q))) (lone_element r.plain fit) ∙ ap (λ o. scalar_values o ++ []) r.value);
      }

  -- WHAT IS REFUSED

  pub packed_refused : (f : Field) (packed : Bool) (w : WireType) (e : DecodeError) (body bytes rest : List ℕ) → f.form ≡ Repeated packed → f.value_type.kind ≡ ScalarOf kind → is_packable kind ≡ true → w ≡ wires.LengthDelimited →
      DelimitedFront body bytes rest → ElementFault (kind_wire kind) e body → FieldFault e f w bytes
  packed_refused f packed w e body bytes rest form is p wire front fault = go (element_name (kind_wire kind) fault)
    where
      next : (d : DecodeError) → e ≡ d → PackedNext d f w bytes
      next d name = (wire, (packed, form), (kind, is, p, (body, rest, front, subst (λ e. ElementFault (kind_wire kind) e body) name fault)))

      go : (e ≡ errors.Truncated) ⊎ (e ≡ errors.Varint) → FieldFault e f w bytes
      go (inl name) = subst (λ e. FieldFault e f w bytes) (sym name) (inr (next errors.Truncated name))
      go (inr name) = subst (λ e. FieldFault e f w bytes) (sym name) (inr (next errors.Varint name))

pub delimited_refused : (f : Field) (w : WireType) (e : DecodeError) (bytes : List ℕ) → w ≡ wires.LengthDelimited → PlainFault e wires.LengthDelimited bytes → FieldFault e f w bytes
delimited_refused f w errors.Truncated bytes wire fault = inl (subst (λ w. PayloadEnds w bytes) (sym wire) fault)
delimited_refused f w errors.Varint bytes wire fault = inl (subst (λ w. PayloadPasses w bytes) (sym wire) fault)
delimited_refused f w e bytes wire fault = absurd fault

pub single_refused : (kind : ScalarKind) (f : Field) (packed : Bool) (w : WireType) (e : DecodeError) (bytes : List ℕ) → f.form ≡ Repeated packed → f.value_type.kind ≡ ScalarOf kind → (is_packable kind && same_wire w wires.LengthDelimited) ≡ false →
    ScalarFault kind w e bytes → FieldFault e f w bytes
single_refused kind f packed w errors.Truncated bytes form is one fault = inl fault
single_refused kind f packed w errors.Varint bytes form is one fault = inl fault
single_refused kind f packed w errors.WireType bytes form is one fault =
    (fault.0, ap (λ form. takes form f.value_type.kind w) form ∙ ap (λ kind. takes (Repeated packed) kind w) is ∙ ap₂ ◌||◌ fault.1 one)
single_refused kind f packed w errors.EndGroup bytes form is one fault = fault
single_refused kind f packed w errors.Utf8 bytes form is one fault = (fault.0, ap is_map form, is ∙ ap ScalarOf fault.1, fault.2)
single_refused kind f packed w e bytes form is one fault = absurd fault
