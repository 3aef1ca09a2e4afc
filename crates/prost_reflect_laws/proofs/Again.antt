-- What an older type writes of one value, a newer one of a reduction reads as what it read before.
use Rattle.std.specs.Prelude.{◌≡◌, ◌∷◌}
use Rattle.prost_reflect_laws.proofs.Common.{ℕ, nat_lt, eq-eqb, true, false, List, [], flat_map, Option, Some, None, refl, ap, sym, ◌∙◌, true≢false, is_some, list_all, eqb-true, Record, Payload, body_of, payload_valid, valid, Scalar, ScalarKind, elem, scalar_valid, Kind, ScalarOf, MessageOf, GroupOf, ValueType, FieldForm, passes, Content, Value, ScalarValue, MessageValue, AllowsInside, is_stray, element_payloads_in, value_payloads, stray_payloads, one_allowed, field_allowed, MeansInside, element, scalar_values, field_value, records, value_payload, is_of_type, TypePairs, holds, same_kind, field_nothing, items_body, ElementBack}
use Rattle.prost_reflect_laws.proofs.Table.{read_back}
use Rattle.prost_reflect_laws.proofs.Declared.{read_valid}
use Rattle.prost_reflect_laws.proofs.Values.{payload_back}
use Rattle.prost_reflect_laws.proofs.Packed.{scalar_element}
use Rattle.prost_reflect_laws.proofs.Spelt.{Sound, SoundPayload, SoundPayloads}
use Rattle.prost_reflect_laws.proofs.Valid.{scalar_sound, inside_sound}
use Rattle.prost_reflect_laws.proofs.Means.{inside_valid}
use Rattle.prost_reflect_laws.proofs.Alike.{alike, stray_alike, elements_alike}
use Rattle.prost_reflect_laws.proofs.Inside.{Joinable}
use Rattle.prost_reflect_laws.proofs.Allowed.{len_body}

-- One level down: what the records of an older type mean is written so that the newer one, which allows them, allows it and means the same by it.
pub record Carries (pairs : TypePairs) (k : ℕ) (i : MeansInside) (a : AllowsInside) (j : MeansInside) : Type 0 where
  pub sound : (A B : ℕ) (rs : List Record) → holds pairs A B ≡ true → valid (body_of rs) ≡ true → a B rs ≡ true → Sound (records (i A rs))
  pub allowed : (A B : ℕ) (rs : List Record) → holds pairs A B ≡ true → valid (body_of rs) ≡ true → a B rs ≡ true → valid (body_of (records (i A rs))) ≡ true → a B (records (i A rs)) ≡ true
  pub same : (A B : ℕ) (rs : List Record) → holds pairs A B ≡ true → valid (body_of rs) ≡ true → a B rs ≡ true → valid (body_of (records (i A rs))) ≡ true → j B (records (i A rs)) ≡ j B rs
  pub join : Joinable a
  pub nothing : (B : ℕ) → nat_lt 0 k ≡ true → a B [] ≡ true

-- ONE VALUE

-- the payload of v by the kind of the older type is read as w by that of the newer one
pub record ReadAs (a : AllowsInside) (j : MeansInside) (kA kB : Kind) (v w : Value) : Type 0 where
  pub alone : element_payloads_in kB (value_payload kA v) ≡ value_payload kA v ∷ []
  pub stays : is_stray kB (value_payload kA v) ≡ false
  pub allowed : one_allowed a kB (value_payload kA v) ≡ true
  pub means : element j kB (value_payload kA v) ≡ w ∷ []

-- if it has a spelling; and it has one if it is short
pub record Again (a : AllowsInside) (j : MeansInside) (kA kB : Kind) (v w : Value) : Type 0 where
  pub sound : SoundPayload (value_payload kA v)
  pub read : payload_valid (value_payload kA v) ≡ true → ReadAs a j kA kB v w

module _ (pairs : TypePairs) (a : AllowsInside) (j : MeansInside) where
  pub scalar_reads : (kA kB : ScalarKind) (v : Scalar) → same_kind pairs (ScalarOf kA) (ScalarOf kB) ≡ true → scalar_valid kA v ≡ true →
      ReadAs a j (ScalarOf kA) (ScalarOf kB) (ScalarValue v) (ScalarValue v)
  scalar_reads kA kB v h ok =
      let p : Payload = value_payload (ScalarOf kA) (ScalarValue v) in
      let back : ElementBack j (ScalarOf kA) (ScalarValue v) = scalar_element j kA v ok in
      let found : elem kB p ≡ Some v = (alike kA kB h).reads p ∙ read_back kA v ok in
      record {
        alone = elements_alike pairs (ScalarOf kA) (ScalarOf kB) p h ∙ back.one;
        stays = stray_alike pairs (ScalarOf kA) (ScalarOf kB) p h ∙ back.fits;
        allowed = ap is_some found;
        means = ap scalar_values found;
      }

  pub scalar_again : (kA kB : ScalarKind) (v : Scalar) → same_kind pairs (ScalarOf kA) (ScalarOf kB) ≡ true → scalar_valid kA v ≡ true →
      Again a j (ScalarOf kA) (ScalarOf kB) (ScalarValue v) (ScalarValue v)
  scalar_again kA kB v h ok = record { sound = scalar_sound (ScalarOf kA) v ok; read = λ spelt. scalar_reads kA kB v h ok }

  -- a message of the older type, and what the newer one reads of its records
  pub written_again : (kA kB : Kind) (B : ℕ) (c d : Content) → same_kind pairs kA kB ≡ true → is_of_type kB B ≡ true → Sound (records c) →
      (valid (body_of (records c)) ≡ true → a B (records c) ≡ true) → (valid (body_of (records c)) ≡ true → j B (records c) ≡ d) → Again a j kA kB (MessageValue c) (MessageValue d)
  written_again (MessageOf A) (MessageOf U) B c d h t s allowed same = record {
    sound = inside_sound (MessageOf A) (records c) s;
    read = λ spelt.
        let ok : valid (body_of (records c)) ≡ true = inside_valid (MessageOf A) (records c) s spelt in
        record {
          alone = refl;
          stays = refl;
          allowed = ap (λ o. passes o (a U)) (len_body (records c) ok) ∙ ap (λ (n : ℕ). a n (records c)) (sym (eqb-true B U t)) ∙ allowed ok;
          means = ap (λ rs. MessageValue (j U rs) ∷ []) (payload_back (MessageOf A) (records c) ok) ∙ ap (λ (n : ℕ). MessageValue (j n (records c)) ∷ []) (sym (eqb-true B U t)) ∙ ap (λ c. MessageValue c ∷ []) (same ok);
        };
  }
  written_again (GroupOf A) (GroupOf U) B c d h t s allowed same = record {
    sound = inside_sound (GroupOf A) (records c) s;
    read = λ ok. record {
      alone = refl;
      stays = refl;
      allowed = ap (a U) (items_body (records c)) ∙ ap (λ (n : ℕ). a n (records c)) (sym (eqb-true B U t)) ∙ allowed ok;
      means = ap (λ rs. MessageValue (j U rs) ∷ []) (payload_back (GroupOf A) (records c) ok) ∙ ap (λ (n : ℕ). MessageValue (j n (records c)) ∷ []) (sym (eqb-true B U t)) ∙ ap (λ c. MessageValue c ∷ []) (same ok);
    };
  }
  written_again kA (ScalarOf kB) B c d h t s allowed same = absurd (true≢false (sym t))
  written_again _ _ B c d h t s allowed same = absurd (true≢false (sym h))

pub message_again : (pairs : TypePairs) (k : ℕ) (i : MeansInside) (a : AllowsInside) (j : MeansInside) (A B : ℕ) (rs : List Record) → Carries pairs k i a j → holds pairs A B ≡ true → valid (body_of rs) ≡ true → a B rs ≡ true →
    Again a j (MessageOf A) (MessageOf B) (MessageValue (i A rs)) (MessageValue (j B rs))
message_again pairs k i a j A B rs c h v e = written_again pairs a j (MessageOf A) (MessageOf B) B (i A rs) (j B rs) h (eq-eqb B B refl) (c.sound A B rs h v e) (c.allowed A B rs h v e) (c.same A B rs h v e)

pub group_again : (pairs : TypePairs) (k : ℕ) (i : MeansInside) (a : AllowsInside) (j : MeansInside) (A B : ℕ) (rs : List Record) → Carries pairs k i a j → holds pairs A B ≡ true → valid (body_of rs) ≡ true → a B rs ≡ true →
    Again a j (GroupOf A) (GroupOf B) (MessageValue (i A rs)) (MessageValue (j B rs))
group_again pairs k i a j A B rs c h v e = written_again pairs a j (GroupOf A) (GroupOf B) B (i A rs) (j B rs) h (eq-eqb B B refl) (c.sound A B rs h v e) (c.allowed A B rs h v e) (c.same A B rs h v e)

-- ONE PAYLOAD

-- the scalar of a payload that is no stray
pub read_scalar_valid : (pairs : TypePairs) (kA kB : ScalarKind) (p : Payload) (v : Scalar) → same_kind pairs (ScalarOf kA) (ScalarOf kB) ≡ true → payload_valid p ≡ true → is_stray (ScalarOf kB) p ≡ false → elem kA p ≡ Some v → scalar_valid kA v ≡ true
read_scalar_valid pairs kA kB p v h ok stays e = read_valid kA p v ok (sym (stray_alike pairs (ScalarOf kA) (ScalarOf kB) p h) ∙ stays) e

-- ONE FIELD

-- payloads of a field are allowed, leave no stray, and are read as this value or none
pub record FieldReads (k : ℕ) (a : AllowsInside) (j : MeansInside) (c : FieldForm) (t : ValueType) (ps : List Payload) (o : Option Value) : Type 0 where
  pub strays : flat_map (stray_payloads c t) ps ≡ []
  pub value : field_value j c t (flat_map (value_payloads c t) ps) ≡ o
  pub allowed : list_all (field_allowed k a c t) ps ≡ true

-- if they have a spelling; and they have one if they are short
pub record FieldAgain (k : ℕ) (a : AllowsInside) (j : MeansInside) (c : FieldForm) (t : ValueType) (ps : List Payload) (o : Option Value) : Type 0 where
  pub sound : SoundPayloads ps
  pub read : list_all payload_valid ps ≡ true → FieldReads k a j c t ps o

-- no payloads and no value
pub nothing_again : (k : ℕ) (a : AllowsInside) (j : MeansInside) (c : FieldForm) (t : ValueType) → FieldAgain k a j c t [] None
nothing_again k a j c t = record { sound = tt; read = λ spelt. record { strays = refl; value = field_nothing j c t; allowed = refl } }
