-- A field of one value, carried through a reduction.
use Rattle.std.specs.Prelude.{◌≡◌, ◌&&◌, ◌∷◌, ◌++◌, ◌⊎◌}
use Rattle.prost_reflect_laws.proofs.Common.{ℕ, Bool, true, false, cond, not, List, [], eq-eqb, subst, Option, Some, None, refl, ap, ap₂, sym, ◌∙◌, true≢false, append-nil, inl, inr, list_all, and_parts, and_from, not-true, ◌>>=◌, Payload, payload_valid, Scalar, ScalarKind, elem, scalar_valid, scalar_eq, Kind, ScalarOf, MessageOf, GroupOf, ValueType, Singular, Field, Value, ScalarValue, MessageValue, ListValue, MapValue, AllowsInside, last, is_stray, records_in, one_allowed, MeansInside, present, joined, one_value, element, scalar_values, value_payload, field_payloads, TypePairs, same_kind, same_default, last_passes, scalar_decides}
use Rattle.prost_reflect_laws.proofs.Alike.{alike, SameType}
use Rattle.prost_reflect_laws.proofs.ByNumber.{stored_payloads}
use Rattle.prost_reflect_laws.proofs.Inside.{joined_valid, joined_allowed}
use Rattle.prost_reflect_laws.proofs.Again.{Carries, ReadAs, Again, scalar_again, message_again, group_again, read_scalar_valid, FieldAgain, nothing_again}

-- what a single field shows of a value that was read
abbrev pub shown : ValueType → Value → Option Value
shown t (ScalarValue v) = present t v
shown t v = Some v

-- a value that stands alone
abbrev pub IsSingle : Value → Type 0
IsSingle (ScalarValue v) = Unit {0}
IsSingle (MessageValue c) = Unit {0}
IsSingle (ListValue vs) = ⊥
IsSingle (MapValue ps) = ⊥

-- what the older type reads of payloads, and the newer one
pub record BothRead (a : AllowsInside) (j : MeansInside) (tB : ValueType) (kA kB : Kind) (o o' : Option Value) : Type 0 where
  pub v : Value
  pub w : Value
  pub older : o ≡ Some v
  pub single : IsSingle v
  pub again : Again a j kA kB v w
  pub newer : o' ≡ shown tB w

abbrev pub SingleRead : AllowsInside → MeansInside → ValueType → Kind → Kind → Option Value → Option Value → Type 0
SingleRead a j tB kA kB o o' = ((o ≡ None) × (o' ≡ None)) ⊎ BothRead a j tB kA kB o o'

-- the tests of what a single value is read of
abbrev pub single_source : AllowsInside → Kind → Payload → Bool
single_source a kB p = payload_valid p && (one_allowed a kB p && not (is_stray kB p))

scalar_single : (pairs : TypePairs) (i : MeansInside) (a : AllowsInside) (j : MeansInside) (tA tB : ValueType) (kA kB : ScalarKind) (ps : List Payload) → same_kind pairs (ScalarOf kA) (ScalarOf kB) ≡ true → tB.presence ≡ tA.presence → scalar_eq tA.default tB.default ≡ true →
    list_all (single_source a (ScalarOf kB)) ps ≡ true → SingleRead a j tB (ScalarOf kA) (ScalarOf kB) (one_value i tA (ScalarOf kA) ps) (one_value j tB (ScalarOf kB) ps)
scalar_single pairs i a j tA tB kA kB ps h presence default sources = by_last (last ps) refl
  where
    shows : (v : Scalar) → present tB v ≡ present tA v
    shows v = ap₂ (λ b d. cond (not b && scalar_eq v d) None (Some (ScalarValue v))) presence (sym ((scalar_decides tA.default tB.default).0 default))

    by_present : (p : Payload) (v : Scalar) → scalar_valid kA v ≡ true → elem kB p ≡ Some v → (o : Option Value) → present tA v ≡ o → (elem kB p >>= present tB) ≡ present tB v → ((o ≡ None) × ((elem kB p >>= present tB) ≡ None)) ⊎ BothRead a j tB (ScalarOf kA) (ScalarOf kB) o (elem kB p >>= present tB)
    by_present p v ok found None e newer = inl (refl, newer ∙ shows v ∙ e)
    by_present p v ok found (Some u) e newer = inr (record { v = ScalarValue v; w = ScalarValue v; older = sym (value v u e); single = tt; again = scalar_again pairs a j kA kB v h ok; newer = newer })
      where
        value : (v : Scalar) (u : Value) → present tA v ≡ Some u → Some (ScalarValue v) ≡ Some u
        value v u e = go (not tA.presence && scalar_eq v tA.default) e
          where
            go : (b : Bool) → cond b None (Some (ScalarValue v)) ≡ Some u → Some (ScalarValue v) ≡ Some u
            go true e = cc
            go false e = e

    by_elem : (p : Payload) → single_source a (ScalarOf kB) p ≡ true → (o : Option Scalar) → elem kA p ≡ o → SingleRead a j tB (ScalarOf kA) (ScalarOf kB) (o >>= present tA) (elem kB p >>= present tB)
    by_elem p source None e = inl (refl, ap (λ o. o >>= present tB) ((alike kA kB h).reads p ∙ e))
    by_elem p source (Some v) e =
        let (ok, rest) = and_parts (payload_valid p) (one_allowed a (ScalarOf kB) p && not (is_stray (ScalarOf kB) p)) source in
        let stays : is_stray (ScalarOf kB) p ≡ false = not-true (is_stray (ScalarOf kB) p) (and_parts (one_allowed a (ScalarOf kB) p) (not (is_stray (ScalarOf kB) p)) rest).1 in
        let found : elem kB p ≡ Some v = (alike kA kB h).reads p ∙ e in
        by_present p v (read_scalar_valid pairs kA kB p v h ok stays e) found (present tA v) refl (ap (λ o. o >>= present tB) found)

    by_last : (o : Option Payload) → last ps ≡ o → SingleRead a j tB (ScalarOf kA) (ScalarOf kB) (o >>= λ p. elem kA p >>= present tA) (o >>= λ p. elem kB p >>= present tB)
    by_last None e = inl (refl, refl)
    by_last (Some p) e = by_elem p (last_passes (single_source a (ScalarOf kB)) p ps sources e) (elem kA p) refl

-- the parts of the tests
pub sources_valid : (a : AllowsInside) (kB : Kind) (ps : List Payload) → list_all (single_source a kB) ps ≡ true → (list_all payload_valid ps ≡ true) × (list_all (one_allowed a kB) ps ≡ true)
sources_valid a kB [] h = (refl, refl)
sources_valid a kB (p ∷ ps) h =
    let (one, more) = and_parts (single_source a kB p) (list_all (single_source a kB) ps) h in
    let (ok, rest) = and_parts (payload_valid p) (one_allowed a kB p && not (is_stray kB p)) one in
    let (all, all') = sources_valid a kB ps more in
    (and_from _ _ ok all, and_from _ _ (and_parts (one_allowed a kB p) (not (is_stray kB p)) rest).0 all')

pub single_read : (pairs : TypePairs) (k : ℕ) (i : MeansInside) (a : AllowsInside) (j : MeansInside) (tA tB : ValueType) (kA kB : Kind) (ps : List Payload) → Carries pairs k i a j → same_kind pairs kA kB ≡ true → tB.presence ≡ tA.presence → same_default kA tA.default tB.default ≡ true →
    list_all (single_source a kB) ps ≡ true → SingleRead a j tB kA kB (one_value i tA kA ps) (one_value j tB kB ps)
single_read pairs k i a j tA tB (ScalarOf kA) (ScalarOf kB) ps c h presence default sources = scalar_single pairs i a j tA tB kA kB ps h presence default sources
single_read pairs k i a j tA tB (MessageOf A) (MessageOf B) [] c h presence default sources = inl (refl, refl)
single_read pairs k i a j tA tB (MessageOf A) (MessageOf B) (p ∷ ps) c h presence default sources =
    let (ok, allowed) = sources_valid a (MessageOf B) (p ∷ ps) sources in
    inr (record {
      v = MessageValue (i A (joined (p ∷ ps)));
      w = MessageValue (j B (joined (p ∷ ps)));
      older = refl;
      single = tt;
      newer = refl;
      again = message_again pairs k i a j A B (joined (p ∷ ps)) c h (joined_valid (p ∷ ps) ok) (joined_allowed a (MessageOf B) B p ps c.join (eq-eqb B B refl) allowed);
    })
single_read pairs k i a j tA tB (GroupOf A) (GroupOf B) [] c h presence default sources = inl (refl, refl)
single_read pairs k i a j tA tB (GroupOf A) (GroupOf B) (p ∷ ps) c h presence default sources =
    let (ok, allowed) = sources_valid a (GroupOf B) (p ∷ ps) sources in
    inr (record {
      v = MessageValue (i A (joined (p ∷ ps)));
      w = MessageValue (j B (joined (p ∷ ps)));
      older = refl;
      single = tt;
      newer = refl;
      again = group_again pairs k i a j A B (joined (p ∷ ps)) c h (joined_valid (p ∷ ps) ok) (joined_allowed a (GroupOf B) B p ps c.join (eq-eqb B B refl) allowed);
    })
single_read pairs k i a j tA tB _ _ ps c h presence default sources = absurd (true≢false (sym h))

-- what is read of one payload alone
pub alone_read : (j : MeansInside) (tB : ValueType) (kB : Kind) (p : Payload) (w : Value) → element j kB p ≡ w ∷ [] → one_value j tB kB (p ∷ []) ≡ shown tB w
alone_read j tB (ScalarOf kB) p w e = go (elem kB p) e
  where
    go : (o : Option Scalar) → scalar_values o ≡ w ∷ [] → (o >>= present tB) ≡ shown tB w
    go None e = cc
    go (Some v) e = ap (λ l. elim l [ [] ↦ shown tB (ScalarValue v) | u ∷ us ↦ shown tB u ]) e
alone_read j tB (MessageOf B) p w e = ap (λ rs. Some (MessageValue (j B rs))) (append-nil (records_in p)) ∙ ap (λ l. elim l [ [] ↦ Some (MessageValue (j B (records_in p))) | u ∷ us ↦ shown tB u ]) e
alone_read j tB (GroupOf B) p w e = ap (λ rs. Some (MessageValue (j B rs))) (append-nil (records_in p)) ∙ ap (λ l. elim l [ [] ↦ Some (MessageValue (j B (records_in p))) | u ∷ us ↦ shown tB u ]) e

single_payload : (f : Field) (v : Value) → IsSingle v → field_payloads (Some f) v ≡ value_payload f.value_type.kind v ∷ []
single_payload f (ScalarValue v) s = refl
single_payload f (MessageValue c) s = refl
single_payload f _ s = absurd s

-- one value that is carried
pub value_again : (k : ℕ) (a : AllowsInside) (j : MeansInside) (f : Field) (tB : ValueType) (v w : Value) → IsSingle v → Again a j f.value_type.kind tB.kind v w → FieldAgain k a j Singular tB (field_payloads (Some f) v) (shown tB w)
value_again k a j f tB v w single again =
    let q : Payload = value_payload f.value_type.kind v in
    subst (λ (l : List Payload). FieldAgain k a j Singular tB l (shown tB w)) (sym (single_payload f v single)) (record {
      sound = (again.sound, tt);
      read = λ spelt.
          let r : ReadAs a j f.value_type.kind tB.kind v w = again.read (and_parts (payload_valid q) true spelt).0 in
          record {
            strays = ap (λ b. cond b (q ∷ []) [] ++ []) r.stays;
            value = ap (λ b. one_value j tB tB.kind (cond (not b) (q ∷ []) [] ++ [])) r.stays ∙ alone_read j tB tB.kind q w r.means;
            allowed = and_from _ _ r.allowed refl;
          };
    })

-- the field of one value
pub single_again : (pairs : TypePairs) (k : ℕ) (i : MeansInside) (a : AllowsInside) (j : MeansInside) (f : Field) (tB : ValueType) (ps : List Payload) → Carries pairs k i a j → SameType pairs f.value_type tB →
    list_all (single_source a tB.kind) ps ≡ true → FieldAgain k a j Singular tB (stored_payloads (Some f) (one_value i f.value_type f.value_type.kind ps)) (one_value j tB tB.kind ps)
single_again pairs k i a j f tB ps c same sources = go (single_read pairs k i a j tA tB tA.kind tB.kind ps c same.kind same.presence same.default sources)
  where
    tA : ValueType
    tA = f.value_type

    go : SingleRead a j tB f.value_type.kind tB.kind (one_value i f.value_type f.value_type.kind ps) (one_value j tB tB.kind ps) → FieldAgain k a j Singular tB (stored_payloads (Some f) (one_value i f.value_type f.value_type.kind ps)) (one_value j tB tB.kind ps)
    go (inl (none, none')) =
        subst (λ (o : Option Value). FieldAgain k a j Singular tB (stored_payloads (Some f) o) (one_value j tB tB.kind ps)) (sym none)
        (subst (λ (o : Option Value). FieldAgain k a j Singular tB [] o) (sym none') (nothing_again k a j Singular tB))
    go (inr both) =
        subst (λ (o : Option Value). FieldAgain k a j Singular tB (stored_payloads (Some f) o) (one_value j tB tB.kind ps)) (sym both.older)
        (subst (λ (o : Option Value). FieldAgain k a j Singular tB (stored_payloads (Some f) (Some both.v)) o) (sym both.newer) (value_again k a j f tB both.v both.w both.single both.again))
