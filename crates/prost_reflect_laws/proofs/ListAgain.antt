-- A list, carried through a reduction: packing may differ.
use Rattle.std.specs.Prelude.{◌≡◌, ◌&&◌, ◌||◌, ◌∷◌, ◌++◌}
use Rattle.prost_reflect_laws.proofs.Common.{ℕ, Bool, true, false, cond, not, List, [], map, filter, flat_map, eq-eqb, Option, Some, None, refl, ap, ap₂, sym, subst, ◌∙◌, true≢false, append-nil, ⊤, is_some, list_all, and_parts, and_from, not-true, Plain, Len, Payload, Flat, payload_valid, Scalar, ScalarKind, elem, scalar_valid, Kind, ScalarOf, MessageOf, GroupOf, ValueType, Repeated, Field, is_packable, is_packable_kind, Value, ScalarValue, Values, NoValues, Item, values_from, AllowsInside, or_none, unpacked, records_in, is_stray, element_payloads_in, one_allowed, packed_allowed, MeansInside, element, scalar_values, present_list, end_to_end, list_payloads, value_payload, element_payloads, elements_valid, TypePairs, same_kind, element_allowed}
use Rattle.prost_reflect_laws.proofs.Packed.{unpacked_back}
use Rattle.prost_reflect_laws.proofs.Spelt.{SoundPayloads}
use Rattle.prost_reflect_laws.proofs.Valid.{scalar_sound, end_bytes, packed_sound}
use Rattle.prost_reflect_laws.proofs.Alike.{Alike, alike, elements_alike, unpacked_alike}
use Rattle.prost_reflect_laws.proofs.ByNumber.{stored_payloads}
use Rattle.prost_reflect_laws.proofs.Readable.{inside_spelled}
use Rattle.prost_reflect_laws.proofs.Inside.{message_inside}
use Rattle.prost_reflect_laws.proofs.Again.{Carries, ReadAs, Again, scalar_reads, scalar_again, message_again, group_again, read_scalar_valid, FieldAgain}
use Rattle.prost_reflect_laws.proofs.Lists.{unpacked_written}

-- EACH ELEMENT

abbrev EachReads : AllowsInside → MeansInside → Kind → Kind → Values → Values → Type 0
EachReads a j kA kB NoValues NoValues = ⊤
EachReads a j kA kB (Item v vs) (Item w ws) = ReadAs a j kA kB v w × EachReads a j kA kB vs ws
EachReads a j kA kB NoValues (Item w ws) = ⊥
EachReads a j kA kB (Item v vs) NoValues = ⊥

abbrev EachAgain : AllowsInside → MeansInside → Kind → Kind → Values → Values → Type 0
EachAgain a j kA kB NoValues NoValues = ⊤
EachAgain a j kA kB (Item v vs) (Item w ws) = Again a j kA kB v w × EachAgain a j kA kB vs ws
EachAgain a j kA kB NoValues (Item w ws) = ⊥
EachAgain a j kA kB (Item v vs) NoValues = ⊥

each_sound : (a : AllowsInside) (j : MeansInside) (kA kB : Kind) (vs ws : Values) → EachAgain a j kA kB vs ws → SoundPayloads (element_payloads kA vs)
each_sound a j kA kB NoValues ws h = tt
each_sound a j kA kB (Item v vs) (Item w ws) (one, more) = (one.sound, each_sound a j kA kB vs ws more)
each_sound a j kA kB (Item v vs) NoValues h = absurd h

each_reads : (a : AllowsInside) (j : MeansInside) (kA kB : Kind) (vs ws : Values) → EachAgain a j kA kB vs ws → list_all payload_valid (element_payloads kA vs) ≡ true → EachReads a j kA kB vs ws
each_reads a j kA kB NoValues NoValues h spelt = tt
each_reads a j kA kB (Item v vs) (Item w ws) (one, more) spelt =
    let (here, rest) = and_parts (payload_valid (value_payload kA v)) (list_all payload_valid (element_payloads kA vs)) spelt in
    (one.read here, each_reads a j kA kB vs ws more rest)
each_reads a j kA kB NoValues (Item w ws) h spelt = h
each_reads a j kA kB (Item v vs) NoValues h spelt = h

-- payloads whose values are read one by one
pub record ListReads (a : AllowsInside) (j : MeansInside) (kB : Kind) (ps : List Payload) (ws : Values) : Type 0 where
  pub kept : filter (λ q. not (is_stray kB q)) ps ≡ ps
  pub none : filter (is_stray kB) ps ≡ []
  pub values : flat_map (λ p. filter (λ q. not (is_stray kB q)) (element_payloads_in kB p)) ps ≡ ps
  pub strays : flat_map (λ p. filter (is_stray kB) (element_payloads_in kB p)) ps ≡ []
  pub means : values_from (flat_map (element j kB) ps) ≡ ws
  pub allowed : list_all (λ p. one_allowed a kB p || packed_allowed kB p) ps ≡ true

list_reads : (a : AllowsInside) (j : MeansInside) (kA kB : Kind) (vs ws : Values) → EachReads a j kA kB vs ws → ListReads a j kB (element_payloads kA vs) ws
list_reads a j kA kB NoValues NoValues h = record { kept = refl; none = refl; values = refl; strays = refl; means = refl; allowed = refl }
list_reads a j kA kB (Item v vs) (Item w ws) (one, more) =
    let p : Payload = value_payload kA v in
    let ps : List Payload = element_payloads kA vs in
    let rest : ListReads a j kB (element_payloads kA vs) ws = list_reads a j kA kB vs ws more in
    record {
      kept = ap₂ (λ b l. cond (not b) (p ∷ l) l) one.stays rest.kept;
      none = ap₂ (λ b l. cond b (p ∷ l) l) one.stays rest.none;
      values = ap₂ ◌++◌ (ap (filter (λ q. not (is_stray kB q))) one.alone ∙ ap (λ b. cond (not b) (p ∷ []) []) one.stays) rest.values;
      strays = ap₂ ◌++◌ (ap (filter (is_stray kB)) one.alone ∙ ap (λ b. cond b (p ∷ []) []) one.stays) rest.strays;
      means = ap (λ l. values_from (l ++ flat_map (element j kB) ps)) one.means ∙ ap (Item w) rest.means;
      allowed = ap₂ (λ b c. (b || packed_allowed kB p) && c) one.allowed rest.allowed;
    }
list_reads a j kA kB _ _ h = absurd h

-- WHAT THE ELEMENTS ARE READ OF

abbrev pub list_source : AllowsInside → Kind → Payload → Bool
list_source a kB p = payload_valid p && (element_allowed a kB p && not (is_stray kB p))

record Sources (a : AllowsInside) (kB : Kind) (p : Payload) : Type 0 where
  valid : payload_valid p ≡ true
  allowed : element_allowed a kB p ≡ true
  stays : is_stray kB p ≡ false

source_parts : (a : AllowsInside) (kB : Kind) (p : Payload) → list_source a kB p ≡ true → Sources a kB p
source_parts a kB p h =
    let (ok, rest) = and_parts (payload_valid p) (element_allowed a kB p && not (is_stray kB p)) h in
    let (allowed, stays) = and_parts (element_allowed a kB p) (not (is_stray kB p)) rest in
    record { valid = ok; allowed = allowed; stays = not-true (is_stray kB p) stays }

module _ (pairs : TypePairs) where
  elements_again : (k : ℕ) (i : MeansInside) (a : AllowsInside) (j : MeansInside) (kA kB : Kind) (ps : List Payload) → Carries pairs k i a j → same_kind pairs kA kB ≡ true → list_all (list_source a kB) ps ≡ true →
      EachAgain a j kA kB (values_from (flat_map (element i kA) ps)) (values_from (flat_map (element j kB) ps))
  elements_again k i a j kA kB [] c h all = tt
  elements_again k i a j (ScalarOf kA) (ScalarOf kB) (p ∷ ps) c h all =
      let (one, more) = and_parts (list_source a (ScalarOf kB) p) (list_all (list_source a (ScalarOf kB)) ps) all in
      let s : Sources a (ScalarOf kB) p = source_parts a (ScalarOf kB) p one in
      go s.valid s.stays (elem kA p) refl (elements_again k i a j (ScalarOf kA) (ScalarOf kB) ps c h more)
    where
      older : List Value
      older = flat_map (element i (ScalarOf kA)) ps

      newer : List Value
      newer = flat_map (element j (ScalarOf kB)) ps

      go : payload_valid p ≡ true → is_stray (ScalarOf kB) p ≡ false → (o : Option Scalar) → elem kA p ≡ o → EachAgain a j (ScalarOf kA) (ScalarOf kB) (values_from (flat_map (element i (ScalarOf kA)) ps)) (values_from (flat_map (element j (ScalarOf kB)) ps)) →
          EachAgain a j (ScalarOf kA) (ScalarOf kB) (values_from (scalar_values o ++ flat_map (element i (ScalarOf kA)) ps)) (values_from (scalar_values (elem kB p) ++ flat_map (element j (ScalarOf kB)) ps))
      go ok stays None e more = subst (λ x. EachAgain a j (ScalarOf kA) (ScalarOf kB) (values_from older) (values_from (scalar_values x ++ newer))) (sym ((alike kA kB h).reads p ∙ e)) more
      go ok stays (Some v) e more = subst (λ x. EachAgain a j (ScalarOf kA) (ScalarOf kB) (Item (ScalarValue v) (values_from older)) (values_from (scalar_values x ++ newer))) (sym ((alike kA kB h).reads p ∙ e))
          (scalar_again pairs a j kA kB v h (read_scalar_valid pairs kA kB p v h ok stays e), more)
  elements_again k i a j (MessageOf A) (MessageOf B) (p ∷ ps) c h all =
      let (one, more) = and_parts (list_source a (MessageOf B) p) (list_all (list_source a (MessageOf B)) ps) all in
      let s : Sources a (MessageOf B) p = source_parts a (MessageOf B) p one in
      (message_again pairs k i a j A B (records_in p) c h (inside_spelled p s.valid) (message_inside a (MessageOf B) B p (eq-eqb B B refl) s.allowed), elements_again k i a j (MessageOf A) (MessageOf B) ps c h more)
  elements_again k i a j (GroupOf A) (GroupOf B) (p ∷ ps) c h all =
      let (one, more) = and_parts (list_source a (GroupOf B) p) (list_all (list_source a (GroupOf B)) ps) all in
      let s : Sources a (GroupOf B) p = source_parts a (GroupOf B) p one in
      (group_again pairs k i a j A B (records_in p) c h (inside_spelled p s.valid) (message_inside a (GroupOf B) B p (eq-eqb B B refl) s.allowed), elements_again k i a j (GroupOf A) (GroupOf B) ps c h more)
  elements_again k i a j _ _ (p ∷ ps) c h all = absurd (true≢false (sym h))

  -- SCALARS END TO END

  scalars_same : (i j : MeansInside) (kA kB : ScalarKind) (ps : List Payload) → same_kind pairs (ScalarOf kA) (ScalarOf kB) ≡ true → flat_map (element j (ScalarOf kB)) ps ≡ flat_map (element i (ScalarOf kA)) ps
  scalars_same i j kA kB [] h = refl
  scalars_same i j kA kB (p ∷ ps) h = ap₂ (λ o l. scalar_values o ++ l) ((alike kA kB h).reads p) (scalars_same i j kA kB ps h)

  scalars_valid : (i : MeansInside) (a : AllowsInside) (kA kB : ScalarKind) (ps : List Payload) → same_kind pairs (ScalarOf kA) (ScalarOf kB) ≡ true → list_all (list_source a (ScalarOf kB)) ps ≡ true → elements_valid (ScalarOf kA) (values_from (flat_map (element i (ScalarOf kA)) ps)) ≡ true
  scalars_valid i a kA kB [] h all = refl
  scalars_valid i a kA kB (p ∷ ps) h all =
      let (one, more) = and_parts (list_source a (ScalarOf kB) p) (list_all (list_source a (ScalarOf kB)) ps) all in
      let s : Sources a (ScalarOf kB) p = source_parts a (ScalarOf kB) p one in
      go s.valid s.stays (elem kA p) refl (scalars_valid i a kA kB ps h more)
    where
      go : payload_valid p ≡ true → is_stray (ScalarOf kB) p ≡ false → (o : Option Scalar) → elem kA p ≡ o → elements_valid (ScalarOf kA) (values_from (flat_map (element i (ScalarOf kA)) ps)) ≡ true → elements_valid (ScalarOf kA) (values_from (scalar_values o ++ flat_map (element i (ScalarOf kA)) ps)) ≡ true
      go ok stays None e more = more
      go ok stays (Some v) e more = and_from _ _ (read_scalar_valid pairs kA kB p v h ok stays e) more

  scalars_read : (a : AllowsInside) (j : MeansInside) (kA kB : ScalarKind) (vs : Values) → same_kind pairs (ScalarOf kA) (ScalarOf kB) ≡ true → elements_valid (ScalarOf kA) vs ≡ true → EachReads a j (ScalarOf kA) (ScalarOf kB) vs vs
  scalars_read a j kA kB NoValues h ok = tt
  scalars_read a j kA kB (Item (ScalarValue v) vs) h ok =
      let (one, more) = and_parts (scalar_valid kA v) (elements_valid (ScalarOf kA) vs) ok in
      (scalar_reads pairs a j kA kB v h one, scalars_read a j kA kB vs h more)
  scalars_read a j kA kB _ h ok = absurd (true≢false (sym ok))

  packed_elements : (kA kB : ScalarKind) (vs : Values) → same_kind pairs (ScalarOf kA) (ScalarOf kB) ≡ true → is_packable kA ≡ true → elements_valid (ScalarOf kA) vs ≡ true →
      element_payloads_in (ScalarOf kB) (Flat (Len (end_to_end (element_payloads (ScalarOf kA) vs)))) ≡ element_payloads (ScalarOf kA) vs
  packed_elements kA kB vs h p ok =
      let bytes : List ℕ = end_to_end (element_payloads (ScalarOf kA) vs) in
      let (found, same) = unpacked_back kA vs p ok in
      elements_alike pairs (ScalarOf kA) (ScalarOf kB) (Flat (Len bytes)) h
      ∙ ap (λ b. cond b (map Flat (or_none (unpacked kA bytes))) (Flat (Len bytes) ∷ [])) p ∙ ap (λ o. map Flat (or_none o)) found ∙ same

  packed_takes : (a : AllowsInside) (kA kB : ScalarKind) (vs : Values) → same_kind pairs (ScalarOf kA) (ScalarOf kB) ≡ true → is_packable kA ≡ true → elements_valid (ScalarOf kA) vs ≡ true →
      (one_allowed a (ScalarOf kB) (Flat (Len (end_to_end (element_payloads (ScalarOf kA) vs)))) || packed_allowed (ScalarOf kB) (Flat (Len (end_to_end (element_payloads (ScalarOf kA) vs))))) ≡ true
  packed_takes a kA kB vs h p ok =
      let bytes : List ℕ = end_to_end (element_payloads (ScalarOf kA) vs) in
      let same : Alike kA kB = alike kA kB h in
      ap₂ (λ b (o : Option (List Plain)). one_allowed a (ScalarOf kB) (Flat (Len bytes)) || (b && is_some o)) (same.packable ∙ p) (unpacked_alike kA kB bytes same.wire ∙ (unpacked_back kA vs p ok).0)
      ∙ always (one_allowed a (ScalarOf kB) (Flat (Len bytes)))
    where
      always : (b : Bool) → (b || true) ≡ true
      always true = refl
      always false = refl

-- THE FIELD

-- what is written of a list is read as one
record WrittenReads (a : AllowsInside) (j : MeansInside) (kB : Kind) (ps : List Payload) (ws : Values) : Type 0 where
  sources : List Payload
  strays : flat_map (λ p. filter (is_stray kB) (element_payloads_in kB p)) ps ≡ []
  values : flat_map (λ p. filter (λ q. not (is_stray kB q)) (element_payloads_in kB p)) ps ≡ sources
  means : values_from (flat_map (element j kB) sources) ≡ ws
  allowed : list_all (λ p. one_allowed a kB p || packed_allowed kB p) ps ≡ true

record Written (a : AllowsInside) (j : MeansInside) (kB : Kind) (ps : List Payload) (ws : Values) : Type 0 where
  sound : SoundPayloads ps
  read : list_all payload_valid ps ≡ true → WrittenReads a j kB ps ws

one_by_one : (a : AllowsInside) (j : MeansInside) (kA kB : Kind) (vs ws : Values) → EachAgain a j kA kB vs ws → Written a j kB (element_payloads kA vs) ws
one_by_one a j kA kB vs ws each = record {
  sound = each_sound a j kA kB vs ws each;
  read = λ spelt.
      let r : ListReads a j kB (element_payloads kA vs) ws = list_reads a j kA kB vs ws (each_reads a j kA kB vs ws each spelt) in
      record { sources = element_payloads kA vs; strays = r.strays; values = r.values; means = r.means; allowed = r.allowed };
}

scalars_sound : (kA : ScalarKind) (vs : Values) → elements_valid (ScalarOf kA) vs ≡ true → SoundPayloads (element_payloads (ScalarOf kA) vs)
scalars_sound kA NoValues ok = tt
scalars_sound kA (Item (ScalarValue v) vs) ok =
    let (one, more) = and_parts (scalar_valid kA v) (elements_valid (ScalarOf kA) vs) ok in
    (scalar_sound (ScalarOf kA) v one, scalars_sound kA vs more)
scalars_sound kA _ ok = absurd (true≢false (sym ok))

packed_again : (pairs : TypePairs) (a : AllowsInside) (j : MeansInside) (kA kB : ScalarKind) (vs : Values) → same_kind pairs (ScalarOf kA) (ScalarOf kB) ≡ true → is_packable kA ≡ true → elements_valid (ScalarOf kA) vs ≡ true →
    Written a j (ScalarOf kB) (list_payloads (Repeated true) (element_payloads (ScalarOf kA) vs)) vs
packed_again pairs a j kA kB NoValues h p ok = record { sound = tt; read = λ spelt. record { sources = []; strays = refl; values = refl; means = refl; allowed = refl } }
packed_again pairs a j kA kB (Item v vs) h p ok =
    let ps : List Payload = element_payloads (ScalarOf kA) (Item v vs) in
    let r : ListReads a j (ScalarOf kB) (element_payloads (ScalarOf kA) (Item v vs)) (Item v vs) = list_reads a j (ScalarOf kA) (ScalarOf kB) (Item v vs) (Item v vs) (scalars_read pairs a j kA kB (Item v vs) h ok) in
    let inside : element_payloads_in (ScalarOf kB) (Flat (Len (end_to_end (element_payloads (ScalarOf kA) (Item v vs))))) ≡ element_payloads (ScalarOf kA) (Item v vs) = packed_elements pairs kA kB (Item v vs) h p ok in
    record {
      sound = (packed_sound (end_to_end ps) (end_bytes ps (scalars_sound kA (Item v vs) ok)), tt);
      read = λ spelt. record {
        sources = ps;
        strays = append-nil (filter (is_stray (ScalarOf kB)) (element_payloads_in (ScalarOf kB) (Flat (Len (end_to_end ps))))) ∙ ap (filter (is_stray (ScalarOf kB))) inside ∙ r.none;
        values = append-nil (filter (λ q. not (is_stray (ScalarOf kB) q)) (element_payloads_in (ScalarOf kB) (Flat (Len (end_to_end ps))))) ∙ ap (filter (λ q. not (is_stray (ScalarOf kB) q))) inside ∙ r.kept;
        means = r.means;
        allowed = and_from _ _ (packed_takes pairs a kA kB (Item v vs) h p ok) refl;
      };
    }

list_written : (pairs : TypePairs) (k : ℕ) (i : MeansInside) (a : AllowsInside) (j : MeansInside) (packed : Bool) (kA kB : Kind) (ps : List Payload) → Carries pairs k i a j → same_kind pairs kA kB ≡ true → (not packed || is_packable_kind kA) ≡ true → list_all (list_source a kB) ps ≡ true →
    Written a j kB (list_payloads (Repeated packed) (element_payloads kA (values_from (flat_map (element i kA) ps)))) (values_from (flat_map (element j kB) ps))
list_written pairs k i a j false kA kB ps c h p all =
    subst (λ (l : List Payload). Written a j kB l (values_from (flat_map (element j kB) ps))) (sym (unpacked_written (element_payloads kA (values_from (flat_map (element i kA) ps)))))
    (one_by_one a j kA kB (values_from (flat_map (element i kA) ps)) (values_from (flat_map (element j kB) ps)) (elements_again pairs k i a j kA kB ps c h all))
list_written pairs k i a j true (ScalarOf kA) (ScalarOf kB) ps c h p all =
    let vs : Values = values_from (flat_map (element i (ScalarOf kA)) ps) in
    subst (λ (l : List Value). Written a j (ScalarOf kB) (list_payloads (Repeated true) (element_payloads (ScalarOf kA) vs)) (values_from l)) (sym (scalars_same pairs i j kA kB ps h))
    (packed_again pairs a j kA kB vs h p (scalars_valid pairs i a kA kB ps h all))
list_written pairs k i a j true _ kB ps c h p all = cc

list_stored : (f : Field) (packed : Bool) (vs : Values) → f.form ≡ Repeated packed → stored_payloads (Some f) (present_list vs) ≡ list_payloads (Repeated packed) (element_payloads f.value_type.kind vs)
list_stored f packed NoValues e = refl
list_stored f packed (Item v vs) e = ap (λ c. list_payloads c (element_payloads f.value_type.kind (Item v vs))) e

-- a list that is carried
list_field : (k : ℕ) (a : AllowsInside) (j : MeansInside) (f : Field) (x y : Bool) (tB : ValueType) (vs ws : Values) → f.form ≡ Repeated x → Written a j tB.kind (list_payloads (Repeated x) (element_payloads f.value_type.kind vs)) ws →
    FieldAgain k a j (Repeated y) tB (stored_payloads (Some f) (present_list vs)) (present_list ws)
list_field k a j f x y tB vs ws form w =
    subst (λ (l : List Payload). FieldAgain k a j (Repeated y) tB l (present_list ws)) (sym (list_stored f x vs form)) (record {
      sound = w.sound;
      read = λ spelt.
          let r : WrittenReads a j tB.kind (list_payloads (Repeated x) (element_payloads f.value_type.kind vs)) ws = w.read spelt in
          record { strays = r.strays; value = ap (λ l. present_list (values_from (flat_map (element j tB.kind) l))) r.values ∙ ap present_list r.means; allowed = r.allowed };
    })

-- the list that both types read of payloads
pub list_again : (pairs : TypePairs) (k : ℕ) (i : MeansInside) (a : AllowsInside) (j : MeansInside) (f : Field) (x y : Bool) (tB : ValueType) (ps : List Payload) → Carries pairs k i a j → f.form ≡ Repeated x → same_kind pairs f.value_type.kind tB.kind ≡ true → (not x || is_packable_kind f.value_type.kind) ≡ true →
    list_all (list_source a tB.kind) ps ≡ true → FieldAgain k a j (Repeated y) tB (stored_payloads (Some f) (present_list (values_from (flat_map (element i f.value_type.kind) ps)))) (present_list (values_from (flat_map (element j tB.kind) ps)))
list_again pairs k i a j f x y tB ps c form h p all =
    list_field k a j f x y tB (values_from (flat_map (element i f.value_type.kind) ps)) (values_from (flat_map (element j tB.kind) ps)) form (list_written pairs k i a j x f.value_type.kind tB.kind ps c h p all)

-- a list of scalars that is there
scalars_each : (pairs : TypePairs) (a : AllowsInside) (j : MeansInside) (kA kB : ScalarKind) (vs : Values) → same_kind pairs (ScalarOf kA) (ScalarOf kB) ≡ true → elements_valid (ScalarOf kA) vs ≡ true → EachAgain a j (ScalarOf kA) (ScalarOf kB) vs vs
scalars_each pairs a j kA kB NoValues h ok = tt
scalars_each pairs a j kA kB (Item (ScalarValue v) vs) h ok =
    let (one, more) = and_parts (scalar_valid kA v) (elements_valid (ScalarOf kA) vs) ok in
    (scalar_again pairs a j kA kB v h one, scalars_each pairs a j kA kB vs h more)
scalars_each pairs a j kA kB _ h ok = absurd (true≢false (sym ok))

pub scalar_list_again : (pairs : TypePairs) (k : ℕ) (a : AllowsInside) (j : MeansInside) (f : Field) (x y : Bool) (tB : ValueType) (kA kB : ScalarKind) (vs : Values) → f.form ≡ Repeated x → f.value_type.kind ≡ ScalarOf kA → tB.kind ≡ ScalarOf kB →
    same_kind pairs (ScalarOf kA) (ScalarOf kB) ≡ true → (not x || is_packable kA) ≡ true → elements_valid (ScalarOf kA) vs ≡ true → FieldAgain k a j (Repeated y) tB (stored_payloads (Some f) (present_list vs)) (present_list vs)
scalar_list_again pairs k a j f x y tB kA kB vs form eA eB h p ok =
    list_field k a j f x y tB vs vs form (subst (λ kd. Written a j kd (list_payloads (Repeated x) (element_payloads f.value_type.kind vs)) vs) (sym eB)
    (subst (λ kd. Written a j (ScalarOf kB) (list_payloads (Repeated x) (element_payloads kd vs)) vs) (sym eA) (go x p)))
  where
    go : (x : Bool) → (not x || is_packable kA) ≡ true → Written a j (ScalarOf kB) (list_payloads (Repeated x) (element_payloads (ScalarOf kA) vs)) vs
    go true p = packed_again pairs a j kA kB vs h p ok
    go false p = subst (λ (l : List Payload). Written a j (ScalarOf kB) l vs) (sym (unpacked_written (element_payloads (ScalarOf kA) vs))) (one_by_one a j (ScalarOf kA) (ScalarOf kB) vs vs (scalars_each pairs a j kA kB vs h ok))
