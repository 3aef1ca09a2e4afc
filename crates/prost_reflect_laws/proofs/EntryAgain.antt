-- An entry of a map, carried through a reduction.
use Rattle.std.specs.Prelude.{◌≡◌, ◌&&◌, ◌∷◌, ◌++◌}
use Rattle.prost_reflect_laws.proofs.Common.{ℕ, nat_eq, nat_lt, nat_le, eq-eqb, Bool, true, false, cond, not, List, [], Option, Some, None, refl, ap, ap₂, sym, subst, ◌∙◌, arith, true≢false, is_some, list_all, eqb-true, ne_eqb, and_parts, and_from, not-true, list_all-append, ◌>>=◌, Payload, Record, body_of, payload_levels, payload_valid, valid, Scalar, ScalarKind, elem, scalar_valid, scalar_eq, kind_default, is_undeclared, Kind, ScalarOf, MessageOf, GroupOf, ValueType, MapFrom, is_key_kind, has_kind_default, default_valid, passes, Value, ScalarValue, MessageValue, AllowsInside, numbered, last, body, records_in, is_stray, is_stray_entry, is_len, one_allowed, in_entry_allowed, has_level, field_allowed, MeansInside, joined, last_or, entry_key, entry_value, record_at, scalar_payload, is_default_of, entry_record, value_payload, pair_payload, kind_takes, is_of_type, TypePairs, same_kind, same_default, passes_in, scalar_decides}
use Rattle.prost_reflect_laws.proofs.Table.{read_back}
use Rattle.prost_reflect_laws.proofs.Values.{records_back}
use Rattle.prost_reflect_laws.proofs.Spelt.{Sound, SoundPayload, sound_append, message_sound}
use Rattle.prost_reflect_laws.proofs.Valid.{scalar_sound, entry_sound}
use Rattle.prost_reflect_laws.proofs.Means.{first_valid, behind_valid, body_valid}
use Rattle.prost_reflect_laws.proofs.Alike.{alike, SameType, stray_alike}
use Rattle.prost_reflect_laws.proofs.ByNumber.{payloads_pass, record_valid, valid_all}
use Rattle.prost_reflect_laws.proofs.Readable.{inside_spelled}
use Rattle.prost_reflect_laws.proofs.Inside.{Joinable, joined_valid, joined_allowed}
use Rattle.prost_reflect_laws.proofs.Again.{Carries, ReadAs, Again, scalar_again, message_again, group_again}
use Rattle.prost_reflect_laws.proofs.Allowed.{len_body}
use Rattle.prost_reflect_laws.proofs.Maps.{first_of, second_of, key_back, value_present}
use Rattle.prost_reflect_laws.proofs.EntryDefaults.{default_valid_key, key_stays, last_or_valid}

-- PAYLOADS IN AN ENTRY

value_allowed : (k : ℕ) (a : AllowsInside) (key t : ValueType) (r : Record) → nat_eq r.number 2 ≡ true → in_entry_allowed k a key t r ≡ true → one_allowed a t.kind r.payload ≡ true
value_allowed k a key t r e h =
    sym (ap₂ (λ b c. cond b (one_allowed a key.kind r.payload) (cond c (one_allowed a t.kind r.payload) (nat_le (payload_levels r.payload) k))) (ne_eqb r.number 1 (λ d. two (sym (eqb-true r.number 2 e) ∙ d))) e) ∙ h
  where
    two : ◌≡◌ {A = ℕ} 2 1 → ⊥
    two d = omega (arith, d)

-- an entry's payload
abbrev pub map_source : ℕ → AllowsInside → ValueType → ValueType → Payload → Bool
map_source k a key t q = payload_valid q && (field_allowed k a (MapFrom key) t q && not (is_stray_entry t q))

-- what is known of the records of an entry
pub record Entry (k : ℕ) (a : AllowsInside) (key t : ValueType) (rs : List Record) : Type 0 where
  pub keys_valid : list_all payload_valid (numbered 1 rs) ≡ true
  pub values_valid : list_all payload_valid (numbered 2 rs) ≡ true
  pub values_allowed : list_all (one_allowed a t.kind) (numbered 2 rs) ≡ true
  pub stays : (elim (last (numbered 2 rs)) [ None ↦ false | Some q ↦ is_stray t.kind q ]) ≡ false
  pub level : has_level k t.kind ≡ true

pub entry_of : (k : ℕ) (a : AllowsInside) (key t : ValueType) (q : Payload) → map_source k a key t q ≡ true → Entry k a key t (records_in q)
entry_of k a key t q h =
    let (ok, rest) = and_parts (payload_valid q) (field_allowed k a (MapFrom key) t q && not (is_stray_entry t q)) h in
    let (allowed, stays) = and_parts (field_allowed k a (MapFrom key) t q) (not (is_stray_entry t q)) rest in
    let (shape, inside) = and_parts (is_len q && has_level k t.kind) (passes (body q) (list_all (in_entry_allowed k a key t))) allowed in
    let each : list_all (in_entry_allowed k a key t) (records_in q) ≡ true = passes_in q (list_all (in_entry_allowed k a key t)) inside in
    let spelt : list_all record_valid (records_in q) ≡ true = sym (valid_all (records_in q)) ∙ inside_spelled q ok in
    record {
      keys_valid = payloads_pass 1 record_valid payload_valid (records_in q) (λ r e v. (and_parts _ (payload_valid r.payload) v).1) spelt;
      values_valid = payloads_pass 2 record_valid payload_valid (records_in q) (λ r e v. (and_parts _ (payload_valid r.payload) v).1) spelt;
      values_allowed = payloads_pass 2 (in_entry_allowed k a key t) (one_allowed a t.kind) (records_in q) (value_allowed k a key t) each;
      stays = not-true (is_stray_entry t q) stays;
      level = (and_parts (is_len q) (has_level k t.kind) shape).1;
    }

-- KEYS

last_or_same : (pairs : TypePairs) (kA kB : ScalarKind) (v w : Scalar) (ps : List Payload) → same_kind pairs (ScalarOf kA) (ScalarOf kB) ≡ true → w ≡ v → last_or kB w ps ≡ last_or kA v ps
last_or_same pairs kA kB v w ps h e = go (last ps)
  where
    go : (o : Option Payload) → ◌≡◌ {A = Scalar} (elim (o >>= elem kB) [ None ↦ w | Some x ↦ x ]) (elim (o >>= elem kA) [ None ↦ v | Some x ↦ x ])
    go None = e
    go (Some p) = ap₂ (λ (o : Option Scalar) d. elim o [ None ↦ d | Some x ↦ x ]) ((alike kA kB h).reads p) e

-- the key that both types read of records
pub key_takes : (key : ValueType) (rs : List Record) → is_key_kind key.kind ≡ true → list_all payload_valid (numbered 1 rs) ≡ true → kind_takes key.kind (entry_key key rs) ≡ true
key_takes key rs h spelt = go key.kind h
  where
    go : (kind : Kind) → is_key_kind kind ≡ true → kind_takes kind (elim kind [ ScalarOf kind ↦ last_or kind (kind_default kind) (numbered 1 rs) | _ ↦ key.default ]) ≡ true
    go (ScalarOf kind) h = last_or_valid kind (kind_default kind) (numbered 1 rs) (default_valid_key kind h) spelt (λ p e. key_stays kind p h)
    go _ h = absurd (true≢false (sym h))

pub key_same : (pairs : TypePairs) (keyA keyB : ValueType) (rs : List Record) → SameType pairs keyA keyB → is_key_kind keyA.kind ≡ true → entry_key keyB rs ≡ entry_key keyA rs
key_same pairs keyA keyB rs same h = go keyA.kind keyB.kind same.kind h
  where
    go : (kA kB : Kind) → same_kind pairs kA kB ≡ true → is_key_kind kA ≡ true →
        ◌≡◌ {A = Scalar} (elim kB [ ScalarOf kind ↦ last_or kind (kind_default kind) (numbered 1 rs) | _ ↦ keyB.default ]) (elim kA [ ScalarOf kind ↦ last_or kind (kind_default kind) (numbered 1 rs) | _ ↦ keyA.default ])
    go (ScalarOf kA) (ScalarOf kB) e h = last_or_same pairs kA kB (kind_default kA) (kind_default kB) (numbered 1 rs) e (alike kA kB e).default
    go _ kB e h = cc

-- VALUES

-- what both types read of an entry's value
pub record ValueAgain (a : AllowsInside) (j : MeansInside) (tA tB : ValueType) (kA kB : Kind) (v w : Value) : Type 0 where
  pub again : Again a j kA kB v w
  pub absent : is_default_of tA v ≡ true → entry_value j tB kB [] ≡ w

undeclared_last : (pairs : TypePairs) (kA kB : ScalarKind) (ps : List Payload) (p : Payload) → same_kind pairs (ScalarOf kA) (ScalarOf kB) ≡ true → (elim (last ps) [ None ↦ false | Some q ↦ is_undeclared kB q ]) ≡ false → last ps ≡ Some p → is_undeclared kA p ≡ false
undeclared_last pairs kA kB ps p h stays e = sym (stray_alike pairs (ScalarOf kA) (ScalarOf kB) p h) ∙ sym (ap (λ (o : Option Payload). elim o [ None ↦ false | Some q ↦ is_undeclared kB q ]) e) ∙ stays

pub message_records : (k : ℕ) (a : AllowsInside) (kB : Kind) (B : ℕ) (ps : List Payload) → Joinable a → ((B : ℕ) → nat_lt 0 k ≡ true → a B [] ≡ true) → nat_lt 0 k ≡ true → is_of_type kB B ≡ true → list_all (one_allowed a kB) ps ≡ true → a B (joined ps) ≡ true
message_records k a kB B [] join nothing level t h = nothing B level
message_records k a kB B (p ∷ ps) join nothing level t h = joined_allowed a kB B p ps join t h

pub value_again : (pairs : TypePairs) (k : ℕ) (i : MeansInside) (a : AllowsInside) (j : MeansInside) (tA tB : ValueType) (kA kB : Kind) (rs : List Record) → Carries pairs k i a j → same_kind pairs kA kB ≡ true → same_default kA tA.default tB.default ≡ true → default_valid kA tA.default ≡ true →
    list_all payload_valid (numbered 2 rs) ≡ true → list_all (one_allowed a kB) (numbered 2 rs) ≡ true → (elim (last (numbered 2 rs)) [ None ↦ false | Some q ↦ is_stray kB q ]) ≡ false → has_level k kB ≡ true →
    ValueAgain a j tA tB kA kB (entry_value i tA kA rs) (entry_value j tB kB rs)
value_again pairs k i a j tA tB (ScalarOf kA) (ScalarOf kB) rs c h default ok spelt allowed stays level =
    let ps : List Payload = numbered 2 rs in
    let v : Scalar = last_or kA tA.default (numbered 2 rs) in
    let same : last_or kB tB.default (numbered 2 rs) ≡ last_or kA tA.default (numbered 2 rs) = last_or_same pairs kA kB tA.default tB.default ps h (sym ((scalar_decides tA.default tB.default).0 default)) in
    let good : scalar_valid kA (last_or kA tA.default (numbered 2 rs)) ≡ true = last_or_valid kA tA.default ps ok spelt (λ p. undeclared_last pairs kA kB ps p h stays) in
    record {
      again = subst (λ w. Again a j (ScalarOf kA) (ScalarOf kB) (ScalarValue v) (ScalarValue w)) (sym same) (scalar_again pairs a j kA kB v h good);
      absent = λ d. ap ScalarValue (sym ((scalar_decides tA.default tB.default).0 default) ∙ sym ((scalar_decides v tA.default).0 (and_parts (not tA.presence) (scalar_eq v tA.default) d).1) ∙ sym same);
    }
value_again pairs k i a j tA tB (MessageOf A) (MessageOf B) rs c h default ok spelt allowed stays level = record {
  again = message_again pairs k i a j A B (joined (numbered 2 rs)) c h (joined_valid (numbered 2 rs) spelt) (message_records k a (MessageOf B) B (numbered 2 rs) c.join c.nothing level (eq-eqb B B refl) allowed);
  absent = λ d. absurd (true≢false (sym d));
}
value_again pairs k i a j tA tB (GroupOf A) (GroupOf B) rs c h default ok spelt allowed stays level = record {
  again = group_again pairs k i a j A B (joined (numbered 2 rs)) c h (joined_valid (numbered 2 rs) spelt) (message_records k a (GroupOf B) B (numbered 2 rs) c.join c.nothing level (eq-eqb B B refl) allowed);
  absent = λ d. absurd (true≢false (sym d));
}
value_again pairs k i a j tA tB _ _ rs c h default ok spelt allowed stays level = absurd (true≢false (sym h))

-- PAIRS

-- an entry's payload is read as a key and a value
pub record PairReads (k : ℕ) (a : AllowsInside) (j : MeansInside) (key t : ValueType) (p : Payload) (x : Scalar) (w : Value) : Type 0 where
  pub stays : is_stray_entry t p ≡ false
  pub key_read : entry_key key (records_in p) ≡ x
  pub value_read : entry_value j t t.kind (records_in p) ≡ w
  pub allowed : field_allowed k a (MapFrom key) t p ≡ true

pub record PairAgain (k : ℕ) (a : AllowsInside) (j : MeansInside) (keyA tA keyB tB : ValueType) (x : Scalar) (v w : Value) : Type 0 where
  pub sound : SoundPayload (pair_payload keyA tA x v)
  pub read : payload_valid (pair_payload keyA tA x v) ≡ true → PairReads k a j keyB tB (pair_payload keyA tA x v) x w

key_fits : (pairs : TypePairs) (a : AllowsInside) (kA kB : Kind) (x : Scalar) → same_kind pairs kA kB ≡ true → kind_takes kA x ≡ true → one_allowed a kB (scalar_payload kA x) ≡ true
key_fits pairs a (ScalarOf kA) (ScalarOf kB) x h takes = ap is_some ((alike kA kB h).reads (scalar_payload (ScalarOf kA) x) ∙ read_back kA x takes)
key_fits pairs a _ kB x h takes = cc

-- the value of records goes by the payloads of number 2
by_payloads : (j : MeansInside) (t : ValueType) (kind : Kind) (rs qs : List Record) → numbered 2 rs ≡ numbered 2 qs → entry_value j t kind rs ≡ entry_value j t kind qs
by_payloads j t (ScalarOf kind) rs qs e = ap (λ ps. ScalarValue (last_or kind t.default ps)) e
by_payloads j t (MessageOf T) rs qs e = ap (λ ps. MessageValue (j T (joined ps))) e
by_payloads j t (GroupOf T) rs qs e = ap (λ ps. MessageValue (j T (joined ps))) e

-- the record of the value, or none for a default
record SecondReads (k : ℕ) (a : AllowsInside) (j : MeansInside) (keyB tB : ValueType) (b : Bool) (q : Payload) (w : Value) : Type 0 where
  stays : (elim (last (cond b [] (q ∷ []))) [ None ↦ false | Some p ↦ is_stray tB.kind p ]) ≡ false
  value : (rs : List Record) → numbered 2 rs ≡ cond b [] (q ∷ []) → entry_value j tB tB.kind rs ≡ w
  allowed : list_all (in_entry_allowed k a keyB tB) (cond b [] (record_at 2 q ∷ [])) ≡ true

second_reads : (k : ℕ) (a : AllowsInside) (j : MeansInside) (tA keyB tB : ValueType) (v w : Value) (front : List Record) (b : Bool) → is_default_of tA v ≡ b → ValueAgain a j tA tB tA.kind tB.kind v w →
    valid (body_of (front ++ cond b [] (record_at 2 (value_payload tA.kind v) ∷ []))) ≡ true → SecondReads k a j keyB tB b (value_payload tA.kind v) w
second_reads k a j tA keyB tB v w front true d u spelt = record { stays = refl; value = λ rs e. by_payloads j tB tB.kind rs [] e ∙ u.absent d; allowed = refl }
second_reads k a j tA keyB tB v w front false d u spelt =
    let q : Payload = value_payload tA.kind v in
    let r : ReadAs a j tA.kind tB.kind v w = u.again.read (first_valid (record_at 2 q) [] (behind_valid front (record_at 2 q ∷ []) spelt)).0 in
    record { stays = r.stays; value = λ rs e. value_present j tB tB.kind w q rs r.means e; allowed = and_from _ _ r.allowed refl }

first_allowed : (pairs : TypePairs) (k : ℕ) (a : AllowsInside) (keyA keyB tB : ValueType) (x : Scalar) (b : Bool) → same_kind pairs keyA.kind keyB.kind ≡ true → kind_takes keyA.kind x ≡ true → list_all (in_entry_allowed k a keyB tB) (cond b [] (record_at 1 (scalar_payload keyA.kind x) ∷ [])) ≡ true
first_allowed pairs k a keyA keyB tB x true h takes = refl
first_allowed pairs k a keyA keyB tB x false h takes = and_from _ _ (key_fits pairs a keyA.kind keyB.kind x h takes) refl

pub pair_again : (pairs : TypePairs) (k : ℕ) (a : AllowsInside) (j : MeansInside) (keyA tA keyB tB : ValueType) (x : Scalar) (v w : Value) → SameType pairs keyA keyB → is_key_kind keyA.kind ≡ true → has_kind_default keyA ≡ true → kind_takes keyA.kind x ≡ true → has_level k tB.kind ≡ true →
    ValueAgain a j tA tB tA.kind tB.kind v w → PairAgain k a j keyA tA keyB tB x v w
pair_again pairs k a j keyA tA keyB tB x v w same keyed default takes level u = record { sound = message_sound (first ++ second) sounds; read = read }
  where
    p : Payload
    p = scalar_payload keyA.kind x

    q : Payload
    q = value_payload tA.kind v

    first : List Record
    first = entry_record keyA 1 (ScalarValue x) (scalar_payload keyA.kind x)

    second : List Record
    second = entry_record tA 2 v (value_payload tA.kind v)

    sounds : Sound (entry_record keyA 1 (ScalarValue x) (scalar_payload keyA.kind x) ++ entry_record tA 2 v (value_payload tA.kind v))
    sounds = sound_append first second (entry_sound keyA 1 (ScalarValue x) p refl (scalar_sound keyA.kind x takes)) (entry_sound tA 2 v q refl u.again.sound)

    stray : List Payload → Bool
    stray ps = elim (last ps) [ None ↦ false | Some q ↦ is_stray tB.kind q ]

    read : payload_valid (pair_payload keyA tA x v) ≡ true → PairReads k a j keyB tB (pair_payload keyA tA x v) x w
    read spelt =
        let ok : valid (body_of (entry_record keyA 1 (ScalarValue x) (scalar_payload keyA.kind x) ++ entry_record tA 2 v (value_payload tA.kind v))) ≡ true = body_valid (first ++ second) sounds spelt in
        let back : records_in (pair_payload keyA tA x v) ≡ entry_record keyA 1 (ScalarValue x) (scalar_payload keyA.kind x) ++ entry_record tA 2 v (value_payload tA.kind v) = records_back (first ++ second) ok in
        let one : numbered 1 (entry_record keyA 1 (ScalarValue x) (scalar_payload keyA.kind x) ++ entry_record tA 2 v (value_payload tA.kind v)) ≡ cond (is_default_of keyA (ScalarValue x)) [] (scalar_payload keyA.kind x ∷ []) = first_of (is_default_of keyA (ScalarValue x)) (is_default_of tA v) p q in
        let two : numbered 2 (entry_record keyA 1 (ScalarValue x) (scalar_payload keyA.kind x) ++ entry_record tA 2 v (value_payload tA.kind v)) ≡ cond (is_default_of tA v) [] (value_payload tA.kind v ∷ []) = second_of (is_default_of keyA (ScalarValue x)) (is_default_of tA v) p q in
        let r : SecondReads k a j keyB tB (is_default_of tA v) (value_payload tA.kind v) w = second_reads k a j tA keyB tB v w first (is_default_of tA v) refl u ok in
        record {
          stays = ap (λ rs. stray (numbered 2 rs)) back ∙ ap stray two ∙ r.stays;
          key_read = ap (entry_key keyB) back ∙ key_same pairs keyA keyB (first ++ second) same keyed ∙ key_back keyA x (first ++ second) takes default one;
          value_read = ap (entry_value j tB tB.kind) back ∙ r.value (first ++ second) two;
          allowed = and_from _ _ level (ap (λ o. passes o (list_all (in_entry_allowed k a keyB tB))) (len_body (first ++ second) ok)
              ∙ list_all-append (in_entry_allowed k a keyB tB) first second ∙ and_from _ _ (first_allowed pairs k a keyA keyB tB x (is_default_of keyA (ScalarValue x)) same.kind takes) r.allowed);
        }
