-- The records of a map in ascending keys are read as it.
use Rattle.std.specs.Prelude.{◌≡◌, ◌∷◌, ◌++◌}
use Rattle.prost_reflect_laws.proofs.Common.{ℕ, Bool, true, false, cond, not, List, [], map, flat_map, Option, Some, None, refl, ap, ap₂, sym, ◌∙◌, true≢false, append-nil, eqb-true, and_parts, ⊤, Payload, Flat, Record, body_of, valid, Scalar, elem, written, scalar_eq, kind_default, Kind, ScalarOf, MessageOf, GroupOf, ValueType, MapFrom, Field, field_of, has_kind_default, Content, Value, ScalarValue, MessageValue, ListValue, MapValue, Pairs, NoPairs, Pair, type_of, pairs_ordered, numbered, last, records_in, is_stray, value_records, value_payloads, stray_payloads, unknown_payloads, MeansInside, joined, element, scalar_values, last_or, put, entry_key, entry_value, put_entries, present_map, field_value, record_at, scalar_payload, is_default_of, entry_record, value_payload, pair_payload, pair_payloads, key_of, records, field_payloads, kind_takes, is_of_type, scalar_decides, block, ValueBack, ElementBack, PairBack, PairsBack}
use Rattle.prost_reflect_laws.proofs.Table.{read_back}
use Rattle.prost_reflect_laws.proofs.Values.{records_back, payload_back, value_records_known, unknown_known}
use Rattle.prost_reflect_laws.proofs.Putting.{put_all, put_all_rising, pairs_rising}

-- PAIRS IN ORDER

-- the entries of a map are put in, in their order
put_back : (inner : MeansInside) (key value_type : ValueType) (front ps : Pairs) → PairsBack inner key value_type ps → put_entries inner key value_type (pair_payloads key value_type ps) front ≡ put_all ps front
put_back inner key value_type front NoPairs back = refl
put_back inner key value_type front (Pair k v ps) (one, more) =
    ap (put_entries inner key value_type (pair_payloads key value_type ps)) (ap₂ (λ k v. put k v front) one.key_read one.value_read) ∙ put_back inner key value_type (put k v front) ps more

-- A FIELD

module _ (inner : MeansInside) (fields : List Field) (n : ℕ) (f : Field) (key : ValueType) where
  all_value_records : (ps : Pairs) → field_of fields n ≡ Some f → f.form ≡ MapFrom key → PairsBack inner key f.value_type ps →
      flat_map (value_records fields) (map (record_at n) (pair_payloads key f.value_type ps)) ≡ block n (pair_payloads key f.value_type ps)
  all_value_records NoPairs found c h = refl
  all_value_records (Pair k v ps) found c (one, more) =
      let p : Payload = pair_payload key f.value_type k v in
      ap₂ ◌++◌ (value_records_known fields n f p found ∙ ap (λ c. block n (value_payloads c f.value_type p)) c ∙ ap (λ b. block n (cond (not b) (p ∷ []) [])) one.stays) (all_value_records ps found c more)

  all_strays : (ps : Pairs) → field_of fields n ≡ Some f → f.form ≡ MapFrom key → PairsBack inner key f.value_type ps →
      flat_map (unknown_payloads fields) (map (record_at n) (pair_payloads key f.value_type ps)) ≡ []
  all_strays NoPairs found c h = refl
  all_strays (Pair k v ps) found c (one, more) =
      let p : Payload = pair_payload key f.value_type k v in
      ap₂ ◌++◌ (unknown_known fields n f p found ∙ ap (λ c. stray_payloads c f.value_type p) c ∙ ap (λ b. cond b (p ∷ []) []) one.stays) (all_strays ps found c more)

  pub map_back : (k : Scalar) (v : Value) (ps : Pairs) → field_of fields n ≡ Some f → f.form ≡ MapFrom key →
      PairsBack inner key f.value_type (Pair k v ps) → pairs_ordered (Pair k v ps) ≡ true → ValueBack inner fields n f (MapValue (Pair k v ps))
  map_back k v ps found c back order = record {
    sources = pair_payloads key f.value_type (Pair k v ps);
    read = ap (λ l. flat_map (value_records fields) (map (record_at n) l)) whole ∙ all_value_records (Pair k v ps) found c back;
    strays = ap (λ l. flat_map (unknown_payloads fields) (map (record_at n) l)) whole ∙ all_strays (Pair k v ps) found c back;
    value = ap (λ c. field_value inner c f.value_type (pair_payloads key f.value_type (Pair k v ps))) c ∙ ap present_map (put_back inner key f.value_type NoPairs (Pair k v ps) back ∙ put_all_rising (Pair k v ps) (pairs_rising (Pair k v ps) order));
  }
    where
      whole : field_payloads (Some f) (MapValue (Pair k v ps)) ≡ pair_payloads key f.value_type (Pair k v ps)
      whole = ap (λ c. pair_payloads (key_of c f.value_type) f.value_type (Pair k v ps)) c

-- AN ENTRY

default_same : (value_type : ValueType) (v : Scalar) → is_default_of value_type (ScalarValue v) ≡ true → v ≡ value_type.default
default_same value_type v h = (scalar_decides v value_type.default).0 (and_parts (not value_type.presence) (scalar_eq v value_type.default) h).1

pub first_of : (a b : Bool) (p q : Payload) → numbered 1 (cond a [] (record_at 1 p ∷ []) ++ cond b [] (record_at 2 q ∷ [])) ≡ cond a [] (p ∷ [])
first_of true true p q = refl
first_of true false p q = refl
first_of false true p q = refl
first_of false false p q = refl

pub second_of : (a b : Bool) (p q : Payload) → numbered 2 (cond a [] (record_at 1 p ∷ []) ++ cond b [] (record_at 2 q ∷ [])) ≡ cond b [] (q ∷ [])
second_of true true p q = refl
second_of true false p q = refl
second_of false true p q = refl
second_of false false p q = refl

pub key_back : (key : ValueType) (k : Scalar) (rs : List Record) → kind_takes key.kind k ≡ true → has_kind_default key ≡ true → numbered 1 rs ≡ cond (is_default_of key (ScalarValue k)) [] (scalar_payload key.kind k ∷ []) → entry_key key rs ≡ k
key_back key k rs takes h e = go key.kind refl takes h e
  where
    go : (kind : Kind) → key.kind ≡ kind → kind_takes kind k ≡ true → (elim kind [ ScalarOf kind ↦ scalar_eq key.default (kind_default kind) | _ ↦ true ]) ≡ true → numbered 1 rs ≡ cond (is_default_of key (ScalarValue k)) [] (scalar_payload kind k ∷ []) →
        (elim kind [ ScalarOf kind ↦ last_or kind (kind_default kind) (numbered 1 rs) | _ ↦ key.default ]) ≡ k
    go (ScalarOf kind) same takes h e = ap (last_or kind (kind_default kind)) e ∙ by (is_default_of key (ScalarValue k)) refl
      where
        by : (b : Bool) → is_default_of key (ScalarValue k) ≡ b → last_or kind (kind_default kind) (cond b [] (Flat (written kind k) ∷ [])) ≡ k
        by true d = sym (default_same key k d ∙ ((scalar_decides key.default (kind_default kind)).0 h))
        by false d = ap (λ (o : Option Scalar). elim o [ None ↦ kind_default kind | Some w ↦ w ]) (read_back kind k takes)
    go _ same takes h e = absurd (true≢false (sym takes))

-- the value of its own payload
pub value_present : (inner : MeansInside) (value_type : ValueType) (kind : Kind) (v : Value) (q : Payload) (rs : List Record) → element inner kind q ≡ v ∷ [] → numbered 2 rs ≡ q ∷ [] → entry_value inner value_type kind rs ≡ v
value_present inner value_type (ScalarOf kind) v q rs h e = ap (λ ps. ScalarValue (last_or kind value_type.default ps)) e ∙ go (elem kind q) h
  where
    go : (o : Option Scalar) → scalar_values o ≡ v ∷ [] → ScalarValue (elim o [ None ↦ value_type.default | Some w ↦ w ]) ≡ v
    go None h = cc
    go (Some w) h = cc
value_present inner value_type (MessageOf T) v q rs h e = ap (λ ps. MessageValue (inner T (joined ps))) e ∙ ap (λ l. MessageValue (inner T l)) (append-nil (records_in q)) ∙ cc
value_present inner value_type (GroupOf T) v q rs h e = ap (λ ps. MessageValue (inner T (joined ps))) e ∙ ap (λ l. MessageValue (inner T l)) (append-nil (records_in q)) ∙ cc

-- one that is left out
absent : (inner : MeansInside) (value_type : ValueType) (v : Value) (rs : List Record) → is_default_of value_type v ≡ true → (w : Scalar) → v ≡ ScalarValue w → kind_takes value_type.kind w ≡ true → numbered 2 rs ≡ [] → entry_value inner value_type value_type.kind rs ≡ v
absent inner value_type v rs d w same takes e = go value_type.kind takes
  where
    go : (kind : Kind) → kind_takes kind w ≡ true → entry_value inner value_type kind rs ≡ v
    go (ScalarOf kind) takes = ap (λ ps. ScalarValue (last_or kind value_type.default ps)) e ∙ ap ScalarValue (sym (default_same value_type w (ap (is_default_of value_type) (sym same) ∙ d))) ∙ sym same
    go _ takes = absurd (true≢false (sym takes))

-- a scalar of the kind, or a message
abbrev pub EntryValue : Kind → Value → Type 0
EntryValue kind (ScalarValue w) = kind_takes kind w ≡ true
EntryValue kind (MessageValue c) = ⊤
EntryValue kind (ListValue vs) = ⊥
EntryValue kind (MapValue ps) = ⊥

value_back : (inner : MeansInside) (value_type : ValueType) (v : Value) (rs : List Record) → EntryValue value_type.kind v → ElementBack inner value_type.kind v → numbered 2 rs ≡ cond (is_default_of value_type v) [] (value_payload value_type.kind v ∷ []) → entry_value inner value_type value_type.kind rs ≡ v
value_back inner value_type (ScalarValue w) rs takes back e = go (is_default_of value_type (ScalarValue w)) refl e
  where
    go : (b : Bool) → is_default_of value_type (ScalarValue w) ≡ b → numbered 2 rs ≡ cond b [] (value_payload value_type.kind (ScalarValue w) ∷ []) → entry_value inner value_type value_type.kind rs ≡ ScalarValue w
    go true d e = absent inner value_type (ScalarValue w) rs d w refl takes e
    go false d e = value_present inner value_type value_type.kind (ScalarValue w) (value_payload value_type.kind (ScalarValue w)) rs back.value e
value_back inner value_type (MessageValue c) rs shape back e = value_present inner value_type value_type.kind (MessageValue c) (value_payload value_type.kind (MessageValue c)) rs back.value e
value_back inner value_type _ rs shape back e = absurd shape

pub pair_back : (inner : MeansInside) (key value_type : ValueType) (k : Scalar) (v : Value) → kind_takes key.kind k ≡ true → has_kind_default key ≡ true → EntryValue value_type.kind v → ElementBack inner value_type.kind v →
    valid (body_of (entry_record key 1 (ScalarValue k) (scalar_payload key.kind k) ++ entry_record value_type 2 v (value_payload value_type.kind v))) ≡ true → PairBack inner key value_type k v
pair_back inner key value_type k v takes h shape back spelt = record {
  stays = ap (λ rs. stray (numbered 2 rs)) same ∙ ap stray two ∙ left (is_default_of value_type v);
  key_read = ap (entry_key key) same ∙ key_back key k rs takes h (first_of (is_default_of key (ScalarValue k)) (is_default_of value_type v) (scalar_payload key.kind k) (value_payload value_type.kind v));
  value_read = ap (entry_value inner value_type value_type.kind) same ∙ value_back inner value_type v rs shape back two;
}
  where
    rs : List Record
    rs = entry_record key 1 (ScalarValue k) (scalar_payload key.kind k) ++ entry_record value_type 2 v (value_payload value_type.kind v)

    stray : List Payload → Bool
    stray ps = elim (last ps) [ None ↦ false | Some q ↦ is_stray value_type.kind q ]

    same : records_in (pair_payload key value_type k v) ≡ entry_record key 1 (ScalarValue k) (scalar_payload key.kind k) ++ entry_record value_type 2 v (value_payload value_type.kind v)
    same = records_back (entry_record key 1 (ScalarValue k) (scalar_payload key.kind k) ++ entry_record value_type 2 v (value_payload value_type.kind v)) spelt

    two : numbered 2 (entry_record key 1 (ScalarValue k) (scalar_payload key.kind k) ++ entry_record value_type 2 v (value_payload value_type.kind v)) ≡ cond (is_default_of value_type v) [] (value_payload value_type.kind v ∷ [])
    two = second_of (is_default_of key (ScalarValue k)) (is_default_of value_type v) (scalar_payload key.kind k) (value_payload value_type.kind v)

    left : (b : Bool) → stray (cond b [] (value_payload value_type.kind v ∷ [])) ≡ false
    left true = refl
    left false = back.fits

-- a message
pub message_element : (inner : MeansInside) (kind : Kind) (c : Content) → is_of_type kind (type_of c) ≡ true → valid (body_of (records c)) ≡ true → inner (type_of c) (records c) ≡ c → ElementBack inner kind (MessageValue c)
message_element inner (ScalarOf kind) c t spelt means = absurd (true≢false (sym t))
message_element inner (MessageOf U) c t spelt means = record {
  one = refl;
  fits = refl;
  value = ap (λ c. MessageValue c ∷ []) (ap₂ inner (sym (eqb-true (type_of c) U t)) (payload_back (MessageOf U) (records c) spelt) ∙ means);
}
message_element inner (GroupOf U) c t spelt means = record {
  one = refl;
  fits = refl;
  value = ap (λ c. MessageValue c ∷ []) (ap₂ inner (sym (eqb-true (type_of c) U t)) (payload_back (GroupOf U) (records c) spelt) ∙ means);
}
