-- The records of one value are read as it: scalars, messages, lists that are not packed; and what stays unknown.
use Rattle.std.specs.Prelude.{◌≡◌, ◌∷◌}
use Rattle.prost_reflect_laws.proofs.Common.{ℕ, true, false, cond, not, List, [], map, filter, flat_map, Option, Some, None, refl, ap, ap₂, sym, ◌∙◌, true≢false, append-nil, eqb-true, and_parts, ◌>>=◌, Record, Records, Payload, Flat, Len, items, body_of, valid, short_body, spelled, Scalar, ScalarKind, Enum, written, scalar_valid, is_undeclared, Kind, ScalarOf, MessageOf, GroupOf, FieldForm, Singular, Repeated, MapFrom, Field, field_of, Content, Value, ScalarValue, MessageValue, type_of, records_in, or_none, is_stray, is_stray_entry, element_payloads_in, value_records, value_payloads, stray_payloads, unknown_payloads, MeansInside, present, one_value, field_value, joined, record_at, scalar_payload, message_payload, is_default_of, records, field_payloads, is_of_type, is_whole_stray, items_body, spelled_read, short_spells, block, ValueBack, UnknownBack}
use Rattle.prost_reflect_laws.proofs.Table.{read_back, written_declared}

-- a message's payload has the records that it was written from
pub records_back : (rs : List Record) → valid (body_of rs) ≡ true → records_in (Flat (Len (spelled rs))) ≡ rs
records_back rs h =
    ap (λ (o : Option Records). or_none (o >>= λ rs. Some (items rs))) (spelled_read (body_of rs) (short_body (body_of rs)) (short_spells (body_of rs) h)) ∙ items_body rs

pub payload_back : (kind : Kind) (rs : List Record) → valid (body_of rs) ≡ true → records_in (message_payload kind rs) ≡ rs
payload_back (ScalarOf kind) rs h = records_back rs h
payload_back (MessageOf T) rs h = records_back rs h
payload_back (GroupOf T) rs h = items_body rs

pub value_records_known : (fields : List Field) (n : ℕ) (f : Field) (p : Payload) → field_of fields n ≡ Some f → value_records fields (record_at n p) ≡ block n (value_payloads f.form f.value_type p)
value_records_known fields n f p e = ap (λ (o : Option Field). elim o [ None ↦ [] | Some f ↦ map (λ p. record { number = n; payload = p }) (value_payloads f.form f.value_type p) ]) e

pub unknown_known : (fields : List Field) (n : ℕ) (f : Field) (p : Payload) → field_of fields n ≡ Some f → unknown_payloads fields (record_at n p) ≡ stray_payloads f.form f.value_type p
unknown_known fields n f p e = ap (λ (o : Option Field). elim o [ None ↦ p ∷ [] | Some f ↦ stray_payloads f.form f.value_type p ]) e

-- a payload that is no stray at a singular field
pub one_value_payload : (f : Field) (p : Payload) → f.form ≡ Singular → is_stray f.value_type.kind p ≡ false → value_payloads f.form f.value_type p ≡ p ∷ []
one_value_payload f p s h = ap (λ c. value_payloads c f.value_type p) s ∙ ap (λ b. cond (not b) (p ∷ []) []) h

pub no_stray_payload : (f : Field) (p : Payload) → f.form ≡ Singular → is_stray f.value_type.kind p ≡ false → stray_payloads f.form f.value_type p ≡ []
no_stray_payload f p s h = ap (λ c. stray_payloads c f.value_type p) s ∙ ap (λ b. cond b (p ∷ []) []) h

module _ (inner : MeansInside) (fields : List Field) (n : ℕ) (f : Field) where
  pub one_back : (v : Value) (p : Payload) → field_of fields n ≡ Some f → f.form ≡ Singular →
      field_payloads (Some f) v ≡ p ∷ [] → is_stray f.value_type.kind p ≡ false → field_value inner Singular f.value_type (p ∷ []) ≡ Some v → ValueBack inner fields n f v
  one_back v p found value_type written stray means = record {
    sources = p ∷ [];
    read = ap (λ l. flat_map (value_records fields) (map (record_at n) l)) written ∙ append-nil (value_records fields (record_at n p)) ∙ value_records_known fields n f p found ∙ ap (block n) (one_value_payload f p value_type stray);
    strays = ap (λ l. flat_map (unknown_payloads fields) (map (record_at n) l)) written ∙ append-nil (unknown_payloads fields (record_at n p)) ∙ unknown_known fields n f p found ∙ no_stray_payload f p value_type stray;
    value = ap (λ c. field_value inner c f.value_type (p ∷ [])) value_type ∙ means;
  }

  -- a scalar
  pub scalar_back : (kind : ScalarKind) (v : Scalar) → field_of fields n ≡ Some f → f.form ≡ Singular → f.value_type.kind ≡ ScalarOf kind →
      scalar_valid kind v ≡ true → is_default_of f.value_type (ScalarValue v) ≡ false → ValueBack inner fields n f (ScalarValue v)
  scalar_back kind v found value_type k fits stays =
      one_back (ScalarValue v) (Flat (written kind v)) found value_type (ap (λ k. scalar_payload k v ∷ []) k) (ap (λ k. is_stray k (Flat (written kind v))) k ∙ written_declared kind v fits)
      (ap (λ k. one_value inner f.value_type k (Flat (written kind v) ∷ [])) k ∙ ap (λ o. o >>= present f.value_type) (read_back kind v fits) ∙ ap (λ b. cond b None (Some (ScalarValue v))) stays)

  -- a message
  pub message_back : (c : Content) → field_of fields n ≡ Some f → f.form ≡ Singular → is_of_type f.value_type.kind (type_of c) ≡ true →
      valid (body_of (records c)) ≡ true → inner (type_of c) (records c) ≡ c → ValueBack inner fields n f (MessageValue c)
  message_back c found value_type typed spelt means = go f.value_type.kind refl typed
    where
      payload : Kind → Payload
      payload k = message_payload k (records c)

      by : (k : Kind) (U : ℕ) → type_of c ≡ U → inner U (joined (message_payload k (records c) ∷ [])) ≡ c
      by k U e = ap₂ inner (sym e) (append-nil (records_in (message_payload k (records c))) ∙ payload_back k (records c) spelt) ∙ means

      go : (k : Kind) → f.value_type.kind ≡ k → is_of_type k (type_of c) ≡ true → ValueBack inner fields n f (MessageValue c)
      go (ScalarOf kind) e t = absurd (true≢false (sym t))
      go (MessageOf U) e t =
          one_back (MessageValue c) (message_payload (MessageOf U) (records c)) found value_type (ap (λ k. message_payload k (records c) ∷ []) e) (ap (λ k. is_stray k (message_payload (MessageOf U) (records c))) e)
          (ap (λ k. one_value inner f.value_type k (message_payload (MessageOf U) (records c) ∷ [])) e ∙ ap (λ c. Some (MessageValue c)) (by (MessageOf U) U (eqb-true (type_of c) U t)))
      go (GroupOf U) e t =
          one_back (MessageValue c) (message_payload (GroupOf U) (records c)) found value_type (ap (λ k. message_payload k (records c) ∷ []) e) (ap (λ k. is_stray k (message_payload (GroupOf U) (records c))) e)
          (ap (λ k. one_value inner f.value_type k (message_payload (GroupOf U) (records c) ∷ [])) e ∙ ap (λ c. Some (MessageValue c)) (by (GroupOf U) U (eqb-true (type_of c) U t)))

-- an unknown record
pub unknown_back : (fields : List Field) (n : ℕ) (p : Payload) → field_of fields n ≡ None → UnknownBack fields n p
unknown_back fields n p e = record {
  read = ap (λ (o : Option Field). elim o [ None ↦ [] | Some f ↦ map (λ p. record { number = n; payload = p }) (value_payloads f.form f.value_type p) ]) e;
  stays = ap (λ (o : Option Field). elim o [ None ↦ p ∷ [] | Some f ↦ stray_payloads f.form f.value_type p ]) e;
}

pub elements_in_stray : (kind : Kind) (p : Payload) → is_stray kind p ≡ true → element_payloads_in kind p ≡ p ∷ []
elements_in_stray (ScalarOf kind) (Flat (Len bytes)) h = absurd (true≢false (sym h ∙ no_text kind))
  where
    no_text : (kind : ScalarKind) → is_undeclared kind (Flat (Len bytes)) ≡ false
    no_text (Enum first numbers) = refl
    no_text _ = refl
elements_in_stray (ScalarOf kind) p h = refl
elements_in_stray (MessageOf T) p h = refl
elements_in_stray (GroupOf T) p h = refl

-- a record that is a stray as a whole
pub stray_back : (fields : List Field) (n : ℕ) (f : Field) (p : Payload) → field_of fields n ≡ Some f → is_whole_stray f.form f.value_type p ≡ true → UnknownBack fields n p
stray_back fields n f p found h = record {
  read = value_records_known fields n f p found ∙ ap (block n) (none f.form h);
  stays = unknown_known fields n f p found ∙ all f.form h;
}
  where
    none : (c : FieldForm) → is_whole_stray c f.value_type p ≡ true → value_payloads c f.value_type p ≡ []
    none Singular h = ap (λ b. cond (not b) (p ∷ []) []) h
    none (Repeated packed) h = ap (filter (λ q. not (is_stray f.value_type.kind q))) (elements_in_stray f.value_type.kind p h) ∙ ap (λ b. cond (not b) (p ∷ []) []) h
    none (MapFrom key) h = ap (λ b. cond (not b) (p ∷ []) []) (and_parts (is_stray_entry f.value_type p) _ h).0

    all : (c : FieldForm) → is_whole_stray c f.value_type p ≡ true → stray_payloads c f.value_type p ≡ p ∷ []
    all Singular h = ap (λ b. cond b (p ∷ []) []) h
    all (Repeated packed) h = ap (filter (is_stray f.value_type.kind)) (elements_in_stray f.value_type.kind p h) ∙ ap (λ b. cond b (p ∷ []) []) h
    all (MapFrom key) h = ap (λ b. cond b (p ∷ []) []) (and_parts (is_stray_entry f.value_type p) _ h).0
