-- The records of a well-typed content have a spelling, if its bytes have a length.
use Rattle.std.specs.Prelude.{◌≡◌, ◌+◌, ◌^◌, ◌<◌, ◌&&◌, ◌∷◌, ◌++◌}
use Rattle.prost_reflect_laws.proofs.Common.{ℕ, Bool, true, false, cond, List, [], map, length, nat_lt, Option, Some, None, refl, ap, sym, ◌∙◌, arith, true≢false, length-append, list_all, lt-ltb, and_parts, and_from, are_bytes, short, Len, Payload, Flat, Group, Record, body_of, spelled, number_valid, payload_valid, valid, Scalar, written, Kind, ScalarOf, MessageOf, GroupOf, ValueType, FieldForm, Singular, Repeated, MapFrom, Field, Schema, known, field_of, is_singular, field_valid, schema_valid, passes, is_list, Content, ContentOf, Entries, NoEntries, Stored, Unknown, Value, ScalarValue, MessageValue, ListValue, MapValue, Values, NoValues, Item, Pairs, NoPairs, Pair, schema_of, record_at, scalar_payload, message_payload, is_default_of, entry_record, payload_bytes, end_to_end, list_payloads, key_of, records, entries_records, field_payloads, value_payload, element_payloads, pair_payloads, kind_takes, element_valid, elements_valid, pairs_valid, value_valid, is_whole_stray, unknown_fits, entries_pass, value_passes, values_pass, pairs_pass, fit_test, encodable, Typed, EntriesTyped, ValueTyped, ValuesTyped, PairsTyped, all_append}
use Rattle.prost_reflect_laws.proofs.Checked.{known_valid, known_number}
use Rattle.prost_reflect_laws.proofs.Everywhere.{stored_passes}
use Rattle.prost_reflect_laws.proofs.FieldTypes.{kind_at, option_typed}
use Rattle.prost_reflect_laws.proofs.Spelt.{plain_bytes, written_valid, length_fits, payload_size, SoundPayload, SoundPayloads, Sound, sound_append, valid_if, message_sound}

-- PAYLOADS

pub scalar_sound : (kind : Kind) (v : Scalar) → kind_takes kind v ≡ true → SoundPayload (scalar_payload kind v)
scalar_sound (ScalarOf kind) v h = record { sound = λ l. written_valid kind v h (length_fits (written kind v) l) }
scalar_sound _ v h = absurd (true≢false (sym h))

pub inside_sound : (kind : Kind) (rs : List Record) → Sound rs → SoundPayload (message_payload kind rs)
inside_sound (ScalarOf kind) rs h = message_sound rs h
inside_sound (MessageOf T) rs h = message_sound rs h
inside_sound (GroupOf T) rs h = record { sound = valid_if rs h }

pub end_bytes : (ps : List Payload) → SoundPayloads ps → length (end_to_end ps) < 2 ^ 64 → are_bytes (end_to_end ps) ≡ true
end_bytes [] h l = refl
end_bytes (p ∷ ps) (one, more) l =
    let e : length (payload_bytes p ++ end_to_end ps) ≡ length (payload_bytes p) + length (end_to_end ps) = length-append (payload_bytes p) (end_to_end ps) in
    all_append (λ b. nat_lt b 256) (payload_bytes p) (end_to_end ps) (go p one.sound (omega arith)) (end_bytes ps more (omega arith))
  where
    go : (p : Payload) → (payload_size p < 2 ^ 64 → payload_valid p ≡ true) → length (payload_bytes p) < 2 ^ 64 → are_bytes (payload_bytes p) ≡ true
    go (Flat p) h l = plain_bytes p (h l)
    go (Group inside) h l = refl

pub packed_sound : (body : List ℕ) → (length body < 2 ^ 64 → are_bytes body ≡ true) → SoundPayload (Flat (Len body))
packed_sound body h = record { sound = λ l. let small : length body < 2 ^ 64 = omega (arith, l, length-append (short (length body)) body) in and_from _ _ (lt-ltb (length body) (2 ^ 64) small) (h small) }

list_sound : (c : FieldForm) (ps : List Payload) → SoundPayloads ps → SoundPayloads (list_payloads c ps)
list_sound Singular [] h = tt
list_sound Singular (p ∷ ps) h = h
list_sound (MapFrom key) [] h = tt
list_sound (MapFrom key) (p ∷ ps) h = h
list_sound (Repeated packed) [] h = tt
list_sound (Repeated false) (p ∷ ps) h = h
list_sound (Repeated true) (p ∷ ps) h = (packed_sound (end_to_end (p ∷ ps)) (end_bytes (p ∷ ps) h), tt)

pub entry_sound : (value_type : ValueType) (n : ℕ) (v : Value) (p : Payload) → number_valid n ≡ true → SoundPayload p → Sound (entry_record value_type n v p)
entry_sound value_type n v p h s = go (is_default_of value_type v)
  where
    go : (b : Bool) → Sound (cond b [] (record_at n p ∷ []))
    go true = tt
    go false = (record { number = h; payload = s }, tt)

pub block_sound : (n : ℕ) (ps : List Payload) → number_valid n ≡ true → SoundPayloads ps → Sound (map (record_at n) ps)
block_sound n [] h s = tt
block_sound n (p ∷ ps) h (one, more) = (record { number = h; payload = one }, block_sound n ps h more)

unknown_number : (schema : Schema) (fields : List Field) (n : ℕ) (p : Payload) → list_all (field_valid schema) fields ≡ true → unknown_fits (field_of fields n) n p ≡ true → (number_valid n ≡ true) × (payload_valid p ≡ true)
unknown_number schema fields n p h u = go (field_of fields n) refl u
  where
    go : (o : Option Field) → field_of fields n ≡ o → unknown_fits o n p ≡ true → (number_valid n ≡ true) × (payload_valid p ≡ true)
    go None e u = and_parts (number_valid n) (payload_valid p) u
    go (Some f) e u = (known_number schema fields n f h e, (and_parts (payload_valid p) (is_whole_stray f.form f.value_type p) u).0)

-- CONTENTS

stored_sound : (schema : Schema) (fields : List Field) (n : ℕ) (o : Option Field) (v : Value) → field_of fields n ≡ o → list_all (field_valid schema) fields ≡ true → SoundPayloads (field_payloads o v) → Sound (map (record_at n) (field_payloads o v))
stored_sound schema fields n None (ScalarValue v) e g s = tt
stored_sound schema fields n None (MessageValue c) e g s = tt
stored_sound schema fields n None (ListValue vs) e g s = tt
stored_sound schema fields n None (MapValue ps) e g s = tt
stored_sound schema fields n (Some f) v e g s = block_sound n (field_payloads (Some f) v) (known_number schema fields n f g e) s

mutual
  pub content_sound : (c : Content) → schema_valid (schema_of c) ≡ true → encodable c ≡ true → Typed c → Sound (records c)
  content_sound (ContentOf schema T es) h fits types = entries_sound schema (known schema T) es h (known_valid schema T h) fits types

  entries_sound : (schema : Schema) (fields : List Field) (es : Entries) → schema_valid schema ≡ true → list_all (field_valid schema) fields ≡ true → entries_pass fit_test fields es ≡ true → EntriesTyped schema fields es → Sound (entries_records fields es)
  entries_sound schema fields NoEntries h g fits types = tt
  entries_sound schema fields (Stored n v es) h g fits (one, more) =
      let fit = stored_passes fit_test fields n v es fits in
      sound_append (map (record_at n) (field_payloads (field_of fields n) v)) (entries_records fields es)
      (stored_sound schema fields n (field_of fields n) v refl g (value_sound schema (field_of fields n) v h fit.here fit.inside (option_typed schema (field_of fields n) v fit.here one))) (entries_sound schema fields es h g fit.behind more)
  entries_sound schema fields (Unknown n p es) h g fits types =
      let (here, rest) = and_parts (unknown_fits (field_of fields n) n p) (entries_pass fit_test fields es) fits in
      let (number, payload) = unknown_number schema fields n p g here in
      (record { number = number; payload = record { sound = λ l. payload } }, entries_sound schema fields es h g rest types)

  value_sound : (schema : Schema) (o : Option Field) (v : Value) → schema_valid schema ≡ true → passes o (λ f. value_valid f v) ≡ true → value_passes fit_test v ≡ true → ValueTyped schema (kind_at o) v → SoundPayloads (field_payloads o v)
  value_sound schema None v h valid fits types = absurd (true≢false (sym valid))
  value_sound schema (Some f) (ScalarValue v) h valid fits types = (scalar_sound f.value_type.kind v (and_parts (is_singular f.form) (kind_takes f.value_type.kind v) valid).1, tt)
  value_sound schema (Some f) (MessageValue c) h valid fits (of, types) = (inside_sound f.value_type.kind (records c) (content_sound c (ap schema_valid of.0 ∙ h) fits types), tt)
  value_sound schema (Some f) (ListValue vs) h valid fits types = list_sound f.form (element_payloads f.value_type.kind vs) (elements_sound schema f.value_type.kind vs h (and_parts (is_list f.form) (elements_valid f.value_type.kind vs) valid).1 fits types)
  value_sound schema (Some f) (MapValue ps) h valid fits types = map_sound schema f.form f.value_type ps h valid fits types

  pub element_sound : (schema : Schema) (kind : Kind) (v : Value) → schema_valid schema ≡ true → element_valid kind v ≡ true → value_passes fit_test v ≡ true → ValueTyped schema (Some kind) v → SoundPayload (value_payload kind v)
  element_sound schema kind (ScalarValue v) h valid fits types = scalar_sound kind v valid
  element_sound schema kind (MessageValue c) h valid fits (of, types) = inside_sound kind (records c) (content_sound c (ap schema_valid of.0 ∙ h) fits types)
  element_sound schema kind _ h valid fits types = absurd (true≢false (sym valid))

  elements_sound : (schema : Schema) (kind : Kind) (vs : Values) → schema_valid schema ≡ true → elements_valid kind vs ≡ true → values_pass fit_test vs ≡ true → ValuesTyped schema (Some kind) vs → SoundPayloads (element_payloads kind vs)
  elements_sound schema kind NoValues h valid fits types = tt
  elements_sound schema kind (Item v vs) h valid fits (one, more) =
      let (here, rest) = and_parts (element_valid kind v) (elements_valid kind vs) valid in
      let (fit, fit') = and_parts (value_passes fit_test v) (values_pass fit_test vs) fits in
      (element_sound schema kind v h here fit one, elements_sound schema kind vs h rest fit' more)

  map_sound : (schema : Schema) (c : FieldForm) (value_type : ValueType) (ps : Pairs) → schema_valid schema ≡ true → pairs_valid c value_type.kind ps ≡ true → pairs_pass fit_test ps ≡ true → PairsTyped schema (Some value_type.kind) ps → SoundPayloads (pair_payloads (key_of c value_type) value_type ps)
  map_sound schema (MapFrom key) value_type NoPairs h valid fits types = tt
  map_sound schema (MapFrom key) value_type (Pair k v ps) h valid fits (one, more) =
      let (here, rest) = and_parts (kind_takes key.kind k && element_valid value_type.kind v) (pairs_valid (MapFrom key) value_type.kind ps) valid in
      let (takes, fit) = and_parts (kind_takes key.kind k) (element_valid value_type.kind v) here in
      let (deep, deep') = and_parts (value_passes fit_test v) (pairs_pass fit_test ps) fits in (
        message_sound (entry_record key 1 (ScalarValue k) (scalar_payload key.kind k) ++ entry_record value_type 2 v (value_payload value_type.kind v))
            (sound_append (entry_record key 1 (ScalarValue k) (scalar_payload key.kind k)) (entry_record value_type 2 v (value_payload value_type.kind v))
            (entry_sound key 1 (ScalarValue k) (scalar_payload key.kind k) refl (scalar_sound key.kind k takes)) (entry_sound value_type 2 v (value_payload value_type.kind v) refl (element_sound schema value_type.kind v h fit deep one))),
        map_sound schema (MapFrom key) value_type ps h rest deep' more,
      )
  map_sound schema _ value_type ps h valid fits types = absurd (true≢false (sym valid))

pub content_valid : (c : Content) → schema_valid (schema_of c) ≡ true → encodable c ≡ true → Typed c → length (spelled (records c)) < 2 ^ 64 → valid (body_of (records c)) ≡ true
content_valid c h fits types l = valid_if (records c) (content_sound c h fits types) l
