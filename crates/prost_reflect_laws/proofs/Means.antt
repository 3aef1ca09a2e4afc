-- The records of a well-typed content mean it.
use Rattle.std.specs.Prelude.{◌≡◌, ◌^◌, ◌≤◌, ◌&&◌, ◌∷◌, ◌++◌}
use Rattle.prost_reflect_laws.proofs.Common.{ℕ, zero, suc, Bool, true, false, not, List, [], map, length, Option, Some, None, refl, ap, sym, ◌∙◌, arith, true≢false, ⊤, list_all, ltb-true, and_parts, not-true, Len, Payload, Flat, Group, Record, Spells, before, body_of, spelled, number_valid, plain_valid, payload_valid, valid, are_bytes, Scalar, Kind, ScalarOf, MessageOf, GroupOf, ValueType, FieldForm, Singular, Repeated, MapFrom, Field, Schema, known, field_of, is_sibling, is_message, is_singular, has_kind_default, is_packable_kind, field_valid, schema_valid, passes, is_list, Content, ContentOf, Entries, NoEntries, Stored, Unknown, Value, ScalarValue, MessageValue, ListValue, MapValue, Values, NoValues, Item, Pairs, NoPairs, Pair, schema_of, type_of, comes_before, key_before, ordered, entries_ordered, value_ordered, values_ordered, pairs_ordered, MeansInside, JoinsInside, empty_inside, joins_nothing, meaning, meaning_by, steps, record_at, scalar_payload, message_payload, is_default_of, entry_record, list_payloads, records, entries_records, field_payloads, value_payload, element_payloads, pair_payload, pair_payloads, key_of, encoded, levels, unknown_levels, entries_levels, value_levels, values_levels, pairs_levels, kind_takes, element_valid, elements_valid, pairs_valid, value_valid, is_whole_stray, unknown_fits, EntryTest, everywhere, entries_pass, value_passes, values_pass, pairs_pass, fit_test, encodable, has_value_of, is_alone, alone_test, is_empty_value, is_stored_default, filled_test, default_test, Typed, EntriesTyped, ValueTyped, ValuesTyped, PairsTyped, short_spells, Joins, nothing_joins, level_joins, both_max, Writable, ValueBack, UnknownBack, EntriesBack, ElementBack, ElementsBack, PairsBack}
use Rattle.prost_reflect_laws.proofs.Back.{entries_back}
use Rattle.prost_reflect_laws.proofs.Values.{scalar_back, message_back, unknown_back, stray_back}
use Rattle.prost_reflect_laws.proofs.Lists.{list_back}
use Rattle.prost_reflect_laws.proofs.Packed.{scalar_element, packed_back}
use Rattle.prost_reflect_laws.proofs.Maps.{map_back, pair_back, message_element, EntryValue}
use Rattle.prost_reflect_laws.proofs.Spelt.{Sound, sound_append, valid_if}
use Rattle.prost_reflect_laws.proofs.Checked.{known_valid, found_valid, CheckedField, checked_field, checked_list, checked_map}
use Rattle.prost_reflect_laws.proofs.Everywhere.{stored_passes, both_tests, both_pass}
use Rattle.prost_reflect_laws.proofs.FieldTypes.{singular, repeated, kind_at, option_typed}
use Rattle.prost_reflect_laws.proofs.Valid.{scalar_sound, entry_sound, element_sound, content_sound, content_valid}

-- LEVELS

unfoldable pub below : Schema → ℕ → MeansInside
below schema zero = empty_inside schema
below schema (suc k) = meaning schema k

unfoldable pub further : ℕ → JoinsInside
further zero = joins_nothing
further (suc k) = steps k

pub meaning_below : (schema : Schema) (k T : ℕ) (rs : List Record) → meaning schema k T rs ≡ meaning_by (below schema k) schema T rs
unfolding meaning below
meaning_below schema zero T rs = refl
meaning_below schema (suc k) T rs = refl

pub below_joins : (schema : Schema) (k : ℕ) → Joins (below schema k) (further k)
unfolding below further
below_joins schema zero = nothing_joins schema
below_joins schema (suc k) = level_joins schema k

below_means : (schema : Schema) (k : ℕ) (c : Content) → schema_of c ≡ schema → suc (levels c) ≤ k → ((j : ℕ) → levels c ≤ j → meaning (schema_of c) j (type_of c) (records c) ≡ c) → below schema k (type_of c) (records c) ≡ c
unfolding below
below_means schema zero c e l means = absurd (omega arith)
below_means schema (suc k) c e l means = ap (λ s. meaning s k (type_of c) (records c)) (sym e) ∙ means k (omega arith)

-- RECORDS THAT ARE VALID

pub first_valid : (r : Record) (rs : List Record) → valid (body_of (r ∷ rs)) ≡ true → (payload_valid r.payload ≡ true) × (valid (body_of rs) ≡ true)
first_valid r rs h = go r.payload h
  where
    go : (p : Payload) → valid (before (record { number = r.number; payload = p }) (body_of rs)) ≡ true → (payload_valid p ≡ true) × (valid (body_of rs) ≡ true)
    go (Flat p) h = and_parts (plain_valid p) (valid (body_of rs)) (and_parts (number_valid r.number) (plain_valid p && valid (body_of rs)) h).1
    go (Group inside) h = and_parts (valid inside) (valid (body_of rs)) (and_parts (number_valid r.number) (valid inside && valid (body_of rs)) h).1

pub behind_valid : (rs qs : List Record) → valid (body_of (rs ++ qs)) ≡ true → valid (body_of qs) ≡ true
behind_valid [] qs h = h
behind_valid (r ∷ rs) qs h = behind_valid rs qs (first_valid r (rs ++ qs) h).1

pub block_valid : (n : ℕ) (ps : List Payload) (qs : List Record) → valid (body_of (map (record_at n) ps ++ qs)) ≡ true → list_all payload_valid ps ≡ true
block_valid n [] qs h = refl
block_valid n (p ∷ ps) qs h =
    let (one, more) = first_valid (record_at n p) (map (record_at n) ps ++ qs) h in
    ap (λ b. b && list_all payload_valid ps) one ∙ block_valid n ps qs more

pub body_valid : (rs : List Record) → Sound rs → payload_valid (Flat (Len (spelled rs))) ≡ true → valid (body_of rs) ≡ true
body_valid rs s h = valid_if rs s (ltb-true (length (spelled rs)) (2 ^ 64) (and_parts _ (are_bytes (spelled rs)) h).0)

pub inside_valid : (kind : Kind) (rs : List Record) → Sound rs → payload_valid (message_payload kind rs) ≡ true → valid (body_of rs) ≡ true
inside_valid (ScalarOf kind) rs s h = body_valid rs s h
inside_valid (MessageOf T) rs s h = body_valid rs s h
inside_valid (GroupOf T) rs s h = h

-- what is needed of a value's payload
abbrev pub MessageSpelt : Kind → Value → Type 0
MessageSpelt kind (ScalarValue v) = ⊤
MessageSpelt kind (MessageValue c) = payload_valid (message_payload kind (records c)) ≡ true
MessageSpelt kind (ListValue vs) = ⊤
MessageSpelt kind (MapValue ps) = ⊤

pub payload_spelt : (kind : Kind) (v : Value) → payload_valid (value_payload kind v) ≡ true → MessageSpelt kind v
payload_spelt kind (ScalarValue v) h = tt
payload_spelt kind (MessageValue c) h = h
payload_spelt kind (ListValue vs) h = tt
payload_spelt kind (MapValue ps) h = tt

pub entry_spelt : (value_type : ValueType) (v : Value) (rs : List Record) → valid (body_of (rs ++ entry_record value_type 2 v (value_payload value_type.kind v))) ≡ true → MessageSpelt value_type.kind v
entry_spelt value_type (ScalarValue v) rs h = tt
entry_spelt value_type (MessageValue c) rs h = (first_valid (record_at 2 (message_payload value_type.kind (records c))) [] (behind_valid rs (record_at 2 (message_payload value_type.kind (records c)) ∷ []) h)).0
entry_spelt value_type (ListValue vs) rs h = tt
entry_spelt value_type (MapValue ps) rs h = tt

-- ONE VALUE

scalar_each : (inner : MeansInside) (fields : List Field) (n : ℕ) (f : Field) (v : Scalar) → field_of fields n ≡ Some f → value_valid f (ScalarValue v) ≡ true → not (is_stored_default f (ScalarValue v)) ≡ true → ValueBack inner fields n f (ScalarValue v)
scalar_each inner fields n f v found valid said =
    let (a, b) = and_parts (is_singular f.form) (kind_takes f.value_type.kind v) valid in
    let s : f.form ≡ Singular = singular f.form a in
    go s f.value_type.kind refl b (sym (ap (λ c. is_singular c && is_default_of f.value_type (ScalarValue v)) s) ∙ not-true (is_stored_default f (ScalarValue v)) said)
  where
    go : f.form ≡ Singular → (kind : Kind) → f.value_type.kind ≡ kind → kind_takes kind v ≡ true → is_default_of f.value_type (ScalarValue v) ≡ false → ValueBack inner fields n f (ScalarValue v)
    go s (ScalarOf kind) e t said = scalar_back inner fields n f kind v found s e t said
    go s _ e t said = absurd (true≢false (sym t))

scalar_one : (inner : MeansInside) (kind : Kind) (v : Scalar) → kind_takes kind v ≡ true → ElementBack inner kind (ScalarValue v)
scalar_one inner (ScalarOf kind) v h = scalar_element inner kind v h
scalar_one inner _ v h = absurd (true≢false (sym h))

list_each : (inner : MeansInside) (schema : Schema) (fields : List Field) (n : ℕ) (f : Field) (vs : Values) → field_of fields n ≡ Some f → CheckedField schema f → value_valid f (ListValue vs) ≡ true → not (is_empty_value f.form (ListValue vs)) ≡ true →
    list_all payload_valid (field_payloads (Some f) (ListValue vs)) ≡ true → (list_all payload_valid (element_payloads f.value_type.kind vs) ≡ true → ElementsBack inner f.value_type.kind vs) → ValueBack inner fields n f (ListValue vs)
list_each inner schema fields n f vs found checked valid said spelt each =
    let (a, b) = and_parts (is_list f.form) (elements_valid f.value_type.kind vs) valid in
    let (packed, e) = repeated f.form a in
    go packed e vs b said spelt each
  where
    pack : (v : Value) (vs : Values) (kind : Kind) → f.form ≡ Repeated true → f.value_type.kind ≡ kind → is_packable_kind kind ≡ true → elements_valid kind (Item v vs) ≡ true → ValueBack inner fields n f (ListValue (Item v vs))
    pack v vs (ScalarOf kind) c e p fit = packed_back inner fields n f kind v vs found c e p fit
    pack v vs _ c e p fit = absurd (true≢false (sym p))

    go : (packed : Bool) → f.form ≡ Repeated packed → (vs : Values) → elements_valid f.value_type.kind vs ≡ true → not (is_empty_value f.form (ListValue vs)) ≡ true →
        list_all payload_valid (list_payloads f.form (element_payloads f.value_type.kind vs)) ≡ true → (list_all payload_valid (element_payloads f.value_type.kind vs) ≡ true → ElementsBack inner f.value_type.kind vs) → ValueBack inner fields n f (ListValue vs)
    go packed e NoValues fit said spelt each = absurd (true≢false (sym said ∙ ap (λ c. not (is_empty_value c (ListValue NoValues))) e))
    go false e (Item v vs) fit said spelt each = list_back inner fields n f v vs found e (each (ap (λ c. list_all payload_valid (list_payloads c (element_payloads f.value_type.kind (Item v vs)))) (sym e) ∙ spelt))
    go true e (Item v vs) fit said spelt each = pack v vs f.value_type.kind e refl (checked_list schema f true checked e).packable fit

map_each : (inner : MeansInside) (fields : List Field) (n : ℕ) (f : Field) (ps : Pairs) → field_of fields n ≡ Some f → value_valid f (MapValue ps) ≡ true → not (is_empty_value f.form (MapValue ps)) ≡ true → pairs_ordered ps ≡ true →
    ((key : ValueType) → f.form ≡ MapFrom key → PairsBack inner key f.value_type ps) → ValueBack inner fields n f (MapValue ps)
map_each inner fields n f ps found valid said order each = go f.form refl valid ps order said each
  where
    go : (c : FieldForm) → f.form ≡ c → pairs_valid c f.value_type.kind ps ≡ true → (ps : Pairs) → pairs_ordered ps ≡ true → not (is_empty_value f.form (MapValue ps)) ≡ true →
        ((key : ValueType) → f.form ≡ MapFrom key → PairsBack inner key f.value_type ps) → ValueBack inner fields n f (MapValue ps)
    go (MapFrom key) e fit (Pair k v ps) order said each = map_back inner fields n f key k v ps found e (each key e) order
    go (MapFrom key) e fit NoPairs order said each = absurd (true≢false (sym said ∙ ap (λ c. not (is_empty_value c (MapValue NoPairs))) e))
    go _ e fit ps order said each = absurd (true≢false (sym fit))

entry_value : (kind : Kind) (v : Value) → element_valid kind v ≡ true → EntryValue kind v
entry_value kind (ScalarValue v) h = h
entry_value kind (MessageValue c) h = tt
entry_value kind _ h = absurd (true≢false (sym h))

-- ENTRIES

abbrev OptionBack : MeansInside → List Field → ℕ → Option Field → Value → Type 0
OptionBack inner fields n None v = ⊤
OptionBack inner fields n (Some f) v = ValueBack inner fields n f v

stored_back : (inner : MeansInside) (fields : List Field) (n : ℕ) (o : Option Field) (v : Value) (es : Entries) → field_of fields n ≡ o → passes o (λ f. value_valid f v) ≡ true → is_alone fields o es ≡ true → OptionBack inner fields n o v → EntriesBack inner fields es → EntriesBack inner fields (Stored n v es)
stored_back inner fields n None v es e valid alone back rest = absurd (true≢false (sym valid))
stored_back inner fields n (Some f) v es e valid alone back rest = (f, e, back, not-true (has_value_of (is_sibling fields f) es) alone, rest)

unknown_each : (fields : List Field) (n : ℕ) (p : Payload) → unknown_fits (field_of fields n) n p ≡ true → UnknownBack fields n p
unknown_each fields n p h = go (field_of fields n) refl h
  where
    go : (o : Option Field) → field_of fields n ≡ o → unknown_fits o n p ≡ true → UnknownBack fields n p
    go None e h = unknown_back fields n p e
    go (Some f) e h = stray_back fields n f p e (and_parts (payload_valid p) (is_whole_stray f.form f.value_type p) h).1

-- what is asked of a content besides that it fits
abbrev said_test : EntryTest
said_test = both_tests alone_test (both_tests filled_test default_test)

-- what is asked of the value of a field besides that it fits
pub record Said (fields : List Field) (o : Option Field) (v : Value) (es : Entries) : Type 0 where
  pub alone : is_alone fields o es ≡ true
  pub filled : not (passes o (λ f. is_empty_value f.form v)) ≡ true
  pub default : not (passes o (λ f. is_stored_default f v)) ≡ true

said_parts : (fields : List Field) (n : ℕ) (v : Value) (es : Entries) → said_test.stored fields n v es ≡ true → Said fields (field_of fields n) v es
said_parts fields n v es h =
    let b : Bool = not (passes (field_of fields n) (λ f. is_empty_value f.form v)) in
    let c : Bool = not (passes (field_of fields n) (λ f. is_stored_default f v)) in
    let (one, more) = and_parts (is_alone fields (field_of fields n) es) (b && c) h in
    let (two, three) = and_parts b c more in
    record { alone = one; filled = two; default = three }

mutual
  pub content_back : (k : ℕ) (c : Content) → schema_valid (schema_of c) ≡ true → encodable c ≡ true → Typed c → ordered c ≡ true → everywhere said_test c ≡ true →
      valid (body_of (records c)) ≡ true → levels c ≤ k → meaning (schema_of c) k (type_of c) (records c) ≡ c
  content_back k (ContentOf schema T es) h fits types order says spelt l =
      meaning_below schema k T (entries_records (known schema T) es)
      ∙ entries_back (below schema k) (further k) schema T es (below_joins schema k) (entries_each schema (known schema T) k es h (known_valid schema T h) fits types order says spelt l) order

  entries_each : (schema : Schema) (fields : List Field) (k : ℕ) (es : Entries) → schema_valid schema ≡ true → list_all (field_valid schema) fields ≡ true → entries_pass fit_test fields es ≡ true → EntriesTyped schema fields es → entries_ordered es ≡ true →
      entries_pass said_test fields es ≡ true → valid (body_of (entries_records fields es)) ≡ true → entries_levels fields es ≤ k → EntriesBack (below schema k) fields es
  entries_each schema fields k NoEntries h g fits types order says spelt l = tt
  entries_each schema fields k (Stored n v es) h g fits (type, types) order says spelt l =
      let fit = stored_passes fit_test fields n v es fits in
      let say = stored_passes said_test fields n v es says in
      let said : Said fields (field_of fields n) v es = said_parts fields n v es say.here in
      let (ord, ord') = and_parts (comes_before n es && value_ordered v) (entries_ordered es) order in
      let (low, low') = both_max (value_levels v) (entries_levels fields es) k l in
      let here : list_all payload_valid (field_payloads (field_of fields n) v) ≡ true = block_valid n (field_payloads (field_of fields n) v) (entries_records fields es) spelt in
      stored_back (below schema k) fields n (field_of fields n) v es refl fit.here said.alone
      (value_each schema fields k n (field_of fields n) v es refl h g fit.here fit.inside (option_typed schema (field_of fields n) v fit.here type) (and_parts (comes_before n es) (value_ordered v) ord).1 said say.inside low here)
      (entries_each schema fields k es h g fit.behind types ord' say.behind (behind_valid (map (record_at n) (field_payloads (field_of fields n) v)) (entries_records fields es) spelt) low')
  entries_each schema fields k (Unknown n p es) h g fits types order says spelt l =
      let (fit, fit') = and_parts (unknown_fits (field_of fields n) n p) (entries_pass fit_test fields es) fits in (
        unknown_each fields n p fit,
        entries_each schema fields k es h g fit' types (and_parts (comes_before n es) (entries_ordered es) order).1 says (first_valid (record_at n p) (entries_records fields es) spelt).1
            (both_max (unknown_levels (field_of fields n) p) (entries_levels fields es) k l).1,
      )

  value_each : (schema : Schema) (fields : List Field) (k n : ℕ) (o : Option Field) (v : Value) (es : Entries) → field_of fields n ≡ o → schema_valid schema ≡ true → list_all (field_valid schema) fields ≡ true → passes o (λ f. value_valid f v) ≡ true → value_passes fit_test v ≡ true →
      ValueTyped schema (kind_at o) v → value_ordered v ≡ true → Said fields o v es → value_passes said_test v ≡ true → value_levels v ≤ k → list_all payload_valid (field_payloads o v) ≡ true → OptionBack (below schema k) fields n o v
  value_each schema fields k n None v es e h g takes fits types order said says l spelt = absurd (true≢false (sym takes))
  value_each schema fields k n (Some f) (ScalarValue v) es e h g takes fits types order said says l spelt = scalar_each (below schema k) fields n f v e takes said.default
  value_each schema fields k n (Some f) (MessageValue c) es e h g takes fits (of, types) order said says l spelt =
      let one : f.form ≡ Singular = singular f.form (and_parts (is_singular f.form) (is_message f.value_type.kind) takes).0 in
      let checked : schema_valid (schema_of c) ≡ true = ap schema_valid of.0 ∙ h in
      let written : valid (body_of (records c)) ≡ true = inside_valid f.value_type.kind (records c) (content_sound c checked fits types) (and_parts (payload_valid (message_payload f.value_type.kind (records c))) true spelt).0 in
      message_back (below schema k) fields n f c e one of.1 written
      (below_means schema k c of.0 l (λ j low. content_back j c checked fits types order says written low))
  value_each schema fields k n (Some f) (ListValue vs) es e h g takes fits types order said says l spelt =
      list_each (below schema k) schema fields n f vs e (checked_field schema f (found_valid schema fields n f g e)) takes said.filled spelt
      (λ each. elements_each schema k f.value_type.kind vs h (and_parts (is_list f.form) (elements_valid f.value_type.kind vs) takes).1 fits types order says l each)
  value_each schema fields k n (Some f) (MapValue ps) es e h g takes fits types order said says l spelt =
      map_each (below schema k) fields n f ps e takes said.filled order
      (λ key c. pairs_each schema k key f.value_type ps h (checked_map schema f key (checked_field schema f (found_valid schema fields n f g e)) c).key_default (ap (λ c. pairs_valid c f.value_type.kind ps) (sym c) ∙ takes) fits types order says l
      (ap (λ c. list_all payload_valid (pair_payloads (key_of c f.value_type) f.value_type ps)) (sym c) ∙ spelt))

  element_each : (schema : Schema) (k : ℕ) (kind : Kind) (v : Value) → schema_valid schema ≡ true → element_valid kind v ≡ true → value_passes fit_test v ≡ true → ValueTyped schema (Some kind) v → value_ordered v ≡ true → value_passes said_test v ≡ true →
      value_levels v ≤ k → MessageSpelt kind v → ElementBack (below schema k) kind v
  element_each schema k kind (ScalarValue v) h takes fits types order says l spelt = scalar_one (below schema k) kind v takes
  element_each schema k kind (MessageValue c) h takes fits (of, types) order says l spelt =
      let checked : schema_valid (schema_of c) ≡ true = ap schema_valid of.0 ∙ h in
      let written : valid (body_of (records c)) ≡ true = inside_valid kind (records c) (content_sound c checked fits types) spelt in
      message_element (below schema k) kind c of.1 written (below_means schema k c of.0 l (λ j low. content_back j c checked fits types order says written low))
  element_each schema k kind _ h takes fits types order says l spelt = absurd (true≢false (sym takes))

  elements_each : (schema : Schema) (k : ℕ) (kind : Kind) (vs : Values) → schema_valid schema ≡ true → elements_valid kind vs ≡ true → values_pass fit_test vs ≡ true → ValuesTyped schema (Some kind) vs → values_ordered vs ≡ true → values_pass said_test vs ≡ true →
      values_levels vs ≤ k → list_all payload_valid (element_payloads kind vs) ≡ true → ElementsBack (below schema k) kind vs
  elements_each schema k kind NoValues h takes fits types order says l spelt = tt
  elements_each schema k kind (Item v vs) h takes fits (type, types) order says l spelt =
      let (one, one') = and_parts (element_valid kind v) (elements_valid kind vs) takes in
      let (fit, fit') = and_parts (value_passes fit_test v) (values_pass fit_test vs) fits in
      let (ord, ord') = and_parts (value_ordered v) (values_ordered vs) order in
      let (say, say') = and_parts (value_passes said_test v) (values_pass said_test vs) says in
      let (low, low') = both_max (value_levels v) (values_levels vs) k l in
      let (here, rest) = and_parts (payload_valid (value_payload kind v)) (list_all payload_valid (element_payloads kind vs)) spelt in
      (element_each schema k kind v h one fit type ord say low (payload_spelt kind v here), elements_each schema k kind vs h one' fit' types ord' say' low' rest)

  pairs_each : (schema : Schema) (k : ℕ) (key value_type : ValueType) (ps : Pairs) → schema_valid schema ≡ true → has_kind_default key ≡ true → pairs_valid (MapFrom key) value_type.kind ps ≡ true → pairs_pass fit_test ps ≡ true → PairsTyped schema (Some value_type.kind) ps → pairs_ordered ps ≡ true →
      pairs_pass said_test ps ≡ true → pairs_levels ps ≤ k → list_all payload_valid (pair_payloads key value_type ps) ≡ true → PairsBack (below schema k) key value_type ps
  pairs_each schema k key value_type NoPairs h d takes fits types order says l spelt = tt
  pairs_each schema k key value_type (Pair x v ps) h d takes fits (type, types) order says l spelt =
      let (ok, ok') = and_parts (kind_takes key.kind x && element_valid value_type.kind v) (pairs_valid (MapFrom key) value_type.kind ps) takes in
      let (key_takes, one) = and_parts (kind_takes key.kind x) (element_valid value_type.kind v) ok in
      let (fit, fit') = and_parts (value_passes fit_test v) (pairs_pass fit_test ps) fits in
      let (ord, ord') = and_parts (key_before x ps && value_ordered v) (pairs_ordered ps) order in
      let (say, say') = and_parts (value_passes said_test v) (pairs_pass said_test ps) says in
      let (low, low') = both_max (value_levels v) (pairs_levels ps) k l in
      let (here, rest) = and_parts (payload_valid (pair_payload key value_type x v)) (list_all payload_valid (pair_payloads key value_type ps)) spelt in
      let first : List Record = entry_record key 1 (ScalarValue x) (scalar_payload key.kind x) in
      let second : List Record = entry_record value_type 2 v (value_payload value_type.kind v) in
      let written : valid (body_of (first ++ second)) ≡ true =
      body_valid (first ++ second) (sound_append first second (entry_sound key 1 (ScalarValue x) (scalar_payload key.kind x) refl (scalar_sound key.kind x key_takes)) (entry_sound value_type 2 v (value_payload value_type.kind v) refl (element_sound schema value_type.kind v h one fit type))) here in (
        pair_back (below schema k) key value_type x v key_takes d (entry_value value_type.kind v one)
            (element_each schema k value_type.kind v h one fit type (and_parts (key_before x ps) (value_ordered v) ord).1 say low (entry_spelt value_type v first written)) written,
        pairs_each schema k key value_type ps h d ok' fit' types ord' say' low' rest,
      )

-- the records of a content mean it
pub records_mean : (k : ℕ) (c : Content) → Writable c → levels c ≤ k → meaning (schema_of c) k (type_of c) (records c) ≡ c
records_mean k c w l =
    let t = w.typed in
    let f = w.typed.fitting in
    content_back k c w.checked f.fits f.types f.order (both_pass alone_test (both_tests filled_test default_test) c t.members (both_pass filled_test default_test c f.nonempty t.without_stored_defaults)) (content_valid c w.checked f.fits f.types w.length) l

-- the bytes of a content spell its records
pub encoded_spells : (c : Content) → Writable c → Spells (body_of (records c)) (encoded c)
encoded_spells c w = short_spells (body_of (records c)) (content_valid c w.checked w.typed.fitting.fits w.typed.fitting.types w.length)
