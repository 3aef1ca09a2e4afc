-- Contents that fit, seen by types in which each single field has presence and no field is in a oneof: they are written as before, and are well-typed there.
use Rattle.std.specs.Prelude.{◌≡◌, ◌^◌, ◌<◌, ◌&&◌, ◌||◌, ◌∷◌, ◌++◌}
use Rattle.prost_reflect_laws.proofs.Common.{ℕ, zero, suc, Bool, true, false, cond, not, List, [], map, length, nat_eq, nat_lt, Option, Some, None, refl, ap, ap₂, sym, ◌∙◌, subst, true≢false, list_any, list_all, and_parts, and_from, or-true, Payload, Record, spelled, payload_valid, Scalar, Enum, Closed, Kind, ScalarOf, MessageOf, GroupOf, ValueType, FieldForm, Singular, Repeated, MapFrom, Field, MessageType, Schema, message_type, known, field_of, same_oneof, is_sibling, is_message, is_singular, is_bare, message_has_presence, kind_valid, form_valid, field_valid, numbers_differ, schema_valid, passes, is_list, Content, ContentOf, Entries, NoEntries, Stored, Unknown, Value, ScalarValue, MessageValue, ListValue, MapValue, Values, NoValues, Item, Pairs, NoPairs, Pair, schema_of, type_of, comes_before, key_before, ordered, entries_ordered, value_ordered, values_ordered, pairs_ordered, record_at, message_payload, is_default_of, entry_payload, list_payloads, key_of, records, entries_records, field_payloads, value_payload, element_payloads, pair_payloads, encoded, kind_takes, element_valid, elements_valid, pairs_valid, value_valid, is_whole_stray, unknown_fits, EntryTest, everywhere, entries_pass, value_passes, values_pass, pairs_pass, fit_test, is_alone, alone_test, is_empty_value, is_stored_default, filled_test, default_test, kind_for, IsOf, Typed, EntriesTyped, ValueTyped, ValuesTyped, PairsTyped, Writable, Spellable}
use Rattle.prost_reflect_laws.proofs.Checked.{CheckedField, checked_field, CheckedList, checked_list, CheckedMap, checked_map}
use Rattle.prost_reflect_laws.proofs.Everywhere.{stored_passes}
use Rattle.prost_reflect_laws.proofs.Canonical.{canonicity}
use Rattle.prost_reflect_laws.proofs.StoredSound.{no_value}

-- TYPES

abbrev eased_type : FieldForm → ValueType → ValueType
eased_type c value_type = record value_type { presence = is_singular c || value_type.presence }

abbrev eased_field : Field → Field
eased_field f = record { number = f.number; is_extension = f.is_extension; form = f.form; value_type = eased_type f.form f.value_type; oneof = None }

abbrev eased_message : MessageType → MessageType
eased_message m = record { is_entry = m.is_entry; known = map eased_field m.known }

abbrev eased : Schema → Schema
eased schema = map eased_message schema

abbrev eased_option : Option Field → Option Field
eased_option None = None
eased_option (Some f) = Some (eased_field f)

known_eased : (schema : Schema) (T : ℕ) → known (eased schema) T ≡ map eased_field (known schema T)
known_eased [] T = refl
known_eased (m ∷ schema) zero = refl
known_eased (m ∷ schema) (suc T) = known_eased schema T

found_eased : (fields : List Field) (n : ℕ) → field_of (map eased_field fields) n ≡ eased_option (field_of fields n)
found_eased [] n = refl
found_eased (f ∷ fields) n = go (nat_eq f.number n) (found_eased fields n)
  where
    go : (b : Bool) → field_of (map eased_field fields) n ≡ eased_option (field_of fields n) → cond b (Some (eased_field f)) (field_of (map eased_field fields) n) ≡ eased_option (cond b (Some f) (field_of fields n))
    go true e = refl
    go false e = e

-- the checks hold again
entry_eased : (schema : Schema) (T : ℕ) → (message_type (eased schema) T).is_entry ≡ (message_type schema T).is_entry
entry_eased [] T = refl
entry_eased (m ∷ schema) zero = refl
entry_eased (m ∷ schema) (suc T) = entry_eased schema T

length_eased : (types : List MessageType) → length (map eased_message types) ≡ length types
length_eased [] = refl
length_eased (m ∷ types) = ap suc (length_eased types)

kind_eased : (schema : Schema) (kind : Kind) → kind_valid (eased schema) kind ≡ kind_valid schema kind
kind_eased schema (ScalarOf (Enum first (Closed numbers))) = refl
kind_eased schema (ScalarOf kind) = refl
kind_eased schema (MessageOf T) = ap₂ (λ (n : ℕ) b. nat_lt T n && not b) (length_eased schema) (entry_eased schema T)
kind_eased schema (GroupOf T) = ap₂ (λ (n : ℕ) b. nat_lt T n && not b) (length_eased schema) (entry_eased schema T)

form_eased : (schema : Schema) (f : Field) → CheckedField schema f → form_valid (eased_field f) f.form ≡ true
form_eased schema f checked = go f.form refl
  where
    go : (c : FieldForm) → f.form ≡ c → form_valid (eased_field f) c ≡ true
    go Singular e = ap (λ c. not (is_message f.value_type.kind) || (is_singular c || f.value_type.presence)) e ∙ or-true (not (is_message f.value_type.kind))
    go (Repeated packed) e =
        let l : CheckedList f packed = checked_list schema f packed checked e in
        and_from _ _ (and_from _ _ refl (ap (λ c. is_bare (eased_type c f.value_type)) e ∙ l.bare)) l.packable
    go (MapFrom key) e =
        let m : CheckedMap f key = checked_map schema f key checked e in
        and_from _ _ (and_from _ _ (and_from _ _ (and_from _ _ (and_from _ _ refl m.keyed) m.key_default) m.value_default) (ap (λ c. message_has_presence (eased_type c f.value_type)) e ∙ m.presence)) m.no_group

field_eased : (schema : Schema) (f : Field) → field_valid schema f ≡ true → field_valid (eased schema) (eased_field f) ≡ true
field_eased schema f h =
    let c : CheckedField schema f = checked_field schema f h in
    and_from _ _ (and_from _ _ (and_from _ _ (and_from _ _ c.number (kind_eased schema f.value_type.kind ∙ c.kind)) c.default) (form_eased schema f c)) refl

fields_eased : (schema : Schema) (fields : List Field) → list_all (field_valid schema) fields ≡ true → list_all (field_valid (eased schema)) (map eased_field fields) ≡ true
fields_eased schema [] h = refl
fields_eased schema (f ∷ fields) h =
    let (one, more) = and_parts (field_valid schema f) (list_all (field_valid schema) fields) h in
    and_from _ _ (field_eased schema f one) (fields_eased schema fields more)

numbers_eased : (fields : List Field) (n : ℕ) → list_any (λ g. nat_eq g.number n) (map eased_field fields) ≡ list_any (λ g. nat_eq g.number n) fields
numbers_eased [] n = refl
numbers_eased (f ∷ fields) n = ap (λ b. nat_eq f.number n || b) (numbers_eased fields n)

differ_eased : (fields : List Field) → numbers_differ (map eased_field fields) ≡ numbers_differ fields
differ_eased [] = refl
differ_eased (f ∷ fields) = ap₂ (λ a b. not a && b) (numbers_eased fields f.number) (differ_eased fields)

schema_eased : (schema : Schema) → schema_valid schema ≡ true → schema_valid (eased schema) ≡ true
schema_eased schema h = go schema h
  where
    go : (types : List MessageType) → list_all (λ (m : MessageType). numbers_differ m.known && list_all (field_valid schema) m.known) types ≡ true
        → list_all (λ (m : MessageType). numbers_differ m.known && list_all (field_valid (eased schema)) m.known) (map eased_message types) ≡ true
    go [] h = refl
    go (m ∷ types) h =
        let (here, more) = and_parts (numbers_differ m.known && list_all (field_valid schema) m.known) (list_all (λ (m : MessageType). numbers_differ m.known && list_all (field_valid schema) m.known) types) h in
        let (one, two) = and_parts (numbers_differ m.known) (list_all (field_valid schema) m.known) here in
        and_from _ _ (and_from _ _ (differ_eased m.known ∙ one) (fields_eased schema m.known two)) (go types more)

-- CONTENTS

abbrev mutual
  eased_content : Content → Content
  eased_content (ContentOf schema T es) = ContentOf (eased schema) T (eased_entries es)

  eased_entries : Entries → Entries
  eased_entries NoEntries = NoEntries
  eased_entries (Stored n v es) = Stored n (eased_value v) (eased_entries es)
  eased_entries (Unknown n p es) = Unknown n p (eased_entries es)

  eased_value : Value → Value
  eased_value (ScalarValue v) = ScalarValue v
  eased_value (MessageValue c) = MessageValue (eased_content c)
  eased_value (ListValue vs) = ListValue (eased_values vs)
  eased_value (MapValue ps) = MapValue (eased_pairs ps)

  eased_values : Values → Values
  eased_values NoValues = NoValues
  eased_values (Item v vs) = Item (eased_value v) (eased_values vs)

  eased_pairs : Pairs → Pairs
  eased_pairs NoPairs = NoPairs
  eased_pairs (Pair k v ps) = Pair k (eased_value v) (eased_pairs ps)

-- TESTS

-- what the first test takes the second takes of the eased entries
record Eases (a b : EntryTest) : Type 0 where
  stored : (fields : List Field) (n : ℕ) (v : Value) (es : Entries) → a.stored fields n v es ≡ true → b.stored (map eased_field fields) n (eased_value v) (eased_entries es) ≡ true
  unknown : (fields : List Field) (n : ℕ) (p : Payload) → a.unknown fields n p ≡ true → b.unknown (map eased_field fields) n p ≡ true

mutual
  content_eased : (a b : EntryTest) (c : Content) → Eases a b → everywhere a c ≡ true → everywhere b (eased_content c) ≡ true
  content_eased a b (ContentOf schema T es) k h = ap (λ fields. entries_pass b fields (eased_entries es)) (known_eased schema T) ∙ entries_eased a b (known schema T) es k h

  entries_eased : (a b : EntryTest) (fields : List Field) (es : Entries) → Eases a b → entries_pass a fields es ≡ true → entries_pass b (map eased_field fields) (eased_entries es) ≡ true
  entries_eased a b fields NoEntries k h = refl
  entries_eased a b fields (Stored n v es) k h =
      let x = stored_passes a fields n v es h in
      and_from _ _ (and_from _ _ (k.stored fields n v es x.here) (value_eased a b v k x.inside)) (entries_eased a b fields es k x.behind)
  entries_eased a b fields (Unknown n p es) k h =
      let (here, rest) = and_parts (a.unknown fields n p) (entries_pass a fields es) h in
      and_from _ _ (k.unknown fields n p here) (entries_eased a b fields es k rest)

  value_eased : (a b : EntryTest) (v : Value) → Eases a b → value_passes a v ≡ true → value_passes b (eased_value v) ≡ true
  value_eased a b (ScalarValue v) k h = refl
  value_eased a b (MessageValue c) k h = content_eased a b c k h
  value_eased a b (ListValue vs) k h = values_eased a b vs k h
  value_eased a b (MapValue ps) k h = pairs_eased a b ps k h

  values_eased : (a b : EntryTest) (vs : Values) → Eases a b → values_pass a vs ≡ true → values_pass b (eased_values vs) ≡ true
  values_eased a b NoValues k h = refl
  values_eased a b (Item v vs) k h =
      let (one, more) = and_parts (value_passes a v) (values_pass a vs) h in
      and_from _ _ (value_eased a b v k one) (values_eased a b vs k more)

  pairs_eased : (a b : EntryTest) (ps : Pairs) → Eases a b → pairs_pass a ps ≡ true → pairs_pass b (eased_pairs ps) ≡ true
  pairs_eased a b NoPairs k h = refl
  pairs_eased a b (Pair x v ps) k h =
      let (one, more) = and_parts (value_passes a v) (pairs_pass a ps) h in
      and_from _ _ (value_eased a b v k one) (pairs_eased a b ps k more)

element_same : (kind : Kind) (v : Value) → element_valid kind (eased_value v) ≡ element_valid kind v
element_same kind (ScalarValue v) = refl
element_same kind (MessageValue c) = refl
element_same kind (ListValue vs) = refl
element_same kind (MapValue ps) = refl

elements_same : (kind : Kind) (vs : Values) → elements_valid kind (eased_values vs) ≡ elements_valid kind vs
elements_same kind NoValues = refl
elements_same kind (Item v vs) = ap₂ ◌&&◌ (element_same kind v) (elements_same kind vs)

map_same : (c : FieldForm) (kind : Kind) (ps : Pairs) → pairs_valid c kind (eased_pairs ps) ≡ pairs_valid c kind ps
map_same Singular kind ps = refl
map_same (Repeated packed) kind ps = refl
map_same (MapFrom key) kind NoPairs = refl
map_same (MapFrom key) kind (Pair k v ps) = ap₂ (λ a b. (kind_takes key.kind k && a) && b) (element_same kind v) (map_same (MapFrom key) kind ps)

valid_same : (f : Field) (v : Value) → value_valid (eased_field f) (eased_value v) ≡ value_valid f v
valid_same f (ScalarValue v) = refl
valid_same f (MessageValue c) = refl
valid_same f (ListValue vs) = ap (λ b. is_list f.form && b) (elements_same f.value_type.kind vs)
valid_same f (MapValue ps) = map_same f.form f.value_type.kind ps

stray_same : (f : Field) (p : Payload) → is_whole_stray f.form (eased_type f.form f.value_type) p ≡ is_whole_stray f.form f.value_type p
stray_same f p = go f.form
  where
    go : (c : FieldForm) → is_whole_stray c (eased_type c f.value_type) p ≡ is_whole_stray c f.value_type p
    go Singular = refl
    go (Repeated packed) = refl
    go (MapFrom key) = refl

fits_eased : Eases fit_test fit_test
fits_eased = record {
  stored = λ fields n v es h. ap (λ o. passes o (λ f. value_valid f (eased_value v))) (found_eased fields n) ∙ stored v (field_of fields n) h;
  unknown = λ fields n p h. ap (λ o. unknown_fits o n p) (found_eased fields n) ∙ unknown n p (field_of fields n) h;
}
  where
    stored : (v : Value) (o : Option Field) → passes o (λ f. value_valid f v) ≡ true → passes (eased_option o) (λ f. value_valid f (eased_value v)) ≡ true
    stored v None h = h
    stored v (Some f) h = valid_same f v ∙ h

    unknown : (n : ℕ) (p : Payload) (o : Option Field) → unknown_fits o n p ≡ true → unknown_fits (eased_option o) n p ≡ true
    unknown n p None h = h
    unknown n p (Some f) h = ap (λ b. payload_valid p && b) (stray_same f p) ∙ h

empty_same : (c : FieldForm) (v : Value) → is_empty_value c (eased_value v) ≡ is_empty_value c v
empty_same c (ScalarValue v) = refl
empty_same c (MessageValue d) = refl
empty_same c (ListValue NoValues) = refl
empty_same c (ListValue (Item v vs)) = refl
empty_same c (MapValue NoPairs) = refl
empty_same c (MapValue (Pair k v ps)) = refl

filled_eased : Eases filled_test filled_test
filled_eased = record {
  stored = λ fields n v es h. ap (λ o. not (passes o (λ f. is_empty_value f.form (eased_value v)))) (found_eased fields n) ∙ stored v (field_of fields n) h;
  unknown = λ fields n p h. refl;
}
  where
    stored : (v : Value) (o : Option Field) → not (passes o (λ f. is_empty_value f.form v)) ≡ true → not (passes (eased_option o) (λ f. is_empty_value f.form (eased_value v))) ≡ true
    stored v None h = h
    stored v (Some f) h = ap not (empty_same f.form v) ∙ h

-- no field has a sibling
no_sibling : (fields : List Field) (f : Field) (m : ℕ) → is_sibling (map eased_field fields) (eased_field f) m ≡ false
no_sibling fields f m = ap (λ b. not (nat_eq m f.number) && b) (go fields) ∙ none (not (nat_eq m f.number))
  where
    none : (b : Bool) → (b && false) ≡ false
    none true = refl
    none false = refl

    go : (gs : List Field) → list_any (λ g. nat_eq g.number m && same_oneof g.oneof None) (map eased_field gs) ≡ false
    go [] = refl
    go (g ∷ gs) = ap (λ b. b || list_any (λ g. nat_eq g.number m && same_oneof g.oneof None) (map eased_field gs)) (none (nat_eq g.number m)) ∙ go gs

members_eased : Eases fit_test alone_test
members_eased = record {
  stored = λ fields n v es h. ap (λ o. is_alone (map eased_field fields) o (eased_entries es)) (found_eased fields n) ∙ stored fields es (field_of fields n);
  unknown = λ fields n p h. refl;
}
  where
    stored : (fields : List Field) (es : Entries) (o : Option Field) → is_alone (map eased_field fields) (eased_option o) (eased_entries es) ≡ true
    stored fields es None = refl
    stored fields es (Some f) = ap not (no_value (is_sibling (map eased_field fields) (eased_field f)) (eased_entries es) (no_sibling fields f))

default_eased : Eases fit_test default_test
default_eased = record {
  stored = λ fields n v es h. ap (λ o. not (passes o (λ f. is_stored_default f (eased_value v)))) (found_eased fields n) ∙ stored v (field_of fields n);
  unknown = λ fields n p h. refl;
}
  where
    none : (c : FieldForm) (value_type : ValueType) (v : Value) → (is_singular c && is_default_of (eased_type c value_type) v) ≡ false
    none Singular value_type (ScalarValue v) = refl
    none Singular value_type (MessageValue c) = refl
    none Singular value_type (ListValue vs) = refl
    none Singular value_type (MapValue ps) = refl
    none (Repeated packed) value_type v = refl
    none (MapFrom key) value_type v = refl

    stored : (v : Value) (o : Option Field) → not (passes (eased_option o) (λ f. is_stored_default f (eased_value v))) ≡ true
    stored v None = refl
    stored v (Some f) = ap not (none f.form f.value_type (eased_value v))

-- ORDER

before_same : (n : ℕ) (es : Entries) → comes_before n (eased_entries es) ≡ comes_before n es
before_same n NoEntries = refl
before_same n (Stored m v es) = refl
before_same n (Unknown m p es) = refl

key_same : (k : Scalar) (ps : Pairs) → key_before k (eased_pairs ps) ≡ key_before k ps
key_same k NoPairs = refl
key_same k (Pair l v ps) = refl

mutual
  order_same : (c : Content) → ordered (eased_content c) ≡ ordered c
  order_same (ContentOf schema T es) = entries_order es

  entries_order : (es : Entries) → entries_ordered (eased_entries es) ≡ entries_ordered es
  entries_order NoEntries = refl
  entries_order (Stored n v es) = ap₂ ◌&&◌ (ap₂ ◌&&◌ (before_same n es) (value_order v)) (entries_order es)
  entries_order (Unknown n p es) = ap₂ ◌&&◌ (before_same n es) (entries_order es)

  value_order : (v : Value) → value_ordered (eased_value v) ≡ value_ordered v
  value_order (ScalarValue v) = refl
  value_order (MessageValue c) = order_same c
  value_order (ListValue vs) = values_order vs
  value_order (MapValue ps) = pairs_order ps

  values_order : (vs : Values) → values_ordered (eased_values vs) ≡ values_ordered vs
  values_order NoValues = refl
  values_order (Item v vs) = ap₂ ◌&&◌ (value_order v) (values_order vs)

  pairs_order : (ps : Pairs) → pairs_ordered (eased_pairs ps) ≡ pairs_ordered ps
  pairs_order NoPairs = refl
  pairs_order (Pair k v ps) = ap₂ ◌&&◌ (ap₂ ◌&&◌ (key_same k ps) (value_order v)) (pairs_order ps)

-- MESSAGES OF THEIR TYPES

of_eased : (schema : Schema) (kind : Option Kind) (c : Content) → IsOf schema kind c → IsOf (eased schema) kind (eased_content c)
of_eased schema None c h = h
of_eased schema (Some kind) (ContentOf s T es) h = (ap eased h.0, h.1)

for_eased : (o : Option Field) (v : Value) → kind_for (eased_option o) (eased_value v) ≡ kind_for o v
for_eased None v = refl
for_eased (Some f) (ScalarValue v) = refl
for_eased (Some f) (MessageValue c) = refl
for_eased (Some f) (ListValue vs) = refl
for_eased (Some f) (MapValue ps) = refl

mutual
  typed_eased : (c : Content) → Typed c → Typed (eased_content c)
  typed_eased (ContentOf schema T es) t = subst (λ (fields : List Field). EntriesTyped (eased schema) fields (eased_entries es)) (sym (known_eased schema T)) (entries_typed schema (known schema T) es t)

  entries_typed : (schema : Schema) (fields : List Field) (es : Entries) → EntriesTyped schema fields es → EntriesTyped (eased schema) (map eased_field fields) (eased_entries es)
  entries_typed schema fields NoEntries t = tt
  entries_typed schema fields (Stored n v es) (one, more) =
      (subst (λ (k : Option Kind). ValueTyped (eased schema) k (eased_value v)) (sym (ap (λ o. kind_for o (eased_value v)) (found_eased fields n) ∙ for_eased (field_of fields n) v)) (value_typed schema (kind_for (field_of fields n) v) v one), entries_typed schema fields es more)
  entries_typed schema fields (Unknown n p es) t = entries_typed schema fields es t

  value_typed : (schema : Schema) (kind : Option Kind) (v : Value) → ValueTyped schema kind v → ValueTyped (eased schema) kind (eased_value v)
  value_typed schema kind (ScalarValue v) t = tt
  value_typed schema kind (MessageValue c) (of, t) = (of_eased schema kind c of, typed_eased c t)
  value_typed schema kind (ListValue vs) t = values_typed schema kind vs t
  value_typed schema kind (MapValue ps) t = pairs_typed schema kind ps t

  values_typed : (schema : Schema) (kind : Option Kind) (vs : Values) → ValuesTyped schema kind vs → ValuesTyped (eased schema) kind (eased_values vs)
  values_typed schema kind NoValues t = tt
  values_typed schema kind (Item v vs) (one, more) = (value_typed schema kind v one, values_typed schema kind vs more)

  pairs_typed : (schema : Schema) (kind : Option Kind) (ps : Pairs) → PairsTyped schema kind ps → PairsTyped (eased schema) kind (eased_pairs ps)
  pairs_typed schema kind NoPairs t = tt
  pairs_typed schema kind (Pair k v ps) (one, more) = (value_typed schema kind v one, pairs_typed schema kind ps more)

-- RECORDS

entry_value : (key value_type : ValueType) (k : Scalar) (v : Value) (p : Payload) → entry_payload key value_type k (eased_value v) p ≡ entry_payload key value_type k v p
entry_value key value_type k (ScalarValue v) p = refl
entry_value key value_type k (MessageValue c) p = refl
entry_value key value_type k (ListValue vs) p = refl
entry_value key value_type k (MapValue ps) p = refl

entry_same : (key value_type : ValueType) (k : Scalar) (v : Value) → value_payload value_type.kind (eased_value v) ≡ value_payload value_type.kind v →
    entry_payload key value_type k (eased_value v) (value_payload value_type.kind (eased_value v)) ≡ entry_payload key value_type k v (value_payload value_type.kind v)
entry_same key value_type k v e =
    ap (entry_payload key value_type k (eased_value v)) e
    ∙ entry_value key value_type k v (value_payload value_type.kind v)

mutual
  records_same : (c : Content) → everywhere fit_test c ≡ true → records (eased_content c) ≡ records c
  records_same (ContentOf schema T es) h = ap (λ fields. entries_records fields (eased_entries es)) (known_eased schema T) ∙ entries_same (known schema T) es h

  entries_same : (fields : List Field) (es : Entries) → entries_pass fit_test fields es ≡ true → entries_records (map eased_field fields) (eased_entries es) ≡ entries_records fields es
  entries_same fields NoEntries h = refl
  entries_same fields (Stored n v es) h =
      let x = stored_passes fit_test fields n v es h in
      ap₂ (λ ps rest. map (record_at n) ps ++ rest) (ap (λ o. field_payloads o (eased_value v)) (found_eased fields n) ∙ value_same (field_of fields n) v x.here x.inside) (entries_same fields es x.behind)
  entries_same fields (Unknown n p es) h = ap (λ rest. record_at n p ∷ rest) (entries_same fields es (and_parts (unknown_fits (field_of fields n) n p) (entries_pass fit_test fields es) h).1)

  value_same : (o : Option Field) (v : Value) → passes o (λ f. value_valid f v) ≡ true → value_passes fit_test v ≡ true → field_payloads (eased_option o) (eased_value v) ≡ field_payloads o v
  value_same None v valid h = absurd (true≢false (sym valid))
  value_same (Some f) (ScalarValue v) valid h = refl
  value_same (Some f) (MessageValue c) valid h = ap (λ rs. message_payload f.value_type.kind rs ∷ []) (records_same c h)
  value_same (Some f) (ListValue vs) valid h = ap (list_payloads f.form) (elements_written f.value_type.kind vs h)
  value_same (Some f) (MapValue ps) valid h = map_written f.form f.value_type ps valid h

  payload_same : (kind : Kind) (v : Value) → value_passes fit_test v ≡ true → value_payload kind (eased_value v) ≡ value_payload kind v
  payload_same kind (ScalarValue v) h = refl
  payload_same kind (MessageValue c) h = ap (message_payload kind) (records_same c h)
  payload_same kind (ListValue vs) h = refl
  payload_same kind (MapValue ps) h = refl

  elements_written : (kind : Kind) (vs : Values) → values_pass fit_test vs ≡ true → element_payloads kind (eased_values vs) ≡ element_payloads kind vs
  elements_written kind NoValues h = refl
  elements_written kind (Item v vs) h =
      let (one, more) = and_parts (value_passes fit_test v) (values_pass fit_test vs) h in
      ap₂ ◌∷◌ (payload_same kind v one) (elements_written kind vs more)

  map_written : (c : FieldForm) (value_type : ValueType) (ps : Pairs) → pairs_valid c value_type.kind ps ≡ true → pairs_pass fit_test ps ≡ true → pair_payloads (key_of c (eased_type c value_type)) (eased_type c value_type) (eased_pairs ps) ≡ pair_payloads (key_of c value_type) value_type ps
  map_written (MapFrom key) value_type NoPairs valid h = refl
  map_written (MapFrom key) value_type (Pair k v ps) valid h =
      let (one, more) = and_parts (value_passes fit_test v) (pairs_pass fit_test ps) h in
      let (here, rest) = and_parts (kind_takes key.kind k && element_valid value_type.kind v) (pairs_valid (MapFrom key) value_type.kind ps) valid in
      ap₂ ◌∷◌ (entry_same key value_type k v (payload_same value_type.kind v one)) (map_written (MapFrom key) value_type ps rest more)
  map_written _ value_type ps valid h = absurd (true≢false (sym valid))

-- BACK

-- each message of this schema
abbrev mutual
  within : Schema → Content → Content
  within schema (ContentOf s T es) = ContentOf schema T (entries_within schema es)

  entries_within : Schema → Entries → Entries
  entries_within schema NoEntries = NoEntries
  entries_within schema (Stored n v es) = Stored n (value_within schema v) (entries_within schema es)
  entries_within schema (Unknown n p es) = Unknown n p (entries_within schema es)

  value_within : Schema → Value → Value
  value_within schema (ScalarValue v) = ScalarValue v
  value_within schema (MessageValue c) = MessageValue (within schema c)
  value_within schema (ListValue vs) = ListValue (values_within schema vs)
  value_within schema (MapValue ps) = MapValue (pairs_within schema ps)

  values_within : Schema → Values → Values
  values_within schema NoValues = NoValues
  values_within schema (Item v vs) = Item (value_within schema v) (values_within schema vs)

  pairs_within : Schema → Pairs → Pairs
  pairs_within schema NoPairs = NoPairs
  pairs_within schema (Pair k v ps) = Pair k (value_within schema v) (pairs_within schema ps)

same_schema : (schema : Schema) (kind : Option Kind) (c : Content) → IsOf schema kind c → schema_of c ≡ schema
same_schema schema None c h = absurd h
same_schema schema (Some kind) c h = h.0

mutual
  content_back : (schema : Schema) (c : Content) → schema_of c ≡ schema → Typed c → within schema (eased_content c) ≡ c
  content_back schema (ContentOf s T es) e t =
      ap (λ es. ContentOf schema T es) (ap (λ x. entries_within x (eased_entries es)) (sym e) ∙ entries_back s (known s T) es t) ∙ ap (λ x. ContentOf x T es) (sym e)

  entries_back : (schema : Schema) (fields : List Field) (es : Entries) → EntriesTyped schema fields es → entries_within schema (eased_entries es) ≡ es
  entries_back schema fields NoEntries t = refl
  entries_back schema fields (Stored n v es) (one, more) = ap₂ (Stored n) (value_back schema (kind_for (field_of fields n) v) v one) (entries_back schema fields es more)
  entries_back schema fields (Unknown n p es) t = ap (Unknown n p) (entries_back schema fields es t)

  value_back : (schema : Schema) (kind : Option Kind) (v : Value) → ValueTyped schema kind v → value_within schema (eased_value v) ≡ v
  value_back schema kind (ScalarValue v) t = refl
  value_back schema kind (MessageValue c) (of, t) = ap MessageValue (content_back schema c (same_schema schema kind c of) t)
  value_back schema kind (ListValue vs) t = ap ListValue (values_back schema kind vs t)
  value_back schema kind (MapValue ps) t = ap MapValue (pairs_back schema kind ps t)

  values_back : (schema : Schema) (kind : Option Kind) (vs : Values) → ValuesTyped schema kind vs → values_within schema (eased_values vs) ≡ vs
  values_back schema kind NoValues t = refl
  values_back schema kind (Item v vs) (one, more) = ap₂ Item (value_back schema kind v one) (values_back schema kind vs more)

  pairs_back : (schema : Schema) (kind : Option Kind) (ps : Pairs) → PairsTyped schema kind ps → pairs_within schema (eased_pairs ps) ≡ ps
  pairs_back schema kind NoPairs t = refl
  pairs_back schema kind (Pair k v ps) (one, more) = ap₂ (Pair k) (value_back schema kind v one) (pairs_back schema kind ps more)

-- CANONICITY

eased_schema : (c : Content) → schema_of (eased_content c) ≡ eased (schema_of c)
eased_schema (ContentOf schema T es) = refl

eased_type_of : (c : Content) → type_of (eased_content c) ≡ type_of c
eased_type_of (ContentOf schema T es) = refl

writable : (c : Content) → Spellable c → Writable (eased_content c)
writable c s =
    let f = s.fitting in
    record {
      checked = ap schema_valid (eased_schema c) ∙ schema_eased (schema_of c) s.checked;
      typed = record {
        fitting = record { fits = content_eased fit_test fit_test c fits_eased f.fits; types = typed_eased c f.types; order = order_same c ∙ f.order; nonempty = content_eased filled_test filled_test c filled_eased f.nonempty };
        members = content_eased fit_test alone_test c members_eased f.fits;
        without_stored_defaults = content_eased fit_test default_test c default_eased f.fits;
      };
      length = subst (λ (rs : List Record). length (spelled rs) < 2 ^ 64) (sym (records_same c f.fits)) s.length;
    }

pub fitting_canonicity : (c d : Content) → Spellable c → Spellable d → schema_of c ≡ schema_of d → type_of c ≡ type_of d → encoded c ≡ encoded d → c ≡ d
fitting_canonicity c d s t same type e =
    let both : eased_content c ≡ eased_content d =
    canonicity (eased_content c) (eased_content d) (writable c s) (writable d t) (eased_schema c ∙ ap eased same ∙ sym (eased_schema d)) (eased_type_of c ∙ type ∙ sym (eased_type_of d))
    (ap spelled (records_same c s.fitting.fits) ∙ e ∙ sym (ap spelled (records_same d t.fitting.fits))) in
    sym (content_back (schema_of c) c refl s.fitting.types) ∙ ap (within (schema_of c)) both ∙ content_back (schema_of c) d (sym same) t.fitting.types
