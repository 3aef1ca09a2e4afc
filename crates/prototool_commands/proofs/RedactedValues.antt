-- Each message in a value changed to one that holds still.
use Rattle.std.proofs.Common.{◌≡◌, ℕ, Bool, true, false, cond, not, ◌&&◌, ◌||◌, nat_eq, List, Option, Some, None, refl, ap, sym, ◌∙◌, subst}
use Rattle.std.proofs.lemmas.Bool.{and_parts, and_from}
use Rattle.prost_reflect_wire.specs.Scalar.{Scalar}
use Rattle.prost_reflect_wire.specs.Record.{Payload}
use Rattle.prost_reflect_wire.specs.Schema.{Kind, FieldForm, Singular, Repeated, MapFrom, Field, Schema, field_of, is_sibling, is_list, passes}
use Rattle.prost_reflect_wire.specs.Content.{Content, Entries, NoEntries, Stored, Unknown, Value, ScalarValue, MessageValue, ListValue, MapValue, Values, NoValues, Item, Pairs, NoPairs, Pair, schema_of, comes_before, key_before, entries_ordered, value_ordered, values_ordered, pairs_ordered}
use Rattle.prost_reflect_wire.specs.Typing.{fit_test, alone_test, value_passes, values_pass, pairs_pass, entries_pass, value_valid, kind_takes, element_valid, elements_valid, pairs_valid, unknown_fits, is_alone, has_value_of, kind_for, is_of_type, ValueTyped, EntriesTyped, WellStored}
use Rattle.prost_reflect_wire.specs.Edit.{in_message}
use Rattle.prost_reflect_wire.specs.Decoding.{Holds}
use Rattle.prototool_commands.specs.Redacting.{in_values, in_pairs, in_messages, changed_at}

-- what is asked of a value by itself, and of entries
pub record SoundValue (schema : Schema) (kind : Option Kind) (v : Value) : Type 0 where
  pub fits : value_passes fit_test v ≡ true
  pub types : ValueTyped schema kind v
  pub order : value_ordered v ≡ true
  pub members : value_passes alone_test v ≡ true

pub record SoundEntries (schema : Schema) (fields : List Field) (es : Entries) : Type 0 where
  pub fits : entries_pass fit_test fields es ≡ true
  pub types : EntriesTyped schema fields es
  pub order : entries_ordered es ≡ true
  pub members : entries_pass alone_test fields es ≡ true

pub message_sound : (schema : Schema) (kind : Option Kind) (c : Content) → SoundValue schema kind (MessageValue c) → (schema_of c ≡ schema) × WellStored c
message_sound schema None c s = absurd s.types.0
message_sound schema (Some kind) c s = (s.types.0.0, record { fits = s.fits; types = s.types.1; order = s.order; members = s.members })

pub item_parts : (schema : Schema) (kind : Option Kind) (v : Value) (vs : Values) → SoundValue schema kind (ListValue (Item v vs)) → SoundValue schema kind v × SoundValue schema kind (ListValue vs)
item_parts schema kind v vs s =
    let (fit, fits) = and_parts (value_passes fit_test v) (values_pass fit_test vs) s.fits in
    let (one, more) = and_parts (value_ordered v) (values_ordered vs) s.order in
    let (member, members) = and_parts (value_passes alone_test v) (values_pass alone_test vs) s.members in
    (record { fits = fit; types = s.types.0; order = one; members = member }, record { fits = fits; types = s.types.1; order = more; members = members })

pub pair_parts : (schema : Schema) (kind : Option Kind) (k : Scalar) (v : Value) (ps : Pairs) → SoundValue schema kind (MapValue (Pair k v ps)) → (key_before k ps ≡ true) × SoundValue schema kind v × SoundValue schema kind (MapValue ps)
pair_parts schema kind k v ps s =
    let (fit, fits) = and_parts (value_passes fit_test v) (pairs_pass fit_test ps) s.fits in
    let (front, more) = and_parts (key_before k ps && value_ordered v) (pairs_ordered ps) s.order in
    let (before, one) = and_parts (key_before k ps) (value_ordered v) front in
    let (member, members) = and_parts (value_passes alone_test v) (pairs_pass alone_test ps) s.members in
    (before, record { fits = fit; types = s.types.0; order = one; members = member }, record { fits = fits; types = s.types.1; order = more; members = members })

abbrev pub Keeps : Schema → (Content → Content) → Type 0
Keeps schema F = (d : Content) → schema_of d ≡ schema → WellStored d → Holds d (F d)

module _ (schema : Schema) (F : Content → Content) (keeps : Keeps schema F) where
  pub message_kept : (kind : Option Kind) (c : Content) → SoundValue schema kind (MessageValue c) → SoundValue schema kind (MessageValue (F c))
  message_kept None c s = absurd s.types.0
  message_kept (Some kind) c s =
      let h = keeps c s.types.0.0 (message_sound schema (Some kind) c s).1 in
      let w = h.sound in
      record { fits = w.fits; types = ((h.schema ∙ s.types.0.0, ap (is_of_type kind) h.type ∙ s.types.0.1), w.types); order = w.order; members = w.members }

  pub element_kept : (kind : Option Kind) (v : Value) → SoundValue schema kind v → SoundValue schema kind (in_message v F)
  element_kept kind (ScalarValue v) s = s
  element_kept kind (MessageValue c) s = message_kept kind c s
  element_kept kind (ListValue vs) s = s
  element_kept kind (MapValue ps) s = s

  pub list_kept : (kind : Option Kind) (vs : Values) → SoundValue schema kind (ListValue vs) → SoundValue schema kind (ListValue (in_values F vs))
  list_kept kind NoValues s = s
  list_kept kind (Item v vs) s =
      let (here, behind) = item_parts schema kind v vs s in
      let one = element_kept kind v here in
      let more = list_kept kind vs behind in
      record { fits = and_from _ _ one.fits more.fits; types = (one.types, more.types); order = and_from _ _ one.order more.order; members = and_from _ _ one.members more.members }

  first_key : (k : Scalar) (ps : Pairs) → key_before k (in_pairs F ps) ≡ key_before k ps
  first_key k NoPairs = refl
  first_key k (Pair l v ps) = refl

  pub map_kept : (kind : Option Kind) (ps : Pairs) → SoundValue schema kind (MapValue ps) → SoundValue schema kind (MapValue (in_pairs F ps))
  map_kept kind NoPairs s = s
  map_kept kind (Pair k v ps) s =
      let (before, here, behind) = pair_parts schema kind k v ps s in
      let one = element_kept kind v here in
      let more = map_kept kind ps behind in
      record { fits = and_from _ _ one.fits more.fits; types = (one.types, more.types); order = and_from _ _ (and_from _ _ (first_key k ps ∙ before) one.order) more.order; members = and_from _ _ one.members more.members }

  pub value_kept : (kind : Option Kind) (v : Value) → SoundValue schema kind v → SoundValue schema kind (in_messages F v)
  value_kept kind (ScalarValue v) s = s
  value_kept kind (MessageValue c) s = message_kept kind c s
  value_kept kind (ListValue vs) s = list_kept kind vs s
  value_kept kind (MapValue ps) s = map_kept kind ps s

-- IT FITS ITS FIELD STILL

module _ (F : Content → Content) where
  element_same : (kind : Kind) (v : Value) → element_valid kind (in_message v F) ≡ element_valid kind v
  element_same kind (ScalarValue v) = refl
  element_same kind (MessageValue c) = refl
  element_same kind (ListValue vs) = refl
  element_same kind (MapValue ps) = refl

  elements_same : (kind : Kind) (vs : Values) → elements_valid kind (in_values F vs) ≡ elements_valid kind vs
  elements_same kind NoValues = refl
  elements_same kind (Item v vs) = λ i. element_same kind v i && elements_same kind vs i

  pairs_same : (form : FieldForm) (kind : Kind) (ps : Pairs) → pairs_valid form kind (in_pairs F ps) ≡ pairs_valid form kind ps
  pairs_same Singular kind ps = refl
  pairs_same (Repeated packed) kind ps = refl
  pairs_same (MapFrom key) kind NoPairs = refl
  pairs_same (MapFrom key) kind (Pair k v ps) = λ i. kind_takes key.kind k && element_same kind v i && pairs_same (MapFrom key) kind ps i

  valid_same : (f : Field) (v : Value) → value_valid f (in_messages F v) ≡ value_valid f v
  valid_same f (ScalarValue v) = refl
  valid_same f (MessageValue c) = refl
  valid_same f (ListValue vs) = λ i. is_list f.form && elements_same f.value_type.kind vs i
  valid_same f (MapValue ps) = pairs_same f.form f.value_type.kind ps

  kind_same : (o : Option Field) (v : Value) → kind_for o (in_messages F v) ≡ kind_for o v
  kind_same None v = refl
  kind_same (Some f) (ScalarValue v) = refl
  kind_same (Some f) (MessageValue c) = refl
  kind_same (Some f) (ListValue vs) = refl
  kind_same (Some f) (MapValue ps) = refl

-- ENTRIES

front_same : (n k : ℕ) (change : Value → Value) (es : Entries) → comes_before k (changed_at n change es) ≡ comes_before k es
front_same n k change NoEntries = refl
front_same n k change (Stored m v es) = refl
front_same n k change (Unknown m p es) = refl

values_same : (n : ℕ) (test : ℕ → Bool) (change : Value → Value) (es : Entries) → has_value_of test (changed_at n change es) ≡ has_value_of test es
values_same n test change NoEntries = refl
values_same n test change (Stored m v es) = ap (λ b. test m || b) (values_same n test change es)
values_same n test change (Unknown m p es) = values_same n test change es

alone_same : (n : ℕ) (change : Value → Value) (fields : List Field) (o : Option Field) (es : Entries) → is_alone fields o (changed_at n change es) ≡ is_alone fields o es
alone_same n change fields None es = refl
alone_same n change fields (Some f) es = ap not (values_same n (is_sibling fields f) change es)

-- the parts of what is asked of a value in front of others
pub record SoundFront (schema : Schema) (fields : List Field) (n : ℕ) (v : Value) (es : Entries) : Type 0 where
  pub valid : passes (field_of fields n) (λ f. value_valid f v) ≡ true
  pub value : SoundValue schema (kind_for (field_of fields n) v) v
  pub before : comes_before n es ≡ true
  pub alone : is_alone fields (field_of fields n) es ≡ true
  pub behind : SoundEntries schema fields es

pub front_parts : (schema : Schema) (fields : List Field) (n : ℕ) (v : Value) (es : Entries) → SoundEntries schema fields (Stored n v es) → SoundFront schema fields n v es
front_parts schema fields n v es s =
    let (fit, fits) = and_parts (passes (field_of fields n) (λ f. value_valid f v) && value_passes fit_test v) (entries_pass fit_test fields es) s.fits in
    let (valid, inside) = and_parts (passes (field_of fields n) (λ f. value_valid f v)) (value_passes fit_test v) fit in
    let (front, more) = and_parts (comes_before n es && value_ordered v) (entries_ordered es) s.order in
    let (before, one) = and_parts (comes_before n es) (value_ordered v) front in
    let (member, members) = and_parts (is_alone fields (field_of fields n) es && value_passes alone_test v) (entries_pass alone_test fields es) s.members in
    let (alone, each) = and_parts (is_alone fields (field_of fields n) es) (value_passes alone_test v) member in
    record {
      valid = valid;
      value = record { fits = inside; types = s.types.0; order = one; members = each };
      before = before;
      alone = alone;
      behind = record { fits = fits; types = s.types.1; order = more; members = members };
    }

front_whole : (schema : Schema) (fields : List Field) (n : ℕ) (v : Value) (es : Entries) → SoundFront schema fields n v es → SoundEntries schema fields (Stored n v es)
front_whole schema fields n v es s =
    let one = s.value in
    let more = s.behind in
    record {
      fits = and_from _ _ (and_from _ _ s.valid one.fits) more.fits;
      types = (one.types, more.types);
      order = and_from _ _ (and_from _ _ s.before one.order) more.order;
      members = and_from _ _ (and_from _ _ s.alone one.members) more.members;
    }

pub unknown_behind : (schema : Schema) (fields : List Field) (n : ℕ) (p : Payload) (es : Entries) → SoundEntries schema fields (Unknown n p es) → SoundEntries schema fields es
unknown_behind schema fields n p es s = record {
  fits = (and_parts (unknown_fits (field_of fields n) n p) (entries_pass fit_test fields es) s.fits).1;
  types = s.types;
  order = (and_parts (comes_before n es) (entries_ordered es) s.order).1;
  members = s.members;
}

module _ (schema : Schema) (F : Content → Content) (keeps : Keeps schema F) (n : ℕ) where
  valid_passes : (o : Option Field) (v : Value) → passes o (λ f. value_valid f (in_messages F v)) ≡ passes o (λ f. value_valid f v)
  valid_passes None v = refl
  valid_passes (Some f) v = valid_same F f v

  changed_front : (fields : List Field) (m : ℕ) (v : Value) (es : Entries) (b : Bool) → SoundFront schema fields m v es → SoundEntries schema fields (changed_at n (in_messages F) es) → SoundFront schema fields m (cond b (in_messages F v) v) (changed_at n (in_messages F) es)
  changed_front fields m v es true s more = record {
    valid = valid_passes (field_of fields m) v ∙ s.valid;
    value = subst (λ kind. SoundValue schema kind (in_messages F v)) (sym (kind_same F (field_of fields m) v)) (value_kept schema F keeps (kind_for (field_of fields m) v) v s.value);
    before = front_same n m (in_messages F) es ∙ s.before;
    alone = alone_same n (in_messages F) fields (field_of fields m) es ∙ s.alone;
    behind = more;
  }
  changed_front fields m v es false s more = record {
    valid = s.valid;
    value = s.value;
    before = front_same n m (in_messages F) es ∙ s.before;
    alone = alone_same n (in_messages F) fields (field_of fields m) es ∙ s.alone;
    behind = more;
  }

  pub entries_kept : (fields : List Field) (es : Entries) → SoundEntries schema fields es → SoundEntries schema fields (changed_at n (in_messages F) es)
  entries_kept fields NoEntries s = s
  entries_kept fields (Stored m v es) s =
      let parts = front_parts schema fields m v es s in
      front_whole schema fields m (cond (nat_eq m n) (in_messages F v) v) (changed_at n (in_messages F) es) (changed_front fields m v es (nat_eq m n) parts (entries_kept fields es parts.behind))
  entries_kept fields (Unknown m p es) s =
      let more = entries_kept fields es (unknown_behind schema fields m p es s) in
      record {
        fits = and_from _ _ (and_parts (unknown_fits (field_of fields m) m p) (entries_pass fit_test fields es) s.fits).0 more.fits;
        types = more.types;
        order = and_from _ _ (front_same n m (in_messages F) es ∙ (and_parts (comes_before m es) (entries_ordered es) s.order).0) more.order;
        members = more.members;
      }
