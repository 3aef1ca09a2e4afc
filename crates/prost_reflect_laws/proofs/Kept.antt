-- What is kept of what is stored.
use Rattle.std.specs.Prelude.{◌≡◌, ◌≤◌, ◌⊎◌, ◌&&◌, ◌||◌}
use Rattle.prost_reflect_laws.proofs.Common.{ℕ, inl, inr, Bool, true, false, cond, not, List, Option, Some, None, refl, ap, ap₂, sym, ◌∙◌, subst, arith, true≢false, ltb-true, lt-ltb, leb-true, le-leb, and_parts, and_from, or_parts, Payload, Scalar, Kind, FieldForm, Singular, Repeated, MapFrom, Field, Schema, known, field_of, is_sibling, passes, is_list, Content, ContentOf, Entries, NoEntries, Stored, Unknown, Value, ScalarValue, MessageValue, ListValue, MapValue, Values, NoValues, Item, Pairs, NoPairs, Pair, then_value, schema_of, type_of, comes_before, key_before, ordered, entries_ordered, value_ordered, values_ordered, pairs_ordered, kind_takes, element_valid, elements_valid, pairs_valid, value_valid, EntryTest, everywhere, entries_pass, value_passes, values_pass, pairs_pass, fit_test, has_value_of, is_alone, alone_test, is_empty_value, is_stored_default, is_field_default, filled_test, default_test, kept_value, kept, kept_entries, kept_inside, kept_values, kept_pairs, kind_for, IsOf, Typed, EntriesTyped, ValueTyped, ValuesTyped, PairsTyped, WellStored, WellTyped}
use Rattle.prost_reflect_laws.proofs.Everywhere.{stored_passes}

-- ONE ENTRY

-- a value is kept as it is, or not at all
pub kept_cases : (o : Option Field) (v : Value) → (kept_value o v ≡ None) ⊎ (kept_value o v ≡ Some v)
kept_cases None v = inr refl
kept_cases (Some f) v = go (is_field_default f v)
  where
    go : (b : Bool) → (cond b None (Some v) ≡ None) ⊎ (cond b None (Some v) ≡ Some v)
    go true = inl refl
    go false = inr refl

pub then_kept : (test : EntryTest) (fields : List Field) (n : ℕ) (v : Value) (o : Option Value) (es : Entries) → (o ≡ None) ⊎ (o ≡ Some v) → (o ≡ Some v → test.stored fields n v es ≡ true) → value_passes test v ≡ true → entries_pass test fields es ≡ true →
    entries_pass test fields (then_value n o es) ≡ true
then_kept test fields n v o es (inl e) here inside behind = ap (λ o. entries_pass test fields (then_value n o es)) e ∙ behind
then_kept test fields n v o es (inr e) here inside behind = ap (λ o. entries_pass test fields (then_value n o es)) e ∙ and_from _ _ (and_from _ _ (here e) inside) behind

-- TESTS

-- what the first test takes is kept so that the second takes it
pub record Keeps (a b : EntryTest) : Type 0 where
  pub stored : (fields : List Field) (n : ℕ) (v : Value) (es : Entries) → a.stored fields n v es ≡ true → kept_value (field_of fields n) (kept_inside v) ≡ Some (kept_inside v) → b.stored fields n (kept_inside v) (kept_entries fields es) ≡ true
  pub unknown : (fields : List Field) (n : ℕ) (p : Payload) → a.unknown fields n p ≡ true → b.unknown fields n p ≡ true

mutual
  pub kept_passes : (a b : EntryTest) (c : Content) → Keeps a b → everywhere a c ≡ true → everywhere b (kept c) ≡ true
  kept_passes a b (ContentOf schema T es) k h = entries_kept a b (known schema T) es k h

  entries_kept : (a b : EntryTest) (fields : List Field) (es : Entries) → Keeps a b → entries_pass a fields es ≡ true → entries_pass b fields (kept_entries fields es) ≡ true
  entries_kept a b fields NoEntries k h = refl
  entries_kept a b fields (Stored n v es) k h =
      let x = stored_passes a fields n v es h in
      then_kept b fields n (kept_inside v) (kept_value (field_of fields n) (kept_inside v)) (kept_entries fields es) (kept_cases (field_of fields n) (kept_inside v))
      (k.stored fields n v es x.here) (value_kept a b v k x.inside) (entries_kept a b fields es k x.behind)
  entries_kept a b fields (Unknown n p es) k h =
      let (here, rest) = and_parts (a.unknown fields n p) (entries_pass a fields es) h in
      and_from _ _ (k.unknown fields n p here) (entries_kept a b fields es k rest)

  pub value_kept : (a b : EntryTest) (v : Value) → Keeps a b → value_passes a v ≡ true → value_passes b (kept_inside v) ≡ true
  value_kept a b (ScalarValue v) k h = refl
  value_kept a b (MessageValue c) k h = kept_passes a b c k h
  value_kept a b (ListValue vs) k h = values_kept a b vs k h
  value_kept a b (MapValue ps) k h = pairs_kept a b ps k h

  values_kept : (a b : EntryTest) (vs : Values) → Keeps a b → values_pass a vs ≡ true → values_pass b (kept_values vs) ≡ true
  values_kept a b NoValues k h = refl
  values_kept a b (Item v vs) k h =
      let (one, more) = and_parts (value_passes a v) (values_pass a vs) h in
      and_from _ _ (value_kept a b v k one) (values_kept a b vs k more)

  pairs_kept : (a b : EntryTest) (ps : Pairs) → Keeps a b → pairs_pass a ps ≡ true → pairs_pass b (kept_pairs ps) ≡ true
  pairs_kept a b NoPairs k h = refl
  pairs_kept a b (Pair x v ps) k h =
      let (one, more) = and_parts (value_passes a v) (pairs_pass a ps) h in
      and_from _ _ (value_kept a b v k one) (pairs_kept a b ps k more)

-- a value keeps its form and kinds
element_kept : (kind : Kind) (v : Value) → element_valid kind (kept_inside v) ≡ element_valid kind v
element_kept kind (ScalarValue v) = refl
element_kept kind (MessageValue c) = refl
element_kept kind (ListValue vs) = refl
element_kept kind (MapValue ps) = refl

elements_kept : (kind : Kind) (vs : Values) → elements_valid kind (kept_values vs) ≡ elements_valid kind vs
elements_kept kind NoValues = refl
elements_kept kind (Item v vs) = ap₂ ◌&&◌ (element_kept kind v) (elements_kept kind vs)

map_kept : (c : FieldForm) (kind : Kind) (ps : Pairs) → pairs_valid c kind (kept_pairs ps) ≡ pairs_valid c kind ps
map_kept Singular kind ps = refl
map_kept (Repeated packed) kind ps = refl
map_kept (MapFrom key) kind NoPairs = refl
map_kept (MapFrom key) kind (Pair k v ps) = ap₂ (λ a b. (kind_takes key.kind k && a) && b) (element_kept kind v) (map_kept (MapFrom key) kind ps)

pub valid_kept : (f : Field) (v : Value) → value_valid f (kept_inside v) ≡ value_valid f v
valid_kept f (ScalarValue v) = refl
valid_kept f (MessageValue c) = refl
valid_kept f (ListValue vs) = ap (λ b. is_list f.form && b) (elements_kept f.value_type.kind vs)
valid_kept f (MapValue ps) = map_kept f.form f.value_type.kind ps

pub fits_kept : Keeps fit_test fit_test
fits_kept = record { stored = λ fields n v es h e. go v (field_of fields n) h; unknown = λ fields n p h. h }
  where
    go : (v : Value) (o : Option Field) → passes o (λ f. value_valid f v) ≡ true → passes o (λ f. value_valid f (kept_inside v)) ≡ true
    go v None h = h
    go v (Some f) h = valid_kept f v ∙ h

-- no value stands that did not stand before
values_gone : (test : ℕ → Bool) (fields : List Field) (es : Entries) → has_value_of test es ≡ false → has_value_of test (kept_entries fields es) ≡ false
values_gone test fields NoEntries h = refl
values_gone test fields (Stored n v es) h =
    let (one, more) = or_parts (test n) (has_value_of test es) h in
    go (kept_cases (field_of fields n) (kept_inside v)) one (values_gone test fields es more)
  where
    go : {o : Option Value} {w : Value} → (o ≡ None) ⊎ (o ≡ Some w) → test n ≡ false → has_value_of test (kept_entries fields es) ≡ false → has_value_of test (then_value n o (kept_entries fields es)) ≡ false
    go (inl e) one more = ap (λ o. has_value_of test (then_value n o (kept_entries fields es))) e ∙ more
    go (inr e) one more = ap (λ o. has_value_of test (then_value n o (kept_entries fields es))) e ∙ ap (λ b. b || has_value_of test (kept_entries fields es)) one ∙ more
values_gone test fields (Unknown n p es) h = values_gone test fields es h

pub members_kept : Keeps alone_test alone_test
members_kept = record { stored = λ fields n v es h e. go fields es (field_of fields n) h; unknown = λ fields n p h. h }
  where
    under : (b : Bool) → not b ≡ true → b ≡ false
    under true h = absurd (true≢false (sym h))
    under false h = refl

    go : (fields : List Field) (es : Entries) (o : Option Field) → is_alone fields o es ≡ true → is_alone fields o (kept_entries fields es) ≡ true
    go fields es None h = refl
    go fields es (Some f) h = ap not (values_gone (is_sibling fields f) fields es (under (has_value_of (is_sibling fields f) es) h))

-- what is kept says something
pub said : (o : Option Field) (w : Value) → kept_value o w ≡ Some w → (not (passes o (λ f. is_empty_value f.form w)) ≡ true) × (not (passes o (λ f. is_stored_default f w)) ≡ true)
said None w e = (refl, refl)
said (Some f) w e = go (is_empty_value f.form w) (is_stored_default f w) e
  where
    go : (a b : Bool) → cond (a || b) None (Some w) ≡ Some w → (not a ≡ true) × (not b ≡ true)
    go false false e = (refl, refl)
    go _ _ e = absurd cc

pub filled_kept : Keeps fit_test filled_test
filled_kept = record { stored = λ fields n v es h e. (said (field_of fields n) (kept_inside v) e).0; unknown = λ fields n p h. refl }

pub default_kept : Keeps fit_test default_test
default_kept = record { stored = λ fields n v es h e. (said (field_of fields n) (kept_inside v) e).1; unknown = λ fields n p h. refl }

-- TYPES

pub kept_schema : (c : Content) → schema_of (kept c) ≡ schema_of c
kept_schema (ContentOf schema T es) = refl

pub kept_type : (c : Content) → type_of (kept c) ≡ type_of c
kept_type (ContentOf schema T es) = refl

is_kept_of : (schema : Schema) (kind : Option Kind) (c : Content) → IsOf schema kind c → IsOf schema kind (kept c)
is_kept_of schema None c h = h
is_kept_of schema (Some kind) (ContentOf s T es) h = h

pub kind_kept : (o : Option Field) (v : Value) → kind_for o (kept_inside v) ≡ kind_for o v
kind_kept None v = refl
kind_kept (Some f) (ScalarValue v) = refl
kind_kept (Some f) (MessageValue c) = refl
kind_kept (Some f) (ListValue vs) = refl
kind_kept (Some f) (MapValue ps) = refl

then_typed : (schema : Schema) (fields : List Field) (n : ℕ) (v : Value) (o : Option Value) (es : Entries) → (o ≡ None) ⊎ (o ≡ Some v) → ValueTyped schema (kind_for (field_of fields n) v) v → EntriesTyped schema fields es → EntriesTyped schema fields (then_value n o es)
then_typed schema fields n v o es (inl e) here behind = subst (λ (o : Option Value). EntriesTyped schema fields (then_value n o es)) (sym e) behind
then_typed schema fields n v o es (inr e) here behind = subst (λ (o : Option Value). EntriesTyped schema fields (then_value n o es)) (sym e) (here, behind)

mutual
  pub kept_typed : (c : Content) → Typed c → Typed (kept c)
  kept_typed (ContentOf schema T es) t = entries_typed schema (known schema T) es t

  entries_typed : (schema : Schema) (fields : List Field) (es : Entries) → EntriesTyped schema fields es → EntriesTyped schema fields (kept_entries fields es)
  entries_typed schema fields NoEntries t = tt
  entries_typed schema fields (Stored n v es) (one, more) =
      then_typed schema fields n (kept_inside v) (kept_value (field_of fields n) (kept_inside v)) (kept_entries fields es) (kept_cases (field_of fields n) (kept_inside v))
      (subst (λ (k : Option Kind). ValueTyped schema k (kept_inside v)) (sym (kind_kept (field_of fields n) v)) (value_typed schema (kind_for (field_of fields n) v) v one)) (entries_typed schema fields es more)
  entries_typed schema fields (Unknown n p es) t = entries_typed schema fields es t

  pub value_typed : (schema : Schema) (kind : Option Kind) (v : Value) → ValueTyped schema kind v → ValueTyped schema kind (kept_inside v)
  value_typed schema kind (ScalarValue v) t = tt
  value_typed schema kind (MessageValue c) (of, t) = (is_kept_of schema kind c of, kept_typed c t)
  value_typed schema kind (ListValue vs) t = values_typed schema kind vs t
  value_typed schema kind (MapValue ps) t = pairs_typed schema kind ps t

  values_typed : (schema : Schema) (kind : Option Kind) (vs : Values) → ValuesTyped schema kind vs → ValuesTyped schema kind (kept_values vs)
  values_typed schema kind NoValues t = tt
  values_typed schema kind (Item v vs) (one, more) = (value_typed schema kind v one, values_typed schema kind vs more)

  pairs_typed : (schema : Schema) (kind : Option Kind) (ps : Pairs) → PairsTyped schema kind ps → PairsTyped schema kind (kept_pairs ps)
  pairs_typed schema kind NoPairs t = tt
  pairs_typed schema kind (Pair k v ps) (one, more) = (value_typed schema kind v one, pairs_typed schema kind ps more)

-- ORDER

-- numbers from n on
from_number : (n m : ℕ) (es : Entries) → n ≤ m → comes_before m es ≡ true → comes_before n es ≡ true
from_number n m NoEntries l h = refl
from_number n m (Stored k v es) l h = lt-ltb n k (omega (arith, l, ltb-true m k h))
from_number n m (Unknown k p es) l h = le-leb n k (omega (arith, l, leb-true m k h))

entries_before : (n : ℕ) (fields : List Field) (es : Entries) → comes_before n es ≡ true → entries_ordered es ≡ true → comes_before n (kept_entries fields es) ≡ true
entries_before n fields NoEntries h o = refl
entries_before n fields (Stored m v es) h o =
    let (ab, rest) = and_parts (comes_before m es && value_ordered v) (entries_ordered es) o in
    go (kept_cases (field_of fields m) (kept_inside v)) (entries_before n fields es (from_number n m es (omega (arith, ltb-true n m h)) (and_parts (comes_before m es) (value_ordered v) ab).0) rest)
  where
    go : {o : Option Value} {w : Value} → (o ≡ None) ⊎ (o ≡ Some w) → comes_before n (kept_entries fields es) ≡ true → comes_before n (then_value m o (kept_entries fields es)) ≡ true
    go (inl e) more = ap (λ o. comes_before n (then_value m o (kept_entries fields es))) e ∙ more
    go (inr e) more = ap (λ o. comes_before n (then_value m o (kept_entries fields es))) e ∙ h
entries_before n fields (Unknown m p es) h o = h

key_kept : (k : Scalar) (ps : Pairs) → key_before k (kept_pairs ps) ≡ key_before k ps
key_kept k NoPairs = refl
key_kept k (Pair l v ps) = refl

then_ordered : (n : ℕ) (v : Value) (o : Option Value) (es : Entries) → (o ≡ None) ⊎ (o ≡ Some v) → comes_before n es ≡ true → value_ordered v ≡ true → entries_ordered es ≡ true → entries_ordered (then_value n o es) ≡ true
then_ordered n v o es (inl e) before here behind = ap (λ o. entries_ordered (then_value n o es)) e ∙ behind
then_ordered n v o es (inr e) before here behind = ap (λ o. entries_ordered (then_value n o es)) e ∙ and_from _ _ (and_from _ _ before here) behind

mutual
  pub kept_ordered : (c : Content) → ordered c ≡ true → ordered (kept c) ≡ true
  kept_ordered (ContentOf schema T es) o = entries_kept_ordered (known schema T) es o

  pub entries_kept_ordered : (fields : List Field) (es : Entries) → entries_ordered es ≡ true → entries_ordered (kept_entries fields es) ≡ true
  entries_kept_ordered fields NoEntries o = refl
  entries_kept_ordered fields (Stored n v es) o =
      let (ab, rest) = and_parts (comes_before n es && value_ordered v) (entries_ordered es) o in
      let (before, here) = and_parts (comes_before n es) (value_ordered v) ab in
      then_ordered n (kept_inside v) (kept_value (field_of fields n) (kept_inside v)) (kept_entries fields es) (kept_cases (field_of fields n) (kept_inside v))
      (entries_before n fields es before rest) (inside_kept_ordered v here) (entries_kept_ordered fields es rest)
  entries_kept_ordered fields (Unknown n p es) o =
      let (before, rest) = and_parts (comes_before n es) (entries_ordered es) o in
      and_from _ _ (entries_before n fields es before rest) (entries_kept_ordered fields es rest)

  pub inside_kept_ordered : (v : Value) → value_ordered v ≡ true → value_ordered (kept_inside v) ≡ true
  inside_kept_ordered (ScalarValue v) o = refl
  inside_kept_ordered (MessageValue c) o = kept_ordered c o
  inside_kept_ordered (ListValue vs) o = values_kept_ordered vs o
  inside_kept_ordered (MapValue ps) o = pairs_kept_ordered ps o

  values_kept_ordered : (vs : Values) → values_ordered vs ≡ true → values_ordered (kept_values vs) ≡ true
  values_kept_ordered NoValues o = refl
  values_kept_ordered (Item v vs) o =
      let (one, more) = and_parts (value_ordered v) (values_ordered vs) o in
      and_from _ _ (inside_kept_ordered v one) (values_kept_ordered vs more)

  pairs_kept_ordered : (ps : Pairs) → pairs_ordered ps ≡ true → pairs_ordered (kept_pairs ps) ≡ true
  pairs_kept_ordered NoPairs o = refl
  pairs_kept_ordered (Pair k v ps) o =
      let (ab, rest) = and_parts (key_before k ps && value_ordered v) (pairs_ordered ps) o in
      let (before, here) = and_parts (key_before k ps) (value_ordered v) ab in
      and_from _ _ (and_from _ _ (key_kept k ps ∙ before) (inside_kept_ordered v here)) (pairs_kept_ordered ps rest)

-- WHAT SAYS NOTHING IS GONE

said_whole : (o : Option Field) (v : Value) → not (passes o (λ f. is_empty_value f.form v)) ≡ true → not (passes o (λ f. is_stored_default f v)) ≡ true → kept_value o v ≡ Some v
said_whole None v h k = refl
said_whole (Some f) v h k = go (is_empty_value f.form v) (is_stored_default f v) h k
  where
    go : (a b : Bool) → not a ≡ true → not b ≡ true → cond (a || b) None (Some v) ≡ Some v
    go false false h k = refl
    go _ b h k = cc

mutual
  pub kept_same : (c : Content) → everywhere filled_test c ≡ true → everywhere default_test c ≡ true → kept c ≡ c
  kept_same (ContentOf schema T es) h k = ap (ContentOf schema T) (entries_same (known schema T) es h k)

  entries_same : (fields : List Field) (es : Entries) → entries_pass filled_test fields es ≡ true → entries_pass default_test fields es ≡ true → kept_entries fields es ≡ es
  entries_same fields NoEntries h k = refl
  entries_same fields (Stored n v es) h k =
      let x = stored_passes filled_test fields n v es h in
      let y = stored_passes default_test fields n v es k in
      ap₂ (λ w rest. then_value n (kept_value (field_of fields n) w) rest) (inside_same v x.inside y.inside) (entries_same fields es x.behind y.behind)
      ∙ ap (λ o. then_value n o es) (said_whole (field_of fields n) v x.here y.here)
  entries_same fields (Unknown n p es) h k = ap (Unknown n p) (entries_same fields es h k)

  pub inside_same : (v : Value) → value_passes filled_test v ≡ true → value_passes default_test v ≡ true → kept_inside v ≡ v
  inside_same (ScalarValue v) h k = refl
  inside_same (MessageValue c) h k = ap MessageValue (kept_same c h k)
  inside_same (ListValue vs) h k = ap ListValue (values_same vs h k)
  inside_same (MapValue ps) h k = ap MapValue (pairs_same ps h k)

  values_same : (vs : Values) → values_pass filled_test vs ≡ true → values_pass default_test vs ≡ true → kept_values vs ≡ vs
  values_same NoValues h k = refl
  values_same (Item v vs) h k =
      let (a, a') = and_parts (value_passes filled_test v) (values_pass filled_test vs) h in
      let (b, b') = and_parts (value_passes default_test v) (values_pass default_test vs) k in
      ap₂ Item (inside_same v a b) (values_same vs a' b')

  pairs_same : (ps : Pairs) → pairs_pass filled_test ps ≡ true → pairs_pass default_test ps ≡ true → kept_pairs ps ≡ ps
  pairs_same NoPairs h k = refl
  pairs_same (Pair x v ps) h k =
      let (a, a') = and_parts (value_passes filled_test v) (pairs_pass filled_test ps) h in
      let (b, b') = and_parts (value_passes default_test v) (pairs_pass default_test ps) k in
      ap₂ (Pair x) (inside_same v a b) (pairs_same ps a' b')

-- CONTENTS

pub kept_well : (c : Content) → WellStored c → WellTyped (kept c)
kept_well c w = record {
  fitting = record { fits = kept_passes fit_test fit_test c fits_kept w.fits; types = kept_typed c w.types; order = kept_ordered c w.order; nonempty = kept_passes fit_test filled_test c filled_kept w.fits };
  members = kept_passes alone_test alone_test c members_kept w.members;
  without_stored_defaults = kept_passes fit_test default_test c default_kept w.fits;
}

pub kept_content : (c : Content) → WellTyped c → kept c ≡ c
kept_content c w = kept_same c w.fitting.nonempty w.without_stored_defaults
