-- Records that are allowed keep a content well-typed and within the levels that are left.
use Rattle.std.specs.Prelude.{◌≡◌, ◌≤◌, ◌&&◌, ◌∷◌}
use Rattle.prost_reflect_laws.proofs.Common.{ℕ, zero, suc, Bool, true, false, cond, not, List, [], map, nat_eq, nat_le, Option, Some, None, refl, ap, ap₂, sym, ◌∙◌, subst, arith, true≢false, list_all, eqb-true, and_parts, and_from, ◌>>=◌, Payload, Record, body_of, number_valid, valid, payload_valid, payload_levels, ValueType, FieldForm, Singular, Repeated, MapFrom, Field, Schema, known, field_of, is_sibling, numbers_differ, field_valid, schema_valid, passes, Content, ContentOf, Entries, Value, Slot, schema_of, type_of, empty, slot_at, changed, insert_number, numbers_in, AllowsInside, field_allowed, record_allowed, nothing_inside, allows, element_payloads_in, is_stray, is_stray_entry, value_payloads, value_records, unknown_payloads, MeansInside, JoinsInside, value_step, value_steps, value_behind, value_joined, slot_step, steps_by, empty_inside, joins_nothing, meaning, steps, levels, value_valid, WellTyped, all_append, source_allowed, element_allowed, elements_in_allowed, allows_append, insert_ascending, entries_ascending, eqb-sym, field_number, meaning_steps, meaning_empty, block}
use Rattle.prost_reflect_laws.proofs.Checked.{known_valid, known_differ, found_valid, checked_field, checked_map}
use Rattle.prost_reflect_laws.proofs.Means.{first_valid}
use Rattle.prost_reflect_laws.proofs.Readable.{number_spelled, elements_in_valid}
use Rattle.prost_reflect_laws.proofs.StraysStay.{all_filtered, unknown_stays}
use Rattle.prost_reflect_laws.proofs.Slots.{good_well, GoodContent, GoodEntries, GoodValue, GoodSlots, unknown_good, slots_good, table_good, alone_changed, sibling_back, not_own}
use Rattle.prost_reflect_laws.proofs.GoodValues.{Inside, GoodInside, FieldGiven, NoStray, joined_good}

-- SOURCES

-- a payload that is read as a value of the field
abbrev pub source_good : ℕ → AllowsInside → FieldForm → ValueType → Payload → Bool
source_good k allow c value_type p = (payload_valid p && source_allowed k allow c value_type p) && NoStray c value_type p

all_and : (t u : Payload → Bool) (ps : List Payload) → list_all t ps ≡ true → list_all u ps ≡ true → list_all (λ p. t p && u p) ps ≡ true
all_and t u [] h i = refl
all_and t u (p ∷ ps) h i =
    let (a, b) = and_parts (t p) (list_all t ps) h in
    let (c, d) = and_parts (u p) (list_all u ps) i in
    and_from _ _ (and_from _ _ a c) (all_and t u ps b d)

pub sources_good : (k : ℕ) (allow : AllowsInside) (c : FieldForm) (value_type : ValueType) (p : Payload) → payload_valid p ≡ true → field_allowed k allow c value_type p ≡ true → list_all (source_good k allow c value_type) (value_payloads c value_type p) ≡ true
sources_good k allow Singular value_type p v a =
    all_filtered (source_good k allow Singular value_type) (λ q. not (is_stray value_type.kind q)) (λ q. payload_valid q && source_allowed k allow Singular value_type q) (p ∷ []) (λ q s w. and_from _ _ w s) (and_from _ _ (and_from _ _ v a) refl)
sources_good k allow (Repeated packed) value_type p v a =
    all_filtered (source_good k allow (Repeated packed) value_type) (λ q. not (is_stray value_type.kind q)) (λ q. payload_valid q && element_allowed allow value_type.kind q) (element_payloads_in value_type.kind p) (λ q s w. and_from _ _ w s)
    (all_and payload_valid (element_allowed allow value_type.kind) (element_payloads_in value_type.kind p) (elements_in_valid value_type.kind p v) (elements_in_allowed allow value_type.kind p a))
sources_good k allow (MapFrom key) value_type p v a =
    all_filtered (source_good k allow (MapFrom key) value_type) (λ q. not (is_stray_entry value_type q)) (λ q. payload_valid q && source_allowed k allow (MapFrom key) value_type q) (p ∷ []) (λ q s w. and_from _ _ w s) (and_from _ _ (and_from _ _ v a) refl)

-- SLOTS

-- slots that are equal are as good
good_same : (schema : Schema) (fields : List Field) (k : ℕ) (at by : ℕ → Slot) → ((n : ℕ) → at n ≡ by n) → GoodSlots schema fields k at → GoodSlots schema fields k by
good_same schema fields k at by e g = record {
  value = λ n v h. g.value n v (ap (λ (s : Slot). s.value) (e n) ∙ h);
  unknown = λ n. ap (λ (s : Slot). list_all (unknown_good (field_of fields n) k n) s.unknowns) (sym (e n)) ∙ g.unknown n;
  alone = λ n m f v w found h x y. g.alone n m f v w found h (ap (λ (s : Slot). s.value) (e n) ∙ x) (ap (λ (s : Slot). s.value) (e m) ∙ y);
}

-- a value stands at a known number alone
known_alone : (schema : Schema) (fields : List Field) (k : ℕ) (at : ℕ → Slot) (n : ℕ) → GoodSlots schema fields k at → field_of fields n ≡ None → (at n).value ≡ None
known_alone schema fields k at n g e = go (at n).value refl
  where
    go : (o : Option Value) → (at n).value ≡ o → o ≡ None
    go None h = refl
    go (Some v) h = absurd (true≢false (sym (g.value n v h).valid ∙ ap (λ (o : Option Field). passes o (λ f. value_valid f v)) e))

module _ (schema : Schema) (k : ℕ) (allow : AllowsInside) (inner : MeansInside) (further : JoinsInside) (fields : List Field) (good : GoodInside schema k allow inner further) (all : list_all (field_valid schema) fields ≡ true) (differ : numbers_differ fields ≡ true) where
  -- the slots behind one record of values
  abbrev pub slots_behind : (ℕ → Slot) → List Record → ℕ → Slot
  slots_behind at rs n = record { value = value_behind inner further fields n (at n).value rs; unknowns = (at n).unknowns }

  none_behind : (at : ℕ → Slot) → GoodSlots schema fields k at → GoodSlots schema fields k (slots_behind at [])
  none_behind at g = good_same schema fields k at (slots_behind at []) (λ n. go n (field_of fields n) refl) g
    where
      go : (n : ℕ) (o : Option Field) → field_of fields n ≡ o → at n ≡ record { value = (o >>= λ f. (at n).value); unknowns = (at n).unknowns }
      go n None e = ap (λ (o : Option Value). record { value = o; unknowns = (at n).unknowns }) (known_alone schema fields k at n g e)
      go n (Some f) e = refl

  -- what is known of a field that is found
  pub given : (at : ℕ → Slot) (n : ℕ) (f : Field) → GoodSlots schema fields k at → field_of fields n ≡ Some f → FieldGiven schema k f (at n).value
  given at n f g found =
      let checked = checked_field schema f (found_valid schema fields n f all found) in
      record {
        default = checked.default;
        keyed = λ key e. (checked_map schema f key checked e).keyed;
        old_good = λ v e. subst (λ (o : Option Field). GoodValue schema o k v) found (g.value n v e);
      }

  pub one_behind : (at : ℕ → Slot) (m : ℕ) (f : Field) (p : Payload) → GoodSlots schema fields k at → field_of fields m ≡ Some f → source_good k allow f.form f.value_type p ≡ true → GoodSlots schema fields k (slots_behind at (record { number = m; payload = p } ∷ []))
  one_behind at m f p g found s = record {
    value = λ n v e. value n (field_of fields n) refl v e;
    unknown = g.unknown;
    alone = alone_changed fields at (slots_behind at (record { number = m; payload = p } ∷ [])) f differ (ap (field_of fields) same_number ∙ found) gone same g.alone;
  }
    where
      same_number : f.number ≡ m
      same_number = field_number fields m f found

      its : (n : ℕ) (h : Field) → field_of fields n ≡ Some h → n ≡ m → h ≡ f
      its n h e same = ap (λ (o : Option Field). elim o [ None ↦ h | Some x ↦ x ]) (sym e ∙ ap (field_of fields) same ∙ found)

      value : (n : ℕ) (o : Option Field) → field_of fields n ≡ o → (v : Value) → (o >>= λ h. value_step inner further fields h (at n).value (record { number = m; payload = p })) ≡ Some v → GoodValue schema o k v
      value n None e v x = absurd cc
      value n (Some h) e v x = go (nat_eq m h.number) refl (is_sibling fields h m) x
        where
          go : (a : Bool) → nat_eq m h.number ≡ a → (b : Bool) → cond a (value_joined inner further h.form h.value_type (at n).value p) (cond b None (at n).value) ≡ Some v → GoodValue schema (Some h) k v
          go true a b x =
              let own : h ≡ f = its n h e (sym (field_number fields n h e) ∙ sym (eqb-true m h.number a)) in
              let source : source_good k allow h.form h.value_type p ≡ true = ap (λ (y : Field). source_good k allow y.form y.value_type p) own ∙ s in
              let (one, two) = and_parts (payload_valid p && source_allowed k allow h.form h.value_type p) (NoStray h.form h.value_type p) source in
              let (spelt, allowed) = and_parts (payload_valid p) (source_allowed k allow h.form h.value_type p) one in
              joined_good schema k allow inner further h (at n).value p v good (given at n h g e) spelt allowed two x
          go false a true x = absurd cc
          go false a false x = subst (λ (o : Option Field). GoodValue schema o k v) e (g.value n v x)

      -- another number than that of the record
      other : (n : ℕ) (h : Field) → field_of fields n ≡ Some h → nat_eq n f.number ≡ false → nat_eq m h.number ≡ false
      other n h e d = ap₂ nat_eq (sym same_number) (field_number fields n h e) ∙ eqb-sym f.number n ∙ d

      gone : (n : ℕ) → is_sibling fields f n ≡ true → value_behind inner further fields n (at n).value (record { number = m; payload = p } ∷ []) ≡ None
      gone n h =
          let (i, e, back) = sibling_back fields m n f differ found h in
          ap (λ (o : Option Field). o >>= λ h. value_step inner further fields h (at n).value (record { number = m; payload = p })) e
          ∙ ap (λ b. cond b (value_joined inner further i.form i.value_type (at n).value p) (cond (is_sibling fields i m) None (at n).value)) (other n i e (not_own fields f n h))
          ∙ ap (λ b. cond b None (at n).value) back

      same : (n : ℕ) → nat_eq n f.number ≡ false → is_sibling fields f n ≡ false → value_behind inner further fields n (at n).value (record { number = m; payload = p } ∷ []) ≡ (at n).value
      same n d h = go (field_of fields n) refl
        where
          no_sibling : (i : Field) → field_of fields n ≡ Some i → is_sibling fields i m ≡ false
          no_sibling i e = by (is_sibling fields i m) refl
            where
              by : (b : Bool) → is_sibling fields i m ≡ b → b ≡ false
              by false x = refl
              by true x =
                  let (j, y, back) = sibling_back fields n m i differ e x in
                  absurd (true≢false (sym back ∙ ap (λ (z : Field). is_sibling fields z n) (its m j y refl) ∙ h))

          go : (o : Option Field) → field_of fields n ≡ o → (o >>= λ h. value_step inner further fields h (at n).value (record { number = m; payload = p })) ≡ (at n).value
          go None e = sym (known_alone schema fields k at n g e)
          go (Some i) e =
              ap (λ b. cond b (value_joined inner further i.form i.value_type (at n).value p) (cond (is_sibling fields i m) None (at n).value)) (other n i e d)
              ∙ ap (λ b. cond b None (at n).value) (no_sibling i e)

  -- one record behind another
  behind_more : (at : ℕ → Slot) (r : Record) (rs : List Record) (n : ℕ) → slots_behind (slots_behind at (r ∷ [])) rs n ≡ slots_behind at (r ∷ rs) n
  behind_more at r rs n = ap (λ (o : Option Value). record { value = o; unknowns = (at n).unknowns }) (go (field_of fields n))
    where
      go : (o : Option Field) → (o >>= λ f. value_steps inner further fields f (o >>= λ f. value_step inner further fields f (at n).value r) rs) ≡ (o >>= λ f. value_steps inner further fields f (value_step inner further fields f (at n).value r) rs)
      go None = refl
      go (Some f) = refl

  block_behind : (at : ℕ → Slot) (m : ℕ) (f : Field) (ps : List Payload) → GoodSlots schema fields k at → field_of fields m ≡ Some f → list_all (source_good k allow f.form f.value_type) ps ≡ true → GoodSlots schema fields k (slots_behind at (block m ps))
  block_behind at m f [] g found s = none_behind at g
  block_behind at m f (p ∷ ps) g found s =
      let (one, more) = and_parts (source_good k allow f.form f.value_type p) (list_all (source_good k allow f.form f.value_type) ps) s in
      good_same schema fields k (slots_behind (slots_behind at (record { number = m; payload = p } ∷ [])) (block m ps)) (slots_behind at (block m (p ∷ ps))) (behind_more at (record { number = m; payload = p }) (block m ps))
      (block_behind (slots_behind at (record { number = m; payload = p } ∷ [])) m f ps (one_behind at m f p g found one) found more)

  values_behind : (at : ℕ → Slot) (r : Record) → GoodSlots schema fields k at → payload_valid r.payload ≡ true → record_allowed k allow fields r ≡ true → GoodSlots schema fields k (slots_behind at (value_records fields r))
  values_behind at r g v a = go (field_of fields r.number) refl a
    where
      go : (o : Option Field) → field_of fields r.number ≡ o → (elim o [ None ↦ nat_le (payload_levels r.payload) k | Some f ↦ field_allowed k allow f.form f.value_type r.payload ]) ≡ true
          → GoodSlots schema fields k (slots_behind at (elim o [ None ↦ [] | Some f ↦ map (λ p. record { number = r.number; payload = p }) (value_payloads f.form f.value_type r.payload) ]))
      go None e a = none_behind at g
      go (Some f) e a = block_behind at r.number f (value_payloads f.form f.value_type r.payload) g e (sources_good k allow f.form f.value_type r.payload v a)

  -- with what stays unknown
  slots_step : (at : ℕ → Slot) (r : Record) → GoodSlots schema fields k at → number_valid r.number ≡ true → payload_valid r.payload ≡ true → record_allowed k allow fields r ≡ true → GoodSlots schema fields k (λ n. slot_step inner further fields r n (at n))
  slots_step at r g number v a =
      let values : GoodSlots schema fields k (slots_behind at (value_records fields r)) = values_behind at r g v a in
      record {
        value = values.value;
        unknown = λ n. all_append (unknown_good (field_of fields n) k n) (at n).unknowns (cond (nat_eq r.number n) (unknown_payloads fields r) []) (g.unknown n) (new n (nat_eq r.number n) refl);
        alone = values.alone;
      }
    where
      new : (n : ℕ) (b : Bool) → nat_eq r.number n ≡ b → list_all (unknown_good (field_of fields n) k n) (cond b (unknown_payloads fields r) []) ≡ true
      new n false e = refl
      new n true e = ap (λ (m : ℕ). list_all (unknown_good (field_of fields m) k m) (unknown_payloads fields r)) (sym (eqb-true r.number n e)) ∙ unknown_stays schema k allow fields r all number v a

  pub entries_step : (es : Entries) (r : Record) → GoodEntries schema fields k es → number_valid r.number ≡ true → payload_valid r.payload ≡ true → record_allowed k allow fields r ≡ true → GoodEntries schema fields k (changed r.number (slot_step inner further fields r) es)
  entries_step es r g number v a =
      table_good schema fields k (λ n. slot_step inner further fields r n (slot_at es n)) (insert_number r.number (numbers_in es)) (insert_ascending r.number 0 (numbers_in es) (entries_ascending es) (omega arith))
      (slots_step (slot_at es) r (slots_good schema fields k es differ g) number v a)

-- CONTENTS

-- the content behind some records
pub record Stepped (k : ℕ) (c d : Content) : Type 0 where
  pub schema_same : schema_of d ≡ schema_of c
  pub type_same : type_of d ≡ type_of c
  pub good : GoodContent k d

abbrev pub StepsGood : ℕ → Type 0
StepsGood k = (c : Content) (rs : List Record) → schema_valid (schema_of c) ≡ true → GoodContent k c → valid (body_of rs) ≡ true → allows (schema_of c) k (type_of c) rs ≡ true → Stepped k c (steps k c rs)

by_records : (schema : Schema) (k T : ℕ) (allow : AllowsInside) (inner : MeansInside) (further : JoinsInside) (es : Entries) (rs : List Record) → GoodInside schema k allow inner further → schema_valid schema ≡ true → GoodContent k (ContentOf schema T es) →
    valid (body_of rs) ≡ true → list_all (record_allowed k allow (known schema T)) rs ≡ true → Stepped k (ContentOf schema T es) (steps_by inner further (ContentOf schema T es) rs)
by_records schema k T allow inner further es [] good h g v a = record { schema_same = refl; type_same = refl; good = g }
by_records schema k T allow inner further es (r ∷ rs) good h g v a =
    let (one, more) = and_parts (record_allowed k allow (known schema T) r) (list_all (record_allowed k allow (known schema T)) rs) a in
    let (spelt, rest) = first_valid r rs v in
    let old : GoodEntries schema (known schema T) k es = record { deep = g.deep; types = g.types; order = g.order; low = g.low } in
    let new : GoodEntries schema (known schema T) k (changed r.number (slot_step inner further (known schema T) r) es) =
    entries_step schema k allow inner further (known schema T) good (known_valid schema T h) (known_differ schema T h) es r old (number_spelled r rs v) spelt one in
    let next : Stepped k (ContentOf schema T (changed r.number (slot_step inner further (known schema T) r) es)) (steps_by inner further (ContentOf schema T (changed r.number (slot_step inner further (known schema T) r) es)) rs) =
    by_records schema k T allow inner further (changed r.number (slot_step inner further (known schema T) r) es) rs good h (record { deep = new.deep; types = new.types; order = new.order; low = new.low }) rest more in
    record { schema_same = next.schema_same; type_same = next.type_same; good = next.good }

empty_good : (schema : Schema) (T k : ℕ) → GoodContent k (empty schema T)
empty_good schema T k = record { deep = refl; types = tt; order = refl; low = omega arith }

pub no_level : (schema : Schema) → GoodInside schema 0 nothing_inside (empty_inside schema) joins_nothing
no_level schema = record {
  read = λ T rs v a. absurd (true≢false (sym a));
  join = λ T c rs i v a. absurd (true≢false (sym a));
  append = λ T xs ys a b. a;
  none = λ T rs a. a;
  level = λ T l. absurd (omega (arith, l));
}

nothing_allowed : (schema : Schema) (k T : ℕ) → allows schema k T [] ≡ true
unfolding allows
nothing_allowed schema zero T = refl
nothing_allowed schema (suc k) T = refl

-- what is read is what is joined with nothing
meaning_by_nothing : (schema : Schema) (k T : ℕ) (rs : List Record) → meaning schema k T rs ≡ steps k (empty schema T) rs
meaning_by_nothing schema k T rs = meaning_steps schema k T [] rs ∙ ap (λ c. steps k c rs) (meaning_empty schema k T)

pub one_level : (schema : Schema) (k : ℕ) → schema_valid schema ≡ true → StepsGood k → GoodInside schema (suc k) (allows schema k) (meaning schema k) (steps k)
one_level schema k h step = record {
  read = λ T rs v a. below T (steps k (empty schema T) rs) (meaning schema k T rs) (empty schema T) refl refl (meaning_by_nothing schema k T rs) (step (empty schema T) rs h (empty_good schema T k) v a);
  join = λ T c rs i v a. below T (steps k c rs) (steps k c rs) c i.schema_same i.type_same refl
      (step c rs (ap schema_valid i.schema_same ∙ h) (record { deep = i.deep; types = i.types; order = i.order; low = pred (levels c) k i.low }) v (ap₂ (λ s t. allows s k t rs) i.schema_same i.type_same ∙ a));
  append = λ T xs ys a b. allows_append schema k T xs ys a b;
  none = λ T rs a. nothing_allowed schema k T;
  level = λ T l. nothing_allowed schema k T;
}
  where
    pred : (a b : ℕ) → suc a ≤ suc b → a ≤ b
    pred a b l = omega arith

    below : (T : ℕ) (d e c : Content) → schema_of c ≡ schema → type_of c ≡ T → e ≡ d → Stepped k c d → Inside schema (suc k) T e
    below T d e c same type equal s =
        let low : levels d ≤ k = s.good.low in
        subst (λ (x : Content). Inside schema (suc k) T x) (sym equal) (record { schema_same = s.schema_same ∙ same; type_same = s.type_same ∙ type; deep = s.good.deep; types = s.good.types; order = s.good.order; low = omega arith })

pub steps_good : (k : ℕ) → StepsGood k
unfolding steps allows
steps_good zero (ContentOf schema T es) rs h g v a = by_records schema 0 T nothing_inside (empty_inside schema) joins_nothing es rs (no_level schema) h g v a
steps_good (suc k) (ContentOf schema T es) rs h g v a = by_records schema (suc k) T (allows schema k) (meaning schema k) (steps k) es rs (one_level schema k h (steps_good k)) h g v a

module _ (schema : Schema) (k T : ℕ) (rs : List Record) where
  pub meaning_good : schema_valid schema ≡ true → valid (body_of rs) ≡ true → allows schema k T rs ≡ true → GoodContent k (meaning schema k T rs)
  meaning_good h v a = subst (λ (c : Content). GoodContent k c) (sym (meaning_by_nothing schema k T rs)) (steps_good k (empty schema T) rs h (empty_good schema T k) v a).good

  pub meaning_typed : schema_valid schema ≡ true → valid (body_of rs) ≡ true → allows schema k T rs ≡ true → WellTyped (meaning schema k T rs)
  meaning_typed h v a = good_well k (meaning schema k T rs) (meaning_good h v a)

  pub meaning_levels : schema_valid schema ≡ true → valid (body_of rs) ≡ true → allows schema k T rs ≡ true → levels (meaning schema k T rs) ≤ k
  meaning_levels h v a = (meaning_good h v a).low
