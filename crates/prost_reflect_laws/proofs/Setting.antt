-- A set keeps a content well-typed.
use Rattle.std.specs.Prelude.{◌≡◌, ◌≤◌, ◌⊎◌, ◌∷◌}
use Rattle.prost_reflect_laws.proofs.Common.{ℕ, inl, inr, Bool, true, false, cond, List, [], nat_eq, Option, Some, None, refl, ap, sym, ◌∙◌, subst, arith, true≢false, max, list_all, eqb-true, eq-eqb, and_parts, and_from, Payload, Scalar, Kind, ScalarOf, MessageOf, GroupOf, ValueType, Singular, Field, Schema, known, field_of, is_sibling, is_singular, is_message, numbers_differ, schema_valid, is_list, Content, ContentOf, Entries, Value, ScalarValue, MessageValue, ListValue, MapValue, Slot, value_at, slot_at, insert_number, numbers_in, empty, schema_of, type_of, levels, value_levels, kind_takes, elements_valid, pairs_valid, value_valid, fit_test, alone_test, filled_test, default_test, is_of_type, kind_for, ValueTyped, kept_value, kept_inside, ValueStored, WellTyped, with_value, with_field_value, set_field, default_of, default_value, value_or_default, in_message, in_field, set_at, message_of_kind, PathTo, insert_ascending, entries_ascending, field_number}
use Rattle.prost_reflect_laws.proofs.Everywhere.{both_tests, value_both}
use Rattle.prost_reflect_laws.proofs.Kept.{kept_cases, value_kept, valid_kept, fits_kept, members_kept, filled_kept, default_kept, kind_kept, value_typed, inside_kept_ordered, said}
use Rattle.prost_reflect_laws.proofs.FieldTypes.{field_typed, typed_field}
use Rattle.prost_reflect_laws.proofs.Checked.{known_differ}
use Rattle.prost_reflect_laws.proofs.Slots.{GoodContent, GoodEntries, GoodValue, GoodSlots, slots_good, table_good, well_good, good_well, unknown_good, alone_changed, not_own}

-- ONE NUMBER

-- the slots behind a set
abbrev set_slot : List Field → Field → Option Value → ℕ → Slot → Slot
set_slot fields f o n slot = cond (nat_eq n f.number) (with_value o slot) (cond (is_sibling fields f n) (with_value None slot) slot)

module _ (schema : Schema) where
  slot_set : (fields : List Field) (k : ℕ) (f : Field) (o : Option Value) (at : ℕ → Slot) → numbers_differ fields ≡ true → field_of fields f.number ≡ Some f →
      ((v : Value) → o ≡ Some v → GoodValue schema (Some f) k v) → GoodSlots schema fields k at → GoodSlots schema fields k (λ n. set_slot fields f o n (at n))
  slot_set fields k f o at d known good g = record {
    value = λ n v e. value n v (nat_eq n f.number) refl (is_sibling fields f n) e;
    unknown = λ n. subst (λ (l : List Payload). list_all (unknown_good (field_of fields n) k n) l ≡ true) (sym (unknown n (nat_eq n f.number) (is_sibling fields f n))) (g.unknown n);
    alone = alone_changed fields at (λ n. set_slot fields f o n (at n)) f d known gone same g.alone;
  }
    where
      value : (n : ℕ) (v : Value) (b : Bool) → nat_eq n f.number ≡ b → (s : Bool) → (cond b (with_value o (at n)) (cond s (with_value None (at n)) (at n))).value ≡ Some v → GoodValue schema (field_of fields n) k v
      value n v true e s h = subst (λ (x : Option Field). GoodValue schema x k v) (sym (ap (field_of fields) (eqb-true n f.number e) ∙ known)) (good v h)
      value n v false e true h = absurd cc
      value n v false e false h = g.value n v h

      unknown : (n : ℕ) (b s : Bool) → (cond b (with_value o (at n)) (cond s (with_value None (at n)) (at n))).unknowns ≡ (at n).unknowns
      unknown n true s = refl
      unknown n false true = refl
      unknown n false false = refl

      gone : (m : ℕ) → is_sibling fields f m ≡ true → (set_slot fields f o m (at m)).value ≡ None
      gone m h = ap (λ b. (cond b (with_value o (at m)) (cond (is_sibling fields f m) (with_value None (at m)) (at m))).value) (not_own fields f m h) ∙ ap (λ s. (cond s (with_value None (at m)) (at m)).value) h

      same : (m : ℕ) → nat_eq m f.number ≡ false → is_sibling fields f m ≡ false → (set_slot fields f o m (at m)).value ≡ (at m).value
      same m h s = ap (λ b. (cond b (with_value o (at m)) (cond (is_sibling fields f m) (with_value None (at m)) (at m))).value) h ∙ ap (λ s. (cond s (with_value None (at m)) (at m)).value) s

  pub with_value_good : (fields : List Field) (k : ℕ) (f : Field) (o : Option Value) (es : Entries) → numbers_differ fields ≡ true → field_of fields f.number ≡ Some f →
      ((v : Value) → o ≡ Some v → GoodValue schema (Some f) k v) → GoodEntries schema fields k es → GoodEntries schema fields k (with_field_value fields f o es)
  with_value_good fields k f o es d known good g =
      table_good schema fields k (λ n. set_slot fields f o n (slot_at es n)) (insert_number f.number (numbers_in es)) (insert_ascending f.number 0 (numbers_in es) (entries_ascending es) (omega arith))
      (slot_set fields k f o (slot_at es) d known good (slots_good schema fields k es d g))

  -- what is kept of a stored value
  kept_good : (k : ℕ) (f : Field) (v w : Value) → ValueStored schema f v → value_levels (kept_inside v) ≤ k → kept_value (Some f) (kept_inside v) ≡ Some w → GoodValue schema (Some f) k w
  kept_good k f v w s l e = go (kept_cases (Some f) (kept_inside v))
    where
      go : (kept_value (Some f) (kept_inside v) ≡ None) ⊎ (kept_value (Some f) (kept_inside v) ≡ Some (kept_inside v)) → GoodValue schema (Some f) k w
      go (inl none) = absurd cc
      go (inr some) =
          let same : kept_inside v ≡ w = cc in
          let (filled, default) = said (Some f) (kept_inside v) some in
          let here : GoodValue schema (Some f) k (kept_inside v) = record {
            valid = valid_kept f v ∙ s.valid;
            filled = filled;
            default = default;
            deep = value_both fit_test (both_tests alone_test (both_tests filled_test default_test)) (kept_inside v) (value_kept fit_test fit_test v fits_kept s.fits)
                (value_both alone_test (both_tests filled_test default_test) (kept_inside v) (value_kept alone_test alone_test v members_kept s.members)
                (value_both filled_test default_test (kept_inside v) (value_kept fit_test filled_test v filled_kept s.fits) (value_kept fit_test default_test v default_kept s.fits)));
            types = subst (λ (x : Option Kind). ValueTyped schema x (kept_inside v)) (sym (kind_kept (Some f) v)) (value_typed schema (kind_for (Some f) v) v s.types);
            order = inside_kept_ordered v s.order;
            low = l;
          } in
          subst (λ (x : Value). GoodValue schema (Some f) k x) same here

  pub set_good : (fields : List Field) (k : ℕ) (f : Field) (v : Value) (es : Entries) → numbers_differ fields ≡ true → field_of fields f.number ≡ Some f → ValueStored schema f v → value_levels (kept_inside v) ≤ k →
      GoodEntries schema fields k es → GoodEntries schema fields k (set_field fields f v es)
  set_good fields k f v es d known s l g = with_value_good fields k f (kept_value (Some f) (kept_inside v)) es d known (λ w e. kept_good k f v w s l e) g

  -- CONTENTS

  entries_good : (T k : ℕ) (es : Entries) → GoodContent k (ContentOf schema T es) → GoodEntries schema (known schema T) k es
  entries_good T k es g = record { deep = g.deep; types = g.types; order = g.order; low = g.low }

  content_good : (T k : ℕ) (es : Entries) → GoodEntries schema (known schema T) k es → GoodContent k (ContentOf schema T es)
  content_good T k es g = record { deep = g.deep; types = g.types; order = g.order; low = g.low }

  pub empty_well : (T : ℕ) → WellTyped (empty schema T)
  empty_well T = record { fitting = record { fits = refl; types = tt; order = refl; nonempty = refl }; members = refl; without_stored_defaults = refl }

  -- a set of one number of a content
  field_set : (T n : ℕ) (es : Entries) (f : Field) (v : Value) → schema_valid schema ≡ true → WellTyped (ContentOf schema T es) → field_of (known schema T) n ≡ Some f → ValueStored schema f v → WellTyped (ContentOf schema T (set_field (known schema T) f v es))
  field_set T n es f v h w found s =
      let k : ℕ = max (levels (ContentOf schema T es)) (value_levels (kept_inside v)) in
      let g : GoodEntries schema (known schema T) k es = entries_good T k es (well_good k (ContentOf schema T es) w (omega arith)) in
      good_well k (ContentOf schema T (set_field (known schema T) f v es))
      (content_good T k (set_field (known schema T) f v es)
      (set_good (known schema T) k f v es (known_differ schema T h) (ap (field_of (known schema T)) (field_number (known schema T) n f found) ∙ found) s (omega arith) g))

  pub in_found : (T n : ℕ) (es : Entries) (f : Field) (change : Schema → List Field → Field → Entries → Entries) → field_of (known schema T) n ≡ Some f →
      in_field n change (ContentOf schema T es) ≡ ContentOf schema T (change schema (known schema T) f es)
  in_found T n es f change e = ap (λ (o : Option Field). ContentOf schema T (elim o [ None ↦ es | Some f ↦ change schema (known schema T) f es ])) e

-- the message of a field of one message
pub record FoundMessage (schema : Schema) (f : Field) (U : ℕ) (v : Value) : Type 0 where
  pub content : Content
  pub same : v ≡ MessageValue content
  pub schema_same : schema_of content ≡ schema
  pub type_same : type_of content ≡ U
  pub well : WellTyped content

pub type_is : (kind : Kind) (U T : ℕ) → message_of_kind kind ≡ Some U → is_of_type kind T ≡ true → T ≡ U
type_is (ScalarOf kind) U T e h = cc
type_is (MessageOf V) U T e h = eqb-true T V h ∙ ap (λ (o : Option ℕ). elim o [ None ↦ V | Some x ↦ x ]) e
type_is (GroupOf V) U T e h = eqb-true T V h ∙ ap (λ (o : Option ℕ). elim o [ None ↦ V | Some x ↦ x ]) e

no_scalar : (kind : Kind) (U : ℕ) (v : Scalar) → message_of_kind kind ≡ Some U → kind_takes kind v ≡ true → ⊥
no_scalar (ScalarOf kind) U v e h = cc
no_scalar (MessageOf V) U v e h = true≢false (sym h)
no_scalar (GroupOf V) U v e h = true≢false (sym h)

found_message : (schema : Schema) (f : Field) (k U : ℕ) (v : Value) → f.form ≡ Singular → message_of_kind f.value_type.kind ≡ Some U → GoodValue schema (Some f) k v → FoundMessage schema f U v
found_message schema f k U (ScalarValue v) s e g = absurd (no_scalar f.value_type.kind U v e (and_parts (is_singular f.form) (kind_takes f.value_type.kind v) g.valid).1)
found_message schema f k U (ListValue vs) s e g = absurd (true≢false (sym (and_parts (is_list f.form) (elements_valid f.value_type.kind vs) g.valid).0 ∙ ap is_list s))
found_message schema f k U (MapValue ps) s e g = absurd (true≢false (sym g.valid ∙ ap (λ c. pairs_valid c f.value_type.kind ps) s))
found_message schema f k U (MessageValue c) s e g =
    let (of, types) = field_typed schema f (MessageValue c) g.valid g.types in
    record { content = c; same = refl; schema_same = of.0; type_same = type_is f.value_type.kind U (type_of c) e of.1; well = good_well (levels c) c (record { deep = g.deep; types = types; order = g.order; low = refl_le (levels c) }) }
  where
    refl_le : (n : ℕ) → n ≤ n
    refl_le n = omega arith

default_message : (schema : Schema) (value_type : ValueType) (kind : Kind) (U : ℕ) → message_of_kind kind ≡ Some U → default_of schema value_type kind ≡ MessageValue (empty schema U)
default_message schema value_type (ScalarOf kind) U e = cc
default_message schema value_type (MessageOf V) U e = ap (λ (x : ℕ). MessageValue (empty schema x)) (ap (λ (o : Option ℕ). elim o [ None ↦ V | Some x ↦ x ]) e)
default_message schema value_type (GroupOf V) U e = ap (λ (x : ℕ). MessageValue (empty schema x)) (ap (λ (o : Option ℕ). elim o [ None ↦ V | Some x ↦ x ]) e)

value_found : (schema : Schema) (fields : List Field) (k U n : ℕ) (f : Field) (es : Entries) → numbers_differ fields ≡ true → field_of fields n ≡ Some f → f.form ≡ Singular → message_of_kind f.value_type.kind ≡ Some U → GoodEntries schema fields k es →
    FoundMessage schema f U (value_or_default schema f es)
value_found schema fields k U n f es d found s e g = go (value_at f.number es) refl
  where
    go : (o : Option Value) → value_at f.number es ≡ o → FoundMessage schema f U (elim o [ None ↦ default_value schema f.form f.value_type | Some v ↦ v ])
    go None h = record { content = empty schema U; same = ap (λ c. default_value schema c f.value_type) s ∙ default_message schema f.value_type f.value_type.kind U e; schema_same = refl; type_same = refl; well = empty_well schema U }
    go (Some v) h =
        let here : GoodValue schema (field_of fields f.number) k v = (slots_good schema fields k es d g).value f.number v h in
        found_message schema f k U v s e (subst (λ (x : Option Field). GoodValue schema x k v) (ap (field_of fields) (field_number fields n f found) ∙ found) here)

-- a message may be set where one of its type stood
message_stored : (schema : Schema) (f : Field) (U : ℕ) (c : Content) → f.form ≡ Singular → message_of_kind f.value_type.kind ≡ Some U → schema_of c ≡ schema → type_of c ≡ U → WellTyped c → ValueStored schema f (MessageValue c)
message_stored schema f U c s e same type w = record {
  valid = valid;
  fits = w.fitting.fits;
  types = typed_field schema f (MessageValue c) valid ((same, of f.value_type.kind e), w.fitting.types);
  order = w.fitting.order;
  members = w.members;
}
  where
    kind : (kd : Kind) → message_of_kind kd ≡ Some U → is_message kd ≡ true
    kind (ScalarOf x) e = cc
    kind (MessageOf V) e = refl
    kind (GroupOf V) e = refl

    valid : value_valid f (MessageValue c) ≡ true
    valid = and_from _ _ (ap is_singular s) (kind f.value_type.kind e)

    of : (kd : Kind) → message_of_kind kd ≡ Some U → is_of_type kd (type_of c) ≡ true
    of (ScalarOf x) e = cc
    of (MessageOf V) e = eq-eqb (type_of c) V (type ∙ sym (ap (λ (o : Option ℕ). elim o [ None ↦ V | Some x ↦ x ]) e))
    of (GroupOf V) e = eq-eqb (type_of c) V (type ∙ sym (ap (λ (o : Option ℕ). elim o [ None ↦ V | Some x ↦ x ]) e))

-- a set changes neither schema nor type
pub record SetResult (c d : Content) : Type 0 where
  pub well : WellTyped d
  pub schema_same : schema_of d ≡ schema_of c
  pub type_same : type_of d ≡ type_of c

result_at : (schema : Schema) (T : ℕ) (es : Entries) (es' : Entries) (d : Content) → d ≡ ContentOf schema T es' → WellTyped (ContentOf schema T es') → SetResult (ContentOf schema T es) d
result_at schema T es es' d e w = record { well = subst (λ (x : Content). WellTyped x) (sym e) w; schema_same = ap schema_of e; type_same = ap type_of e }

set_result : (path : List ℕ) (v : Value) (c : Content) → schema_valid (schema_of c) ≡ true → WellTyped c → PathTo (schema_of c) (type_of c) path v → SetResult c (set_at path v c)
set_result [] v c h w p = absurd p
set_result (n ∷ []) v (ContentOf schema T es) h w (f, found, s) =
    result_at schema T es (set_field (known schema T) f v es) (set_at (n ∷ []) v (ContentOf schema T es)) (in_found schema T n es f (λ schema fields f es. set_field fields f v es) found) (field_set schema T n es f v h w found s)
set_result (n ∷ m ∷ path) v (ContentOf schema T es) h w (f, found, s, (U, e, more)) =
    let k : ℕ = levels (ContentOf schema T es) in
    let g : GoodEntries schema (known schema T) k es = entries_good schema T k es (well_good k (ContentOf schema T es) w (omega arith)) in
    let x : FoundMessage schema f U (value_or_default schema f es) = value_found schema (known schema T) k U n f es (known_differ schema T h) found s e g in
    let inner : SetResult x.content (set_at (m ∷ path) v x.content) = set_result (m ∷ path) v x.content (ap schema_valid x.schema_same ∙ h) x.well
    (subst (λ (u : Schema). PathTo u (type_of x.content) (m ∷ path) v) (sym x.schema_same) (subst (λ (u : ℕ). PathTo schema u (m ∷ path) v) (sym x.type_same) more)) in
    let stored : ValueStored schema f (MessageValue (set_at (m ∷ path) v x.content)) = message_stored schema f U (set_at (m ∷ path) v x.content) s e (inner.schema_same ∙ x.schema_same) (inner.type_same ∙ x.type_same) inner.well in
    let lent : in_message (value_or_default schema f es) (set_at (m ∷ path) v) ≡ MessageValue (set_at (m ∷ path) v x.content) = ap (λ w. in_message w (set_at (m ∷ path) v)) x.same in
    result_at schema T es (set_field (known schema T) f (MessageValue (set_at (m ∷ path) v x.content)) es) (set_at (n ∷ m ∷ path) v (ContentOf schema T es))
    (in_found schema T n es f (λ schema fields f es. set_field fields f (in_message (value_or_default schema f es) (set_at (m ∷ path) v)) es) found
    ∙ ap (λ w. ContentOf schema T (set_field (known schema T) f w es)) lent)
    (field_set schema T n es f (MessageValue (set_at (m ∷ path) v x.content)) h w found stored)

pub set_well : (path : List ℕ) (v : Value) (c : Content) → schema_valid (schema_of c) ≡ true → WellTyped c → PathTo (schema_of c) (type_of c) path v → WellTyped (set_at path v c)
set_well path v c h w p = (set_result path v c h w p).well
