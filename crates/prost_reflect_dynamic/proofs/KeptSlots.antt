-- What is kept of entries, number by number, and of entries that were changed.
use Rattle.std.specs.Prelude.{◌≡◌, ◌&&◌, ◌||◌, ◌∷◌, ◌+◌}
use Rattle.prost_reflect_dynamic.proofs.Common.{ℕ, Bool, true, false, cond, not, nat_eq, List, [], length, Option, Some, None, unwrap_or, refl, ap, sym, ◌∙◌, arith, true≢false, eqb-true, and_parts, or_parts, option_and_then, Scalar, scalar_eq, Kind, ScalarOf, MessageOf, GroupOf, ValueType, FieldForm, Singular, Repeated, MapFrom, Field, Schema, known, field_of, is_sibling, is_singular, is_message, message_has_presence, form_valid, field_valid, ContentOf, Entries, ScalarValue, MessageValue, ListValue, MapValue, NoValues, Item, NoPairs, Pair, Slot, value_at, slot_at, then_unknowns, then_value, store, table, insert_number, numbers_in, changed, is_field_default, is_empty_value, kept, kept_entries, kept_inside, kept_value, is_default_of, with_value, with_field_value, set_field, default_of, default_value, is_in, Covers, empty_slot, insert_ascending, entries_ascending, in_insert, slot_outside, slot_table, table_same, table_covers, field_number, scalar_decides, checked_field, kept_unknowns, with_unknown, Arranged, KeptAfterSet, KeptAfterClear, KeptAfterUnknown, KeptAfterClearAll, KeptAfterWriting}
use Rattle.prost_reflect_wire.specs.Content.{Value}

-- what is kept of a slot
abbrev pub kept_slot : Option Field → Slot → Slot
kept_slot o slot = record { value = option_and_then (λ v. kept_value o (kept_inside v)) slot.value; unknowns = slot.unknowns }

-- TABLES

store_kept : (fields : List Field) (n : ℕ) (slot : Slot) (es : Entries) → kept_entries fields (store n slot es) ≡ store n (kept_slot (field_of fields n) slot) (kept_entries fields es)
store_kept fields n slot es = go slot.value
  where
    go : (o : Option Value) → kept_entries fields (then_value n o (then_unknowns n slot.unknowns es))
        ≡ then_value n (option_and_then (λ v. kept_value (field_of fields n) (kept_inside v)) o) (then_unknowns n slot.unknowns (kept_entries fields es))
    go None = kept_unknowns fields n slot.unknowns es
    go (Some v) = ap (then_value n (kept_value (field_of fields n) (kept_inside v))) (kept_unknowns fields n slot.unknowns es)

table_kept : (fields : List Field) (at : ℕ → Slot) (ns : List ℕ) → kept_entries fields (table at ns) ≡ table (λ n. kept_slot (field_of fields n) (at n)) ns
table_kept fields at [] = refl
table_kept fields at (n ∷ ns) = store_kept fields n (at n) (table at ns) ∙ ap (store n (kept_slot (field_of fields n) (at n))) (table_kept fields at ns)

-- what is kept of arranged entries, by their slots
pub slot_kept : (fields : List Field) (es : Entries) (k : ℕ) → Arranged es → slot_at (kept_entries fields es) k ≡ kept_slot (field_of fields k) (slot_at es k)
slot_kept fields es k a =
    ap (λ ds. slot_at (kept_entries fields ds) k) (sym a)
    ∙ ap (λ ds. slot_at ds k) (table_kept fields (slot_at es) (numbers_in es))
    ∙ slot_table (λ n. kept_slot (field_of fields n) (slot_at es n)) k (numbers_in es) (entries_ascending es) (λ n low out. ap (kept_slot (field_of fields n)) (slot_outside es n out))

-- CHANGES

-- a change whose kept slots are those of another change of what is kept
kept_changed : (fields : List Field) (n : ℕ) (change by : ℕ → Slot → Slot) (es : Entries) → Arranged es → ((k : ℕ) → nat_eq k n ≡ false → by k empty_slot ≡ empty_slot)
    → ((k : ℕ) (slot : Slot) → kept_slot (field_of fields k) (change k slot) ≡ by k (kept_slot (field_of fields k) slot)) → kept_entries fields (changed n change es) ≡ changed n by (kept_entries fields es)
kept_changed fields n change by es a still same =
    table_kept fields (λ m. change m (slot_at es m)) (insert_number n (numbers_in es))
    ∙ table_same (λ m. kept_slot (field_of fields m) (change m (slot_at es m))) (λ m. by m (slot_at (kept_entries fields es) m)) (insert_number n (numbers_in es)) (λ m. same m (slot_at es m) ∙ ap (by m) (sym (slot_kept fields es m a)))
    ∙ table_covers (λ m. by m (slot_at (kept_entries fields es) m)) (length (insert_number n (numbers_in es)) + length (insert_number n (numbers_in (kept_entries fields es)))) 0
    (insert_number n (numbers_in es)) (insert_number n (numbers_in (kept_entries fields es))) (omega arith)
    (insert_ascending n 0 (numbers_in es) (entries_ascending es) (omega arith)) (insert_ascending n 0 (numbers_in (kept_entries fields es)) (entries_ascending (kept_entries fields es)) (omega arith))
    before after
  where
    before : Covers (λ m. by m (slot_at (kept_entries fields es) m)) 0 (insert_number n (numbers_in es))
    before k low out =
        let (apart, outside) = or_parts (nat_eq k n) (is_in k (numbers_in es)) (sym (in_insert k n (numbers_in es)) ∙ out) in
        ap (by k) (slot_kept fields es k a ∙ ap (kept_slot (field_of fields k)) (slot_outside es k outside)) ∙ still k apart

    after : Covers (λ m. by m (slot_at (kept_entries fields es) m)) 0 (insert_number n (numbers_in (kept_entries fields es)))
    after k low out =
        let (apart, outside) = or_parts (nat_eq k n) (is_in k (numbers_in (kept_entries fields es))) (sym (in_insert k n (numbers_in (kept_entries fields es))) ∙ out) in
        ap (by k) (slot_outside (kept_entries fields es) k outside) ∙ still k apart

-- clearing an empty slot leaves it empty
pub none_stays : (b : Bool) → cond b (with_value None empty_slot) empty_slot ≡ empty_slot
none_stays true = refl
none_stays false = refl

-- SETTING

entries_set : (fields : List Field) (f : Field) (v : Value) (es : Entries) → Arranged es → field_of fields f.number ≡ Some f
    → kept_entries fields (with_field_value fields f (Some v) es) ≡ set_field fields f v (kept_entries fields es)
entries_set fields f v es a found =
    kept_changed fields f.number (λ n slot. cond (nat_eq n f.number) (with_value (Some v) slot) (cond (is_sibling fields f n) (with_value None slot) slot))
    (λ n slot. cond (nat_eq n f.number) (with_value (kept_value (Some f) (kept_inside v)) slot) (cond (is_sibling fields f n) (with_value None slot) slot)) es a
    (λ k apart. ap (λ b. cond b (with_value (kept_value (Some f) (kept_inside v)) empty_slot) (cond (is_sibling fields f k) (with_value None empty_slot) empty_slot)) apart ∙ none_stays (is_sibling fields f k))
    (λ k slot. cases k slot (nat_eq k f.number) refl (is_sibling fields f k))
  where
    cases : (k : ℕ) (slot : Slot) (b : Bool) → nat_eq k f.number ≡ b → (s : Bool) → kept_slot (field_of fields k) (cond b (with_value (Some v) slot) (cond s (with_value None slot) slot))
        ≡ cond b (with_value (kept_value (Some f) (kept_inside v)) (kept_slot (field_of fields k) slot)) (cond s (with_value None (kept_slot (field_of fields k) slot)) (kept_slot (field_of fields k) slot))
    cases k slot true e s = ap (λ o. record { value = kept_value o (kept_inside v); unknowns = slot.unknowns }) (ap (field_of fields) (eqb-true k f.number e) ∙ found)
    cases k slot false e true = refl
    cases k slot false e false = refl

found_own : (fields : List Field) (n : ℕ) (f : Field) → field_of fields n ≡ Some f → field_of fields f.number ≡ Some f
found_own fields n f found = ap (field_of fields) (field_number fields n f found) ∙ found

pub kept_after_set : KeptAfterSet
kept_after_set (ContentOf schema T es) n v f a found =
    let fields = known schema T in
    ap (λ (o : Option Field). kept (ContentOf schema T (elim o [ None ↦ es | Some f ↦ with_field_value fields f (Some v) es ]))) found
    ∙ ap (ContentOf schema T) (entries_set fields f v es a (found_own fields n f found))
    ∙ ap (λ (o : Option Field). ContentOf schema T (elim o [ None ↦ kept_entries fields es | Some f ↦ set_field fields f v (kept_entries fields es) ])) (sym found)

-- CLEARING AND UNKNOWN RECORDS

pub kept_after_clear : KeptAfterClear
kept_after_clear (ContentOf schema T es) n a =
    ap (ContentOf schema T) (kept_changed (known schema T) n (λ m slot. cond (nat_eq m n) (with_value None slot) slot) (λ m slot. cond (nat_eq m n) (with_value None slot) slot) es a
    (λ k apart. none_stays (nat_eq k n)) (λ k slot. cases k slot (nat_eq k n)))
  where
    cases : (k : ℕ) (slot : Slot) (b : Bool) → kept_slot (field_of (known schema T) k) (cond b (with_value None slot) slot) ≡ cond b (with_value None (kept_slot (field_of (known schema T) k) slot)) (kept_slot (field_of (known schema T) k) slot)
    cases k slot true = refl
    cases k slot false = refl

pub kept_after_unknown : KeptAfterUnknown
kept_after_unknown (ContentOf schema T es) r a =
    ap (ContentOf schema T) (kept_changed (known schema T) r.number (λ m slot. cond (nat_eq m r.number) (with_unknown r.payload slot) slot) (λ m slot. cond (nat_eq m r.number) (with_unknown r.payload slot) slot) es a
    (λ k apart. ap (λ b. cond b (with_unknown r.payload empty_slot) empty_slot) apart) (λ k slot. cases k slot (nat_eq k r.number)))
  where
    cases : (k : ℕ) (slot : Slot) (b : Bool) → kept_slot (field_of (known schema T) k) (cond b (with_unknown r.payload slot) slot) ≡ cond b (with_unknown r.payload (kept_slot (field_of (known schema T) k) slot)) (kept_slot (field_of (known schema T) k) slot)
    cases k slot true = refl
    cases k slot false = refl

pub kept_after_clear_all : KeptAfterClearAll
kept_after_clear_all (ContentOf schema T es) = refl

-- WRITING ACCESS

-- a value that says nothing is the default of its field
pub default_kept : (schema : Schema) (f : Field) (v : Value) → field_valid schema f ≡ true → is_field_default f (kept_inside v) ≡ true → kept_inside v ≡ default_value schema f.form f.value_type
default_kept schema f v valid h = go f.form f.value_type v (λ single. ap (form_valid f) (sym single) ∙ (checked_field schema f valid).form) h
  where
    scalar : (t : ValueType) (s : Scalar) (kind : Kind) → (not (is_message kind) || t.presence) ≡ true → is_default_of t (ScalarValue s) ≡ true → ScalarValue s ≡ default_of schema t kind
    scalar t s (ScalarOf kind) present h = ap ScalarValue ((scalar_decides s t.default).0 (and_parts (not t.presence) (scalar_eq s t.default) h).1)
    scalar t s (MessageOf T) present h = absurd (true≢false (sym (and_parts (not t.presence) (scalar_eq s t.default) h).0 ∙ ap not present))
    scalar t s (GroupOf T) present h = absurd (true≢false (sym (and_parts (not t.presence) (scalar_eq s t.default) h).0 ∙ ap not present))

    go : (form : FieldForm) (t : ValueType) (v : Value) → (form ≡ Singular → message_has_presence t ≡ true) → (is_empty_value form (kept_inside v) || (is_singular form && is_default_of t (kept_inside v))) ≡ true
        → kept_inside v ≡ default_value schema form t
    go Singular t (ScalarValue s) valid h = scalar t s t.kind (valid refl) h
    go Singular t (MessageValue c) valid h = absurd (true≢false (sym h))
    go Singular t (ListValue NoValues) valid h = absurd (true≢false (sym h))
    go Singular t (ListValue (Item v vs)) valid h = absurd (true≢false (sym h))
    go Singular t (MapValue NoPairs) valid h = absurd (true≢false (sym h))
    go Singular t (MapValue (Pair k v ps)) valid h = absurd (true≢false (sym h))
    go (Repeated packed) t (ScalarValue s) valid h = absurd (true≢false (sym h))
    go (Repeated packed) t (MessageValue c) valid h = absurd (true≢false (sym h))
    go (Repeated packed) t (ListValue NoValues) valid h = refl
    go (Repeated packed) t (ListValue (Item v vs)) valid h = absurd (true≢false (sym h))
    go (Repeated packed) t (MapValue NoPairs) valid h = absurd (true≢false (sym h))
    go (Repeated packed) t (MapValue (Pair k v ps)) valid h = absurd (true≢false (sym h))
    go (MapFrom key) t (ScalarValue s) valid h = absurd (true≢false (sym h))
    go (MapFrom key) t (MessageValue c) valid h = absurd (true≢false (sym h))
    go (MapFrom key) t (ListValue NoValues) valid h = absurd (true≢false (sym h))
    go (MapFrom key) t (ListValue (Item v vs)) valid h = absurd (true≢false (sym h))
    go (MapFrom key) t (MapValue NoPairs) valid h = refl
    go (MapFrom key) t (MapValue (Pair k v ps)) valid h = absurd (true≢false (sym h))

lent_is : (schema : Schema) (f : Field) (default : Value) (o : Option Value) → kept_inside default ≡ default_value schema f.form f.value_type → field_valid schema f ≡ true
    → kept_inside (unwrap_or o default) ≡ unwrap_or (option_and_then (λ v. kept_value (Some f) (kept_inside v)) o) (default_value schema f.form f.value_type)
lent_is schema f default None is valid = is
lent_is schema f default (Some v) is valid = go (is_field_default f (kept_inside v)) refl
  where
    go : (b : Bool) → is_field_default f (kept_inside v) ≡ b → kept_inside v ≡ unwrap_or (cond b None (Some (kept_inside v))) (default_value schema f.form f.value_type)
    go true h = default_kept schema f v valid h
    go false h = refl

unwrapped : (schema : Schema) (f : Field) (o : Option Value) → unwrap_or o (default_value schema f.form f.value_type) ≡ elim o [ None ↦ default_value schema f.form f.value_type | Some v ↦ v ]
unwrapped schema f None = refl
unwrapped schema f (Some v) = refl

pub kept_after_writing : KeptAfterWriting
kept_after_writing (ContentOf schema T es) n default w f a found is valid =
    let fields = known schema T in
    let own : field_of fields f.number ≡ Some f = found_own fields n f found in
    record {
      found = lent_is schema f default (value_at n es) is valid
          ∙ ap (λ o. unwrap_or (option_and_then (λ v. kept_value o (kept_inside v)) (value_at n es)) (default_value schema f.form f.value_type)) (sym found)
          ∙ ap (λ (slot : Slot). unwrap_or slot.value (default_value schema f.form f.value_type)) (sym (slot_kept fields es n a))
          ∙ unwrapped schema f (value_at n (kept_entries fields es))
          ∙ ap (λ k. elim (value_at k (kept_entries fields es)) [ None ↦ default_value schema f.form f.value_type | Some v ↦ v ]) (sym (field_number fields n f found));
      left = ap (λ (o : Option Field). kept_entries fields (elim o [ None ↦ es | Some f ↦ with_field_value fields f (Some w) es ])) found ∙ entries_set fields f w es a own;
    }
