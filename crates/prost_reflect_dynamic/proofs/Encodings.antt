-- The entries of a message that is encodable can be written, and their bytes are the encoding of its content.
use Rattle.std.specs.Prelude.{◌≡◌, ◌∷◌, ◌++◌}
use Rattle.prost_reflect_dynamic.proofs.Common.{Adds, adds_in_turn, adds_same, ℕ, true, cond, List, [], map, nat_eq, Option, Some, None, refl, sym, ap, ap₂, ◌∙◌, subst, append_assoc, eqb-true, and_parts, list_all, IsStrictlySortedBy, option_map, option_and_then, unwrap_or, is_eq, Record, Payload, record_at, spelled, Field, field_of, passes, Entries, Slot, then_unknowns, then_value, encoded, entries_records, EntryTest, fit_test, value_valid, value_passes, encodable, kept, kept_entries, slot_bytes, value_bytes, stored_bytes, records_of, UnknownFieldSet, written_store, FieldSlot, DynamicMessage, Value, IsAscending, item_at, known_of, are_records_of, all_kept, value_in, unknown_in, records_in, records_at, IsSound, UnknownKept, unknown_kept, value_of, content_of, message_type_of, stored_in, slot_of, entries_from, payloads_of, unknown_bytes, entries_bytes, ValueWritable, OwnUnknown, IsWritable, AreWritable, by_number, none_above, itself}
use Rattle.prost_reflect_wire.specs.Content as contents
use Rattle.prost_reflect_wire.specs.Typing.{entries_pass}
use Rattle.prost_reflect_fields.specs.declared.slot.FieldSlot.TheVariants as entries
use Rattle.prost_reflect_dynamic.proofs.Views.{shown, shown_entry, content_of_message}

-- BYTES

slot_shown : (e : FieldSlot Value) → slot_of (λ v. v) (shown_entry e) ≡ slot_of value_of e
slot_shown (entries.Value v) = refl
slot_shown (entries.Unknown u) = refl
slot_shown (entries.Both v u) = refl

pub written_entries : (fields : List Field) (es : List (ℕ × FieldSlot Value)) → spelled (entries_records fields (kept_entries fields (entries_from (shown es)))) ≡ entries_bytes fields es
written_entries fields [] = refl
written_entries fields (e ∷ es) =
    written_store fields e.0 (slot_of (λ v. v) (shown_entry e.1)) (entries_from (shown es))
    ∙ ap₂ (λ slot more. slot_bytes fields e.0 slot ++ more) (slot_shown e.1) (written_entries fields es)

pub encoded_entries : (m : DynamicMessage) → encoded (kept (content_of m)) ≡ entries_bytes (known_of (message_type_of m)) (stored_in m)
encoded_entries m = ap (λ c. encoded (kept c)) (content_of_message m) ∙ written_entries (known_of (message_type_of m)) (stored_in m)

-- the records of a number under that number are themselves
pub own_records : (n : ℕ) (rs : List Record) → list_all (λ r. nat_eq r.number n) rs ≡ true → map (record_at n) (payloads_of rs) ≡ rs
own_records n [] h = refl
own_records n (r ∷ rs) h =
    let (same, more) = and_parts (nat_eq r.number n) (list_all (λ r. nat_eq r.number n) rs) h in
    ap₂ (λ k l. record_at k r.payload ∷ l) (sym (eqb-true r.number n same)) (own_records n rs more)

pub own_all : (n : ℕ) (rs : List Record) → are_records_of n rs ≡ true → map (record_at n) (payloads_of rs) ≡ rs
own_all n [] h = refl
own_all n (r ∷ rs) h = own_records n (r ∷ rs) h

-- WHAT CAN BE WRITTEN

behind_unknowns : (test : EntryTest) (fields : List Field) (n : ℕ) (ps : List Payload) (es : Entries) → entries_pass test fields (then_unknowns n ps es) ≡ true → entries_pass test fields es ≡ true
behind_unknowns test fields n [] es h = h
behind_unknowns test fields n (p ∷ ps) es h = behind_unknowns test fields n ps es (and_parts (test.unknown fields n p) _ h).1

-- the value of the first entry
record FirstValue (fields : List Field) (n : ℕ) (o : Option contents.Value) : Type 0 where
  pub writable : (v : contents.Value) → o ≡ Some v → ValueWritable fields n v

first_value : (fields : List Field) (n : ℕ) (o : Option contents.Value) (es : Entries) → entries_pass fit_test fields (then_value n o es) ≡ true → FirstValue fields n o
first_value fields n None es h = record { writable = λ v e. cc }
first_value fields n (Some w) es h =
    let parts = and_parts (passes (field_of fields n) (λ f. value_valid f w)) (value_passes fit_test w) (and_parts _ (entries_pass fit_test fields es) h).0 in
    let own : ValueWritable fields n w = record { valid = parts.0; fits = parts.1 } in
    record { writable = λ v e. let same : w ≡ v = cc in subst (ValueWritable fields n) same own }

behind_value : (test : EntryTest) (fields : List Field) (n : ℕ) (o : Option contents.Value) (es : Entries) → entries_pass test fields (then_value n o es) ≡ true → entries_pass test fields es ≡ true
behind_value test fields n None es h = h
behind_value test fields n (Some w) es h = (and_parts _ (entries_pass test fields es) h).1

-- each entry has unknown records that may stand at its number
abbrev pub KeptRecords : List Field → List (ℕ × FieldSlot Value) → Type 0
KeptRecords fields [] = Unit {0}
KeptRecords fields (e ∷ es) = (unknown_kept fields e.0 (records_in e.1) ≡ true) × KeptRecords fields es

pub kept_in : (fields : List Field) (es : List (ℕ × FieldSlot Value)) → IsAscending es → UnknownKept fields es → KeptRecords fields es
unfolding IsStrictlySortedBy
kept_in fields [] s kept = tt
kept_in fields (e ∷ es) s kept = (
  ap (λ o. unknown_kept fields e.0 (option_and_then records_in (cond (is_eq o) (Some e.1) (item_at es e.0)))) (sym (itself e.0)) ∙ kept e.0,
  kept_in fields es s.1 (λ n. by_number n e.0 (λ same. behind n same) (λ apart. ap (λ b. unknown_kept fields n (option_and_then records_in (cond b (Some e.1) (item_at es n)))) (sym apart) ∙ kept n)),
)
  where
    behind : (n : ℕ) → n ≡ e.0 → unknown_kept fields n (records_at es n) ≡ true
    behind n same = ap (λ o. unknown_kept fields n (option_and_then records_in o)) (subst (λ k. item_at es k ≡ None) (sym same) (none_above e.0 es s.0))

-- so they are of its own number
abbrev OwnRecords : List (ℕ × FieldSlot Value) → Type 0
OwnRecords [] = Unit {0}
OwnRecords (e ∷ es) = ((rs : List Record) → records_in e.1 ≡ Some rs → are_records_of e.0 rs ≡ true) × OwnRecords es

own_in : (fields : List Field) (es : List (ℕ × FieldSlot Value)) → KeptRecords fields es → OwnRecords es
own_in fields [] kept = tt
own_in fields (e ∷ es) kept = (λ rs is. (and_parts (all_kept fields e.0 rs) (are_records_of e.0 rs) (ap (unknown_kept fields e.0) (sym is) ∙ kept.0)).1, own_in fields es kept.1)

shown_value : (e : FieldSlot Value) (v : Value) → value_in e ≡ Some v → (slot_of (λ v. v) (shown_entry e)).value ≡ Some (value_of v)
shown_value e v is = ap (λ (slot : Slot). slot.value) (slot_shown e) ∙ ap (option_map value_of) is

writable_entries : (fields : List Field) (es : List (ℕ × FieldSlot Value)) → entries_pass fit_test fields (entries_from (shown es)) ≡ true → OwnRecords es → AreWritable fields es
writable_entries fields [] h own = tt
writable_entries fields (e ∷ es) h own = (
  record {
    value = λ v is. (first_value fields e.0 (slot_of (λ v. v) (shown_entry e.1)).value (then_unknowns e.0 (slot_of (λ v. v) (shown_entry e.1)).unknowns (entries_from (shown es))) h).writable (value_of v) (shown_value e.1 v is);
    own = own.0;
  },
  writable_entries fields es (behind_unknowns fit_test fields e.0 (slot_of (λ v. v) (shown_entry e.1)).unknowns (entries_from (shown es)) (behind_value fit_test fields e.0 (slot_of (λ v. v) (shown_entry e.1)).value _ h)) own.1,
)

pub writable_message : (m : DynamicMessage) → encodable (content_of m) ≡ true → IsAscending (stored_in m) → IsSound (message_type_of m) (stored_in m) → AreWritable (known_of (message_type_of m)) (stored_in m)
writable_message m h s sound =
    writable_entries (known_of (message_type_of m)) (stored_in m) (ap encodable (sym (content_of_message m)) ∙ h) (own_in (known_of (message_type_of m)) (stored_in m) (kept_in (known_of (message_type_of m)) (stored_in m) s sound.1))

-- ONE ENTRY

pub unknown_written : (n : ℕ) (e : FieldSlot Value) (u : UnknownFieldSet) → unknown_in e ≡ Some u → OwnUnknown n e → unknown_bytes n (slot_of value_of e) ≡ spelled (records_of u)
unknown_written n e u is own =
    ap (λ o. spelled (map (record_at n) (payloads_of (unwrap_or (option_map records_of o) [])))) is ∙ ap spelled (own_all n (records_of u) (own (records_of u) (ap (option_map records_of) is)))

pub unknown_nothing : (n : ℕ) (e : FieldSlot Value) → unknown_in e ≡ None → unknown_bytes n (slot_of value_of e) ≡ []
unknown_nothing n e is = ap (λ o. spelled (map (record_at n) (payloads_of (unwrap_or (option_map records_of o) [])))) is

-- ENTRIES FROM THE BACK

pub writable_at : (fields : List Field) (left done : List (ℕ × FieldSlot Value)) (e : ℕ × FieldSlot Value) → AreWritable fields (left ++ e ∷ done) → IsWritable fields e.0 e.1
writable_at fields [] done e h = h.0
writable_at fields (x ∷ left) done e h = writable_at fields left done e h.1

-- the whole is written
pub whole_written : (m : DynamicMessage) (left done : List (ℕ × FieldSlot Value)) → stored_in m ≡ left ++ done → left ≡ [] → entries_bytes (known_of (message_type_of m)) done ≡ encoded (kept (content_of m))
whole_written m left done cut none = ap (entries_bytes (known_of (message_type_of m))) (sym (cut ∙ ap (λ l. l ++ done) none)) ∙ sym (encoded_entries m)

module _ (m : DynamicMessage) (left done : List (ℕ × FieldSlot Value)) (e : ℕ × FieldSlot Value) (cut : stored_in m ≡ left ++ e ∷ done) where
  pub entry_writable : encodable (content_of m) ≡ true → IsAscending (stored_in m) → IsSound (message_type_of m) (stored_in m) → IsWritable (known_of (message_type_of m)) e.0 e.1
  entry_writable h s sound = writable_at (known_of (message_type_of m)) left done e (subst (AreWritable (known_of (message_type_of m))) cut (writable_message m h s sound))

  abbrev rest : List ℕ
  rest = entries_bytes (known_of (message_type_of m)) done

  abbrev stored : List ℕ
  stored = stored_bytes (known_of (message_type_of m)) e.0 (slot_of value_of e.1).value

  -- one entry more
  entry_first : stored ++ (unknown_bytes e.0 (slot_of value_of e.1) ++ rest) ≡ entries_bytes (known_of (message_type_of m)) (e ∷ done)
  entry_first = sym (append_assoc stored (unknown_bytes e.0 (slot_of value_of e.1)) rest)

  module _ {A : Type 0} (added : A → A → List ℕ → Type 0) where
    -- its value in front of its unknown records
    pub value_adds : (start old mid new : A) (v : Value) → value_in e.1 ≡ Some v → Adds added start old rest → Adds added old mid (unknown_bytes e.0 (slot_of value_of e.1)) → Adds added mid new (value_bytes (known_of (message_type_of m)) e.0 (value_of v)) →
        Adds added start new (entries_bytes (known_of (message_type_of m)) (e ∷ done))
    value_adds start old mid new v is a b c =
        let here : value_bytes (known_of (message_type_of m)) e.0 (value_of v) ≡ stored = ap (λ o. stored_bytes (known_of (message_type_of m)) e.0 (option_map value_of o)) (sym is) in
        adds_same added start new _ _ (ap (λ l. l ++ (unknown_bytes e.0 (slot_of value_of e.1) ++ rest)) here ∙ entry_first) (adds_in_turn added start mid new _ _ (adds_in_turn added start old mid _ _ a b) c)

    -- no value
    pub unknown_adds : (start old new : A) → value_in e.1 ≡ None → Adds added start old rest → Adds added old new (unknown_bytes e.0 (slot_of value_of e.1)) → Adds added start new (entries_bytes (known_of (message_type_of m)) (e ∷ done))
    unknown_adds start old new is a b =
        let none : [] ≡ stored = ap (λ o. stored_bytes (known_of (message_type_of m)) e.0 (option_map value_of o)) (sym is) in
        adds_same added start new _ _ (ap (λ l. l ++ (unknown_bytes e.0 (slot_of value_of e.1) ++ rest)) none ∙ entry_first) (adds_in_turn added start old new _ _ a b)
