-- The content of what is stored, and what each change makes of it.
use Rattle.std.specs.Prelude.{◌≡◌, ◌++◌, ◌∷◌}
use Rattle.prost_reflect_dynamic.proofs.Common.{ℕ, Bool, true, false, cond, nat_eq, List, [], Option, Some, None, refl, ap, sym, ◌∙◌, subst, unwrap_or, eqb-true, eqb-false, option_map, option_and_then, is_some, nat_cmp, is_at, IsStrictlySortedBy, keys_of, Record, Field, known, field_of, is_sibling, passes, Content, ContentOf, Slot, slot_at, entries_of, with_value, with_field_value, cleared, empty_slot, slots_same, eqb-sym, field_number, FieldSlot, PooledType, DynamicMessage, Value, roll-DynamicMessage, schema_at, type_at, IsAscending, item_at, known_of, is_known, are_siblings, Sound, set_value_at, prepared, value_of, content_of, entries_from, payloads_of, overwritten_at, value_written, written_at, value_set, value_cleared, with_unknown, unknown_added, value_without, records_without, ascending_without_values, ascending_put}
use Rattle.prost_reflect_wire.specs.Content as contents
use Rattle.prost_reflect_fields.specs.declared.slot.FieldSlot.TheVariants as entries
use Rattle.prost_reflect_fields.specs.FieldSlots.{value_in, records_in, stored_at, records_at, has_value, put_value, clear_value, with_value as with_value_at, SameStored, UnknownAdded}
use Rattle.prost_reflect_fields.proofs.SoundChanges.{value_set_at, records_set_at, ascending_set_at, written_is_set, value_set as value_set_here}
use Rattle.prost_reflect_dynamic.proofs.Views.{shown, shown_entry, content_of_message, content_of_roll}
use Rattle.prost_reflect_dynamic.proofs.Slots.{slot_in, slot_from, same_slots_same, changed_from}
use Rattle.prost_reflect_dynamic.proofs.KeptSlots.{none_stays}

keys_shown : (es : List (ℕ × FieldSlot Value)) → keys_of (shown es) ≡ keys_of es
keys_shown [] = refl
keys_shown (e ∷ es) = ap (λ ks. e.0 ∷ ks) (keys_shown es)

pub ascending_shown : (es : List (ℕ × FieldSlot Value)) → IsAscending es → IsAscending (shown es)
ascending_shown es s = subst (IsStrictlySortedBy nat_cmp) (sym (keys_shown es)) s

item_shown : (es : List (ℕ × FieldSlot Value)) (k : ℕ) → item_at (shown es) k ≡ option_map shown_entry (item_at es k)
item_shown [] k = refl
item_shown (e ∷ es) k = cases (is_at (nat_cmp k) e.0) (item_shown es k)
  where
    cases : (b : Bool) → item_at (shown es) k ≡ option_map shown_entry (item_at es k) → cond b (Some (shown_entry e.1)) (item_at (shown es) k) ≡ option_map shown_entry (cond b (Some e.1) (item_at es k))
    cases true rest = refl
    cases false rest = rest

-- what is stored at a number, shown
abbrev pub stored_slot : List (ℕ × FieldSlot Value) → ℕ → Slot
stored_slot es k = record { value = option_map value_of (stored_at es k); unknowns = payloads_of (unwrap_or (records_at es k) []) }

slot_shown : (o : Option (FieldSlot Value)) → slot_in (option_map shown_entry o) ≡ record { value = option_map value_of (option_and_then value_in o); unknowns = payloads_of (unwrap_or (option_and_then records_in o) []) }
slot_shown None = refl
slot_shown (Some (entries.Value v)) = refl
slot_shown (Some (entries.Unknown u)) = refl
slot_shown (Some (entries.Both v u)) = refl

pub slot_stored : (es : List (ℕ × FieldSlot Value)) (k : ℕ) → IsAscending es → slot_at (entries_from (shown es)) k ≡ stored_slot es k
slot_stored es k s = slot_from (shown es) k (ascending_shown es s) ∙ ap slot_in (item_shown es k) ∙ slot_shown (item_at es k)

-- the content of what is stored under a descriptor
abbrev pub content_from : PooledType → List (ℕ × FieldSlot Value) → Content
content_from d es = ContentOf (schema_at d) (type_at d) (entries_from (shown es))

-- what a content has at a number is what is stored there
pub slot_of_message : (m : DynamicMessage) (k : ℕ) → IsAscending m.fields.1 → slot_at (entries_of (content_of m)) k ≡ stored_slot m.fields.1 k
slot_of_message m k s = ap (λ c. slot_at (entries_of c) k) (content_of_message m) ∙ slot_stored m.fields.1 k s

pub value_of_message : (m : DynamicMessage) (k : ℕ) → IsAscending m.fields.1 → option_map value_of (stored_at m.fields.1 k) ≡ contents.value_at k (entries_of (content_of m))
value_of_message m k s = ap (λ (slot : Slot). slot.value) (sym (slot_of_message m k s))

-- SETTING

module _ (d : PooledType) (es : List (ℕ × FieldSlot Value)) (n : ℕ) (v : Value) (s : IsAscending es) where
  ascending_set : IsAscending (set_value_at (known_of d) es n v)
  ascending_set = ascending_without_values (are_siblings (known_of d) n) (put_value es n v) (ascending_put es n v s)

  set_still : (f : Field) (k : ℕ) → nat_eq k f.number ≡ false → cond (nat_eq k f.number) (with_value (Some (value_of v)) empty_slot) (cond (is_sibling (known_of d) f k) (with_value None empty_slot) empty_slot) ≡ empty_slot
  set_still f k apart = ap (λ b. cond b (with_value (Some (value_of v)) empty_slot) (cond (is_sibling (known_of d) f k) (with_value None empty_slot) empty_slot)) apart ∙ none_stays (is_sibling (known_of d) f k)

  set_there : (f : Field) (k : ℕ) → field_of (known_of d) n ≡ Some f → slot_at (entries_from (shown (set_value_at (known_of d) es n v))) k
      ≡ cond (nat_eq k f.number) (with_value (Some (value_of v)) (slot_at (entries_from (shown es)) k)) (cond (is_sibling (known_of d) f k) (with_value None (slot_at (entries_from (shown es)) k)) (slot_at (entries_from (shown es)) k))
  set_there f k found =
      slot_stored (set_value_at (known_of d) es n v) k ascending_set
      ∙ (λ i. record { value = option_map value_of (value_set_at (known_of d) es n v k s i); unknowns = payloads_of (unwrap_or (records_set_at (known_of d) es n v k s i) []) })
      ∙ ap (λ o. record { value = option_map value_of (cond (nat_eq k n) (Some v) (cond (passes o (λ f. is_sibling (known_of d) f k)) None (stored_at es k))); unknowns = payloads_of (unwrap_or (records_at es k) []) }) found
      ∙ cases (nat_eq k n) (is_sibling (known_of d) f k)
      ∙ ap (λ z. cond (nat_eq k z) (with_value (Some (value_of v)) (stored_slot es k)) (cond (is_sibling (known_of d) f k) (with_value None (stored_slot es k)) (stored_slot es k))) (sym (field_number (known_of d) n f found))
      ∙ ap (λ slot. cond (nat_eq k f.number) (with_value (Some (value_of v)) slot) (cond (is_sibling (known_of d) f k) (with_value None slot) slot)) (sym (slot_stored es k s))
    where
      cases : (a b : Bool) → record { value = option_map value_of (cond a (Some v) (cond b None (stored_at es k))); unknowns = payloads_of (unwrap_or (records_at es k) []) }
          ≡ cond a (with_value (Some (value_of v)) (stored_slot es k)) (cond b (with_value None (stored_slot es k)) (stored_slot es k))
      cases true b = refl
      cases false true = refl
      cases false false = refl

  set_found : (o : Option Field) → field_of (known_of d) n ≡ o → is_some o ≡ true
      → entries_from (shown (set_value_at (known_of d) es n v)) ≡ (elim o [ None ↦ entries_from (shown es) | Some f ↦ with_field_value (known_of d) f (Some (value_of v)) (entries_from (shown es)) ])
  set_found None found known = cc
  set_found (Some f) found known =
      changed_from (shown (set_value_at (known_of d) es n v)) (entries_from (shown es)) f.number
      (λ k slot. cond (nat_eq k f.number) (with_value (Some (value_of v)) slot) (cond (is_sibling (known_of d) f k) (with_value None slot) slot))
      (ascending_shown (set_value_at (known_of d) es n v) ascending_set) (set_still f) (λ k. set_there f k found)

  pub content_set : is_known (known_of d) n ≡ true → content_from d (set_value_at (known_of d) es n v) ≡ value_set n (value_of v) (content_from d es)
  content_set known = ap (ContentOf (schema_at d) (type_at d)) (set_found (field_of (known_of d) n) refl known)

-- CLEARING

pub content_cleared : (d : PooledType) (es : List (ℕ × FieldSlot Value)) (n : ℕ) → IsAscending es → content_from d (clear_value es n) ≡ value_cleared n (content_from d es)
content_cleared d es n s = ap (ContentOf (schema_at d) (type_at d)) (changed_from (shown (clear_value es n)) (entries_from (shown es)) n (λ k slot. cond (nat_eq k n) (with_value None slot) slot) (ascending_shown (clear_value es n) order) still there)
  where
    order : IsAscending (clear_value es n)
    order = ascending_without_values (nat_eq n) es s

    still : (k : ℕ) → nat_eq k n ≡ false → cond (nat_eq k n) (with_value None empty_slot) empty_slot ≡ empty_slot
    still k apart = ap (λ b. cond b (with_value None empty_slot) empty_slot) apart

    cases : (k : ℕ) (b : Bool) → record { value = option_map value_of (cond b None (stored_at es k)); unknowns = payloads_of (unwrap_or (records_at es k) []) } ≡ cond b (with_value None (stored_slot es k)) (stored_slot es k)
    cases k true = refl
    cases k false = refl

    there : (k : ℕ) → slot_at (entries_from (shown (clear_value es n))) k ≡ cond (nat_eq k n) (with_value None (slot_at (entries_from (shown es)) k)) (slot_at (entries_from (shown es)) k)
    there k =
        slot_stored (clear_value es n) k order
        ∙ (λ i. record { value = option_map value_of (value_without (nat_eq n) es k s i); unknowns = payloads_of (unwrap_or (records_without (nat_eq n) es k s i) []) })
        ∙ cases k (nat_eq n k)
        ∙ ap (λ b. cond b (with_value None (stored_slot es k)) (stored_slot es k)) (eqb-sym n k)
        ∙ ap (λ slot. cond (nat_eq k n) (with_value None slot) slot) (sym (slot_stored es k s))

-- UNKNOWN RECORDS

payloads_appended : (rs : List Record) (r : Record) → payloads_of (rs ++ r ∷ []) ≡ payloads_of rs ++ r.payload ∷ []
payloads_appended [] r = refl
payloads_appended (q ∷ rs) r = ap (λ ps. q.payload ∷ ps) (payloads_appended rs r)

pub content_added : (d : PooledType) (es ds : List (ℕ × FieldSlot Value)) (r : Record) → IsAscending es → UnknownAdded es ds r → content_from d ds ≡ unknown_added r (content_from d es)
content_added d es ds r s added = ap (ContentOf (schema_at d) (type_at d)) (changed_from (shown ds) (entries_from (shown es)) r.number (λ k slot. cond (nat_eq k r.number) (with_unknown r.payload slot) slot) (ascending_shown ds (added.order s)) still there)
  where
    still : (k : ℕ) → nat_eq k r.number ≡ false → cond (nat_eq k r.number) (with_unknown r.payload empty_slot) empty_slot ≡ empty_slot
    still k apart = ap (λ b. cond b (with_unknown r.payload empty_slot) empty_slot) apart

    cases : (k : ℕ) (b : Bool) → nat_eq k r.number ≡ b → stored_slot ds k ≡ cond b (with_unknown r.payload (stored_slot es k)) (stored_slot es k)
    cases k true at =
        let same : k ≡ r.number = eqb-true k r.number at in
        slots_same (stored_slot ds k) (with_unknown r.payload (stored_slot es k)) (ap (option_map value_of) (added.values k))
        (subst (λ z. payloads_of (unwrap_or (records_at ds z) []) ≡ payloads_of (unwrap_or (records_at es z) []) ++ r.payload ∷ []) (sym same)
        (ap (λ o. payloads_of (unwrap_or o [])) added.here ∙ payloads_appended (unwrap_or (records_at es r.number) []) r))
    cases k false at =
        slots_same (stored_slot ds k) (stored_slot es k) (ap (option_map value_of) (added.values k)) (ap (λ o. payloads_of (unwrap_or o [])) (added.elsewhere k (eqb-false k r.number at)))

    there : (k : ℕ) → slot_at (entries_from (shown ds)) k ≡ cond (nat_eq k r.number) (with_unknown r.payload (slot_at (entries_from (shown es)) k)) (slot_at (entries_from (shown es)) k)
    there k =
        slot_stored ds k (added.order s) ∙ cases k (nat_eq k r.number) refl
        ∙ ap (λ slot. cond (nat_eq k r.number) (with_unknown r.payload slot) slot) (sym (slot_stored es k s))

pub content_same : (d : PooledType) (es ds : List (ℕ × FieldSlot Value)) → IsAscending es → SameStored es ds → content_from d ds ≡ content_from d es
content_same d es ds s same = ap (ContentOf (schema_at d) (type_at d)) (same_slots_same (shown ds) (shown es) (ascending_shown ds (same.order s)) (ascending_shown es s)
    (λ k. slot_stored ds k (same.order s) ∙ slots_same (stored_slot ds k) (stored_slot es k) (ap (option_map value_of) (same.values k)) (ap (λ o. payloads_of (unwrap_or o [])) (same.records k)) ∙ sym (slot_stored es k s)))

-- MESSAGES

abbrev Kept : Type 0
Kept = PooledType × List (ℕ × FieldSlot Value)

rolled : (p : Kept) → content_of (roll-DynamicMessage (record { fields = p })) ≡ content_from p.0 p.1
rolled p = content_of_roll (record { fields = p })

module _ (m : DynamicMessage) (p : Kept) where
  kept_as : (es : List (ℕ × FieldSlot Value)) → p ≡ (m.fields.0, es) → content_of (roll-DynamicMessage (record { fields = p })) ≡ content_from m.fields.0 es
  kept_as es h = rolled p ∙ ap (λ (q : Kept). content_from q.0 q.1) h

  pub message_set : (n : ℕ) (v : Value) → IsAscending m.fields.1 → is_known (known_of m.fields.0) n ≡ true → p ≡ (m.fields.0, set_value_at (known_of m.fields.0) m.fields.1 n v)
      → content_of (roll-DynamicMessage (record { fields = p })) ≡ value_set n (value_of v) (content_of m)
  message_set n v s known h = kept_as (set_value_at (known_of m.fields.0) m.fields.1 n v) h ∙ content_set m.fields.0 m.fields.1 n v s known ∙ ap (value_set n (value_of v)) (sym (content_of_message m))

  pub message_cleared : (n : ℕ) → IsAscending m.fields.1 → p ≡ (m.fields.0, clear_value m.fields.1 n) → content_of (roll-DynamicMessage (record { fields = p })) ≡ value_cleared n (content_of m)
  message_cleared n s h = kept_as (clear_value m.fields.1 n) h ∙ content_cleared m.fields.0 m.fields.1 n s ∙ ap (value_cleared n) (sym (content_of_message m))

  pub message_emptied : p ≡ (m.fields.0, []) → content_of (roll-DynamicMessage (record { fields = p })) ≡ cleared (content_of m)
  message_emptied h = kept_as [] h ∙ ap cleared (sym (content_of_message m))

  pub message_added : (r : Record) → IsAscending m.fields.1 → p.0 ≡ m.fields.0 → UnknownAdded m.fields.1 p.1 r → content_of (roll-DynamicMessage (record { fields = p })) ≡ unknown_added r (content_of m)
  message_added r s d added = rolled p ∙ ap (λ d. content_from d p.1) d ∙ content_added m.fields.0 m.fields.1 p.1 r s added ∙ ap (unknown_added r) (sym (content_of_message m))

  pub message_same : IsAscending m.fields.1 → p.0 ≡ m.fields.0 → SameStored m.fields.1 p.1 → content_of (roll-DynamicMessage (record { fields = p })) ≡ content_of m
  message_same s d same = rolled p ∙ ap (λ d. content_from d p.1) d ∙ content_same m.fields.0 m.fields.1 p.1 s same ∙ sym (content_of_message m)

-- WRITING ACCESS

-- what is lent is what was stored, or the default
pub prepared_value : (fields : List Field) (es : List (ℕ × FieldSlot Value)) (n : ℕ) (default v : Value) → IsAscending es → stored_at (prepared fields es n default) n ≡ Some v → v ≡ unwrap_or (stored_at es n) default
prepared_value fields es n default v s h = cases (stored_at es n) refl h
  where
    one : (x y : Value) → Some x ≡ Some y → y ≡ x
    one x y e = cc

    cases : (o : Option Value) → stored_at es n ≡ o → stored_at (cond (is_some o) es (set_value_at fields es n default)) n ≡ Some v → v ≡ unwrap_or o default
    cases None at h = one default v (sym (value_set_here fields es n default s) ∙ h)
    cases (Some w) at h = one w v (sym at ∙ h)

unwrapped : (o : Option Value) (default : Value) → value_of (unwrap_or o default) ≡ unwrap_or (option_map value_of o) (value_of default)
unwrapped None default = refl
unwrapped (Some v) default = refl

-- the value that is lent
pub value_lent : (m : DynamicMessage) (n : ℕ) (default v : Value) → IsAscending m.fields.1 → stored_at (prepared (known_of m.fields.0) m.fields.1 n default) n ≡ Some v
    → value_of v ≡ unwrap_or (contents.value_at n (entries_of (content_of m))) (value_of default)
value_lent m n default v s h =
    ap value_of (prepared_value (known_of m.fields.0) m.fields.1 n default v s h) ∙ unwrapped (stored_at m.fields.1 n) default
    ∙ ap (λ o. unwrap_or o (value_of default)) (value_of_message m n s)

-- what is stored where it was written over
pub stored_written : (fields : List Field) (es : List (ℕ × FieldSlot Value)) (n : ℕ) (default v : Value) → IsAscending es → stored_at (with_value_at (prepared fields es n default) n v) n ≡ Some v
stored_written fields es n default v s = value_written (prepared fields es n default) n v ∙ cases (stored_at es n) refl
  where
    cases : (o : Option Value) → stored_at es n ≡ o → option_map (λ _. v) (stored_at (cond (is_some o) es (set_value_at fields es n default)) n) ≡ Some v
    cases None at = ap (option_map (λ _. v)) (value_set_here fields es n default s)
    cases (Some w) at = ap (option_map (λ _. v)) at

-- what is left where the lent value was written over
pub content_written : (m : DynamicMessage) (n : ℕ) (default v : Value) → IsAscending m.fields.1 → Sound (known_of m.fields.0) m.fields.1 → is_known (known_of m.fields.0) n ≡ true → content_of (written_at m n default v) ≡ value_set n (value_of v) (content_of m)
content_written m n default v s sound known =
    let fields = known_of m.fields.0 in
    content_of_message (written_at m n default v)
    ∙ content_same m.fields.0 (set_value_at fields m.fields.1 n v) (with_value_at (prepared fields m.fields.1 n default) n v) (ascending_set_at fields m.fields.1 n v s) (written_is_set fields m.fields.1 n default v s sound)
    ∙ content_set m.fields.0 m.fields.1 n v s known ∙ ap (value_set n (value_of v)) (sym (content_of_message m))

-- where the value at the number is written over, and there was one
pub overwritten_is : (m : DynamicMessage) (n : ℕ) (v : Value) → has_value m.fields.1 n ≡ true → overwritten_at m n v ≡ written_at m n v v
overwritten_is m n v has = ap (λ b. record { fields = (m.fields.0, with_value_at (cond b m.fields.1 (set_value_at (known_of m.fields.0) m.fields.1 n v)) n v) }) (sym has)

pub content_overwritten : (m : DynamicMessage) (n : ℕ) (v : Value) → IsAscending m.fields.1 → Sound (known_of m.fields.0) m.fields.1 → has_value m.fields.1 n ≡ true → content_of (overwritten_at m n v) ≡ value_set n (value_of v) (content_of m)
content_overwritten m n v s sound has = ap content_of (overwritten_is m n v has) ∙ content_written m n v v s sound (sound.0 n has)
