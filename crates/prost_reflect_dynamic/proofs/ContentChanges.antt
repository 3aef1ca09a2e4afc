-- Contents at each number after the operations of the field set.
use Rattle.std.specs.Prelude.{◌≡◌}
use Rattle.prost_reflect_dynamic.proofs.Common.{ℕ, true, false, cond, nat_eq, Option, Some, None, refl, ap, sym, ◌∙◌, subst, arith, option_map, or_parts, Schema, Field, known, is_sibling, ContentOf, Entries, Slot, slot_at, table, changed, insert_number, numbers_in, entries_of, schema_of, type_of, entries_ordered, value_ordered, with_value, with_field_value, is_in, Covers, empty_slot, insert_ascending, entries_ascending, in_insert, slot_outside, slot_table, field_number, OrderedOption, table_ordered, Value, schema_at, type_at, stored_at, value_of, entries_from, with_unknown, MessageArranged, MessageSlots, MessageOrder, SlotsAfterSet, SlotsAfterClear, SlotsAfterUnknown, SlotsDetermine}
use Rattle.prost_reflect_dynamic.proofs.Views.{shown, content_of_message}
use Rattle.prost_reflect_dynamic.proofs.Slots.{same_slots_same, from_keys, from_slots}
use Rattle.prost_reflect_dynamic.proofs.Stored.{ascending_shown, slot_stored, slot_of_message}
use Rattle.prost_reflect_dynamic.proofs.KeptSlots.{none_stays}

-- the slots of entries that were changed
pub slot_changed : (n : ℕ) (change : ℕ → Slot → Slot) (es : Entries) → ((k : ℕ) → nat_eq k n ≡ false → change k empty_slot ≡ empty_slot) → (k : ℕ) → slot_at (changed n change es) k ≡ change k (slot_at es k)
slot_changed n change es still k =
    slot_table (λ m. change m (slot_at es m)) k (insert_number n (numbers_in es)) (insert_ascending n 0 (numbers_in es) (entries_ascending es) (omega arith)) covers
  where
    covers : Covers (λ m. change m (slot_at es m)) 0 (insert_number n (numbers_in es))
    covers k low out =
        let (apart, outside) = or_parts (nat_eq k n) (is_in k (numbers_in es)) (sym (in_insert k n (numbers_in es)) ∙ out) in
        ap (change k) (slot_outside es k outside) ∙ still k apart

pub slots_after_set : SlotsAfterSet
slots_after_set (ContentOf schema T es) n v f found k =
    ap (λ (o : Option Field). slot_at (elim o [ None ↦ es | Some f ↦ with_field_value (known schema T) f (Some v) es ]) k) found
    ∙ slot_changed f.number (λ m slot. cond (nat_eq m f.number) (with_value (Some v) slot) (cond (is_sibling (known schema T) f m) (with_value None slot) slot)) es
    (λ m apart. ap (λ b. cond b (with_value (Some v) empty_slot) (cond (is_sibling (known schema T) f m) (with_value None empty_slot) empty_slot)) apart ∙ none_stays (is_sibling (known schema T) f m)) k
    ∙ ap (λ z. cond (nat_eq k z) (with_value (Some v) (slot_at es k)) (cond (is_sibling (known schema T) f k) (with_value None (slot_at es k)) (slot_at es k))) (field_number (known schema T) n f found)

pub slots_after_clear : SlotsAfterClear
slots_after_clear (ContentOf schema T es) n k =
    slot_changed n (λ m slot. cond (nat_eq m n) (with_value None slot) slot) es (λ m apart. ap (λ b. cond b (with_value None empty_slot) empty_slot) apart) k

pub slots_after_unknown : SlotsAfterUnknown
slots_after_unknown (ContentOf schema T es) r k =
    slot_changed r.number (λ m slot. cond (nat_eq m r.number) (with_unknown r.payload slot) slot) es (λ m apart. ap (λ b. cond b (with_unknown r.payload empty_slot) empty_slot) apart) k

-- MESSAGES

pub message_slots : MessageSlots
message_slots = slot_of_message

content_same : (schema typed : Schema) (T U : ℕ) (es ds : Entries) → schema ≡ typed → T ≡ U → es ≡ ds → ContentOf schema T es ≡ ContentOf typed U ds
content_same schema typed T U es ds e f h = λ i. ContentOf (e i) (f i) (h i)

pub slots_determine : SlotsDetermine
slots_determine a b s r schema type same =
    content_of_message a
    ∙ content_same (schema_at a.fields.0) (schema_at b.fields.0) (type_at a.fields.0) (type_at b.fields.0) (entries_from (shown a.fields.1)) (entries_from (shown b.fields.1))
    (sym (ap schema_of (content_of_message a)) ∙ schema ∙ ap schema_of (content_of_message b)) (sym (ap type_of (content_of_message a)) ∙ type ∙ ap type_of (content_of_message b))
    (same_slots_same (shown a.fields.1) (shown b.fields.1) (ascending_shown a.fields.1 s) (ascending_shown b.fields.1 r)
    (λ k. sym (ap (λ c. slot_at (entries_of c) k) (content_of_message a)) ∙ same k ∙ ap (λ c. slot_at (entries_of c) k) (content_of_message b)))
    ∙ sym (content_of_message b)

pub message_order : MessageOrder
message_order m s values =
    ap (λ c. entries_ordered (entries_of c)) (content_of_message m)
    ∙ from_keys (λ es. entries_ordered es ≡ true) (shown m.fields.1) (ascending_shown m.fields.1 s)
    (λ ns ascending. table_ordered (slot_at (entries_from (shown m.fields.1))) 0 ns ascending (λ n. there n))
  where
    of : (o : Option Value) → ((v : Value) → o ≡ Some v → value_ordered (value_of v) ≡ true) → OrderedOption (option_map value_of o)
    of None h = tt
    of (Some v) h = h v refl

    there : (n : ℕ) → OrderedOption (slot_at (entries_from (shown m.fields.1)) n).value
    there n = subst (λ (slot : Slot). OrderedOption slot.value) (sym (slot_stored m.fields.1 n s)) (of (stored_at m.fields.1 n) (values n))

pub message_arranged : MessageArranged
message_arranged m s =
    ap (λ c. table (slot_at (entries_of c)) (numbers_in (entries_of c))) (content_of_message m)
    ∙ sym (from_slots (shown m.fields.1) (slot_at (entries_from (shown m.fields.1))) (numbers_in (entries_from (shown m.fields.1))) (ascending_shown m.fields.1 s) (entries_ascending (entries_from (shown m.fields.1)))
    (λ k low out. slot_outside (entries_from (shown m.fields.1)) k out) (λ k. refl))
    ∙ sym (ap entries_of (content_of_message m))
