-- The unknown fields of a message are the unknown records of its content.
use Rattle.std.specs.Prelude.{◌≡◌, ◌++◌, ◌∷◌}
use Rattle.prost_reflect_dynamic.proofs.Common.{ℕ, true, cond, nat_eq, List, [], map, flat_map, Option, Some, None, refl, ap, ap₂, sym, ◌∙◌, subst, eqb-true, and_parts, list_all, IsStrictlySortedBy, option_and_then, option_to_list, is_eq, Record, Payload, record_at, Field, Entries, Slot, entries_of, store, then_value, then_unknowns, unknown_fields_of, unknown_record, records_of, UnknownFieldSet, records_in, unknown_in, records_at, unknown_sets, value_alone, values_alone, IsAscending, item_at, known_of, all_kept, are_records_of, unknown_kept, FieldSlot, by_number, itself, none_above, schema_at, type_at, PooledType, in_entries, all_unknown, unknown_records, without_unknown, UnknownListed, value_of, content_of, message_type_of, stored_in, payloads_of, slot_of, entries_from, DynamicMessage, roll-DynamicMessage, Value}
use Rattle.prost_reflect_wire.specs.Content as contents
use Rattle.prost_reflect_wire.proofs.UnknownViews.{records_of_out}
use Rattle.prost_reflect_fields.specs.declared.slot.FieldSlot.TheVariants as entries
use Rattle.prost_reflect_dynamic.specs.UnknownLists.{fields_or_none}
use Rattle.prost_reflect_dynamic.proofs.Views.{shown, shown_entry, content_of_message, content_of_roll}

-- ONE NUMBER

records_back : (n : ℕ) (rs : List Record) → list_all (λ r. nat_eq r.number n) rs ≡ true → map (record_at n) (payloads_of rs) ≡ rs
records_back n [] h = refl
records_back n (r ∷ rs) h =
    let (own, rest) = and_parts (nat_eq r.number n) (list_all (λ r. nat_eq r.number n) rs) h in
    ap₂ (λ k rs. record_at k r.payload ∷ rs) (sym (eqb-true r.number n own)) (records_back n rs rest)

own_records : (fields : List Field) (n : ℕ) (rs : List Record) → unknown_kept fields n (Some rs) ≡ true → map (record_at n) (payloads_of rs) ≡ rs
own_records fields n [] h = refl
own_records fields n (r ∷ rs) h = records_back n (r ∷ rs) (and_parts (all_kept fields n (r ∷ rs)) (are_records_of n (r ∷ rs)) h).1

slot_records : (fields : List Field) (n : ℕ) (e : FieldSlot Value) → unknown_kept fields n (records_in e) ≡ true
    → map unknown_record (fields_or_none (unknown_in e)) ≡ map (record_at n) (slot_of (λ v. v) (shown_entry e)).unknowns
slot_records fields n (entries.Value v) h = refl
slot_records fields n (entries.Unknown u) h = sym (records_of_out u) ∙ sym (own_records fields n (records_of u) h)
slot_records fields n (entries.Both v u) h = sym (records_of_out u) ∙ sym (own_records fields n (records_of u) h)

-- ALL NUMBERS

unknown_then : (n : ℕ) (ps : List Payload) (es : Entries) → unknown_records (then_unknowns n ps es) ≡ map (record_at n) ps ++ unknown_records es
unknown_then n [] es = refl
unknown_then n (p ∷ ps) es = ap (λ rs. record_at n p ∷ rs) (unknown_then n ps es)

unknown_store : (n : ℕ) (slot : Slot) (es : Entries) → unknown_records (store n slot es) ≡ map (record_at n) slot.unknowns ++ unknown_records es
unknown_store n slot es = go slot.value
  where
    go : (o : Option contents.Value) → unknown_records (then_value n o (then_unknowns n slot.unknowns es)) ≡ map (record_at n) slot.unknowns ++ unknown_records es
    go None = unknown_then n slot.unknowns es
    go (Some v) = unknown_then n slot.unknowns es

map_joined : {A B : Type 0} (f : A → B) (xs ys : List A) → map f (xs ++ ys) ≡ map f xs ++ map f ys
map_joined f [] ys = refl
map_joined f (x ∷ xs) ys = ap (λ zs. f x ∷ zs) (map_joined f xs ys)

listed : (fields : List Field) (es : List (ℕ × FieldSlot Value)) → IsAscending es → ((k : ℕ) → unknown_kept fields k (records_at es k) ≡ true) → map unknown_record (all_unknown es) ≡ unknown_records (entries_from (shown es))
unfolding IsStrictlySortedBy
listed fields [] s own = refl
listed fields (e ∷ es) s own =
    map_joined unknown_record (fields_or_none (unknown_in e.1)) (all_unknown es)
    ∙ ap₂ (λ xs ys. xs ++ ys) (slot_records fields e.0 e.1 here) (listed fields es s.1 behind)
    ∙ sym (unknown_store e.0 (slot_of (λ v. v) (shown_entry e.1)) (entries_from (shown es)))
  where
    here : unknown_kept fields e.0 (records_in e.1) ≡ true
    here = ap (λ o. unknown_kept fields e.0 (option_and_then records_in (cond (is_eq o) (Some e.1) (item_at es e.0)))) (sym (itself e.0)) ∙ own e.0

    behind : (k : ℕ) → unknown_kept fields k (records_at es k) ≡ true
    behind k = by_number k e.0
        (λ same. ap (λ o. unknown_kept fields k (option_and_then records_in o)) (subst (λ z. item_at es z ≡ None) (sym same) (none_above e.0 es s.0)))
        (λ apart. ap (λ b. unknown_kept fields k (option_and_then records_in (cond b (Some e.1) (item_at es k)))) (sym apart) ∙ own k)

pub unknown_listed : UnknownListed
unknown_listed m s sound = listed (known_of (message_type_of m)) (stored_in m) s sound.1 ∙ ap (λ c. unknown_records (entries_of c)) (sym (content_of_message m))

-- WHAT IS TAKEN, AND WHAT IS LEFT

set_taken : (o : Option UnknownFieldSet) (us : List UnknownFieldSet) → flat_map unknown_fields_of (option_to_list o ++ us) ≡ fields_or_none o ++ flat_map unknown_fields_of us
set_taken None us = refl
set_taken (Some u) us = refl

pub all_taken : (es : List (ℕ × FieldSlot Value)) → flat_map unknown_fields_of (unknown_sets es) ≡ all_unknown es
all_taken [] = refl
all_taken (e ∷ es) = set_taken (unknown_in e.1) (unknown_sets es) ∙ ap (λ us. fields_or_none (unknown_in e.1) ++ us) (all_taken es)

without_then : (n : ℕ) (ps : List Payload) (es : Entries) → without_unknown (then_unknowns n ps es) ≡ without_unknown es
without_then n [] es = refl
without_then n (p ∷ ps) es = without_then n ps es

without_store : (n : ℕ) (slot : Slot) (es : Entries) → without_unknown (store n slot es) ≡ then_value n slot.value (without_unknown es)
without_store n slot es = go slot.value
  where
    go : (o : Option contents.Value) → without_unknown (then_value n o (then_unknowns n slot.unknowns es)) ≡ then_value n o (without_unknown es)
    go None = without_then n slot.unknowns es
    go (Some v) = ap (contents.Stored n v) (without_then n slot.unknowns es)

values_left : (es : List (ℕ × FieldSlot Value)) → entries_from (shown (values_alone es)) ≡ without_unknown (entries_from (shown es))
values_left [] = refl
values_left (e ∷ es) = in_front e.1 (values_left es) ∙ sym (without_store e.0 (slot_of (λ v. v) (shown_entry e.1)) (entries_from (shown es)))
  where
    in_front : (slot : FieldSlot Value) → entries_from (shown (values_alone es)) ≡ without_unknown (entries_from (shown es))
        → entries_from (shown (value_alone (e.0, slot) ++ values_alone es)) ≡ then_value e.0 (slot_of (λ v. v) (shown_entry slot)).value (without_unknown (entries_from (shown es)))
    in_front (entries.Value v) rest = ap (contents.Stored e.0 (value_of v)) rest
    in_front (entries.Unknown u) rest = rest
    in_front (entries.Both v u) rest = ap (contents.Stored e.0 (value_of v)) rest

pub message_left : (m : DynamicMessage) (p : PooledType × List (ℕ × FieldSlot Value)) → p ≡ (m.fields.0, values_alone m.fields.1) → content_of (roll-DynamicMessage (record { fields = p })) ≡ in_entries without_unknown (content_of m)
message_left m p is =
    content_of_roll (record { fields = p })
    ∙ ap (λ (q : PooledType × List (ℕ × FieldSlot Value)). contents.ContentOf (schema_at q.0) (type_at q.0) (entries_from (shown q.1))) is
    ∙ ap (contents.ContentOf (schema_at m.fields.0) (type_at m.fields.0)) (values_left m.fields.1)
    ∙ ap (in_entries without_unknown) (sym (content_of_message m))
