-- What clearing a number and setting a value keep of a content.
use Rattle.std.specs.Prelude.{◌≡◌, ◌≢◌, ◌≤◌}
use Rattle.prost_reflect_dynamic.proofs.Common.{ℕ, Bool, true, false, not, cond, nat_eq, List, Option, Some, None, refl, ap, sym, subst, ◌∙◌, true≢false, is_some, and_parts, and_from, eq-eqb, eqb-true, ne_eqb, Field, is_sibling, are_siblings, known, field_of, passes, Content, ContentOf, Entries, NoEntries, Stored, Unknown, Slot, value_at, slot_at, insert_number, numbers_in, changed, schema_of, type_of, entries_of, kept, kept_entries, kind_for, fit_test, value_passes, value_valid, encodable, ValueStored, ValueTyped, WellStored, with_value, cleared, set_field, with_field_value, Holds, with_stored, field_number, table_passes, OptionPasses, SlotPasses, passes_slots, stored_passes, value_set, value_cleared, cleared_if, values_taken, entries_without, in_entries, Arranged, without_unknown, has_at, saying, says_nothing, stored_at, takes_at, all_typed, IsWhole, held_set, Removes, Sets, StaysTyped, typed_at, message_stored, value_stored, value_of, content_of, message_type_of, stored_in, entries_from, DynamicMessage, size-DynamicMessage, IsAscending, is_listed, known_of, schema_at, type_at, PooledType}
use Rattle.prost_reflect_wire.specs.Content.{Value}
use Rattle.prost_reflect_wire.specs.Typing.{entries_pass}
use Rattle.prost_reflect_dynamic.specs.Edits.{StaysBeside}
use Rattle.prost_reflect_dynamic.specs.declared.value.Value as values
use Rattle.prost_reflect_dynamic.proofs.ContentChanges.{slots_after_clear, slots_after_set, message_arranged}
use Rattle.prost_reflect_rows.proofs.Described.{schema_at_valid}
use Rattle.prost_reflect_dynamic.proofs.Had.{has_found}
use Rattle.prost_reflect_dynamic.proofs.KeptSlots.{kept_slot, slot_kept, kept_after_set, kept_after_clear, kept_after_clear_all}
use Rattle.prost_reflect_dynamic.proofs.Merging.{differ_in, known_in}
use Rattle.prost_reflect_dynamic.proofs.Removals.{cleared_sound, fits, fits_by_itself, clear_fits, clear_holds, taken_fits, taken_holds, kept_taken, unknown_taken_fits, unknown_taken_holds, kept_unknown_taken}
use Rattle.prost_reflect_dynamic.proofs.SetPaths.{set_holds}
use Rattle.prost_reflect_dynamic.proofs.Views.{shown, content_of_message}

-- FITTING VALUES

-- entries whose changed slots fit
changed_fit : (fields : List Field) (n : ℕ) (change : ℕ → Slot → Slot) (es : Entries) → ((m : ℕ) → SlotPasses fit_test fields (fits fields) m (change m (slot_at es m))) → entries_pass fit_test fields (changed n change es) ≡ true
changed_fit fields n change es h =
    table_passes fit_test fields (λ m. change m (slot_at es m)) (insert_number n (numbers_in es)) (λ m v ms e. (parts m v e).0) (λ m v e. (parts m v e).1) (λ m. let s = h m in s.unknowns)
  where
    parts : (m : ℕ) (v : Value) → (change m (slot_at es m)).value ≡ Some v → (fits fields m v ≡ true) × (value_passes fit_test v ≡ true)
    parts m v e = let s = h m in and_parts (fits fields m v) (value_passes fit_test v) (subst (OptionPasses fit_test fields (fits fields) m) e s.value)

-- SETTING

pub set_fits : (c : Content) (n : ℕ) (v : Value) → passes (field_of (known (schema_of c) (type_of c)) n) (λ f. value_valid f v) ≡ true → value_passes fit_test v ≡ true → encodable c ≡ true → encodable (value_set n v c) ≡ true
set_fits (ContentOf schema T es) n v valid inside h = go (field_of (known schema T) n) refl
  where
    go : (o : Option Field) → field_of (known schema T) n ≡ o → encodable (ContentOf schema T (elim o [ None ↦ es | Some f ↦ with_field_value (known schema T) f (Some v) es ])) ≡ true
    go None e = h
    go (Some f) e =
        let fields = known schema T in
        let there : fits fields f.number v ≡ true = ap (λ k. fits fields k v) (field_number fields n f e) ∙ valid in
        changed_fit fields f.number (with_stored fields f v) es
        (λ m. stored_passes fit_test fields (fits fields) f v m (slot_at es m) (and_from _ _ there inside) (passes_slots fit_test fields (fits fields) (fits_by_itself fields) es m h))

-- a value that fits its field, and whose messages are well-stored and of its types, keeps a message's content well-stored
set_sound : (t : PooledType) (es : Entries) (n : ℕ) (v : values.Value) → passes (field_of (known_of t) n) (λ f. value_valid f (value_of v)) ≡ true → IsWhole t n v → WellStored (ContentOf (schema_at t) (type_at t) es) → WellStored (value_set n (value_of v) (ContentOf (schema_at t) (type_at t) es))
set_sound t es n v valid whole w = go (field_of (known_of t) n) refl valid
  where
    go : (o : Option Field) → field_of (known_of t) n ≡ o → passes o (λ f. value_valid f (value_of v)) ≡ true → WellStored (value_set n (value_of v) (ContentOf (schema_at t) (type_at t) es))
    go None e h = absurd (true≢false (sym h))
    go (Some f) e h =
        let stored : ValueStored (schema_at t) f (value_of v) = record {
          valid = h;
          fits = whole.fits;
          types = subst (λ (o : Option Field). ValueTyped (schema_at t) (kind_for o (value_of v)) (value_of v)) e whole.types;
          order = whole.order;
          members = whole.members;
        } in
        let holds : Holds (ContentOf (schema_at t) (type_at t) es) (value_set n (value_of v) (ContentOf (schema_at t) (type_at t) es)) =
        set_holds (ContentOf (schema_at t) (type_at t) es) n f (value_of v) (schema_at_valid t) w e stored in
        holds.sound

-- WHAT IS HELD FOR OTHERS

pub set_held : (c : Content) (n : ℕ) (v : Value) → Arranged (entries_of c) → kept (value_set n v c) ≡ held_set n v (kept c)
set_held (ContentOf schema T es) n v a = go (field_of (known schema T) n) refl
  where
    go : (o : Option Field) → field_of (known schema T) n ≡ o → kept (value_set n v (ContentOf schema T es)) ≡ held_set n v (kept (ContentOf schema T es))
    go None e =
        ap (λ (o : Option Field). kept (ContentOf schema T (elim o [ None ↦ es | Some f ↦ with_field_value (known schema T) f (Some v) es ]))) e
        ∙ ap (λ (o : Option Field). ContentOf schema T (elim o [ None ↦ kept_entries (known schema T) es | Some f ↦ set_field (known schema T) f v (kept_entries (known schema T) es) ])) (sym e)
    go (Some f) e = kept_after_set (ContentOf schema T es) n v f a e

none_there : (b : Bool) (slot : Slot) → b ≡ true → (cond b (with_value None slot) slot).value ≡ None
none_there true slot e = refl
none_there false slot e = absurd (true≢false (sym e))

pub clear_gone : (c : Content) (n : ℕ) → Arranged (entries_of c) → has_at n (value_cleared n c) ≡ false
clear_gone c n a =
    ap (λ d. is_some (value_at n (entries_of d))) (kept_after_clear c n a)
    ∙ ap (λ (s : Slot). is_some s.value) (slots_after_clear (kept c) n n)
    ∙ ap is_some (none_there (nat_eq n n) (slot_at (entries_of (kept c)) n) (eq-eqb n n refl))

-- what stands at another number stays
clear_beside : (c : Content) (n k : ℕ) → k ≢ n → value_at k (entries_of (value_cleared n c)) ≡ value_at k (entries_of c)
clear_beside c n k apart =
    ap (λ (s : Slot). s.value) (slots_after_clear c n k ∙ ap (λ b. cond b (with_value None (slot_at (entries_of c) k)) (slot_at (entries_of c) k)) (ne_eqb k n apart))

set_beside : (c : Content) (n k : ℕ) (v : Value) → Arranged (entries_of c) → Arranged (entries_of (value_set n v c)) → k ≢ n → are_siblings (known (schema_of c) (type_of c)) n k ≡ false
    → value_at k (entries_of (kept (value_set n v c))) ≡ value_at k (entries_of (kept c))
set_beside (ContentOf schema T es) n k v a b apart lone = go (field_of (known schema T) n) refl lone
  where
    fields : List Field
    fields = known schema T

    slot : Slot
    slot = slot_at es k

    go : (o : Option Field) → field_of fields n ≡ o → passes o (λ f. is_sibling fields f k) ≡ false → value_at k (entries_of (kept (value_set n v (ContentOf schema T es)))) ≡ value_at k (kept_entries fields es)
    go None found h = ap (λ (o : Option Field). value_at k (kept_entries fields (elim o [ None ↦ es | Some f ↦ with_field_value fields f (Some v) es ]))) found
    go (Some f) found h =
        ap (λ (s : Slot). s.value)
        (slot_kept fields (entries_of (value_set n v (ContentOf schema T es))) k b
        ∙ ap (kept_slot (field_of fields k))
        (slots_after_set (ContentOf schema T es) n v f found k
        ∙ ap (λ b. cond b (with_value (Some v) slot) (cond (is_sibling fields f k) (with_value None slot) slot)) (ne_eqb k n apart)
        ∙ ap (λ b. cond b (with_value None slot) slot) h)
        ∙ sym (slot_kept fields es k a))

pub none_cleared : (c : Content) (n : ℕ) → has_at n (cleared c) ≡ false
none_cleared (ContentOf schema T es) n = refl

-- a number that passes has no value where those that pass are taken
without_gone : (test : ℕ → Bool) (n : ℕ) (es : Entries) → test n ≡ true → value_at n (entries_without test es) ≡ None
without_gone test n NoEntries h = refl
without_gone test n (Unknown m p es) h = without_gone test n es h
without_gone test n (Stored m v es) h = go (test m) refl (without_gone test n es h)
  where
    differ : (b : Bool) → nat_eq m n ≡ b → test m ≡ false → nat_eq m n ≡ false
    differ true same at = absurd (true≢false (sym h ∙ ap test (sym (eqb-true m n same)) ∙ at))
    differ false same at = same

    go : (b : Bool) → test m ≡ b → value_at n (entries_without test es) ≡ None → value_at n (cond (test m) (entries_without test es) (Stored m v (entries_without test es))) ≡ None
    go true at rest = ap (λ b. value_at n (cond b (entries_without test es) (Stored m v (entries_without test es)))) at ∙ rest
    go false at rest =
        ap (λ b. value_at n (cond b (entries_without test es) (Stored m v (entries_without test es)))) at
        ∙ ap (λ b. cond b (Some v) (value_at n (entries_without test es))) (differ (nat_eq m n) refl at) ∙ rest

taken_none : (x : Bool) (c : Content) (n : ℕ) → is_listed x (known (schema_of c) (type_of c)) n ≡ true → has_at n (values_taken x c) ≡ false
taken_none x (ContentOf schema T es) n h =
    ap (λ d. is_some (value_at n (entries_of d))) (kept_taken x (ContentOf schema T es))
    ∙ ap is_some (without_gone (is_listed x (known schema T)) n (kept_entries (known schema T) es) h)

-- MESSAGES

-- no field is left where all were taken, or no extension
pub taken_gone : (m new : DynamicMessage) (x : Bool) → Removes (values_taken x) m new → (n : ℕ) → is_listed x (known_of (message_type_of m)) n ≡ true → has_at n (content_of new) ≡ false
taken_gone m new x removes n h = ap (has_at n) removes.content ∙ taken_none x (content_of m) n (ap (λ fields. is_listed x fields n) (known_in m) ∙ h)

pub message_set_sound : (m new : DynamicMessage) (n : ℕ) (v : values.Value) → content_of new ≡ value_set n (value_of v) (content_of m) → takes_at (message_type_of m) n v ≡ true → IsWhole (message_type_of m) n v → WellStored (content_of m) → WellStored (content_of new)
message_set_sound m new n v is valid whole w =
    subst WellStored (sym is)
    (subst (λ c. WellStored c → WellStored (value_set n (value_of v) c)) (sym (content_of_message m)) (set_sound (message_type_of m) (entries_from (shown m.fields.1)) n v valid whole) w)

pub message_set_fits : (m new : DynamicMessage) (n : ℕ) (v : values.Value) → content_of new ≡ value_set n (value_of v) (content_of m) → takes_at (message_type_of m) n v ≡ true → value_passes fit_test (value_of v) ≡ true → encodable (content_of m) ≡ true → encodable (content_of new) ≡ true
message_set_fits m new n v is valid inside h =
    ap encodable is ∙ set_fits (content_of m) n (value_of v) (ap (λ fields. passes (field_of fields n) (λ f. value_valid f (value_of v))) (known_in m) ∙ valid) inside h

-- WHAT IS REMOVED

pub clears : (m new : DynamicMessage) (n : ℕ) → IsAscending (stored_in m) → message_type_of new ≡ message_type_of m → content_of new ≡ value_cleared n (content_of m) → StaysTyped m new → size-DynamicMessage new ≤ size-DynamicMessage m → Removes (cleared_if (Some n)) m new
clears m new n s type is typed depth = record {
  message_type = type;
  content = is;
  held = ap kept is ∙ kept_after_clear (content_of m) n (message_arranged m s);
  sound = λ w. subst WellStored (sym is) (clear_holds (content_of m) n (differ_in m) w);
  encodable = λ h. ap encodable is ∙ clear_fits (content_of m) n h;
  typed = typed.typed;
  depth = depth;
}

pub stays_beside : (m new : DynamicMessage) (n : ℕ) → Removes (cleared_if (Some n)) m new → StaysBeside n m new
stays_beside m new n removes k apart = ap (λ c. value_at k (entries_of c)) removes.held ∙ clear_beside (kept (content_of m)) n k apart

pub is_gone : (m new : DynamicMessage) (n : ℕ) → IsAscending (stored_in m) → content_of new ≡ value_cleared n (content_of m) → has_at n (content_of new) ≡ false
is_gone m new n s is = ap (has_at n) is ∙ clear_gone (content_of m) n (message_arranged m s)

pub empties : (m new : DynamicMessage) → message_type_of new ≡ message_type_of m → content_of new ≡ cleared (content_of m) → all_typed (message_stored new) ≡ true → size-DynamicMessage new ≤ size-DynamicMessage m → Removes cleared m new
empties m new type is typed depth = record {
  message_type = type;
  content = is;
  held = ap kept is ∙ kept_after_clear_all (content_of m);
  sound = λ w. cleared_sound (content_of new) (content_of m) is;
  encodable = λ h. let s = cleared_sound (content_of new) (content_of m) is in s.fits;
  typed = λ h. typed;
  depth = depth;
}

pub takes_all : (m new : DynamicMessage) (x : Bool) → IsAscending (stored_in m) → message_type_of new ≡ message_type_of m → content_of new ≡ values_taken x (content_of m) → StaysTyped m new → size-DynamicMessage new ≤ size-DynamicMessage m → Removes (values_taken x) m new
takes_all m new x s type is typed depth = record {
  message_type = type;
  content = is;
  held = ap kept is ∙ kept_taken x (content_of m);
  sound = λ w. subst WellStored (sym is) (taken_holds x (content_of m) (message_arranged m s) (differ_in m) w);
  encodable = λ h. ap encodable is ∙ taken_fits x (content_of m) (message_arranged m s) h;
  typed = typed.typed;
  depth = depth;
}

pub takes_unknown : (m new : DynamicMessage) → IsAscending (stored_in m) → message_type_of new ≡ message_type_of m → content_of new ≡ in_entries without_unknown (content_of m) → StaysTyped m new → size-DynamicMessage new ≤ size-DynamicMessage m → Removes (in_entries without_unknown) m new
takes_unknown m new s type is typed depth = record {
  message_type = type;
  content = is;
  held = ap kept is ∙ kept_unknown_taken (content_of m);
  sound = λ w. subst WellStored (sym is) (unknown_taken_holds (content_of m) (message_arranged m s) (differ_in m) w);
  encodable = λ h. ap encodable is ∙ unknown_taken_fits (content_of m) (message_arranged m s) h;
  typed = typed.typed;
  depth = depth;
}

-- WHAT IS SET

-- a number at which a value is stored is had unless the value says nothing
has_stored : (m new : DynamicMessage) (n : ℕ) (v : values.Value) → message_type_of new ≡ message_type_of m → IsAscending (stored_in new) → stored_at (stored_in new) n ≡ Some v → has_at n (content_of new) ≡ not (says_nothing (known_of (message_type_of m)) n v)
has_stored m new n v type s there = has_found new n (Some v) s (sym there) ∙ ap (λ t. is_some (saying (known_of t) n v)) type ∙ said (says_nothing (known_of (message_type_of m)) n v)
  where
    said : (b : Bool) → is_some (cond b None (Some v)) ≡ not b
    said true = refl
    said false = refl

-- the word of setting
pub sets : (m new : DynamicMessage) (n : ℕ) (v : values.Value) → IsAscending (stored_in m) → message_type_of new ≡ message_type_of m → content_of new ≡ value_set n (value_of v) (content_of m)
    → (typed_at (message_type_of m) n (value_stored v) ≡ true → StaysTyped m new) → IsAscending (stored_in new) → stored_at (stored_in new) n ≡ Some v → takes_at (message_type_of m) n v ≡ true → Sets (Some n) v m new
sets m new n v s type is stays ascends there valid = record {
  message_type = type;
  content = is;
  held = ap kept is ∙ set_held (content_of m) n (value_of v) (message_arranged m s);
  sound = λ whole w. message_set_sound m new n v is valid whole w;
  encodable = λ inside h. message_set_fits m new n v is valid inside h;
  typed = λ t. let step : StaysTyped m new = stays t in step.typed;
  stored = there;
  has = has_stored m new n v type ascends there;
  others = λ k apart lone.
      ap (λ c. value_at k (entries_of (kept c))) is
      ∙ set_beside (content_of m) n k (value_of v) (message_arranged m s) (subst (λ c. Arranged (entries_of c)) is (message_arranged new ascends)) apart (ap (λ fields. are_siblings fields n k) (known_in m) ∙ lone);
}
