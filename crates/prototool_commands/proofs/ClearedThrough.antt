-- A value written over where a path goes through it, and what is left where nothing is.
use Rattle.std.proofs.Common.{◌≡◌, ℕ, ◌+◌, Bool, true, false, cond, ◌&&◌, nat_eq, List, [], ◌∷◌, length, Option, Some, None, option_map, is_some, refl, ap, sym, ◌∙◌, subst, arith, true≢false}
use Rattle.std.proofs.lemmas.Bool.{and_parts, or_parts, eqb-true}
use Rattle.std.proofs.lemmas.Option.{none-some}
use Rattle.prost_reflect_wire.specs.Record.{Payload}
use Rattle.prost_reflect_wire.specs.Schema.{passes, Field, Schema, known, field_of, is_sibling, is_singular, schema_valid}
use Rattle.prost_reflect_wire.specs.Content.{Content, ContentOf, Entries, NoEntries, Stored, Unknown, Value, ScalarValue, MessageValue, ListValue, MapValue, NoValues, Item, NoPairs, Pair, Slot, value_at, slot_at, then_value, then_unknowns, store, table, insert_number, numbers_in, schema_of, type_of, entries_of}
use Rattle.prost_reflect_wire.specs.Typing.{kept_entries, kept_inside, kept_value, is_field_default, kind_for, entries_pass, fit_test, value_passes, value_valid, unknown_fits, WellStored}
use Rattle.prost_reflect_wire.specs.Edit.{with_value, with_field_value, clear_field}
use Rattle.prost_reflect_wire.proofs.Numbers.{is_in, empty_slot, insert_ascending, entries_ascending, in_insert, slot_outside, slots_same, table_same, table_covers}
use Rattle.prost_reflect_wire.proofs.Survivors.{field_number}
use Rattle.prost_reflect_laws.proofs.Checked.{known_differ}
use Rattle.prost_reflect_laws.proofs.Rebuilt.{rebuilt}
use Rattle.prost_reflect_laws.proofs.Slots.{members_apart}
use Rattle.prost_reflect_dynamic.specs.Access.{has_at}
use Rattle.prost_reflect_dynamic.specs.Contents.{in_entries, value_set, value_cleared}
use Rattle.prototool_commands.specs.Redacting.{in_messages, changed_at}
use Rattle.prototool_commands.proofs.ClearedAlong.{changed_then}
use Rattle.prototool_commands.proofs.RedactedValues.{SoundValue, SoundEntries, front_parts, unknown_behind}

-- TABLES

abbrev changed_slot : ℕ → (Value → Value) → ℕ → Slot → Slot
changed_slot n change m slot = cond (nat_eq m n) (record { value = option_map change slot.value; unknowns = slot.unknowns }) slot

changed_unknowns : (n m : ℕ) (change : Value → Value) (ps : List Payload) (es : Entries) → changed_at n change (then_unknowns m ps es) ≡ then_unknowns m ps (changed_at n change es)
changed_unknowns n m change [] es = refl
changed_unknowns n m change (p ∷ ps) es = ap (Unknown m p) (changed_unknowns n m change ps es)

changed_store : (n m : ℕ) (change : Value → Value) (slot : Slot) (es : Entries) → changed_at n change (store m slot es) ≡ store m (changed_slot n change m slot) (changed_at n change es)
changed_store n m change slot es =
    changed_then n m change slot.value (then_unknowns m slot.unknowns es)
    ∙ ap (then_value m (cond (nat_eq m n) (option_map change slot.value) slot.value)) (changed_unknowns n m change slot.unknowns es)
    ∙ go (nat_eq m n)
  where
    go : (b : Bool) → then_value m (cond b (option_map change slot.value) slot.value) (then_unknowns m slot.unknowns (changed_at n change es))
        ≡ store m (cond b (record { value = option_map change slot.value; unknowns = slot.unknowns }) slot) (changed_at n change es)
    go true = refl
    go false = refl

changed_table : (n : ℕ) (change : Value → Value) (at : ℕ → Slot) (ns : List ℕ) → changed_at n change (table at ns) ≡ table (λ m. changed_slot n change m (at m)) ns
changed_table n change at [] = refl
changed_table n change at (m ∷ ns) = changed_store n m change (at m) (table at ns) ∙ ap (store m (changed_slot n change m (at m))) (changed_table n change at ns)

-- a number more, at which there is nothing, is none
pub one_more : (at : ℕ → Slot) (n : ℕ) (es : Entries) → ((k : ℕ) → is_in k (numbers_in es) ≡ false → at k ≡ empty_slot) → table at (insert_number n (numbers_in es)) ≡ table at (numbers_in es)
one_more at n es outside =
    table_covers at (length (insert_number n (numbers_in es)) + length (numbers_in es)) 0 (insert_number n (numbers_in es)) (numbers_in es) (omega arith)
    (insert_ascending n 0 (numbers_in es) (entries_ascending es) (omega arith)) (entries_ascending es)
    (λ k low out. outside k (or_parts (nat_eq k n) (is_in k (numbers_in es)) (sym (in_insert k n (numbers_in es)) ∙ out)).1)
    (λ k low out. outside k out)

nothing_changed : (n : ℕ) (change : Value → Value) (k : ℕ) → changed_slot n change k empty_slot ≡ empty_slot
nothing_changed n change k = go (nat_eq k n)
  where
    go : (b : Bool) → cond b (record { value = option_map change None; unknowns = [] }) empty_slot ≡ empty_slot
    go true = refl
    go false = refl

-- A VALUE WRITTEN OVER

module _ (schema : Schema) (T : ℕ) (es : Entries) (checked : schema_valid schema ≡ true) (w : WellStored (ContentOf schema T es)) where
  module _ (n : ℕ) (f : Field) (v : Value) (change : Value → Value) (found : field_of (known schema T) n ≡ Some f) (there : value_at n es ≡ Some v) where
    sibling_absent : (m : ℕ) (o : Option Value) → value_at m es ≡ o → is_sibling (known schema T) f m ≡ true → o ≡ None
    sibling_absent m None e s = refl
    sibling_absent m (Some x) e s = absurd (members_apart (known schema T) es (known_differ schema T checked) w.members n m f v x found s there e)

    same_slot : (m : ℕ) (b : Bool) → nat_eq m n ≡ b → (s : Bool) → is_sibling (known schema T) f m ≡ s
        → cond b (with_value (Some (change v)) (slot_at es m)) (cond s (with_value None (slot_at es m)) (slot_at es m)) ≡ cond b (record { value = option_map change (value_at m es); unknowns = (slot_at es m).unknowns }) (slot_at es m)
    same_slot m true e s h = slots_same _ _ (ap (option_map change) (sym there ∙ ap (λ k. value_at k es) (sym (eqb-true m n e)))) refl
    same_slot m false e true h = slots_same _ _ (sym (sibling_absent m (value_at m es) refl h)) refl
    same_slot m false e false h = refl

    pub written_over : with_field_value (known schema T) f (Some (change v)) es ≡ changed_at n change es
    written_over =
        table_same (λ m. cond (nat_eq m f.number) (with_value (Some (change v)) (slot_at es m)) (cond (is_sibling (known schema T) f m) (with_value None (slot_at es m)) (slot_at es m))) (λ m. changed_slot n change m (slot_at es m)) (insert_number f.number (numbers_in es))
        (λ m. ap (λ k. cond (nat_eq m k) (with_value (Some (change v)) (slot_at es m)) (cond (is_sibling (known schema T) f m) (with_value None (slot_at es m)) (slot_at es m))) (field_number (known schema T) n f found) ∙ same_slot m (nat_eq m n) refl (is_sibling (known schema T) f m) refl)
        ∙ one_more (λ m. changed_slot n change m (slot_at es m)) f.number es (λ k out. ap (changed_slot n change k) (slot_outside es k out) ∙ nothing_changed n change k)
        ∙ sym (changed_table n change (slot_at es) (numbers_in es))
        ∙ ap (changed_at n change) (rebuilt es w.order)

  -- NOTHING TO CLEAR
  none_there : (n m : ℕ) → value_at n es ≡ None → (b : Bool) → nat_eq m n ≡ b → cond b (with_value None (slot_at es m)) (slot_at es m) ≡ slot_at es m
  none_there n m none true e = slots_same _ _ (sym (ap (λ k. value_at k es) (eqb-true m n e) ∙ none)) refl
  none_there n m none false e = refl

  pub cleared_none : (n : ℕ) → value_at n es ≡ None → clear_field n es ≡ es
  cleared_none n none =
      table_same (λ m. cond (nat_eq m n) (with_value None (slot_at es m)) (slot_at es m)) (slot_at es) (insert_number n (numbers_in es)) (λ m. none_there n m none (nat_eq m n) refl)
      ∙ one_more (slot_at es) n es (slot_outside es)
      ∙ rebuilt es w.order

-- NOTHING TO GO THROUGH

module _ (F : Content → Content) where
  -- a value that says nothing has no message
  empty_through : (f : Field) (v : Value) → is_field_default f (kept_inside v) ≡ true → in_messages F v ≡ v
  empty_through f (ScalarValue v) h = refl
  empty_through f (MessageValue c) h = absurd (go (is_singular f.form) h)
    where
      go : (b : Bool) → (b && false) ≡ true → ⊥
      go true h = true≢false (sym h)
      go false h = true≢false (sym h)
  empty_through f (ListValue NoValues) h = refl
  empty_through f (ListValue (Item v vs)) h = absurd (go (is_singular f.form) h)
    where
      go : (b : Bool) → (b && false) ≡ true → ⊥
      go true h = true≢false (sym h)
      go false h = true≢false (sym h)
  empty_through f (MapValue NoPairs) h = refl
  empty_through f (MapValue (Pair k v ps)) h = absurd (go (is_singular f.form) h)
    where
      go : (b : Bool) → (b && false) ≡ true → ⊥
      go true h = true≢false (sym h)
      go false h = true≢false (sym h)

  unkept_through : (o : Option Field) (v : Value) → is_some (kept_value o (kept_inside v)) ≡ false → in_messages F v ≡ v
  unkept_through None v h = absurd (true≢false h)
  unkept_through (Some f) v h = go (is_field_default f (kept_inside v)) refl h
    where
      go : (b : Bool) → is_field_default f (kept_inside v) ≡ b → is_some (cond b None (Some (kept_inside v))) ≡ false → in_messages F v ≡ v
      go true e h = empty_through f v e
      go false e h = absurd (true≢false h)

  module _ (n : ℕ) (fields : List Field) where
    pub not_had : (es : Entries) → is_some (value_at n (kept_entries fields es)) ≡ false → changed_at n (in_messages F) es ≡ es
    not_had NoEntries h = refl
    not_had (Unknown m p es) h = ap (Unknown m p) (not_had es h)
    not_had (Stored m v es) h = go (nat_eq m n) refl (kept_value (field_of fields m) (kept_inside v)) refl h (not_had es)
      where
        go : (b : Bool) → nat_eq m n ≡ b → (o : Option Value) → kept_value (field_of fields m) (kept_inside v) ≡ o → is_some (value_at n (then_value m o (kept_entries fields es))) ≡ false
            → (is_some (value_at n (kept_entries fields es)) ≡ false → changed_at n (in_messages F) es ≡ es) → Stored m (cond b (in_messages F v) v) (changed_at n (in_messages F) es) ≡ Stored m v es
        go true e None k h more = λ i. Stored m (unkept_through (field_of fields m) v (ap is_some k) i) (more h i)
        go true e (Some x) k h more = absurd (true≢false (ap (λ b. is_some (cond b (Some x) (value_at n (kept_entries fields es)))) (sym e) ∙ h))
        go false e None k h more = ap (Stored m v) (more h)
        go false e (Some x) k h more = ap (Stored m v) (more (ap (λ b. is_some (cond b (Some x) (value_at n (kept_entries fields es)))) (sym e) ∙ h))

-- what is had is stored
pub had_stored : (n : ℕ) (fields : List Field) (es : Entries) → is_some (value_at n (kept_entries fields es)) ≡ true → (v : Value) × (value_at n es ≡ Some v)
had_stored n fields NoEntries h = absurd (true≢false (sym h))
had_stored n fields (Unknown m p es) h = had_stored n fields es h
had_stored n fields (Stored m v es) h = go (nat_eq m n) refl (kept_value (field_of fields m) (kept_inside v)) h (had_stored n fields es)
  where
    go : (b : Bool) → nat_eq m n ≡ b → (o : Option Value) → is_some (value_at n (then_value m o (kept_entries fields es))) ≡ true → (is_some (value_at n (kept_entries fields es)) ≡ true → (x : Value) × (value_at n es ≡ Some x)) → (x : Value) × (cond b (Some v) (value_at n es) ≡ Some x)
    go true e o h more = (v, refl)
    go false e None h more = more h
    go false e (Some x) h more = more (ap (λ b. is_some (cond b (Some x) (value_at n (kept_entries fields es)))) (sym e) ∙ h)

-- WHAT STANDS AT A NUMBER IS SOUND

pub sound_at : (schema : Schema) (fields : List Field) (n : ℕ) (v : Value) (es : Entries) → SoundEntries schema fields es → value_at n es ≡ Some v → SoundValue schema (kind_for (field_of fields n) v) v
sound_at schema fields n v NoEntries s h = absurd cc
sound_at schema fields n v (Unknown m p es) s h = sound_at schema fields n v es (unknown_behind schema fields m p es s) h
sound_at schema fields n v (Stored m x es) s h = go (nat_eq m n) refl h (front_parts schema fields m x es s).value (sound_at schema fields n v es (front_parts schema fields m x es s).behind)
  where
    go : (b : Bool) → nat_eq m n ≡ b → cond b (Some x) (value_at n es) ≡ Some v → SoundValue schema (kind_for (field_of fields m) x) x → (value_at n es ≡ Some v → SoundValue schema (kind_for (field_of fields n) v) v) → SoundValue schema (kind_for (field_of fields n) v) v
    go true e h one more = subst (λ y. SoundValue schema (kind_for (field_of fields n) y) y) (ap (λ (o : Option Value). elim o [ None ↦ x | Some y ↦ y ]) h) (subst (λ k. SoundValue schema (kind_for (field_of fields k) x) x) (eqb-true m n e) one)
    go false e h one more = more h

-- IN CONTENTS

-- the value at a number, written over by itself with its messages changed
pub through_first : (c : Content) (n : ℕ) (F : Content → Content) (f : Field) (v : Value) → schema_valid (schema_of c) ≡ true → WellStored c → field_of (known (schema_of c) (type_of c)) n ≡ Some f → value_at n (entries_of c) ≡ Some v
    → value_set n (in_messages F v) c ≡ in_entries (changed_at n (in_messages F)) c
through_first (ContentOf schema T es) n F f v checked w found there =
    ap (λ (o : Option Field). ContentOf schema T (elim o [ None ↦ es | Some f ↦ with_field_value (known schema T) f (Some (in_messages F v)) es ])) found
    ∙ ap (ContentOf schema T) (written_over schema T es checked w n f v (in_messages F) found there)

pub through_none : (c : Content) (n : ℕ) (F : Content → Content) → has_at n c ≡ false → in_entries (changed_at n (in_messages F)) c ≡ c
through_none (ContentOf schema T es) n F none = ap (ContentOf schema T) (not_had F n (known schema T) es none)

pub last_none : (c : Content) (n : ℕ) → schema_valid (schema_of c) ≡ true → WellStored c → value_at n (entries_of c) ≡ None → value_cleared n c ≡ c
last_none (ContentOf schema T es) n checked w none = ap (ContentOf schema T) (cleared_none schema T es checked w n none)

pub had_at_first : (c : Content) (n : ℕ) → has_at n c ≡ true → (v : Value) × (value_at n (entries_of c) ≡ Some v)
had_at_first (ContentOf schema T es) n h = had_stored n (known schema T) es h

pub had_not : (c : Content) (n : ℕ) → value_at n (entries_of c) ≡ None → has_at n c ≡ false
had_not c n none = go (has_at n c) refl
  where
    go : (b : Bool) → has_at n c ≡ b → b ≡ false
    go true h = let (v, there) = had_at_first c n h in absurd (none-some v (sym none ∙ there))
    go false h = refl

-- what stands at a number of a content is sound
pub sound_in : (c : Content) (n : ℕ) (v : Value) → WellStored c → value_at n (entries_of c) ≡ Some v → SoundValue (schema_of c) (kind_for (field_of (known (schema_of c) (type_of c)) n) v) v
sound_in (ContentOf schema T es) n v w there = sound_at schema (known schema T) n v es (record { fits = w.fits; types = w.types; order = w.order; members = w.members }) there

-- a value stands at a known number alone
unknown_absent : (fields : List Field) (n : ℕ) (es : Entries) → entries_pass fit_test fields es ≡ true → field_of fields n ≡ None → value_at n es ≡ None
unknown_absent fields n NoEntries h none = refl
unknown_absent fields n (Unknown m p es) h none = unknown_absent fields n es (and_parts (unknown_fits (field_of fields m) m p) (entries_pass fit_test fields es) h).1 none
unknown_absent fields n (Stored m v es) h none =
    let (fit, fits) = and_parts (passes (field_of fields m) (λ f. value_valid f v) && value_passes fit_test v) (entries_pass fit_test fields es) h in
    go (nat_eq m n) refl (and_parts (passes (field_of fields m) (λ f. value_valid f v)) (value_passes fit_test v) fit).0 (unknown_absent fields n es fits none)
  where
    go : (b : Bool) → nat_eq m n ≡ b → passes (field_of fields m) (λ f. value_valid f v) ≡ true → value_at n es ≡ None → cond b (Some v) (value_at n es) ≡ None
    go true e valid more = absurd (true≢false (sym valid ∙ ap (λ o. passes o (λ f. value_valid f v)) (ap (field_of fields) (eqb-true m n e) ∙ none)))
    go false e valid more = more

pub none_at_unknown : (c : Content) (n : ℕ) → WellStored c → field_of (known (schema_of c) (type_of c)) n ≡ None → value_at n (entries_of c) ≡ None
none_at_unknown (ContentOf schema T es) n w none = unknown_absent (known schema T) n es w.fits none

pub known_at_value : (c : Content) (n : ℕ) (v : Value) → WellStored c → value_at n (entries_of c) ≡ Some v → (f : Field) × (field_of (known (schema_of c) (type_of c)) n ≡ Some f)
known_at_value c n v w there = go (field_of (known (schema_of c) (type_of c)) n) refl
  where
    go : (o : Option Field) → field_of (known (schema_of c) (type_of c)) n ≡ o → (f : Field) × (o ≡ Some f)
    go None e = absurd (none-some v (sym (none_at_unknown c n w e) ∙ there))
    go (Some f) e = (f, refl)
