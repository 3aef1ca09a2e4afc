-- What is left of a content whose values or unknown records are removed.
use Rattle.std.specs.Prelude.{◌≡◌, ◌∷◌}
use Rattle.prost_reflect_dynamic.proofs.Common.{ℕ, Bool, true, false, cond, nat_eq, List, [], Option, Some, None, refl, ap, sym, subst, ◌∙◌, arith, list_all, and_parts, Payload, Field, Schema, known, field_of, numbers_differ, passes, Content, ContentOf, Entries, NoEntries, Stored, Unknown, Slot, empty, value_at, slot_at, insert_number, numbers_in, table, store, then_value, then_unknowns, schema_of, type_of, entries_of, entries_ordered, kept, kept_entries, kept_inside, kept_value, fit_test, alone_test, value_passes, value_valid, encodable, WellStored, with_value, cleared, Ascending, empty_slot, insert_ascending, entries_ascending, slot_outside, slot_table, OrderedOption, table_ordered, table_passes, members_apart, apart_members, ByItself, OptionPasses, SlotPasses, passes_slots, value_in_order, value_cleared, entries_without, values_taken, in_entries, Arranged, without_unknown, is_listed}
use Rattle.prost_reflect_wire.specs.Content.{Value}
use Rattle.prost_reflect_laws.proofs.StoredSound.{inside_value}
use Rattle.prost_reflect_laws.proofs.StoredTyped.{OptionTyped, typed_values, values_typed}
use Rattle.prost_reflect_dynamic.proofs.ContentChanges.{slot_changed}

abbrev pub fits : List Field → ℕ → Value → Bool
fits fields n v = passes (field_of fields n) (λ f. value_valid f v)

pub fits_by_itself : (fields : List Field) → ByItself fit_test fields (fits fields)
fits_by_itself fields = record { same = λ n v es. refl }

-- NOTHING

pub nothing_sound : (c : Content) (schema : Schema) (T : ℕ) → c ≡ empty schema T → WellStored c
nothing_sound c schema T is = subst WellStored (sym is) (record { fits = refl; types = tt; order = refl; members = refl })

pub cleared_sound : (c d : Content) → c ≡ cleared d → WellStored c
cleared_sound c (ContentOf schema T es) is = nothing_sound c schema T is

-- LESS AT EACH NUMBER

-- The slot has the value of the other one or none, and no further unknown records.
pub record Fewer (new old : Slot) : Type 0 where
  pub value : (v : Value) → new.value ≡ Some v → old.value ≡ Some v
  pub unknowns : (p : Payload → Bool) → list_all p old.unknowns ≡ true → list_all p new.unknowns ≡ true

module _ (schema : Schema) (T : ℕ) (es : Entries) (by : ℕ → Slot) (ns : List ℕ) (fewer : (m : ℕ) → Fewer (by m) (slot_at es m)) where
  pub fewer_fits : encodable (ContentOf schema T es) ≡ true → encodable (ContentOf schema T (table by ns)) ≡ true
  fewer_fits h =
      table_passes fit_test (known schema T) by ns (λ n v ms e. (parts n v e).0) (λ n v e. (parts n v e).1)
      (λ n. let f = fewer n in let s = passed n in f.unknowns (fit_test.unknown (known schema T) n) s.unknowns)
    where
      passed : (n : ℕ) → SlotPasses fit_test (known schema T) (fits (known schema T)) n (slot_at es n)
      passed n = passes_slots fit_test (known schema T) (fits (known schema T)) (fits_by_itself (known schema T)) es n h

      parts : (n : ℕ) (v : Value) → (by n).value ≡ Some v → (fits (known schema T) n v ≡ true) × (value_passes fit_test v ≡ true)
      parts n v e =
          let f = fewer n in
          let s = passed n in
          and_parts (fits (known schema T) n v) (value_passes fit_test v) (subst (OptionPasses fit_test (known schema T) (fits (known schema T)) n) (f.value v e) s.value)

  pub fewer_holds : Ascending 0 ns → ((m : ℕ) → slot_at (table by ns) m ≡ by m) → numbers_differ (known schema T) ≡ true → WellStored (ContentOf schema T es) → WellStored (ContentOf schema T (table by ns))
  fewer_holds ascending slots differ w = record {
    fits = fewer_fits w.fits;
    types = values_typed schema (known schema T) (table by ns) order (λ m. typed m (value_at m (table by ns)) refl);
    order = order;
    members = apart_members (known schema T) (table by ns) order
        (λ i j g v x at s e e'. members_apart (known schema T) es differ w.members i j g v x at s (there i v e) (there j x e'))
        (λ m v e. inside_value alone_test (known schema T) es m v w.members (there m v e));
  }
    where
      there : (m : ℕ) (v : Value) → value_at m (table by ns) ≡ Some v → value_at m es ≡ Some v
      there m v e = let f = fewer m in f.value v (sym (ap (λ (s : Slot). s.value) (slots m)) ∙ e)

      in_order : (m : ℕ) (o : Option Value) → (by m).value ≡ o → OrderedOption o
      in_order m None e = tt
      in_order m (Some v) e = let f = fewer m in subst OrderedOption (f.value v e) (value_in_order m es w.order)

      order : entries_ordered (table by ns) ≡ true
      order = table_ordered by 0 ns ascending (λ m. in_order m (by m).value refl)

      typed : (m : ℕ) (o : Option Value) → value_at m (table by ns) ≡ o → OptionTyped schema (known schema T) m o
      typed m None e = tt
      typed m (Some v) e = subst (OptionTyped schema (known schema T) m) (there m v e) (typed_values schema (known schema T) es m w.types)

-- A slot without its value, or as it is.
abbrev pub cleared_by : Bool → Slot → Slot
cleared_by b slot = cond b (with_value None slot) slot

cleared_fewer : (b : Bool) (slot : Slot) → Fewer (cleared_by b slot) slot
cleared_fewer true slot = record { value = λ v e. cc; unknowns = λ p h. h }
cleared_fewer false slot = record { value = λ v e. e; unknowns = λ p h. h }

still_empty : (b : Bool) (slot : Slot) → slot ≡ empty_slot → cleared_by b slot ≡ empty_slot
still_empty true slot e = ap (with_value None) e
still_empty false slot e = e

-- CLEARING A NUMBER

pub clear_fits : (c : Content) (n : ℕ) → encodable c ≡ true → encodable (value_cleared n c) ≡ true
clear_fits (ContentOf schema T es) n h = fewer_fits schema T es (λ m. cleared_by (nat_eq m n) (slot_at es m)) (insert_number n (numbers_in es)) (λ m. cleared_fewer (nat_eq m n) (slot_at es m)) h

pub clear_holds : (c : Content) (n : ℕ) → numbers_differ (known (schema_of c) (type_of c)) ≡ true → WellStored c → WellStored (value_cleared n c)
clear_holds (ContentOf schema T es) n differ w =
    fewer_holds schema T es (λ m. cleared_by (nat_eq m n) (slot_at es m)) (insert_number n (numbers_in es)) (λ m. cleared_fewer (nat_eq m n) (slot_at es m))
    (insert_ascending n 0 (numbers_in es) (entries_ascending es) (omega arith))
    (λ m. slot_changed n (λ k slot. cleared_by (nat_eq k n) slot) es (λ k apart. still_empty (nat_eq k n) empty_slot refl) m) differ w

-- TAKING VALUES

unknowns_stay : (test : ℕ → Bool) (n : ℕ) (ps : List Payload) (es : Entries) → entries_without test (then_unknowns n ps es) ≡ then_unknowns n ps (entries_without test es)
unknowns_stay test n [] es = refl
unknowns_stay test n (p ∷ ps) es = ap (Unknown n p) (unknowns_stay test n ps es)

abbrev without_slot : Bool → Option Value → Option Value
without_slot b o = cond b None o

store_without : (test : ℕ → Bool) (n : ℕ) (b : Bool) (o : Option Value) (ps : List Payload) (es : Entries) → test n ≡ b → entries_without test (then_value n o (then_unknowns n ps es)) ≡ then_value n (without_slot b o) (then_unknowns n ps (entries_without test es))
store_without test n true None ps es at = unknowns_stay test n ps es
store_without test n false None ps es at = unknowns_stay test n ps es
store_without test n true (Some v) ps es at = ap (λ b. cond b (entries_without test (then_unknowns n ps es)) (Stored n v (entries_without test (then_unknowns n ps es)))) at ∙ unknowns_stay test n ps es
store_without test n false (Some v) ps es at = ap (λ b. cond b (entries_without test (then_unknowns n ps es)) (Stored n v (entries_without test (then_unknowns n ps es)))) at ∙ ap (Stored n v) (unknowns_stay test n ps es)

cleared_stored : (n : ℕ) (b : Bool) (slot : Slot) (es : Entries) → then_value n (without_slot b slot.value) (then_unknowns n slot.unknowns es) ≡ store n (cleared_by b slot) es
cleared_stored n true slot es = refl
cleared_stored n false slot es = refl

table_without : (test : ℕ → Bool) (at : ℕ → Slot) (ns : List ℕ) → entries_without test (table at ns) ≡ table (λ n. cleared_by (test n) (at n)) ns
table_without test at [] = refl
table_without test at (n ∷ ns) =
    store_without test n (test n) (at n).value (at n).unknowns (table at ns) refl
    ∙ cleared_stored n (test n) (at n) (entries_without test (table at ns))
    ∙ ap (store n (cleared_by (test n) (at n))) (table_without test at ns)

module _ (test : ℕ → Bool) (schema : Schema) (T : ℕ) (es : Entries) (a : Arranged es) where
  without_is : entries_without test es ≡ table (λ n. cleared_by (test n) (slot_at es n)) (numbers_in es)
  without_is = ap (entries_without test) (sym a) ∙ table_without test (slot_at es) (numbers_in es)

  pub without_fits : encodable (ContentOf schema T es) ≡ true → encodable (ContentOf schema T (entries_without test es)) ≡ true
  without_fits h = ap (λ ds. encodable (ContentOf schema T ds)) without_is ∙ fewer_fits schema T es (λ n. cleared_by (test n) (slot_at es n)) (numbers_in es) (λ n. cleared_fewer (test n) (slot_at es n)) h

  pub without_holds : numbers_differ (known schema T) ≡ true → WellStored (ContentOf schema T es) → WellStored (ContentOf schema T (entries_without test es))
  without_holds differ w =
      subst (λ ds. WellStored (ContentOf schema T ds)) (sym without_is)
      (fewer_holds schema T es (λ n. cleared_by (test n) (slot_at es n)) (numbers_in es) (λ n. cleared_fewer (test n) (slot_at es n)) (entries_ascending es)
      (λ m. slot_table (λ n. cleared_by (test n) (slot_at es n)) m (numbers_in es) (entries_ascending es) (λ k low out. still_empty (test k) (slot_at es k) (slot_outside es k out))) differ w)

kept_without : (fields : List Field) (test : ℕ → Bool) (es : Entries) → kept_entries fields (entries_without test es) ≡ entries_without test (kept_entries fields es)
kept_without fields test NoEntries = refl
kept_without fields test (Unknown n p es) = ap (Unknown n p) (kept_without fields test es)
kept_without fields test (Stored n v es) = go (test n) refl (kept_without fields test es)
  where
    -- a value at a number that stays, or one at a number that does not
    put : (b : Bool) (o : Option Value) (ds : Entries) → test n ≡ b → entries_without test (then_value n o ds) ≡ cond b (entries_without test ds) (then_value n o (entries_without test ds))
    put true None ds at = refl
    put false None ds at = refl
    put true (Some w) ds at = ap (λ b. cond b (entries_without test ds) (Stored n w (entries_without test ds))) at
    put false (Some w) ds at = ap (λ b. cond b (entries_without test ds) (Stored n w (entries_without test ds))) at

    go : (b : Bool) → test n ≡ b → kept_entries fields (entries_without test es) ≡ entries_without test (kept_entries fields es)
        → kept_entries fields (cond (test n) (entries_without test es) (Stored n v (entries_without test es))) ≡ entries_without test (then_value n (kept_value (field_of fields n) (kept_inside v)) (kept_entries fields es))
    go true at rest =
        ap (λ b. kept_entries fields (cond b (entries_without test es) (Stored n v (entries_without test es)))) at ∙ rest
        ∙ sym (put true (kept_value (field_of fields n) (kept_inside v)) (kept_entries fields es) at)
    go false at rest =
        ap (λ b. kept_entries fields (cond b (entries_without test es) (Stored n v (entries_without test es)))) at ∙ ap (then_value n (kept_value (field_of fields n) (kept_inside v))) rest
        ∙ sym (put false (kept_value (field_of fields n) (kept_inside v)) (kept_entries fields es) at)

pub taken_fits : (x : Bool) (c : Content) → Arranged (entries_of c) → encodable c ≡ true → encodable (values_taken x c) ≡ true
taken_fits x (ContentOf schema T es) a h = without_fits (is_listed x (known schema T)) schema T es a h

pub taken_holds : (x : Bool) (c : Content) → Arranged (entries_of c) → numbers_differ (known (schema_of c) (type_of c)) ≡ true → WellStored c → WellStored (values_taken x c)
taken_holds x (ContentOf schema T es) a differ w = without_holds (is_listed x (known schema T)) schema T es a differ w

pub kept_taken : (x : Bool) (c : Content) → kept (values_taken x c) ≡ values_taken x (kept c)
kept_taken x (ContentOf schema T es) = ap (ContentOf schema T) (kept_without (known schema T) (is_listed x (known schema T)) es)

-- TAKING UNKNOWN RECORDS

abbrev alone_slot : Slot → Slot
alone_slot slot = record { value = slot.value; unknowns = [] }

alone_fewer : (slot : Slot) → Fewer (alone_slot slot) slot
alone_fewer slot = record { value = λ v e. e; unknowns = λ p h. refl }

unknowns_gone : (n : ℕ) (ps : List Payload) (es : Entries) → without_unknown (then_unknowns n ps es) ≡ without_unknown es
unknowns_gone n [] es = refl
unknowns_gone n (p ∷ ps) es = unknowns_gone n ps es

store_alone : (n : ℕ) (o : Option Value) (ps : List Payload) (es : Entries) → without_unknown (then_value n o (then_unknowns n ps es)) ≡ then_value n o (without_unknown es)
store_alone n None ps es = unknowns_gone n ps es
store_alone n (Some v) ps es = ap (Stored n v) (unknowns_gone n ps es)

table_alone : (at : ℕ → Slot) (ns : List ℕ) → without_unknown (table at ns) ≡ table (λ n. alone_slot (at n)) ns
table_alone at [] = refl
table_alone at (n ∷ ns) = store_alone n (at n).value (at n).unknowns (table at ns) ∙ ap (then_value n (at n).value) (table_alone at ns)

module _ (schema : Schema) (T : ℕ) (es : Entries) (a : Arranged es) where
  alone_is : without_unknown es ≡ table (λ n. alone_slot (slot_at es n)) (numbers_in es)
  alone_is = ap without_unknown (sym a) ∙ table_alone (slot_at es) (numbers_in es)

  alone_fits : encodable (ContentOf schema T es) ≡ true → encodable (ContentOf schema T (without_unknown es)) ≡ true
  alone_fits h = ap (λ ds. encodable (ContentOf schema T ds)) alone_is ∙ fewer_fits schema T es (λ n. alone_slot (slot_at es n)) (numbers_in es) (λ n. alone_fewer (slot_at es n)) h

  alone_holds : numbers_differ (known schema T) ≡ true → WellStored (ContentOf schema T es) → WellStored (ContentOf schema T (without_unknown es))
  alone_holds differ w =
      subst (λ ds. WellStored (ContentOf schema T ds)) (sym alone_is)
      (fewer_holds schema T es (λ n. alone_slot (slot_at es n)) (numbers_in es) (λ n. alone_fewer (slot_at es n)) (entries_ascending es)
      (λ m. slot_table (λ n. alone_slot (slot_at es n)) m (numbers_in es) (entries_ascending es) (λ k low out. ap alone_slot (slot_outside es k out))) differ w)

kept_alone : (fields : List Field) (es : Entries) → kept_entries fields (without_unknown es) ≡ without_unknown (kept_entries fields es)
kept_alone fields NoEntries = refl
kept_alone fields (Unknown n p es) = kept_alone fields es
kept_alone fields (Stored n v es) = ap (then_value n (kept_value (field_of fields n) (kept_inside v))) (kept_alone fields es) ∙ sym (store_alone n (kept_value (field_of fields n) (kept_inside v)) [] (kept_entries fields es))

pub unknown_taken_fits : (c : Content) → Arranged (entries_of c) → encodable c ≡ true → encodable (in_entries without_unknown c) ≡ true
unknown_taken_fits (ContentOf schema T es) a h = alone_fits schema T es a h

pub unknown_taken_holds : (c : Content) → Arranged (entries_of c) → numbers_differ (known (schema_of c) (type_of c)) ≡ true → WellStored c → WellStored (in_entries without_unknown c)
unknown_taken_holds (ContentOf schema T es) a differ w = alone_holds schema T es a differ w

pub kept_unknown_taken : (c : Content) → kept (in_entries without_unknown c) ≡ in_entries without_unknown (kept c)
kept_unknown_taken (ContentOf schema T es) = ap (ContentOf schema T) (kept_alone (known schema T) es)
