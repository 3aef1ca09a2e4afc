-- Descriptor records can be read back.
use Rattle.std.specs.Prelude.{◌≡◌, ◌≤◌, ◌<◌, ◌^◌, ◌&&◌, ◌∷◌}
use Rattle.prost_reflect_proto.proofs.Common.{ℕ, Bool, true, not, List, [], length, nat_lt, Option, Some, None, refl, sym, ap, ap₂, ◌∙◌, subst, ⊤, option_map, is_utf8, chars, and_parts, and_from, Field, Schema, known, field_of, is_sibling, passes, schema_valid, Content, ContentOf, Entries, Stored, Value, then_value, comes_before, entries_ordered, LEVEL_LIMIT, decoded, encoded, rows, type_place, field_of_row, record_schema, gathered, entries_gathered, record_decoded, entries_from, record_content, sound_test, RecordSound, ValueSound, FieldSound, FieldKind, RecordType}
use Rattle.prost_reflect_wire.specs.Levels.{levels}
use Rattle.prost_reflect_wire.specs.Typing.{fit_test, alone_test, filled_test, default_test, entries_pass, is_alone, value_valid, is_empty_value, is_stored_default, kind_for, EntriesTyped, ValueTyped, WellTyped}
use Rattle.prost_reflect_laws.specs.Laws.{Writable}
use Rattle.prost_reflect_laws.proofs.Everywhere.{both_tests, both_parts}
use Rattle.prost_reflect_laws.proofs.RoundTrip.{written_decoded}
use Rattle.prost_reflect_laws.proofs.StoredSound.{no_sibling, no_value}
use Rattle.prost_reflect_types.proofs.RecordSlots.{Slots}
use Rattle.prost_reflect_proto.proofs.RecordBytes.{AllFound, SameNumbers, rows_found}

-- ENTRY BY ENTRY

record EntriesSound (fields : List Field) (es : Entries) : Type 0 where
  passes : entries_pass sound_test fields es ≡ true
  types : EntriesTyped record_schema fields es
  order : entries_ordered es ≡ true
  whole : entries_gathered es ≡ es

abbrev above : ℕ → Slots → Bool
above n [] = true
above n (x ∷ xs) = nat_lt n x.0 && above n xs

abbrev ascending : Slots → Bool
ascending [] = true
ascending (x ∷ xs) = above x.0 xs && ascending xs

abbrev FieldsSound : List (ℕ × FieldKind) → Slots → Type 0
FieldsSound [] slots = ⊤
FieldsSound (row ∷ rows) [] = ⊤
FieldsSound (row ∷ rows) (slot ∷ slots) = FieldSound row.1 slot.1 × FieldsSound rows slots

before_rest : (n : ℕ) (xs : Slots) → above n xs ≡ true → comes_before n (entries_from xs) ≡ true
before_rest n [] h = refl
before_rest n (x ∷ xs) h = let (here, more) = and_parts (nat_lt n x.0) (above n xs) h in go x.1 here (before_rest n xs more)
  where
    go : (o : Option Value) → nat_lt n x.0 ≡ true → comes_before n (entries_from xs) ≡ true → comes_before n (then_value x.0 o (entries_from xs)) ≡ true
    go None here more = more
    go (Some v) here more = here

stored_sound : (fields : List Field) (row : ℕ × FieldKind) (n : ℕ) (v : Value) (es : Entries) → field_of fields row.0 ≡ Some (field_of_row row) → row.0 ≡ n → ValueSound row.1 v → sound_test.stored fields n v es ≡ true
stored_sound fields row n v es found same s = subst (λ n. sound_test.stored fields n v es ≡ true) same (
    subst (λ o. (passes o (λ f. value_valid f v) && (is_alone fields o es && (not (passes o (λ f. is_empty_value f.form v)) && not (passes o (λ f. is_stored_default f v))))) ≡ true) (sym found)
    (and_from _ _ s.fits (and_from _ _ (ap not (no_value (is_sibling fields (field_of_row row)) es (λ m. no_sibling fields (field_of_row row) m refl))) (and_from _ _ (ap not s.nonempty) (ap not s.says)))))

first_sound : (fields : List Field) (row : ℕ × FieldKind) (n : ℕ) (o : Option Value) (es : Entries) → field_of fields row.0 ≡ Some (field_of_row row) → row.0 ≡ n → FieldSound row.1 o → comes_before n es ≡ true → EntriesSound fields es → EntriesSound fields (then_value n o es)
first_sound fields row n None es found same s before rest = rest
first_sound fields row n (Some v) es found same s before rest = record {
  passes = and_from _ _ (and_from _ _ (stored_sound fields row n v es found same s) s.passes) rest.passes;
  types = (subst (λ o. ValueTyped record_schema (kind_for o v) v) (sym (ap (field_of fields) (sym same) ∙ found)) s.types, rest.types);
  order = and_from _ _ (and_from _ _ before s.order) rest.order;
  whole = ap₂ (λ (v : Value) (es : Entries). Stored n v es) s.whole rest.whole;
}

all_sound : (fields : List Field) (rows : List (ℕ × FieldKind)) (slots : Slots) → AllFound fields rows → SameNumbers rows slots → ascending slots ≡ true → FieldsSound rows slots → EntriesSound fields (entries_from slots)
all_sound fields [] [] found same up s = record { passes = refl; types = tt; order = refl; whole = refl }
all_sound fields [] (slot ∷ slots) found same up s = absurd same
all_sound fields (row ∷ rows) [] found same up s = absurd same
all_sound fields (row ∷ rows) (slot ∷ slots) found same up s =
    let (here, more) = and_parts (above slot.0 slots) (ascending slots) up in
    first_sound fields row slot.0 slot.1 (entries_from slots) found.0 same.0 s.0 (before_rest slot.0 slots here) (all_sound fields rows slots found.1 same.1 more s.1)

pub record_sound : (t : RecordType) (slots : Slots) → SameNumbers (rows t) slots → ascending slots ≡ true → FieldsSound (rows t) slots → RecordSound t (record_content t slots)
record_sound t slots same up s =
    let es = all_sound (known record_schema (type_place t)) (rows t) slots (rows_found t) same up s in
    record { own_schema = refl; own_type = refl; passes = es.passes; types = es.types; order = es.order; whole = ap (ContentOf record_schema (type_place t)) es.whole }

-- READING BACK

schema_checked : schema_valid record_schema ≡ true
unfolding record_schema is_utf8 chars
schema_checked = refl

well_typed : (t : RecordType) (c : Content) → RecordSound t c → WellTyped c
well_typed t c s =
    let (fits, rest) = both_parts fit_test (both_tests alone_test (both_tests filled_test default_test)) c s.passes in
    let (alone, says) = both_parts alone_test (both_tests filled_test default_test) c rest in
    let (filled, bare) = both_parts filled_test default_test c says in
    record { fitting = record { fits = fits; types = s.types; order = s.order; nonempty = filled }; members = alone; without_stored_defaults = bare }

pub reads_back : (t : RecordType) (c : Content) → RecordSound t c → length (encoded c) < 2 ^ 64 → levels c ≤ LEVEL_LIMIT → record_decoded LEVEL_LIMIT t (encoded c) ≡ Some c
reads_back t c s len low =
    let w : Writable c = record { checked = ap schema_valid s.own_schema ∙ schema_checked; typed = well_typed t c s; length = len } in
    ap₂ (λ (r : Schema) (T : ℕ). option_map gathered (decoded r LEVEL_LIMIT T (encoded c))) (sym s.own_schema) (sym s.own_type)
    ∙ ap (option_map gathered) (written_decoded LEVEL_LIMIT c w low) ∙ ap (λ (c : Content). Some c) s.whole
