-- A record read into a content that holds: a scalar where its field's value is set, a record that stays unknown where it is added.
use Rattle.std.specs.Prelude.{◌≡◌, ◌<◌, ◌≤◌, ◌^◌, ◌&&◌, ◌∷◌, ◌++◌}
use Rattle.prost_reflect_laws.proofs.Common.{ℕ, Bool, true, false, cond, List, [], nat_eq, nat_le, Option, Some, None, refl, ap, sym, ◌∙◌, subst, true≢false, arith, WireType, AreBytes, Payload, Flat, Group, payload_valid, ValueFront, PayloadFront, Scalar, ScalarKind, is_undeclared, scalar_valid, ScalarOf, Singular, Field, Schema, known, field_of, is_sibling, is_singular, numbers_differ, schema_valid, passes, ContentOf, Entries, Value, ScalarValue, Slot, value_at, unknowns_at, slot_at, insert_number, numbers_in, changed, entries_ordered, fit_test, value_valid, kind_takes, unknown_fits, is_whole_stray, value_passes, entries_pass, ValueStored, WellStored, record_allowed, stray_levels, unknown_levels, record_at, with_value, with_stored, with_unknown, ScalarRead, Step, lt-ltb, le-leb, and_from, bytes_front, field_number, empty_slot, eqb-sym, insert_ascending, entries_ascending, UnknownBack}
use Rattle.prost_reflect_laws.proofs.SpelledValid.{spelled_plain_valid, spelled_valid}
use Rattle.prost_reflect_laws.proofs.Arranged.{OrderedOption, table_ordered}
use Rattle.prost_reflect_laws.proofs.Slotwise.{slot_changed}
use Rattle.prost_reflect_laws.proofs.StoredSteps.{Known, value_in_order}
use Rattle.prost_reflect_laws.proofs.StoredPasses.{OptionPasses, SlotPasses, passes_slots}
use Rattle.prost_reflect_laws.proofs.RecordReads.{scalar_record, unknown_record, unknown_allowed, scalar_read_fits, still_empty}
use Rattle.prost_reflect_laws.proofs.Slots.{siblings_mutual}
use Rattle.prost_reflect_laws.proofs.StoredSound.{value_sound, unknown_sound}
use Rattle.prost_reflect_laws.proofs.Values.{unknown_back, stray_back}
use Rattle.prost_reflect_laws.proofs.Checked.{known_valid}
use Rattle.prost_reflect_laws.proofs.Allowed.{inside, unknown_within}

-- values that fit stand at known numbers
pub known_values : (fields : List Field) (es : Entries) → entries_pass fit_test fields es ≡ true → Known fields es
known_values fields es h m none = go (value_at m es) refl
  where
    own : ℕ → Value → Bool
    own n v = passes (field_of fields n) (λ f. value_valid f v)

    at : SlotPasses fit_test fields own m (slot_at es m)
    at = passes_slots fit_test fields own (record { same = λ n v es. refl }) es m h

    go : (o : Option Value) → value_at m es ≡ o → o ≡ None
    go None e = refl
    go (Some v) e = absurd (true≢false (sym (subst (λ o. OptionPasses fit_test fields own m o) e at.value) ∙ ap (λ o. passes o (λ f. value_valid f v) && value_passes fit_test v) none))

-- a change that keeps values in order keeps entries in order
pub changed_ordered : (n : ℕ) (change : ℕ → Slot → Slot) (es : Entries) → ((m : ℕ) → OrderedOption (change m (slot_at es m)).value) → entries_ordered (changed n change es) ≡ true
changed_ordered n change es h = table_ordered (λ m. change m (slot_at es m)) 0 (insert_number n (numbers_in es)) (insert_ascending n 0 (numbers_in es) (entries_ascending es) (omega arith)) h

-- what is read behind a key has a spelling
pub payload_front_valid : (n : ℕ) (p : Payload) (bytes rest : List ℕ) → AreBytes bytes → PayloadFront n p bytes rest → payload_valid p ≡ true
payload_front_valid n (Flat p) bytes rest small f = spelled_plain_valid p f.front (bytes_front f.front rest (subst AreBytes f.parts small)) f.spelled
payload_front_valid n (Group inside) bytes rest small f = let g = f.records in spelled_valid inside g.front (bytes_front g.front f.end (subst AreBytes g.parts small)) g.spelled

-- a scalar that a field takes
pub scalar_stored : (schema : Schema) (f : Field) (kind : ScalarKind) (v : Scalar) → f.form ≡ Singular → f.value_type.kind ≡ ScalarOf kind → scalar_valid kind v ≡ true → ValueStored schema f (ScalarValue v)
scalar_stored schema f kind v form is fits = record { valid = and_from _ _ (ap is_singular form) (ap (λ k. kind_takes k v) is ∙ fits); fits = refl; types = tt; order = refl; members = refl }

-- the slots where a record that stays unknown was added
pub added_slots : (es : Entries) (n : ℕ) (p : Payload) (m : ℕ) → slot_at (changed n (with_unknown n p) es) m ≡ with_unknown n p m (slot_at es m)
added_slots es n p m = slot_changed n m (with_unknown n p) es (λ k apart. still (nat_eq k n) (eqb-sym k n ∙ apart))
  where
    still : (b : Bool) → b ≡ false → cond b (record { value = None; unknowns = [] ++ (p ∷ []) }) empty_slot ≡ empty_slot
    still true e = absurd (true≢false e)
    still false e = refl

pub added_ordered : (es : Entries) (n : ℕ) (p : Payload) → entries_ordered es ≡ true → entries_ordered (changed n (with_unknown n p) es) ≡ true
added_ordered es n p order = changed_ordered n (with_unknown n p) es (λ m. each m (nat_eq m n))
  where
    each : (m : ℕ) (b : Bool) → OrderedOption (cond b (record { value = value_at m es; unknowns = unknowns_at m es ++ (p ∷ []) }) (slot_at es m)).value
    each m true = value_in_order m es order
    each m false = value_in_order m es order

module _ (schema : Schema) (T : ℕ) (es : Entries) (differ : numbers_differ (known schema T) ≡ true) (sound : WellStored (ContentOf schema T es)) where
  -- a scalar's value set
  scalar_at_number : (k : ℕ) (f : Field) (kind : ScalarKind) (w : WireType) (v : Scalar) (bytes rest : List ℕ) → field_of (known schema T) f.number ≡ Some f → f.form ≡ Singular → f.value_type.kind ≡ ScalarOf kind →
      (read : ScalarRead kind w v bytes rest) → is_undeclared kind (Flat read.plain) ≡ false → AreBytes bytes → Step k f.number w (ContentOf schema T es) (ContentOf schema T (changed f.number (with_stored (known schema T) f (ScalarValue v)) es)) bytes rest
  scalar_at_number k f kind w v bytes rest found form is read declared small = record {
    read = scalar_record schema k T es (changed f.number change es) f.number f kind w v bytes rest read declared found form is (λ m g at apart. siblings_mutual (known schema T) f differ found m g at) (known_values (known schema T) es sound.fits) sound.order ordered slots;
    holds = record { schema = refl; type = refl; sound = value_sound schema T es (changed f.number change es) f (ScalarValue v) differ found (scalar_stored schema f kind v form is (scalar_read_fits kind w v bytes rest read declared small)) ordered slots sound };
  }
    where
      change : ℕ → Slot → Slot
      change = with_stored (known schema T) f (ScalarValue v)

      slots : (m : ℕ) → slot_at (changed f.number (with_stored (known schema T) f (ScalarValue v)) es) m ≡ with_stored (known schema T) f (ScalarValue v) m (slot_at es m)
      slots m = slot_changed f.number m (with_stored (known schema T) f (ScalarValue v)) es (λ k apart. still_empty v (nat_eq k f.number) (eqb-sym k f.number ∙ apart) (is_sibling (known schema T) f k))

      each : (m : ℕ) (b c : Bool) → OrderedOption (cond b (with_value (Some (ScalarValue v)) (slot_at es m)) (cond c (with_value None (slot_at es m)) (slot_at es m))).value
      each m true c = refl
      each m false true = tt
      each m false false = value_in_order m es sound.order

      ordered : entries_ordered (changed f.number (with_stored (known schema T) f (ScalarValue v)) es) ≡ true
      ordered = changed_ordered f.number (with_stored (known schema T) f (ScalarValue v)) es (λ m. each m (nat_eq m f.number) (is_sibling (known schema T) f m))

  -- a scalar at the number of its field
  pub scalar_holds : (k n : ℕ) (f : Field) (kind : ScalarKind) (w : WireType) (v : Scalar) (bytes rest : List ℕ) → field_of (known schema T) n ≡ Some f → f.form ≡ Singular → f.value_type.kind ≡ ScalarOf kind →
      (read : ScalarRead kind w v bytes rest) → is_undeclared kind (Flat read.plain) ≡ false → AreBytes bytes → Step k n w (ContentOf schema T es) (ContentOf schema T (changed f.number (with_stored (known schema T) f (ScalarValue v)) es)) bytes rest
  scalar_holds k n f kind w v bytes rest found form is read declared small =
      let number : f.number ≡ n = field_number (known schema T) n f found in
      subst (λ m. Step k m w (ContentOf schema T es) (ContentOf schema T (changed f.number (with_stored (known schema T) f (ScalarValue v)) es)) bytes rest) number
      (scalar_at_number k f kind w v bytes rest (ap (field_of (known schema T)) number ∙ found) form is read declared small)

  -- a record added that stays unknown
  beside_holds : (k n : ℕ) (w : WireType) (p : Payload) (bytes rest : List ℕ) → record_allowed k (inside schema k) (known schema T) (record_at n p) ≡ true → UnknownBack (known schema T) n p → unknown_fits (field_of (known schema T) n) n p ≡ true →
      ValueFront n w k p bytes rest → Step k n w (ContentOf schema T es) (ContentOf schema T (changed n (with_unknown n p) es)) bytes rest
  beside_holds k n w p bytes rest allowed back fits front = record {
    read = unknown_record schema k T es (changed n (with_unknown n p) es) n w p bytes rest front allowed back (known_values (known schema T) es sound.fits) sound.order (added_ordered es n p sound.order) (added_slots es n p);
    holds = record { schema = refl; type = refl; sound = unknown_sound schema T es (changed n (with_unknown n p) es) n p differ fits (added_ordered es n p sound.order) (added_slots es n p) sound };
  }

  -- at a number that is not known
  pub unknown_holds : (k n : ℕ) (w : WireType) (p : Payload) (bytes rest : List ℕ) → field_of (known schema T) n ≡ None → 1 ≤ n → n < 2 ^ 29 → AreBytes bytes → ValueFront n w k p bytes rest →
      Step k n w (ContentOf schema T es) (ContentOf schema T (changed n (with_unknown n p) es)) bytes rest
  unknown_holds k n w p bytes rest absent some below small front = beside_holds k n w p bytes rest (unknown_allowed schema k T n p absent front.within) (unknown_back (known schema T) n p absent)
      (ap (λ o. unknown_fits o n p) absent ∙ and_from _ _ (and_from _ _ (lt-ltb 0 n some) (lt-ltb n (2 ^ 29) below)) (payload_front_valid n p bytes rest small front.front)) front

  -- at the number of a field, where it stays whole as a stray
  pub stray_holds : (k n : ℕ) (f : Field) (w : WireType) (p : Payload) (bytes rest : List ℕ) → schema_valid schema ≡ true → field_of (known schema T) n ≡ Some f → is_whole_stray f.form f.value_type p ≡ true → stray_levels f.form p ≤ k → AreBytes bytes →
      ValueFront n w k p bytes rest → Step k n w (ContentOf schema T es) (ContentOf schema T (changed n (with_unknown n p) es)) bytes rest
  stray_holds k n f w p bytes rest valid found whole within small front = beside_holds k n w p bytes rest
      (unknown_within (inside schema k) schema (known schema T) k n p (known_valid schema T valid) fits ∙ ap (λ o. nat_le (unknown_levels o p) k) found ∙ le-leb (stray_levels f.form p) k within)
      (stray_back (known schema T) n f p found whole) fits front
    where
      fits : unknown_fits (field_of (known schema T) n) n p ≡ true
      fits = ap (λ o. unknown_fits o n p) found ∙ and_from _ _ (payload_front_valid n p bytes rest small front.front) whole
