-- A scalar's record, and one that stays unknown, read into what a message stores.
use Rattle.std.specs.Prelude.{◌≡◌, ◌∷◌, ◌++◌, ◌≤◌}
use Rattle.prost_reflect_laws.proofs.Common.{ℕ, Bool, true, false, cond, List, [], nat_eq, nat_le, Some, None, refl, ap, sym, ◌∙◌, subst, arith, true≢false, le-leb, and_from, is_some, WireType, AreBytes, Record, Payload, Flat, payload_levels, ValueFront, Scalar, ScalarKind, is_undeclared, scalar_valid, ScalarOf, Singular, Field, Schema, known, field_of, is_sibling, ContentOf, Entries, Value, ScalarValue, slot_at, entries_ordered, allows, record_allowed, field_allowed, one_allowed, step_by, steps, record_at, kept, with_value, with_stored, with_unknown, RecordRead, ScalarRead, field_number, empty_slot, eqb-sym, bytes_front, UnknownBack}
use Rattle.prost_reflect_laws.proofs.Allowed.{inside, allows_inside}
use Rattle.prost_reflect_laws.proofs.Means.{below, further}
use Rattle.prost_reflect_laws.proofs.Declared.{read_valid}
use Rattle.prost_reflect_laws.proofs.SpelledValid.{spelled_plain_valid}
use Rattle.prost_reflect_laws.proofs.StoredSteps.{Mutual, Known, scalar_step, unknown_step, kept_step}
use Rattle.prost_reflect_laws.proofs.Readings.{steps_level, steps_one}

-- one record alone
pub one_allowed_record : (schema : Schema) (k T : ℕ) (r : Record) → record_allowed k (inside schema k) (known schema T) r ≡ true → allows schema k T (r ∷ []) ≡ true
one_allowed_record schema k T r h = allows_inside schema k T (r ∷ []) ∙ and_from _ _ h refl

-- one record of a field
pub allowed_record : (schema : Schema) (k T : ℕ) (f : Field) (p : Payload) → field_of (known schema T) f.number ≡ Some f → field_allowed k (inside schema k) f.form f.value_type p ≡ true → allows schema k T (record_at f.number p ∷ []) ≡ true
allowed_record schema k T f p found h =
    one_allowed_record schema k T (record_at f.number p) (ap (λ o. elim o [ None ↦ nat_le (payload_levels p) k | Some g ↦ field_allowed k (inside schema k) g.form g.value_type p ]) found ∙ h)

pub one_step : (schema : Schema) (k T : ℕ) (es ds : Entries) (r : Record) → step_by (below schema k) (further k) (kept (ContentOf schema T es)) r ≡ kept (ContentOf schema T ds) →
    kept (ContentOf schema T ds) ≡ steps k (kept (ContentOf schema T es)) (r ∷ [])
one_step schema k T es ds r h = sym (steps_one k (kept (ContentOf schema T es)) [] r ∙ ap (λ c. step_by (below schema k) (further k) c r) (steps_level k (kept (ContentOf schema T es)) []) ∙ h)

abbrev Changed : List Field → Field → Value → Entries → Entries → Type 0
Changed fields f v es ds = (m : ℕ) → slot_at ds m ≡ with_stored fields f v m (slot_at es m)

-- storing at one number leaves an empty slot at another
pub still_empty : (v : Scalar) (b : Bool) → b ≡ false → (c : Bool) → cond b (with_value (Some (ScalarValue v)) empty_slot) (cond c (with_value None empty_slot) empty_slot) ≡ empty_slot
still_empty v true e c = absurd (true≢false e)
still_empty v false e true = refl
still_empty v false e false = refl

scalar_itself : (schema : Schema) (k T : ℕ) (es ds : Entries) (f : Field) (kind : ScalarKind) (w : WireType) (v : Scalar) (bytes rest : List ℕ) → (read : ScalarRead kind w v bytes rest) → is_undeclared kind (Flat read.plain) ≡ false →
    field_of (known schema T) f.number ≡ Some f → f.form ≡ Singular → f.value_type.kind ≡ ScalarOf kind → Mutual (known schema T) f → Known (known schema T) es → entries_ordered es ≡ true → entries_ordered ds ≡ true →
    Changed (known schema T) f (ScalarValue v) es ds → RecordRead k f.number w (ContentOf schema T es) (ContentOf schema T ds) bytes rest
scalar_itself schema k T es ds f kind w v bytes rest read declared found form is fellows values o q slots = record {
  payload = p;
  value = record { wire = read.wire; front = read.front; within = omega arith };
  allowed = one_allowed_record schema k T (record_at f.number p)
      (ap (λ o. elim o [ None ↦ nat_le (payload_levels p) k | Some g ↦ field_allowed k (inside schema k) g.form g.value_type p ]) found
      ∙ ap (λ form. field_allowed k (inside schema k) form f.value_type p) form
      ∙ ap (λ kind. one_allowed (inside schema k) kind p) is
      ∙ ap is_some read.value);
  means = one_step schema k T es ds (record_at f.number p)
      (kept_step (below schema k) (further k) schema T es ds (record_at f.number p) (with_stored (known schema T) f (ScalarValue v)) o q slots
      (λ m slot absent. scalar_step (below schema k) (further k) (known schema T) f kind p v m slot (record { found = found; form = form; kind_is = is; declared = declared; read = read.value }) fellows absent)
      (λ m apart. still_empty v (nat_eq m f.number) (eqb-sym m f.number ∙ apart) (is_sibling (known schema T) f m)) values);
}
  where
    p : Payload
    p = Flat read.plain

-- a scalar's record is read where its value was stored
pub scalar_record : (schema : Schema) (k T : ℕ) (es ds : Entries) (n : ℕ) (f : Field) (kind : ScalarKind) (w : WireType) (v : Scalar) (bytes rest : List ℕ) → (read : ScalarRead kind w v bytes rest) → is_undeclared kind (Flat read.plain) ≡ false →
    field_of (known schema T) n ≡ Some f → f.form ≡ Singular → f.value_type.kind ≡ ScalarOf kind → Mutual (known schema T) f → Known (known schema T) es → entries_ordered es ≡ true → entries_ordered ds ≡ true →
    Changed (known schema T) f (ScalarValue v) es ds → RecordRead k n w (ContentOf schema T es) (ContentOf schema T ds) bytes rest
scalar_record schema k T es ds n f kind w v bytes rest read declared found form is fellows values o q slots =
    let number : f.number ≡ n = field_number (known schema T) n f found in
    subst (λ m. RecordRead k m w (ContentOf schema T es) (ContentOf schema T ds) bytes rest) number
    (scalar_itself schema k T es ds f kind w v bytes rest read declared (ap (field_of (known schema T)) number ∙ found) form is fellows values o q slots)

-- a record that stays unknown is read where it was added
pub unknown_record : (schema : Schema) (k T : ℕ) (es ds : Entries) (n : ℕ) (w : WireType) (p : Payload) (bytes rest : List ℕ) → ValueFront n w k p bytes rest →
    record_allowed k (inside schema k) (known schema T) (record_at n p) ≡ true → UnknownBack (known schema T) n p → Known (known schema T) es → entries_ordered es ≡ true → entries_ordered ds ≡ true →
    ((m : ℕ) → slot_at ds m ≡ with_unknown n p m (slot_at es m)) → RecordRead k n w (ContentOf schema T es) (ContentOf schema T ds) bytes rest
unknown_record schema k T es ds n w p bytes rest front allowed back values o q slots = record {
  payload = p;
  value = front;
  allowed = one_allowed_record schema k T (record_at n p) allowed;
  means = one_step schema k T es ds (record_at n p)
      (kept_step (below schema k) (further k) schema T es ds (record_at n p) (with_unknown n p) o q slots
      (λ m slot absent. unknown_step (below schema k) (further k) (known schema T) n p m slot back absent)
      (λ m apart. still (nat_eq m n) (eqb-sym m n ∙ apart)) values);
}
  where
    still : (b : Bool) → b ≡ false → cond b (record { value = None; unknowns = [] ++ (p ∷ []) }) empty_slot ≡ empty_slot
    still true e = absurd (true≢false e)
    still false e = refl

-- an unknown number takes what nests within the levels
pub unknown_allowed : (schema : Schema) (k T n : ℕ) (p : Payload) → field_of (known schema T) n ≡ None → payload_levels p ≤ k → record_allowed k (inside schema k) (known schema T) (record_at n p) ≡ true
unknown_allowed schema k T n p none within =
    ap (λ o. elim o [ None ↦ nat_le (payload_levels p) k | Some g ↦ field_allowed k (inside schema k) g.form g.value_type p ]) none ∙ le-leb (payload_levels p) k within

-- WHAT IS STORED FITS

pub scalar_read_fits : (kind : ScalarKind) (w : WireType) (v : Scalar) (bytes rest : List ℕ) → (read : ScalarRead kind w v bytes rest) → is_undeclared kind (Flat read.plain) ≡ false → AreBytes bytes → scalar_valid kind v ≡ true
scalar_read_fits kind w v bytes rest read declared h = let f = read.front in
    read_valid kind (Flat read.plain) v (spelled_plain_valid read.plain f.front (bytes_front f.front rest (subst AreBytes f.parts h)) f.spelled) declared read.value
