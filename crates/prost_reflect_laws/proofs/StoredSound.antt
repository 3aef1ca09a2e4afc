-- What storing a value of a field, or an unknown record, keeps of a content.
use Rattle.std.specs.Prelude.{◌≡◌, ◌&&◌, ◌||◌, ◌∷◌, ◌++◌}
use Rattle.prost_reflect_laws.proofs.Common.{ℕ, Bool, true, false, cond, not, List, [], nat_eq, Option, Some, None, refl, ap, ap₂, sym, subst, ◌∙◌, list_any, and_parts, and_from, Payload, Field, Schema, known, field_of, same_oneof, is_sibling, numbers_differ, passes, ContentOf, Entries, NoEntries, Stored, Unknown, Value, Slot, value_at, slot_at, entries_ordered, EntryTest, entries_pass, value_passes, fit_test, alone_test, value_valid, unknown_fits, ValueStored, WellStored, has_value_of, with_value, with_stored, with_unknown}
use Rattle.prost_reflect_laws.proofs.Everywhere.{stored_passes}
use Rattle.prost_reflect_laws.proofs.Slots.{not_own, members_apart, apart_members, alone_changed}
use Rattle.prost_reflect_laws.proofs.StoredPasses.{entries_stored_pass, entries_unknown_pass}
use Rattle.prost_reflect_laws.proofs.StoredTyped.{value_stored_typed, unknown_stored_typed}

no_other : (o : Option ℕ) → same_oneof o None ≡ false
no_other None = refl
no_other (Some a) = refl

-- a field outside oneofs has no siblings
pub no_sibling : (fields : List Field) (f : Field) (n : ℕ) → f.oneof ≡ None → is_sibling fields f n ≡ false
no_sibling fields f n e = ap (λ b. not (nat_eq n f.number) && b) (all fields) ∙ end (not (nat_eq n f.number))
  where
    part : (g : Field) → (nat_eq g.number n && same_oneof g.oneof f.oneof) ≡ false
    part g = ap (λ b. nat_eq g.number n && b) (ap (same_oneof g.oneof) e ∙ no_other g.oneof) ∙ either (nat_eq g.number n)
      where
        either : (b : Bool) → (b && false) ≡ false
        either true = refl
        either false = refl

    all : (gs : List Field) → list_any (λ g. nat_eq g.number n && same_oneof g.oneof f.oneof) gs ≡ false
    all [] = refl
    all (g ∷ gs) = ap₂ ◌||◌ (part g) (all gs)

    end : (b : Bool) → (b && false) ≡ false
    end true = refl
    end false = refl

-- where no number is meant, no value is found
pub no_value : (test : ℕ → Bool) (es : Entries) → ((n : ℕ) → test n ≡ false) → has_value_of test es ≡ false
no_value test NoEntries h = refl
no_value test (Stored n v es) h = ap (λ b. b || has_value_of test es) (h n) ∙ no_value test es h
no_value test (Unknown n p es) h = no_value test es h

-- MEMBERS OF ONEOFS

-- what passes of entries passes in each of their values
pub inside_value : (test : EntryTest) (fields : List Field) (es : Entries) (n : ℕ) (v : Value) → entries_pass test fields es ≡ true → value_at n es ≡ Some v → value_passes test v ≡ true
inside_value test fields NoEntries n v h e = cc
inside_value test fields (Stored m w es) n v h e = let s = stored_passes test fields m w es h in go (nat_eq m n) e s.inside (inside_value test fields es n v s.behind)
  where
    go : (b : Bool) → cond b (Some w) (value_at n es) ≡ Some v → value_passes test w ≡ true → (value_at n es ≡ Some v → value_passes test v ≡ true) → value_passes test v ≡ true
    go true e here more = let same : w ≡ v = cc in subst (λ (x : Value). value_passes test x ≡ true) same here
    go false e here more = more e
inside_value test fields (Unknown m p es) n v h e = inside_value test fields es n v (and_parts (test.unknown fields m p) (entries_pass test fields es) h).1 e

-- a set takes the siblings' values away
members_set : (fields : List Field) (es ds : Entries) (f : Field) (v : Value) → numbers_differ fields ≡ true → field_of fields f.number ≡ Some f → value_passes alone_test v ≡ true → entries_ordered ds ≡ true →
    ((m : ℕ) → slot_at ds m ≡ with_stored fields f v m (slot_at es m)) → entries_pass alone_test fields es ≡ true → entries_pass alone_test fields ds ≡ true
members_set fields es ds f v differ found inside o slots h = apart_members fields ds o (alone_changed fields (slot_at es) (slot_at ds) f differ found gone stays (members_apart fields es differ h)) (λ n w e. each n w (nat_eq n f.number) (is_sibling fields f n) (sym (value n) ∙ e))
  where
    value : (m : ℕ) → value_at m ds ≡ (with_stored fields f v m (slot_at es m)).value
    value m = ap (λ (s : Slot). s.value) (slots m)

    gone : (m : ℕ) → is_sibling fields f m ≡ true → value_at m ds ≡ None
    gone m s = value m ∙ ap₂ (λ a b. (cond a (with_value (Some v) (slot_at es m)) (cond b (with_value None (slot_at es m)) (slot_at es m))).value) (not_own fields f m s) s

    stays : (m : ℕ) → nat_eq m f.number ≡ false → is_sibling fields f m ≡ false → value_at m ds ≡ value_at m es
    stays m a s = value m ∙ ap₂ (λ a b. (cond a (with_value (Some v) (slot_at es m)) (cond b (with_value None (slot_at es m)) (slot_at es m))).value) a s

    each : (n : ℕ) (w : Value) (a b : Bool) → (cond a (with_value (Some v) (slot_at es n)) (cond b (with_value None (slot_at es n)) (slot_at es n))).value ≡ Some w → value_passes alone_test w ≡ true
    each n w true b e = let same : v ≡ w = cc in subst (λ (x : Value). value_passes alone_test x ≡ true) same inside
    each n w false true e = cc
    each n w false false e = inside_value alone_test fields es n w h e

-- an unknown record leaves the values as they are
members_beside : (fields : List Field) (es ds : Entries) (n : ℕ) (p : Payload) → numbers_differ fields ≡ true → entries_ordered ds ≡ true → ((m : ℕ) → slot_at ds m ≡ with_unknown n p m (slot_at es m)) →
    entries_pass alone_test fields es ≡ true → entries_pass alone_test fields ds ≡ true
members_beside fields es ds n p differ o slots h =
    apart_members fields ds o (λ i j g v w at s e e'. members_apart fields es differ h i j g v w at s (sym (value i) ∙ e) (sym (value j) ∙ e')) (λ m w e. inside_value alone_test fields es m w h (sym (value m) ∙ e))
  where
    either : (slot : Slot) (b : Bool) → (cond b (record { value = slot.value; unknowns = slot.unknowns ++ (p ∷ []) }) slot).value ≡ slot.value
    either slot true = refl
    either slot false = refl

    value : (m : ℕ) → value_at m ds ≡ value_at m es
    value m = ap (λ (s : Slot). s.value) (slots m) ∙ either (slot_at es m) (nat_eq m n)

-- WHOLE CONTENTS

-- a value of a field that was stored
pub value_sound : (schema : Schema) (T : ℕ) (es ds : Entries) (f : Field) (v : Value) → numbers_differ (known schema T) ≡ true → field_of (known schema T) f.number ≡ Some f → ValueStored schema f v →
    entries_ordered ds ≡ true → ((m : ℕ) → slot_at ds m ≡ with_stored (known schema T) f v m (slot_at es m)) → WellStored (ContentOf schema T es) → WellStored (ContentOf schema T ds)
value_sound schema T es ds f v differ found s o slots w = record {
  fits = entries_stored_pass fit_test (known schema T) (λ n v. passes (field_of (known schema T) n) (λ f. value_valid f v)) (record { same = λ n v es. refl }) es ds f v
      (and_from _ _ (ap (λ o. passes o (λ f. value_valid f v)) found ∙ s.valid) s.fits) o slots w.fits;
  types = value_stored_typed schema (known schema T) es ds f v found s.types o slots w.types;
  order = o;
  members = members_set (known schema T) es ds f v differ found s.members o slots w.members;
}

-- an unknown record that was stored
pub unknown_sound : (schema : Schema) (T : ℕ) (es ds : Entries) (n : ℕ) (p : Payload) → numbers_differ (known schema T) ≡ true → unknown_fits (field_of (known schema T) n) n p ≡ true →
    entries_ordered ds ≡ true → ((m : ℕ) → slot_at ds m ≡ with_unknown n p m (slot_at es m)) → WellStored (ContentOf schema T es) → WellStored (ContentOf schema T ds)
unknown_sound schema T es ds n p differ fits o slots w = record {
  fits = entries_unknown_pass fit_test (known schema T) (λ n v. passes (field_of (known schema T) n) (λ f. value_valid f v)) (record { same = λ n v es. refl }) es ds n p fits o slots w.fits;
  types = unknown_stored_typed schema (known schema T) es ds n p o slots w.types;
  order = o;
  members = members_beside (known schema T) es ds n p differ o slots w.members;
}
