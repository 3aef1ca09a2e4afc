-- What a message has at a number, by what it stores there.
use Rattle.std.specs.Prelude.{◌≡◌}
use Rattle.prost_reflect_dynamic.proofs.Common.{ℕ, Bool, true, false, cond, List, Option, Some, None, refl, ap, sym, ◌∙◌, true≢false, option_map, option_and_then, is_some, Field, field_of, passes, Slot, entries_of, value_at, kept, kept_inside, kept_value, is_field_default, FieldSlot, IsAscending, stored_at, known_of, IsSound, DynamicMessage, Value, value_of, content_of, message_type_of, stored_in, entries_from, has_at, had_at, saying, HadContent, HasOneMember}
use Rattle.prost_reflect_dynamic.proofs.Views.{shown, content_of_message}
use Rattle.prost_reflect_dynamic.proofs.Stored.{slot_stored}
use Rattle.prost_reflect_dynamic.proofs.ContentChanges.{message_arranged}
use Rattle.prost_reflect_dynamic.proofs.KeptSlots.{kept_slot, slot_kept}

abbrev fields_in : DynamicMessage → List Field
fields_in m = known_of (message_type_of m)

-- the value of a number, if it is kept
kept_at : (m : DynamicMessage) (n : ℕ) → IsAscending (stored_in m)
    → value_at n (entries_of (kept (content_of m))) ≡ option_and_then (λ v. kept_value (field_of (fields_in m) n) (kept_inside v)) (option_map value_of (stored_at (stored_in m) n))
kept_at m n s =
    ap (λ c. value_at n (entries_of (kept c))) (content_of_message m)
    ∙ ap (λ (slot : Slot). slot.value) (slot_kept (fields_in m) (entries_from (shown es)) n (rw (sym (ap entries_of (content_of_message m))) (message_arranged m s)) ∙ ap (kept_slot (field_of (fields_in m) n)) (slot_stored es n s))
  where
    es : List (ℕ × FieldSlot Value)
    es = stored_in m

-- A VALUE THAT SAYS SOMETHING

kept_said : (o : Option Field) (v : Value) → kept_value o (kept_inside (value_of v)) ≡ option_map (λ v. kept_inside (value_of v)) (cond (passes o (λ f. is_field_default f (kept_inside (value_of v)))) None (Some v))
kept_said None v = refl
kept_said (Some f) v = go (is_field_default f (kept_inside (value_of v)))
  where
    go : (b : Bool) → cond b None (Some (kept_inside (value_of v))) ≡ option_map (λ v. kept_inside (value_of v)) (cond b None (Some v))
    go true = refl
    go false = refl

pub kept_found : (m : DynamicMessage) (n : ℕ) (o : Option Value) → IsAscending (stored_in m) → o ≡ stored_at (stored_in m) n
    → value_at n (entries_of (kept (content_of m))) ≡ option_map (λ v. kept_inside (value_of v)) (option_and_then (saying (fields_in m) n) o)
kept_found m n o s h = kept_at m n s ∙ ap (λ o. option_and_then (λ v. kept_value (field_of (fields_in m) n) (kept_inside v)) (option_map value_of o)) (sym h) ∙ go o
  where
    go : (o : Option Value) → option_and_then (λ v. kept_value (field_of (fields_in m) n) (kept_inside v)) (option_map value_of o) ≡ option_map (λ v. kept_inside (value_of v)) (option_and_then (saying (fields_in m) n) o)
    go None = refl
    go (Some v) = kept_said (field_of (fields_in m) n) v

some_mapped : {A B : Type 0} (f : A → B) (o : Option A) → is_some (option_map f o) ≡ is_some o
some_mapped f None = refl
some_mapped f (Some x) = refl

-- what is found at a number, if the message has it
pub has_found : (m : DynamicMessage) (n : ℕ) (o : Option Value) → IsAscending (stored_in m) → o ≡ stored_at (stored_in m) n → has_at n (content_of m) ≡ is_some (option_and_then (saying (fields_in m) n) o)
has_found m n o s h = ap is_some (kept_found m n o s h) ∙ some_mapped (λ v. kept_inside (value_of v)) (option_and_then (saying (fields_in m) n) o)

pub had_found : (m : DynamicMessage) (n : ℕ) (o : Option Value) → IsAscending (stored_in m) → o ≡ stored_at (stored_in m) n → had_at n m ≡ option_and_then (saying (fields_in m) n) o
had_found m n o s h =
    (λ i. cond (has_found m n o s h i) (sym h i) None)
    ∙ go o
  where
    said : (v : Value) (b : Bool) → cond (is_some (cond b None (Some v))) (Some v) None ≡ cond b None (Some v)
    said v true = refl
    said v false = refl

    go : (o : Option Value) → cond (is_some (option_and_then (saying (fields_in m) n) o)) o None ≡ option_and_then (saying (fields_in m) n) o
    go None = refl
    go (Some v) = said v (passes (field_of (fields_in m) n) (λ f. is_field_default f (kept_inside (value_of v))))

-- what is had is the content's value
pub had_content : HadContent
had_content m n s =
    ap (option_map (λ v. kept_inside (value_of v))) (had_found m n (stored_at (stored_in m) n) s refl)
    ∙ sym (kept_found m n (stored_at (stored_in m) n) s refl)

-- BY THE TEST

module _ (m : DynamicMessage) (n : ℕ) (v : Value) (b : Bool) (s : IsAscending (stored_in m)) (h : Some v ≡ stored_at (stored_in m) n)
    (is : passes (field_of (fields_in m) n) (λ f. is_field_default f (kept_inside (value_of v))) ≡ b) where
  pub had_tested : cond b None (Some v) ≡ had_at n m
  had_tested = ap (λ (b : Bool). cond b None (Some v)) (sym is) ∙ sym (had_found m n (Some v) s h)

  pub has_tested : is_some (cond b None (Some v)) ≡ has_at n (content_of m)
  has_tested = ap (λ (b : Bool). is_some (cond b None (Some v))) (sym is) ∙ sym (has_found m n (Some v) s h)

-- Of the members of a oneof one at most is stored, so one at most is had.
pub one_member : (m : DynamicMessage) → IsAscending (stored_in m) → IsSound (message_type_of m) (stored_in m) → HasOneMember m
one_member m s sound k n siblings has =
    without (stored_at (stored_in m) n) (has_found m n (stored_at (stored_in m) n) s refl) (sound.2 k n (with (stored_at (stored_in m) k) (sym (has_found m k (stored_at (stored_in m) k) s refl) ∙ has)) siblings)
  where
    with : (o : Option Value) → is_some (option_and_then (saying (fields_in m) k) o) ≡ true → is_some o ≡ true
    with None h = h
    with (Some v) h = refl

    without : (o : Option Value) → has_at n (content_of m) ≡ is_some (option_and_then (saying (fields_in m) n) o) → is_some o ≡ false → has_at n (content_of m) ≡ false
    without None is none = is
    without (Some v) is none = absurd (true≢false none)
