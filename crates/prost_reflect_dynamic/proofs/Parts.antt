-- The values of a message keep what the message has.
use Rattle.std.specs.Prelude.{◌≡◌, ◌∷◌}
use Rattle.std.proofs.lemmas.List.Elements.{All-from_recursion}
use Rattle.prost_reflect_dynamic.proofs.Common.{ℕ, Bool, true, false, cond, List, [], map, Option, Some, None, refl, ap, sym, ◌∙◌, subst, and_parts, option_map, AllByRecursion, All, IfSome, Schema, known, ContentOf, Entries, value_at, slot_at, entries_of, fit_test, alone_test, encodable, value_passes, WellStored, OrderedOption, OptionPasses, SlotPasses, passes_slots, value_in_order, known_of, stored_at, IsAscending, schema_at, type_at, PooledType, has_at, had_at, IsPart, IsWhole, had_numbers, had_pairs, numbered, content_of, message_type_of, stored_in, value_of, entries_from, DynamicMessage}
use Rattle.prost_reflect_wire.specs.Content.{Value}
use Rattle.prost_reflect_laws.proofs.StoredSound.{inside_value}
use Rattle.prost_reflect_laws.proofs.StoredTyped.{OptionTyped, typed_values}
use Rattle.prost_reflect_dynamic.specs.declared.value.Value as values
use Rattle.prost_reflect_dynamic.proofs.Depths.{flat}
use Rattle.prost_reflect_dynamic.proofs.Removals.{fits, fits_by_itself}
use Rattle.prost_reflect_dynamic.proofs.Stored.{value_of_message}
use Rattle.prost_reflect_dynamic.proofs.TypedSteps.{TypedAt, values_typed}
use Rattle.prost_reflect_dynamic.proofs.Views.{shown, content_of_message}

-- WHAT STANDS IN A CONTENT

fitting : (schema : Schema) (T : ℕ) (es : Entries) (n : ℕ) (v : Value) → value_at n es ≡ Some v → encodable (ContentOf schema T es) ≡ true → (fits (known schema T) n v ≡ true) × (value_passes fit_test v ≡ true)
fitting schema T es n v there h =
    let fields = known schema T in
    let passed : SlotPasses fit_test fields (fits fields) n (slot_at es n) = passes_slots fit_test fields (fits fields) (fits_by_itself fields) es n h in
    and_parts (fits fields n v) (value_passes fit_test v) (subst (OptionPasses fit_test fields (fits fields) n) there passed.value)

whole_part : (t : PooledType) (es : Entries) (n : ℕ) (v : values.Value) → value_at n es ≡ Some (value_of v) → WellStored (ContentOf (schema_at t) (type_at t) es) → IsWhole t n v
whole_part t es n v there w = record {
  fits = (fitting (schema_at t) (type_at t) es n (value_of v) there w.fits).1;
  types = subst (OptionTyped (schema_at t) (known_of t) n) there (typed_values (schema_at t) (known_of t) es n w.types);
  order = subst OrderedOption there (value_in_order n es w.order);
  members = inside_value alone_test (known_of t) es n (value_of v) w.members there;
}

-- WHAT STANDS IN A MESSAGE

module _ (m : DynamicMessage) (s : IsAscending (stored_in m)) where
  there : (n : ℕ) (v : values.Value) → stored_at (stored_in m) n ≡ Some v → value_at n (entries_from (shown (stored_in m))) ≡ Some (value_of v)
  there n v stands = sym (ap (λ c. value_at n (entries_of c)) (content_of_message m)) ∙ sym (value_of_message m n s) ∙ ap (option_map value_of) stands

  pub stored_part : (n : ℕ) (v : values.Value) → stored_at (stored_in m) n ≡ Some v → IsPart m n v
  stored_part n v stands =
      let t = message_type_of m in
      let es = entries_from (shown (stored_in m)) in
      let is = content_of_message m in
      record {
        valid = λ h. (fitting (schema_at t) (type_at t) es n (value_of v) (there n v stands) (sym (ap encodable is) ∙ h)).0;
        encodable = λ h. (fitting (schema_at t) (type_at t) es n (value_of v) (there n v stands) (sym (ap encodable is) ∙ h)).1;
        sound = λ w. whole_part t es n v (there n v stands) (subst WellStored is w);
        typed = λ h. subst (TypedAt t n) stands (values_typed m h n);
      }

  pub had_part : (n : ℕ) → IfSome (had_at n m) (IsPart m n)
  had_part n = go (has_at n (content_of m)) (stored_at (stored_in m) n) refl
    where
      go : (b : Bool) (o : Option values.Value) → stored_at (stored_in m) n ≡ o → IfSome (cond b o None) (IsPart m n)
      go true None at = tt
      go true (Some v) at = stored_part n v at
      go false o at = tt

  numbered_part : (n : ℕ) (o : Option values.Value) → IfSome o (IsPart m n) → AllByRecursion (λ (p : ℕ × values.Value). IsPart m p.0 p.1) (numbered n o)
  numbered_part n None h = tt
  numbered_part n (Some v) h = (h, tt)

  pub pairs_part : (of_extensions : Bool) → AllByRecursion (λ (p : ℕ × values.Value). IsPart m p.0 p.1) (had_pairs of_extensions m)
  pairs_part b = flat (λ (p : ℕ × values.Value). IsPart m p.0 p.1) (λ n. numbered n (had_at n m)) (λ n. numbered_part n (had_at n m) (had_part n)) (had_numbers b m)

-- what holds of each of some pairs holds of what they are made of
made_of : {X : Type 0} (f : X → ℕ × values.Value) (P : ℕ × values.Value → Type 0) (xs : List X) → AllByRecursion P (map f xs) → AllByRecursion (λ x. P (f x)) xs
made_of f P [] h = tt
made_of f P (x ∷ xs) h = (h.0, made_of f P xs h.1)

pub all_of : {X : Type 0} (f : X → ℕ × values.Value) (P : ℕ × values.Value → Type 0) (xs : List X) (ps : List (ℕ × values.Value)) → map f xs ≡ ps → AllByRecursion P ps → All (λ x. P (f x)) xs
all_of f P xs ps is h = All-from_recursion (λ x. P (f x)) xs (made_of f P xs (subst (AllByRecursion P) (sym is) h))
