-- Slots that are parted one by one into the values that are taken, and what is left of each.
use Rattle.std.specs.Prelude.{◌≡◌, ◌∷◌, ◌++◌}
use Rattle.prost_reflect_fields.proofs.Common.{ℕ, Bool, cond, List, Option, None, Some, refl, ap, sym, ◌∙◌, append_assoc, value_in, left_in, then_slot, numbered, values_where, without_values, FieldSlot}

module _ {V : Type 0} (test : ℕ → Bool) where
  left_then : (n : ℕ) (o : Option (FieldSlot V)) (es : List (ℕ × FieldSlot V)) → numbered n o ++ es ≡ then_slot n o es
  left_then n None es = refl
  left_then n (Some e) es = refl

  -- one slot more
  pub taken_more : (n : ℕ) (slot : FieldSlot V) (v : Option V) (items rest : List (ℕ × FieldSlot V)) (front new all : List (ℕ × V)) → items ≡ (n, slot) ∷ rest → v ≡ cond (test n) (value_in slot) None → new ≡ front ++ numbered n v
      → front ++ values_where test items ≡ all → new ++ values_where test rest ≡ all
  taken_more n slot v items rest front new all first is more h =
      ap (λ l. l ++ values_where test rest) (more ∙ ap (λ o. front ++ numbered n o) is)
      ∙ append_assoc front (numbered n (cond (test n) (value_in slot) None)) (values_where test rest)
      ∙ ap (λ l. front ++ values_where test l) (sym first) ∙ h

  pub kept_more : (n : ℕ) (slot : FieldSlot V) (o : Option (FieldSlot V)) (items rest front new all : List (ℕ × FieldSlot V)) → items ≡ (n, slot) ∷ rest → o ≡ cond (test n) (left_in slot) (Some slot) → new ≡ front ++ numbered n o
      → front ++ without_values test items ≡ all → new ++ without_values test rest ≡ all
  kept_more n slot o items rest front new all first is more h =
      ap (λ l. l ++ without_values test rest) (more ∙ ap (λ o. front ++ numbered n o) is)
      ∙ append_assoc front (numbered n (cond (test n) (left_in slot) (Some slot))) (without_values test rest)
      ∙ ap (λ l. front ++ l) (left_then n (cond (test n) (left_in slot) (Some slot)) (without_values test rest))
      ∙ ap (λ l. front ++ without_values test l) (sym first) ∙ h
