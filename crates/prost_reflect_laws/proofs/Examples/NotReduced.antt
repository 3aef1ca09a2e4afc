-- Types that are no reductions, whatever the set of pairs.
use Rattle.std.specs.Prelude.{◌≡◌, ◌&&◌}
use Rattle.prost_reflect_laws.proofs.Common.{ℕ, Bool, true, false, refl, ap, sym, ◌∙◌, true≢false, Schema, message_type, TypePairs, holds, types_match, Reduced, examples, my_message, older_message, optional_a, required_a, plain_a, seven_a, signed_a, one_message, message_list, field_at_hundred, extended, presence_map, maps, choices_without_a, two_choices, no_fields, choice, choices_moved, other_alone, closed_alone, older_closed, closed, open_alone, text_inside, text_at_one}
use Rattle.prost_reflect_laws.specs.Examples.Reductions.{NoReductions}
use Rattle.prost_reflect_laws.proofs.Matches.{pair_matches}

of_pair : (older newer : Schema) (A B : ℕ) (r : Reduced older A newer B) → types_match r.pairs (message_type older A) (message_type newer B) ≡ true
of_pair older newer A B r = pair_matches r.pairs r.pairs older newer A B r.first r.each

never : (b : Bool) → b ≡ false → b ≡ true → ⊥
never b e h = true≢false (sym h ∙ e)

-- a difference that no pair of the set can mend
pub differ_in : (schema : Schema) (A B : ℕ) → ((pairs : TypePairs) → types_match pairs (message_type schema A) (message_type schema B) ≡ false) → Reduced schema A schema B → ⊥
differ_in schema A B h r = never _ (h r.pairs) (of_pair schema schema A B r)

pub differ : (A B : ℕ) → ((pairs : TypePairs) → types_match pairs (message_type examples A) (message_type examples B) ≡ false) → Reduced examples A examples B → ⊥
differ = differ_in examples

-- the nested types would be a pair
text_inside_unreduced : Reduced examples text_inside examples my_message → ⊥
text_inside_unreduced r = go (holds r.pairs text_at_one my_message) refl
  where
    top : types_match r.pairs (message_type examples text_inside) (message_type examples my_message) ≡ true
    top = of_pair examples examples text_inside my_message r

    inner : types_match r.pairs (message_type examples text_at_one) (message_type examples my_message) ≡ false
    inner = refl

    go : (b : Bool) → holds r.pairs text_at_one my_message ≡ b → ⊥
    go true e = never _ inner (pair_matches r.pairs r.pairs examples examples text_at_one my_message e r.each)
    go false e = true≢false (sym top ∙ ap (λ b. (((((b && true) && true) && true) && true) && true) && true) e)

pub no_reductions : NoReductions
no_reductions = record {
  backwards = differ my_message older_message (λ pairs. refl);
  label = differ optional_a required_a (λ pairs. refl);
  label_back = differ required_a optional_a (λ pairs. refl);
  presence = differ plain_a optional_a (λ pairs. refl);
  default = differ seven_a optional_a (λ pairs. refl);
  kind = differ signed_a optional_a (λ pairs. refl);
  form = differ one_message message_list (λ pairs. refl);
  extension = differ field_at_hundred extended (λ pairs. refl);
  entry_presence = differ presence_map maps (λ pairs. refl);
  member_left_out = differ choices_without_a two_choices (λ pairs. refl);
  added_members = differ no_fields choice (λ pairs. refl);
  member_moved = differ choices_moved two_choices (λ pairs. refl);
  enum_first = differ other_alone closed_alone (λ pairs. refl);
  enum_numbers = differ older_closed closed (λ pairs. refl);
  enum_open = differ open_alone closed_alone (λ pairs. refl);
  inside = text_inside_unreduced;
}
