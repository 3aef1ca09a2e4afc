-- The statements near the laws of reduction are refuted.
use Rattle.std.specs.Prelude.{◌∷◌}
use Rattle.prost_reflect_laws.proofs.Common.{ℕ, false, List, [], Option, Some, None, refl, sym, ap, arith, lit<, true≢false, is_utf8, chars, encode_utf8, is_some, short, read, Content, entries_of, MessageValue, value_at, type_of, LEVEL_LIMIT, Accepts, unpacked, allows, meaning, steps, PathTo, Reduced, refined_times, examples, my_message, older_message, no_fields, text_at_one, optional_a, two_choices, choices_without_a, hex, int}
use Rattle.prost_reflect_laws.specs.Examples.NearbyTyping.{text_default}
use Rattle.prost_reflect_laws.specs.Examples.NearbyPassage.{older_value, to_message, to_x, NotOfPassages}
use Rattle.prost_reflect_laws.proofs.Accepted.{accepts_is_test}
use Rattle.prost_reflect_laws.proofs.Examples.NotReduced.{differ, no_reductions}
use Rattle.prost_reflect_laws.proofs.Examples.Passages.{accepted_by, path_inside}

no_fields_reduced : Reduced examples no_fields examples text_at_one
no_fields_reduced = record { pairs = (no_fields, text_at_one) ∷ []; first = refl; each = refl }

number_no_text : Accepts examples LEVEL_LIMIT text_at_one (hex "0801") → ⊥
unfolding short read unpacked allows meaning steps is_utf8 chars encode_utf8
number_no_text a = true≢false (sym ((accepts_is_test examples LEVEL_LIMIT text_at_one (hex "0801") (lit< tt, (lit< tt, tt))).0 a))

no_level : Accepts examples 0 my_message (hex "1a021007") → ⊥
unfolding short read unpacked allows meaning steps is_utf8 chars encode_utf8
no_level a = true≢false (sym ((accepts_is_test examples 0 my_message (hex "1a021007") (lit< tt, (lit< tt, (lit< tt, (lit< tt, tt))))).0 a))

number_no_payload : Accepts text_default 0 0 (hex "0a021200") → ⊥
unfolding short read unpacked allows meaning steps is_utf8 chars encode_utf8
number_no_payload a = true≢false (sym ((accepts_is_test text_default 0 0 (hex "0a021200") (lit< tt, (lit< tt, (lit< tt, (lit< tt, tt))))).0 a))

path_message : PathTo examples older_message to_message older_value
path_message = (_, refl, record { valid = refl; fits = refl; types = ((refl, refl), tt); order = refl; members = refl })

path_x : PathTo examples choices_without_a to_x (int 1)
path_x = (_, refl, record { valid = refl; fits = refl; types = tt; order = refl; members = refl })

-- the type of the message at number 3
abbrev type_inside : Option Content → ℕ
type_inside None = 0
type_inside (Some c) = elim (value_at 3 (entries_of c)) [ Some (MessageValue d) ↦ type_of d | _ ↦ 0 ]

pub not_of_passages : NotOfPassages
unfolding short read unpacked allows meaning steps is_utf8 chars encode_utf8 refined_times
not_of_passages = record {
  older_accepts = (no_fields_reduced, accepted_by no_fields "0801" refl refl, number_no_text);
  older_unreduced = (differ text_at_one optional_a (λ pairs. refl), accepted_by optional_a "0801" refl refl, number_no_text);
  passage = (accepted_by my_message "1a0410420805" refl refl, refl, λ e. absurd (omega (arith, ap fourth e)));
  passage_checked = (refl, record { pairs = (0, 0) ∷ []; first = refl; each = refl }, (accepts_is_test text_default 0 0 (hex "0a00") (lit< tt, (lit< tt, tt))).1 refl, refl, number_no_payload);
  edit_levels = (lit< tt, (accepts_is_test examples 0 my_message [] tt).1 refl, path_inside, refl, no_level);
  edit_message = (refl, accepted_by my_message "" refl refl, path_message, refl, λ e. absurd (omega (arith, ap type_inside e)));
  edit_unreduced = (no_reductions.member_left_out, accepted_by two_choices "1005 0806" refl refl, path_x, refl, λ e. true≢false (sym (ap (λ o. elim o [ None ↦ false | Some c ↦ is_some (value_at 1 (entries_of c)) ]) e)));
  reduced_is_test = (record { pairs = (0, 0) ∷ []; first = refl; each = refl }, refl);
  reduced_checked = (refl, record { pairs = (0, 0) ∷ (1, 1) ∷ []; first = refl; each = refl }, refl);
}
  where
    fourth : List ℕ → ℕ
    fourth (a ∷ b ∷ c ∷ d ∷ bytes) = d
    fourth bytes = 0
