-- The premises of the laws on reductions and on single fields at worked examples.
use Rattle.std.specs.Prelude.{◌∷◌}
use Rattle.prost_reflect_laws.proofs.Common.{[], refl, lit<, lit≤, is_utf8, chars, encode_utf8, AreBytes, short, read, Accepts, unpacked, allows, meaning, steps, PathTo, FieldFront, refined_times, whole, less, examples, my_message, older_message, hex, int}
use Rattle.prost_reflect_laws.specs.Examples.PremisesOfPassage.{OfPassages, OfFields, relayed_bytes, older_content, to_bar, first_field}
use Rattle.prost_reflect_laws.proofs.Accepted.{accepts_is_test}
use Rattle.prost_reflect_laws.proofs.PassageLaws.{older_accepts, passage, edit_passage}
use Rattle.prost_reflect_laws.proofs.Refining.{reduced_is_test}
use Rattle.prost_reflect_laws.proofs.SpelledValid.{field_again}
use Rattle.prost_reflect_laws.proofs.Examples.ComputedReductions.{reductions}
use Rattle.prost_reflect_laws.proofs.Examples.Faults.{first_one}

bytes : AreBytes relayed_bytes
bytes = (lit< tt, (lit< tt, (lit< tt, (lit< tt, (lit< tt, (lit< tt, tt))))))

accepted : Accepts examples 1 my_message relayed_bytes
unfolding short read unpacked allows meaning steps is_utf8 chars encode_utf8
accepted = (accepts_is_test examples 1 my_message relayed_bytes bytes).1 refl

to_seven : PathTo examples older_message to_bar (int 7)
to_seven = (_, refl, refl, (older_message, refl, (_, refl, record { valid = refl; fits = refl; types = tt; order = refl; members = refl })))

pub of_passages : OfPassages
unfolding short read unpacked allows meaning steps is_utf8 chars encode_utf8 refined_times
of_passages = record {
  older_accepts = (reductions.without_field, accepted);
  older_accepted = older_accepts examples examples 1 older_message my_message relayed_bytes reductions.without_field accepted;
  passage = (refl, bytes, refl, lit< tt);
  passed = (passage examples examples 1 older_message my_message relayed_bytes older_content refl bytes reductions.without_field accepted refl (lit< tt)).1;
  edit_passage = (lit≤ tt, to_seven, refl);
  edit_written = (refl, lit< tt);
  edit_accepted = (edit_passage examples examples 1 older_message my_message relayed_bytes to_bar (int 7) (hex "1a0408051007") refl refl bytes reductions.without_field (lit≤ tt) to_seven refl accepted refl (lit< tt)).0;
  reduced_is_test = (refl, refl, lit< tt, lit< tt);
  reduced = (reduced_is_test less whole 0 0 refl refl (lit< tt) (lit< tt)).1 refl;
}

front : FieldFront 0 first_field (hex "080142") (hex "42")
front = record { front = first_one (0x42 ∷ []); within = lit≤ tt }

pub of_fields : OfFields
of_fields = record {
  one_field = ((lit< tt, (lit< tt, (lit< tt, tt))), front);
  field_again = field_again 0 first_field (hex "080142") (hex "42") (lit< tt, (lit< tt, (lit< tt, tt))) front (hex "ff");
  value_unless_fault = (lit≤ tt, lit< tt, (lit< tt, tt));
}
