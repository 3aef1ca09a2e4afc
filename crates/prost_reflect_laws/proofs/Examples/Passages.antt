-- The worked examples of the laws of reduction: what they ask is computed, and what they say is theirs.
use Rattle.std.specs.Prelude.{◌≡◌, ◌<◌, ◌≤◌, ◌^◌, ◌∷◌}
use Prim.Native.String.{String}
use Rattle.prost_reflect_laws.proofs.Common.{ℕ, suc, Bool, true, false, pos, List, [], length, Option, Some, None, IsTrue, refl, ap, sym, ◌∙◌, subst, true≢false, lit<, lit≤, is_utf8, chars, encode_utf8, short, are_bytes, read, MessageOf, Singular, Content, ContentOf, Entries, NoEntries, Value, ScalarValue, MessageValue, ListValue, MapValue, value_at, Scalar, I32, EnumNumber, scalar_eq, LEVEL_LIMIT, Accepts, accepts, unpacked, allows, decoded, meaning, steps, PathTo, holds_message, ValueStored, Reduced, test_bytes, refined_times, whole, less, other, examples, field, member, int32, message_value_type, my_message, older_message, maps, maps_without_m, choice, extended, extended_choice, field_at_hundred, no_fields, closed, closed_alone, open_alone, int, hex, content, Means, Writes, Sets}
use Rattle.prost_reflect_laws.specs.Examples.Passages.{AcceptedBy, Relays, Passes, Fails, PassesEdit, Passages, EditPassages, Tested, FailedPassages, ExtensionAgainstField}
use Rattle.prost_reflect_laws.proofs.Accepted.{accepts_is_test}
use Rattle.prost_reflect_laws.proofs.PassageLaws.{older_accepts, passage, edit_passage}
use Rattle.prost_reflect_laws.proofs.Refining.{reduced_is_test}
use Rattle.prost_reflect_laws.proofs.Examples.ComputedContents.{schemas}
use Rattle.prost_reflect_laws.proofs.Examples.ComputedReductions.{reductions}
use Rattle.prost_reflect_laws.proofs.Examples.NotReduced.{no_reductions, differ}

-- BY THE LAWS

pub accepted_by : (T : ℕ) (bytes : String) → IsTrue (are_bytes (hex bytes)) → IsTrue (accepts examples LEVEL_LIMIT T (hex bytes)) → AcceptedBy T bytes
accepted_by T bytes small h = (accepts_is_test examples LEVEL_LIMIT T (hex bytes) (test_bytes (hex bytes) small)).1 h

relays : (A B : ℕ) (bytes : String) (es : Entries) (again : String) → IsTrue (are_bytes (hex bytes)) → IsTrue (accepts examples LEVEL_LIMIT B (hex bytes)) → Means A bytes es → Writes A es again → length (hex again) < 2 ^ 64 → Relays A B bytes es again
relays A B bytes es again small h read written short = record {
  checked = schemas.examples_valid;
  small = test_bytes (hex bytes) small;
  accepted = accepted_by B bytes small h;
  read = read;
  written = written;
  short = subst (λ (x : List ℕ). length x < 2 ^ 64) (sym written) short;
}

passes : (A B : ℕ) (bytes : String) (es : Entries) (again : String) → Relays A B bytes es again → Reduced examples A examples B → Passes A B bytes es again
passes A B bytes es again r reduced = record {
  relays = r;
  reduced = reduced;
  older_accepts = older_accepts examples examples LEVEL_LIMIT A B (hex bytes) reduced r.accepted;
  passes_on = subst (λ (x : List ℕ). Accepts examples LEVEL_LIMIT B x × (decoded examples LEVEL_LIMIT B x ≡ decoded examples LEVEL_LIMIT B (hex bytes))) r.written (passage examples examples LEVEL_LIMIT A B (hex bytes) (content A es) r.checked r.small reduced r.accepted r.read r.short);
}

passes_edit : (A B : ℕ) (bytes : String) (path : List ℕ) (v : Value) (again : String) → IsTrue (are_bytes (hex bytes)) → Reduced examples A examples B → length path ≤ suc LEVEL_LIMIT → PathTo examples A path v → holds_message v ≡ false →
    IsTrue (accepts examples LEVEL_LIMIT B (hex bytes)) → Sets A bytes path v again → length (hex again) < 2 ^ 64 → PassesEdit A B bytes path v again
passes_edit A B bytes path v again small reduced level to plain h sets short =
    let acc : AcceptedBy B bytes = accepted_by B bytes small h in
    let (accepted_again, set_behind) = edit_passage examples examples LEVEL_LIMIT A B (hex bytes) path v (hex again) schemas.examples_valid schemas.examples_valid (test_bytes (hex bytes) small) reduced level to plain acc sets short in
    record {
      checked = schemas.examples_valid;
      small = test_bytes (hex bytes) small;
      reduced = reduced;
      level = level;
      to = to;
      plain = plain;
      accepted = acc;
      sets = sets;
      short = short;
      accepted_again = accepted_again;
      set_behind = set_behind;
    }

-- AGAINST THE LAWS

-- whether the value at number 1 is this one
abbrev is_scalar : Scalar → Value → Bool
is_scalar s (ScalarValue v) = scalar_eq s v
is_scalar s (MessageValue c) = false
is_scalar s (ListValue vs) = false
is_scalar s (MapValue ps) = false

abbrev has_first : Scalar → Entries → Bool
has_first s es = elim (value_at 1 es) [ None ↦ false | Some v ↦ is_scalar s v ]

abbrev entries_of : Option Content → Entries
entries_of None = NoEntries
entries_of (Some (ContentOf schema T es)) = es

fails : (A B : ℕ) (bytes : String) (es : Entries) (again : String) (before behind : Entries) (s : Scalar) → Relays A B bytes es again → (Reduced examples A examples B → ⊥) → Means B bytes before → Means B again behind →
    has_first s before ≡ true → has_first s behind ≡ false → Fails A B bytes es again before behind
fails A B bytes es again before behind s r unreduced means_before means_behind first gone = record {
  relays = r;
  unreduced = unreduced;
  means_before = means_before;
  means_behind = means_behind;
  not_passed_on = λ p. true≢false (sym first ∙ (ap (λ o. has_first s (entries_of o)) (sym means_before ∙ (sym p.1 ∙ means_behind)) ∙ gone));
}

-- EXAMPLES

maps_reduced : Reduced examples maps_without_m examples maps
maps_reduced = record { pairs = (maps_without_m, maps) ∷ (my_message, my_message) ∷ []; first = refl; each = refl }

closed_reduced : Reduced examples closed examples closed
closed_reduced = record { pairs = (closed, closed) ∷ []; first = refl; each = refl }

no_fields_reduced : Reduced examples no_fields examples closed_alone
no_fields_reduced = record { pairs = (no_fields, closed_alone) ∷ []; first = refl; each = refl }

pub passages : Passages
unfolding short read unpacked allows meaning steps is_utf8 chars encode_utf8
passages = record {
  inside = passes _ _ _ _ _ (relays _ _ _ _ _ refl refl refl refl (lit< tt)) reductions.without_field;
  map = passes _ _ _ _ _ (relays _ _ _ _ _ refl refl refl refl (lit< tt)) maps_reduced;
  packing = passes _ _ _ _ _ (relays _ _ _ _ _ refl refl refl refl (lit< tt)) reductions.packing;
  stray = passes _ _ _ _ _ (relays _ _ _ _ _ refl refl refl refl (lit< tt)) closed_reduced;
  unknown_enum = passes _ _ _ _ _ (relays _ _ _ _ _ refl refl refl refl (lit< tt)) no_fields_reduced;
}

stored_seven : ValueStored examples (member 2 (int32 true)) (int 7)
unfolding is_utf8 chars
stored_seven = record { valid = refl; fits = refl; types = tt; order = refl; members = refl }

path_top : PathTo examples older_message (2 ∷ []) (int 7)
path_top = (member 2 (int32 true), refl, stored_seven)

pub path_inside : PathTo examples older_message (3 ∷ 2 ∷ []) (int 7)
path_inside = (field 3 Singular (message_value_type (MessageOf older_message)), refl, refl, (older_message, refl, path_top))

pub edit_passages : EditPassages
unfolding short read unpacked allows meaning steps is_utf8 chars encode_utf8
edit_passages = record {
  top = passes_edit _ _ _ _ _ _ refl reductions.without_field (lit≤ tt) path_top refl refl refl (lit< tt);
  inside = passes_edit _ _ _ _ _ _ refl reductions.without_field (lit≤ tt) path_inside refl refl refl (lit< tt);
  made = passes_edit _ _ _ _ _ _ refl reductions.without_field (lit≤ tt) path_inside refl refl refl (lit< tt);
}

pub tested : Tested
unfolding refined_times is_utf8 chars
tested = record {
  reduced = (reduced_is_test less whole 0 0 refl refl (lit< tt) (lit< tt)).1 refl;
  unreduced = λ r. true≢false (sym ((reduced_is_test other whole 0 0 refl refl (lit< tt) (lit< tt)).0 r));
}

pub failed_passages : FailedPassages
unfolding short read unpacked allows meaning steps is_utf8 chars encode_utf8
failed_passages = record {
  members = fails _ _ _ _ _ _ _ (I32 (pos 1)) (relays _ _ _ _ _ refl refl refl refl (lit< tt)) no_reductions.added_members refl refl refl refl;
  member = fails _ _ _ _ _ _ _ (I32 (pos 6)) (relays _ _ _ _ _ refl refl refl refl (lit< tt)) no_reductions.member_left_out refl refl refl refl;
  extensions = fails _ _ _ _ _ _ _ (I32 (pos 1)) (relays _ _ _ _ _ refl refl refl refl (lit< tt)) (differ extended_choice choice (λ pairs. refl)) refl refl refl refl;
  numbers = fails _ _ _ _ _ _ _ (EnumNumber (pos 0)) (relays _ _ _ _ _ refl refl refl refl (lit< tt)) no_reductions.enum_numbers refl refl refl refl;
  closed_to_newer = fails _ _ _ _ _ _ _ (EnumNumber (pos 1)) (relays _ _ _ _ _ refl refl refl refl (lit< tt)) no_reductions.enum_open refl refl refl refl;
  closed_to_older = fails _ _ _ _ _ _ _ (EnumNumber (pos 1)) (relays _ _ _ _ _ refl refl refl refl (lit< tt)) (differ closed_alone open_alone (λ pairs. refl)) refl refl refl refl;
}

pub extension_against_field : ExtensionAgainstField
unfolding short read unpacked allows meaning steps is_utf8 chars encode_utf8
extension_against_field = record {
  unreduced = differ extended field_at_hundred (λ pairs. refl);
  relays = relays _ _ _ _ _ refl refl refl refl (lit< tt);
  passes_on = (accepted_by field_at_hundred "a00605" refl refl, refl);
  sets = (lit≤ tt, (_, refl, record { valid = refl; fits = refl; types = tt; order = refl; members = refl }), refl, refl);
  set_behind = (accepted_by field_at_hundred "a00607" refl refl, refl);
}
