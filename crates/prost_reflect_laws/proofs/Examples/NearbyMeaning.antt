-- The statements near the laws are refuted.
use Rattle.std.specs.Prelude.{◌∷◌}
use Rattle.prost_reflect_laws.proofs.Common.{ℕ, zero, suc, lit<, List, length, refl, sym, ap, arith, true≢false, is_utf8, chars, encode_utf8, is_some, short, read, entries_of, value_at, type_of, unpacked, allows, meaning, steps, encoded, Typed, Writable, my_message, content}
use Rattle.prost_reflect_laws.specs.Examples.NearbyMeaning.{deep, NotOfMeaning, NotOfWriting}

pub not_of_meaning : NotOfMeaning
unfolding short read unpacked allows meaning steps is_utf8 chars encode_utf8
not_of_meaning = record {
  members_commute = λ e. true≢false (sym (ap (λ c. is_some (value_at 1 (entries_of c))) e));
  members_apart = λ a. true≢false (a.left _ refl);
  number_commutes = λ e. absurd (omega (arith, ap (λ c. code (encoded c)) e));
  same_alone = refl;
  same_in_front = λ e. true≢false (ap (λ c. is_some (value_at 1 (entries_of c))) e);
  not_allowed = refl;
  levels_free = λ e. absurd (omega (arith, ap (λ c. length (encoded c)) e));
  pieces_swapped = λ e. absurd (omega (arith, ap (λ c. code (encoded c)) e));
  piece_read = λ e. true≢false (sym (ap (λ c. is_some (value_at 1 (entries_of c))) e));
}
  where
    -- the second byte
    code : List ℕ → ℕ
    code (b ∷ c ∷ bytes) = c
    code bytes = 0

deep_typed : (k : ℕ) → Typed (content my_message (deep k))
deep_typed zero = tt
deep_typed (suc k) = (((refl, refl), deep_typed k), tt)

pub deep_writable : Writable (content my_message (deep 101))
unfolding short read unpacked allows meaning steps is_utf8 chars encode_utf8
deep_writable = record { checked = refl; typed = record { fitting = record { fits = refl; types = deep_typed 101; order = refl; nonempty = refl }; members = refl; without_stored_defaults = refl }; length = lit< tt }

pub not_of_writing : NotOfWriting
unfolding short read unpacked allows meaning steps is_utf8 chars encode_utf8
not_of_writing = record {
  default_written = refl;
  default_stored = λ e. true≢false (ap (λ c. is_some (value_at 1 (entries_of c))) e);
  default_lost = refl;
  member_lost = refl;
  list_written = refl;
  list_stored = λ e. true≢false (ap (λ c. is_some (value_at 1 (entries_of c))) e);
  zero_spelled = (refl, record { fitting = record { fits = refl; types = (tt, tt); order = refl; nonempty = refl }; members = refl; without_stored_defaults = refl }, λ s. absurd (omega (arith, (s.3).from_one)));
  zero_refused = (refl, refl);
  text_refused = (refl, refl);
  member_merged = λ e. true≢false (ap (λ c. is_some (value_at 1 (entries_of c))) e);
  bytes_again = (refl, λ e. absurd (omega (arith, ap length e)));
  value_written = refl;
  value_stored = λ e. true≢false (ap (λ c. is_some (value_at 9 (entries_of c))) e);
  type_written = refl;
  types_differ = λ e. absurd (omega (arith, ap type_of e));
  deep_writable = deep_writable;
  deep_levels = refl;
  deep_refused = refl;
  deep_further = refl;
}
