-- The statements near the laws on what is read, merged, kept and set are refuted.
use Rattle.std.specs.Prelude.{◌∷◌}
use Rattle.prost_reflect_laws.proofs.Common.{ℕ, List, [], length, refl, sym, ap, arith, true≢false, is_utf8, chars, encode_utf8, is_some, short, Record, read, entries_of, value_at, unpacked, allows, meaning, steps, encoded}
use Rattle.prost_reflect_laws.specs.Examples.NearbyTyping.{NotOfTyping, NotOfContents}
use Rattle.prost_reflect_laws.proofs.Examples.Instances.{sample_typed, sample_low, behind_taken, stored_well}
use Rattle.prost_reflect_laws.proofs.Examples.NearbyMeaning.{deep_writable}

abbrev first_number : List Record → ℕ
first_number [] = 0
first_number (r ∷ rs) = r.number

pub not_of_typing : NotOfTyping
unfolding short read unpacked allows meaning steps is_utf8 chars encode_utf8
not_of_typing = record {
  meaning_ordered = λ e. absurd (omega (arith, ap first_number e));
  meaning_typed = (refl, refl, refl);
  meaning_spelled = (refl, refl, refl);
  decoded_well = (refl, refl, refl);
  meaning_levels = (refl, refl);
  levels_of_bytes = (refl, refl, refl);
  allowed_further = (refl, refl);
  steps_free = (sample_low, behind_taken, λ e. absurd (omega (arith, ap (λ c. length (encoded c)) e)));
  steps_well = (refl, refl);
  merged_well = (refl, refl);
  merged_levels = (deep_writable.typed, refl);
  pieces_levels = (refl, λ e. absurd (omega (arith, ap (λ c. length (encoded c)) e)));
  pieces_allowed = (refl, refl, λ e. absurd (omega (arith, ap (λ c. length (encoded c)) e)));
  written_pieces = (refl, λ e. absurd (omega (arith, ap (λ c. length (encoded c)) e)));
  merges_join = λ e. absurd (omega (arith, ap (λ c. code (encoded c)) e));
}
  where
    -- the second byte
    code : List ℕ → ℕ
    code (b ∷ c ∷ bytes) = c
    code bytes = 0

pub not_of_contents : NotOfContents
unfolding short read unpacked allows meaning steps is_utf8 chars encode_utf8
not_of_contents = record {
  kept_all = (stored_well, λ e. absurd (true≢false (sym (ap (λ c. is_some (value_at 1 (entries_of c))) e))));
  kept_content = (refl, refl);
  kept_well = (refl, refl);
  set_fits = (sample_typed, refl);
  set_typed = (refl, λ t. true≢false (sym t.1.1.0.0.1));
}
