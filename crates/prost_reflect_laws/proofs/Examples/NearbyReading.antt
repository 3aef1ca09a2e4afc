-- The statements near the laws on reading and on scalars are refuted.
use Rattle.std.specs.Prelude.{◌≡◌, ◌<◌, ◌++◌, ◌∷◌}
use Rattle.prost_reflect_laws.proofs.Common.{ℕ, List, [], length, refl, sym, ap, subst, arith, is_utf8, chars, encode_utf8, same_Some, AreDigits, short, Records, Spells, read, unpacked, allows, meaning, steps, spelled_read, one}
use Rattle.prost_reflect_laws.specs.Examples.NearbyReading.{no_bytes, NotOfRecords, NotOfScalars}

abbrev pub first : List ℕ → ℕ
first [] = 0
first (b ∷ bytes) = b

-- digits begin with a byte
pub first_digit : (digits rest : List ℕ) → AreDigits digits → first (digits ++ rest) < 256
first_digit [] rest d = absurd d
first_digit (b ∷ []) rest d = omega (arith, d)
first_digit (b ∷ c ∷ digits) rest d = d.1

one_not_spelled : Spells one no_bytes → ⊥
one_not_spelled (key, body, after, k, p, more, parts) =
    let e : 264 ≡ first (key ++ (body ++ after)) = ap first parts in
    omega (arith, e, first_digit key (body ++ after) k.varint.digits)

pub not_of_records : NotOfRecords
unfolding short read unpacked allows meaning steps is_utf8 chars encode_utf8
not_of_records = record {
  one_spelling = refl;
  others = λ e. absurd (omega (arith, ap length e));
  read_is_spells = (refl, one_not_spelled);
  accepts_is_test = (refl, λ a. one_not_spelled (is_one a.records a.spelled (same_Some _ _ (sym (spelled_read a.records no_bytes a.spelled)))));
  written_spells = (refl, λ s. absurd (omega (arith, (s.3).from_one)));
}
  where
    is_one : (rs : Records) → Spells rs no_bytes → rs ≡ one → Spells one no_bytes
    is_one rs s e = subst (λ x. Spells x no_bytes) e s

pub not_of_scalars : NotOfScalars
unfolding is_utf8 chars encode_utf8
not_of_scalars = record {
  written_is_read = (refl, refl);
  read_is_written = (refl, refl);
  stray_is_valid = (refl, refl, refl);
  read_is_valid = (refl, refl, refl);
}
