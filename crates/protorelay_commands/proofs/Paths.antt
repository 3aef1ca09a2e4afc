-- The numbers that a path spells.
use Rattle.std.proofs.Common.{◌≡◌, ℕ, ◌+◌, ◌<◌, List, [], ◌∷◌, ◌++◌, length, drop, get_or, Option, Some, None, option_map, refl, ap, sym, ◌∙◌, append-nil, append_assoc, drop_of_length-le, arith}
use Rattle.std.proofs.lemmas.List.{at_drop_more}
use Rattle.prost_reflect_wire.specs.Varint.{◌>>=◌}
use Rattle.prost_reflect_wire.specs.Scalar as scalars
use Rattle.prost_reflect_tables.specs.Rows.{written_scalar}
use Rattle.prost_reflect_tables.specs.WrittenDefaults.{written_default, field_default}
use Rattle.prost_reflect_tables.specs.declared.tables.TableKind.TheVariants as kinds
use Rattle.prost_reflect_tables.specs.declared.tables.WrittenDefault.{WrittenDefault}
use Rattle.prost_reflect_tables.specs.declared.tables.WrittenDefault.TheVariants as defaults
use Rattle.protorelay_commands.specs.Editing.{number_in, number_spelled, numbers_spelled}

-- NUMBERS

only_number : (d : WrittenDefault) (o : Option ℕ) → Some (written_scalar d) ≡ option_map scalars.U32 o → number_in d ≡ o
only_number (defaults.U32 n) None e = cc
only_number (defaults.U32 n) (Some m) e = cc
only_number d None e = cc
only_number d (Some m) e = cc

pub number_read : (digits : List ℕ) (d : WrittenDefault) → option_map written_scalar (Some d) ≡ field_default kinds.Uint32 [] digits → number_in d ≡ number_spelled digits
unfolding written_default
number_read digits d e = only_number d (number_spelled digits) e

no_number : (o : Option ℕ) → None ≡ option_map scalars.U32 o → None ≡ o
no_number None e = refl
no_number (Some n) e = absurd cc

pub number_missing : (digits : List ℕ) → None ≡ field_default kinds.Uint32 [] digits → None ≡ number_spelled digits
unfolding written_default
number_missing digits e = no_number (number_spelled digits) e

-- the numbers so far, and those that are left
abbrev pub behind : List ℕ → List (List ℕ) → Option (List ℕ)
behind numbers pieces = option_map (λ rest. numbers ++ rest) (numbers_spelled pieces)

one_more : (numbers : List ℕ) (n : ℕ) (o : Option (List ℕ)) → option_map (λ rest. numbers ++ rest) (option_map (λ path. n ∷ path) o) ≡ option_map (λ rest. (numbers ++ n ∷ []) ++ rest) o
one_more numbers n None = refl
one_more numbers n (Some path) = ap Some (sym (append_assoc numbers (n ∷ []) path))

at_piece : (pieces : List (List ℕ)) (i : ℕ) (piece : List ℕ) → i < length pieces → piece ≡ get_or pieces i piece → numbers_spelled (drop i pieces) ≡ (number_spelled piece >>= λ n. option_map (λ path. n ∷ path) (numbers_spelled (drop (i + 1) pieces)))
at_piece pieces i piece within at = at_drop_more numbers_spelled pieces i piece within ∙ ap (λ p. number_spelled p >>= λ n. option_map (λ path. n ∷ path) (numbers_spelled (drop (i + 1) pieces))) (sym at)

pub behind_more : (numbers : List ℕ) (pieces : List (List ℕ)) (i : ℕ) (piece : List ℕ) (n : ℕ) → i < length pieces → piece ≡ get_or pieces i piece → Some n ≡ number_spelled piece → behind numbers (drop i pieces) ≡ behind (numbers ++ n ∷ []) (drop (i + 1) pieces)
behind_more numbers pieces i piece n within at is =
    ap (option_map (λ rest. numbers ++ rest)) (at_piece pieces i piece within at ∙ ap (λ o. o >>= λ n. option_map (λ path. n ∷ path) (numbers_spelled (drop (i + 1) pieces))) (sym is))
    ∙ one_more numbers n (numbers_spelled (drop (i + 1) pieces))

pub behind_refused : (numbers : List ℕ) (pieces : List (List ℕ)) (i : ℕ) (piece : List ℕ) → i < length pieces → piece ≡ get_or pieces i piece → None ≡ number_spelled piece → behind numbers (drop i pieces) ≡ None
behind_refused numbers pieces i piece within at is =
    ap (option_map (λ rest. numbers ++ rest)) (at_piece pieces i piece within at ∙ ap (λ o. o >>= λ n. option_map (λ path. n ∷ path) (numbers_spelled (drop (i + 1) pieces))) (sym is))

pub behind_all : (numbers : List ℕ) (pieces : List (List ℕ)) (i : ℕ) → length pieces ≡ i → behind numbers (drop i pieces) ≡ Some numbers
behind_all numbers pieces i all = ap (behind numbers) (drop_of_length-le pieces (omega arith)) ∙ ap Some (append-nil numbers)
