-- Statements near the laws on reading and on scalars that do not hold, each refuted by a worked example.
use Rattle.std.specs.Prelude.{◌≡◌, ◌^◌, ◌∷◌}
use Rattle.prost_reflect_laws.specs.Common.{ℕ, true, false, pos, negsuc, List, [], Some, Var, Flat, Records, NoRecords, PlainRecord, Spells, valid, payload_valid, short_body, read, Boolean, I32, U64, EnumNumber, BoolKind, Int32, Uint64, scalar_valid, elem, written, is_undeclared, Accepts, accepts}
use Rattle.prost_reflect_laws.specs.Examples.Schemas.{examples, my_message}
use Rattle.prost_reflect_laws.specs.Examples.Words.{hex, varint}
use Rattle.prost_reflect_laws.specs.Examples.Instances.{one, needless, two_numbers}

-- 264 is no byte. Its low seven bits are 8.
abbrev pub no_bytes : List ℕ
no_bytes = 264 ∷ 0 ∷ 1 ∷ []

-- No field has number 0.
abbrev pub number_zero : Records
number_zero = PlainRecord 0 (Var 1) NoRecords

pub record NotOfRecords : Type 0 where
  -- Two spellings of one list of records
  pub one_spelling : read needless ≡ read (hex "0801")
  -- are two.
  pub others : needless ≡ hex "0801" → ⊥
  -- What is read of numbers that are no bytes they do not spell.
  pub read_is_spells : (read no_bytes ≡ Some one) × (Spells one no_bytes → ⊥)
  -- The test accepts such numbers, and the relation does not.
  pub accepts_is_test : (accepts examples 0 my_message no_bytes ≡ true) × (Accepts examples 0 my_message no_bytes → ⊥)
  -- What is written of a record of number 0 does not spell it.
  pub written_spells : (valid number_zero ≡ false) × (Spells number_zero (short_body number_zero) → ⊥)

pub record NotOfScalars : Type 0 where
  -- What is written of a number out of the kind's range is read as another: 2147483648 as -2147483648.
  pub written_is_read : (scalar_valid Int32 (I32 (pos 2147483648)) ≡ false)
      × (elem Int32 (Flat (written Int32 (I32 (pos 2147483648)))) ≡ Some (I32 (negsuc 2147483647)))
  -- What is read is not always written as it stood: 2 is true, which is 1.
  pub read_is_written : (elem BoolKind (varint 2) ≡ Some (Boolean true)) × (written BoolKind (Boolean true) ≡ Var 1)
  -- A stray is read as a number that its enum does not declare.
  pub stray_is_valid : (payload_valid (varint 7) ≡ true) × (elem two_numbers (varint 7) ≡ Some (EnumNumber (pos 7)))
      × (scalar_valid two_numbers (EnumNumber (pos 7)) ≡ false)
  -- A payload without a spelling is read as a number past 64 bits.
  pub read_is_valid : (is_undeclared Uint64 (varint (2 ^ 64)) ≡ false)
      × (elem Uint64 (varint (2 ^ 64)) ≡ Some (U64 (2 ^ 64)))
      × (scalar_valid Uint64 (U64 (2 ^ 64)) ≡ false)
