-- Worked examples of the test of reduction, which hold by computing.
use Rattle.std.specs.Prelude.{◌≡◌, ◌∷◌}
use Rattle.prost_reflect_laws.specs.Common.{true, false, [], MessageOf, Singular, Schema, schema_valid}
use Rattle.prost_reflect_laws.specs.Reducing.{greatest_reduction, is_reduced}
use Rattle.prost_reflect_laws.specs.Examples.Schemas.{field, int32, text, message_value_type, message}

-- message Outer { int32 a = 1; Inner b = 2; } message Inner { int32 a = 1; }
abbrev pub whole : Schema
whole = message (field 1 Singular (int32 false) ∷ field 2 Singular (message_value_type (MessageOf 1)) ∷ [])
    ∷ message (field 1 Singular (int32 false) ∷ [])
    ∷ []

-- Outer without a.
abbrev pub less : Schema
less = message (field 2 Singular (message_value_type (MessageOf 1)) ∷ []) ∷ message (field 1 Singular (int32 false) ∷ []) ∷ []

-- Outer without a, where Inner's a is a string.
abbrev pub other : Schema
other = message (field 2 Singular (message_value_type (MessageOf 1)) ∷ []) ∷ message (field 1 Singular (text false) ∷ []) ∷ []

pub record WorkedReductions : Type 0 where
  -- They are checked.
  pub whole_valid : schema_valid whole ≡ true
  pub less_valid : schema_valid less ≡ true
  pub other_valid : schema_valid other ≡ true
  -- A type of itself.
  pub itself : is_reduced whole 0 whole 0 ≡ true
  -- Without a field.
  pub without_field : is_reduced less 0 whole 0 ≡ true
  -- Not the other way.
  pub backwards : is_reduced whole 0 less 0 ≡ false
  -- Of Outer, Inner is itself with a message field left out.
  pub inner : is_reduced whole 1 whole 0 ≡ true
  -- A difference inside is found: the inner types go first, and the outer ones with them.
  pub inside : is_reduced other 0 whole 0 ≡ false
  -- Of whole and less as they are: Outer, and Inner of both.
  pub greatest : greatest_reduction less whole ≡ (1, 1) ∷ (1, 0) ∷ (0, 0) ∷ []
