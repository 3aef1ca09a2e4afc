-- Statements near the laws on faults and on single fields that do not hold, each refuted by a worked example.
use Rattle.std.specs.Prelude.{◌≡◌, ◌≢◌, ◌∷◌, ◌++◌}
use Rattle.prost_reflect_laws.specs.Common.{ℕ, false, List, [], spelled, Accepts, accepts, FieldFront, StandsInMessage, StandsInValue, DecodeError}
use Rattle.prost_reflect_laws.specs.FieldLaws.{HasField, HasValue}
use Rattle.prost_reflect_laws.specs.Examples.Schemas.{examples, my_message, no_fields}
use Rattle.prost_reflect_laws.specs.Examples.Words.{hex}
use Rattle.prost_reflect_laws.specs.Examples.Instances.{needless}
use Rattle.prost_reflect_laws.specs.Examples.PremisesOfPassage.{first_field}
use Rattle.prost_reflect_wire.specs.declared.key.WireType.TheVariants as wires
use Rattle.prost_reflect_wire.specs.declared.error.DecodeError.TheVariants as errors

-- An unknown group.
abbrev pub group_bytes : List ℕ
group_bytes = hex "2b2c"

-- 264 is no byte. Its low seven bits are 8, a key, behind which the value is missing.
abbrev pub no_value : List ℕ
no_value = 264 ∷ 0 ∷ []

pub record NotOfFaults : Type 0 where
  -- Bytes that are accepted may have a fault with fewer levels left,
  pub accepted_has_no_fault : Accepts examples 1 my_message group_bytes × StandsInMessage examples my_message 0 errors.Depth group_bytes
  -- and a fault that bytes have, they need not have with more.
  pub fault_further : StandsInMessage examples my_message 1 errors.Depth group_bytes → ⊥
  -- Bytes may have more than one fault: a wire type, and behind it number 0.
  pub one_fault : StandsInMessage examples my_message 0 errors.WireType (hex "180000") × StandsInMessage examples my_message 0 errors.Key (hex "180000")
  -- Numbers that are no bytes may have no fault, though they are not accepted.
  pub accepted_unless_fault : (accepts examples 0 my_message no_value ≡ false)
      × ((e : DecodeError) → StandsInMessage examples my_message 0 e no_value → ⊥)
  -- Each error but being out of memory is a fault of some bytes.
  pub never_stands : (e : DecodeError) → e ≢ errors.OutOfMemory
      → (T : ℕ) × ((k : ℕ) × ((bytes : List ℕ) × StandsInMessage examples T k e bytes))
  -- Bytes that are not accepted are refused for a fault that they have, too.
  pub only_memory : (errors.Truncated ≢ errors.OutOfMemory → StandsInMessage examples my_message 100 errors.Truncated (hex "0896")) × (errors.Truncated ≢ errors.OutOfMemory)

pub record NotOfFields : Type 0 where
  -- A fault behind the first field is none of the field.
  pub field_unless_fault : HasField 0 (hex "080100") × StandsInMessage examples no_fields 0 errors.Key (hex "080100")
  -- A value may stand behind a key of number 0, which is a fault.
  pub value_unless_fault : HasValue 0 0 wires.Varint (hex "01") × StandsInValue 0 0 wires.Varint errors.Key (hex "01")
  -- Different bytes may begin with one field.
  pub one_field : FieldFront 0 first_field (hex "0801") [] × FieldFront 0 first_field needless [] × (needless ≡ hex "0801" → ⊥)
  -- So what is written of a field is not always what was read.
  pub field_again : spelled (first_field ∷ []) ++ [] ≡ needless → ⊥
