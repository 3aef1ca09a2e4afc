-- Worked examples at which the premises of the laws on reductions and on single fields hold.
use Rattle.std.specs.Prelude.{◌≡◌, ◌≤◌, ◌<◌, ◌^◌, ◌∷◌, ◌++◌}
use Rattle.prost_reflect_laws.specs.Common.{ℕ, true, false, List, [], length, Some, AreBytes, Record, record_at, spelled, schema_valid, Content, NoEntries, Stored, Unknown, Accepts, decoded, encoded, PathTo, holds_message, edited, Reduced, FieldFront}
use Rattle.prost_reflect_laws.specs.Examples.Schemas.{examples, my_message, older_message}
use Rattle.prost_reflect_laws.specs.Examples.Words.{hex, content, int, inner, varint}
use Rattle.prost_reflect_laws.specs.ReducingExamples.{whole, less}

-- MyMessage with foo and bar in a message inside, foo last.
abbrev pub relayed_bytes : List ℕ
relayed_bytes = hex "1a0410420805"

abbrev pub older_content : Content
older_content = content older_message (Stored 3 (inner older_message (Unknown 1 (varint 5) (Stored 2 (int 66) NoEntries))) NoEntries)

-- To bar in the message inside.
abbrev pub to_bar : List ℕ
to_bar = 3 ∷ 2 ∷ []

abbrev pub first_field : Record
first_field = record_at 1 (varint 1)

pub record OfPassages : Type 0 where
  -- A reduction, and bytes that the newer type accepts.
  pub older_accepts : Reduced examples older_message examples my_message × Accepts examples 1 my_message relayed_bytes
  -- The older type accepts them.
  pub older_accepted : Accepts examples 1 older_message relayed_bytes
  -- What they mean to the older type, whose bytes have a length.
  pub passage : (schema_valid examples ≡ true) × AreBytes relayed_bytes
      × (decoded examples 1 older_message relayed_bytes ≡ Some older_content)
      × (length (encoded older_content) < 2 ^ 64)
  -- The bytes that went out mean the same to the newer one.
  pub passed : decoded examples 1 my_message (hex "1a0408051042") ≡ decoded examples 1 my_message relayed_bytes
  -- A path of the older type into the message inside, to a number.
  pub edit_passage : (length to_bar ≤ 2) × PathTo examples older_message to_bar (int 7) × (holds_message (int 7) ≡ false)
  -- What is edited through it, and has a length.
  pub edit_written : (edited examples 1 older_message relayed_bytes to_bar (int 7) ≡ Some (hex "1a0408051007")) × (length (hex "1a0408051007") < 2 ^ 64)
  -- The newer type accepts it.
  pub edit_accepted : Accepts examples 1 my_message (hex "1a0408051007")
  -- Types of schemas that are checked.
  pub reduced_is_test : (schema_valid less ≡ true) × (schema_valid whole ≡ true) × (0 < length less) × (0 < length whole)
  -- One is a reduction of the other.
  pub reduced : Reduced less 0 whole 0

pub record OfFields : Type 0 where
  -- A field at the front of bytes.
  pub one_field : AreBytes (hex "080142") × FieldFront 0 first_field (hex "080142") (hex "42")
  -- It is written again in front of others.
  pub field_again : FieldFront 0 first_field (spelled (first_field ∷ []) ++ hex "ff") (hex "ff")
  -- Bytes behind a key of number 1.
  pub value_unless_fault : (1 ≤ 1) × (1 < 2 ^ 29) × AreBytes (hex "01")
