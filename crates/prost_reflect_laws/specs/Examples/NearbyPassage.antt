-- Statements near the laws of reduction that do not hold, each refuted by a worked example. What passes on without a reduction stands in FailedPassages.
use Rattle.std.specs.Prelude.{◌≡◌, ◌<◌, ◌∷◌}
use Rattle.prost_reflect_laws.specs.Common.{ℕ, suc, false, true, List, [], length, Some, ◌>>=◌, MessageOf, Singular, Schema, schema_valid, NoEntries, Value, LEVEL_LIMIT, Accepts, decoded, relayed, set_at, PathTo, holds_message, edited, Reduced}
use Rattle.prost_reflect_laws.specs.Reducing.{is_reduced}
use Rattle.prost_reflect_laws.specs.Examples.Schemas.{examples, message, field, message_value_type, my_message, older_message, no_fields, text_at_one, optional_a, two_choices, choices_without_a}
use Rattle.prost_reflect_laws.specs.Examples.Words.{hex, int, inner, Becomes, Sets}
use Rattle.prost_reflect_laws.specs.Examples.Passages.{AcceptedBy}
use Rattle.prost_reflect_laws.specs.Examples.PremisesOfPassage.{to_bar}
use Rattle.prost_reflect_laws.specs.Examples.NearbyTyping.{text_default}

-- An empty message of the older type, at its number.
abbrev pub older_value : Value
older_value = inner older_message NoEntries

abbrev pub to_message : List ℕ
to_message = 3 ∷ []

abbrev pub to_x : List ℕ
to_x = 3 ∷ []

-- A type with a field of a message type past the end of the schema.
abbrev pub no_message : Schema
no_message = message (field 1 Singular (message_value_type (MessageOf 1)) ∷ []) ∷ []

pub record NotOfPassages : Type 0 where
  -- What the older type accepts the newer one may refuse: a number where it knows a text.
  pub older_accepts : Reduced examples no_fields examples text_at_one × AcceptedBy no_fields "0801" × (AcceptedBy text_at_one "0801" → ⊥)
  -- Without a reduction the older type may refuse what the newer one accepts.
  pub older_unreduced : (Reduced examples text_at_one examples optional_a → ⊥) × AcceptedBy optional_a "0801" × (AcceptedBy text_at_one "0801" → ⊥)
  -- What is passed on means the same, and is not always the same bytes.
  pub passage : AcceptedBy my_message "1a0410420805" × Becomes older_message "1a0410420805" "1a0408051042" × (hex "1a0408051042" ≡ hex "1a0410420805" → ⊥)
  -- Of a type that no check passes, what is passed on may be refused.
  pub passage_checked : (schema_valid text_default ≡ false) × Reduced text_default 0 text_default 0 × Accepts text_default 0 0 (hex "0a00") × (relayed text_default 0 0 (hex "0a00") ≡ Some (hex "0a021200"))
      × (Accepts text_default 0 0 (hex "0a021200") → ⊥)
  -- A path that opens more levels than there are leads to bytes that are not accepted.
  pub edit_levels : (suc 0 < length to_bar) × Accepts examples 0 my_message [] × PathTo examples older_message to_bar (int 7) × (edited examples 0 older_message [] to_bar (int 7) ≡ Some (hex "1a021007"))
      × (Accepts examples 0 my_message (hex "1a021007") → ⊥)
  -- A message that is set is of the older type, and is read as one of the newer.
  pub edit_message : (holds_message older_value ≡ true) × AcceptedBy my_message "" × PathTo examples older_message to_message older_value × Sets older_message "" to_message older_value "1a00"
      × (decoded examples LEVEL_LIMIT my_message (hex "1a00") ≡ (decoded examples LEVEL_LIMIT my_message [] >>= λ d. Some (set_at to_message older_value d)) → ⊥)
  -- Without a reduction a set may change what stands elsewhere: a member of a oneof is added, the last one was a, and is b.
  pub edit_unreduced : (Reduced examples choices_without_a examples two_choices → ⊥) × AcceptedBy two_choices "1005 0806" × PathTo examples choices_without_a to_x (int 1) × Sets choices_without_a "1005 0806" to_x (int 1) "0806 1005 1801"
      × (decoded examples LEVEL_LIMIT two_choices (hex "0806 1005 1801") ≡ (decoded examples LEVEL_LIMIT two_choices (hex "1005 0806") >>= λ d. Some (set_at to_x (int 1) d)) → ⊥)
  -- Types past the end of a schema have no fields and are reductions of one another. The test does not look there.
  pub reduced_is_test : Reduced [] 0 [] 0 × (is_reduced [] 0 [] 0 ≡ false)
  -- So it misses a field whose message type stands there, which no check passes.
  pub reduced_checked : (schema_valid no_message ≡ false) × Reduced no_message 0 no_message 0
      × (is_reduced no_message 0 no_message 0 ≡ false)
