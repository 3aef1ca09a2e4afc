-- Why nothing is written.
use Rattle.std.specs.Prelude.{◌≡◌}
use Rattle.std.proofs.Common.{ℕ, false, List, refl}
use Rattle.prost_reflect_wire.specs.Schema.{Schema}
use Rattle.prost_reflect_wire.specs.declared.error.EncodeError.{EncodeError}
use Rattle.prost_reflect_wire.specs.declared.error.EncodeError.TheVariants as encode_errors
use Rattle.prototool_commands.specs.Redacting.{IsRefused, IsTooLong}
use Rattle.prototool_commands.specs.Refusals.{encode_refusal, is_path}
use Rattle.prototool_commands.specs.declared.refusal.Refusal.{Refusal}
use Rattle.prototool_commands.specs.declared.refusal.Refusal.TheVariants.{Path}

module _ (schema : Schema) (T : ℕ) (paths : List (List ℕ)) (bytes : List ℕ) where
  pub encode_refused : (e : EncodeError) → (e ≡ encode_errors.TooLong → IsTooLong schema T paths bytes) → IsRefused schema T paths bytes (encode_refusal e)
  encode_refused encode_errors.OutOfMemory long = tt
  encode_refused encode_errors.TooLong long = (refl, long refl)

  -- no path of names is at fault
  pub plain_refusal : (refusal : Refusal) → IsRefused schema T paths bytes refusal → is_path refusal ≡ false
  plain_refusal (Path text) h = absurd h
  plain_refusal refusal h = refl
