use Rattle.std.specs.Prelude.{◌≢◌, ℕ, List, Ok}
use Rattle.std.proofs.Common.{sym, ap, ◌∙◌}
use Rattle.std.proofs.lemmas.Result.{err_from_is_err_and}
use Rattle.prost_reflect_wire.specs.Fault.{StandsInMessage}
use Rattle.prost_reflect_wire.specs.Grammar.{LEVEL_LIMIT}
use Rattle.prost_reflect_wire.specs.declared.error.DecodeError.{DecodeError}
use Rattle.prost_reflect_wire.specs.declared.error.DecodeError.TheVariants as faults
use Rattle.prost_reflect_pool.specs.declared.pool.LinkedPool.{LinkedPool}
use Rattle.prost_reflect_dynamic.specs.Named.{type_named}
use Rattle.protorelay_commands.specs.Reading.{pool_schema, decode_refusal, IsAsked, RefusesBytes, RefusesIn}
use Rattle.protorelay_commands.proofs.reading.read_in.Goals as goal

-- A fault in the bytes.
module _ (pool : LinkedPool) (name digits : List ℕ) (T : ℕ) (bytes : List ℕ) (asked : IsAsked pool name digits T bytes) where
  stands : (e : DecodeError) → StandsInMessage (pool_schema pool) T LEVEL_LIMIT e bytes → RefusesBytes pool name digits e
  stands e fault = record { message_type = T; bytes = bytes; asked = asked; stands = fault }

  fault_refused : (e : DecodeError) → (e ≢ faults.OutOfMemory → StandsInMessage (pool_schema pool) T LEVEL_LIMIT e bytes) → RefusesIn pool name digits (decode_refusal e)
  fault_refused faults.Truncated h = stands faults.Truncated (h (λ same. cc))
  fault_refused faults.Varint h = stands faults.Varint (h (λ same. cc))
  fault_refused faults.Key h = stands faults.Key (h (λ same. cc))
  fault_refused faults.WireType h = stands faults.WireType (h (λ same. cc))
  fault_refused faults.EndGroup h = stands faults.EndGroup (h (λ same. cc))
  fault_refused faults.Utf8 h = stands faults.Utf8 (h (λ same. cc))
  fault_refused faults.Depth h = stands faults.Depth (h (λ same. cc))
  fault_refused faults.OutOfMemory h = tt

pub returns-in_err-decode-clause-refused : goal.returns-in_err-decode-clause-refused
returns-in_err-decode-clause-refused c = let q = err_from_is_err_and c.from_residual-in_err-decode.result c.from_residual-in_err-decode.ensures.1 in
    rw (q.1, q.2) (fault_refused c.args.pool.now.inner.value c.args.name.now c.args.digits.now (type_named c.in_ok-descriptor.descriptor) c.as_slice.result.now
    (record { named = c.in_ok-descriptor.ensures.found; spelled = c.in_ok-bytes.ensures.ok ∙ ap Ok (sym c.as_slice.ensures.value) }) _ (rw c.in_ok-descriptor.ensures.schema at c.in_err-decode.ensures.fault))
