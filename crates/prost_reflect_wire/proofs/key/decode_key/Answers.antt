use Rattle.prost_reflect_wire.proofs.Common.{rules, KeyFront}
use Rattle.prost_reflect_wire.specs.declared.error.DecodeError.TheVariants as errors
use Rattle.prost_reflect_wire.proofs.KeyFronts.{key_once, key_no_fault}
use Rattle.prost_reflect_wire.proofs.key.decode_key.Goals as goal

pub returns-in_err-value-clause-only : goal.returns-in_err-value-clause-only
returns-in_err-value-clause-only c = λ n w rest k. absurd (key_no_fault c.in_err-value.field-0.0 n w c.args.bytes.now rest k (search rules))

pub returns-in_default-clause-only : goal.returns-in_default-clause-only
returns-in_default-clause-only c = λ n w rest k. key_no_fault errors.Key n w c.args.bytes.now rest k (search rules)

pub returns-in_default-2-clause-only : goal.returns-in_default-2-clause-only
returns-in_default-2-clause-only c = λ n w rest k. key_no_fault errors.Key n w c.args.bytes.now rest k (search rules)

pub returns-then-number-eq0-clause-only : goal.returns-then-number-eq0-clause-only
returns-then-number-eq0-clause-only c = λ n w rest k. key_no_fault errors.Key n w c.args.bytes.now rest k (search rules)

pub returns-clause-only : goal.returns-clause-only
returns-clause-only c = λ n w rest k.
    let read : KeyFront c.new.result.value c.match-key-rem8.wire_type c.args.bytes.now c.in_ok-value.rest.now = search rules in
    key_once _ n _ w _ _ rest read k
