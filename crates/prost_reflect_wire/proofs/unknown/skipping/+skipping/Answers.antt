use Rattle.std.specs.Prelude.{◌≡◌}
use Rattle.prost_reflect_wire.proofs.Common.{arith, inl, err_from_is_err_and, Var, Fix64, Len, Fix32}
use Rattle.prost_reflect_wire.specs.declared.error.DecodeError.TheVariants as errors
use Rattle.prost_reflect_wire.proofs.PlainFronts.{delimited_plain, varint_plain}
use Rattle.prost_reflect_wire.proofs.PlaceFaults.{key_in_group, value_in_group}
use Rattle.prost_reflect_wire.proofs.SkippedValues.{skipped_more, skips_plain, skips_group}
use Rattle.prost_reflect_wire.proofs.unknown.skipping.+skipping.Goals as goal

pub skip_group-returns-in_err-key-clause-fault : goal.skip_group-returns-in_err-key-clause-fault
skip_group-returns-in_err-key-clause-fault t c = let p = err_from_is_err_and c.from_residual.result c.from_residual.ensures.1 in
    rw (p.1, p.2) (key_in_group _ _ _ _ _ _ (omega arith) c.loop-key.invariant.front c.in_err-key.ensures.fault)

pub skip_group-returns-in-EndGroup-2-clause-fault : goal.skip_group-returns-in-EndGroup-2-clause-fault
skip_group-returns-in-EndGroup-2-clause-fault t c =
    value_in_group errors.EndGroup _ _ _ _ _ (omega arith) c.loop-key.invariant.front _ _ _ c.in_ok-key.ensures.ok (λ is same. c.if-get.false (let e : c.in_ok-key.key.value ≡ c.args.number.value = same in cc)) (inl c.in-EndGroup-2.is)

pub skip_group-returns-in_err-rest-clause-fault : goal.skip_group-returns-in_err-rest-clause-fault
skip_group-returns-in_err-rest-clause-fault t c = let p = err_from_is_err_and c.from_residual-in_err-rest.result c.from_residual-in_err-rest.ensures.1 in
    rw (p.1, p.2) (value_in_group _ _ _ _ _ _ (omega arith) c.loop-key.invariant.front _ _ _ c.in_ok-key.ensures.ok (λ is same. c.in_default.not-EndGroup is) c.in_err-rest.ensures.fault)

pub skip_group-loop-key-preserved : goal.skip_group-loop-key-preserved
skip_group-loop-key-preserved t c = let v = c.in_ok-rest.ensures.ok in skipped_more _ _ _ v.0 _ _ _ _ c.loop-key.invariant c.in_ok-key.ensures.ok v.1

pub skip_payload-returns-in_ok-rest-in-Varint-clause-ok : goal.skip_payload-returns-in_ok-rest-in-Varint-clause-ok
skip_payload-returns-in_ok-rest-in-Varint-clause-ok t c = skips_plain _ _ _ (Var c.in_ok-rest-in-Varint.field-0-0) _ _ c.in-Varint.is (varint_plain _ _ _ c.in_ok-rest-in-Varint.ensures.ok)

pub skip_payload-returns-in_ok-rest-in-SixtyFourBit-clause-ok : goal.skip_payload-returns-in_ok-rest-in-SixtyFourBit-clause-ok
skip_payload-returns-in_ok-rest-in-SixtyFourBit-clause-ok t c = skips_plain _ _ _ (Fix64 c.in_ok-rest-in-SixtyFourBit.field-0-0) _ _ c.in-SixtyFourBit.is c.in_ok-rest-in-SixtyFourBit.ensures.ok

pub skip_payload-returns-in_ok-rest-in-LengthDelimited-clause-ok : goal.skip_payload-returns-in_ok-rest-in-LengthDelimited-clause-ok
skip_payload-returns-in_ok-rest-in-LengthDelimited-clause-ok t c =
    skips_plain _ _ _ (Len c.in_ok-rest-in-LengthDelimited.field-0-0.now) _ _ c.in-LengthDelimited.is (delimited_plain _ _ _ c.in_ok-rest-in-LengthDelimited.ensures.ok)

pub skip_payload-returns-in_ok-rest-in-ThirtyTwoBit-clause-ok : goal.skip_payload-returns-in_ok-rest-in-ThirtyTwoBit-clause-ok
skip_payload-returns-in_ok-rest-in-ThirtyTwoBit-clause-ok t c = skips_plain _ _ _ (Fix32 c.in_ok-rest-in-ThirtyTwoBit.field-0-0) _ _ c.in-ThirtyTwoBit.is c.in_ok-rest-in-ThirtyTwoBit.ensures.ok

pub skip_payload-returns-in-StartGroup-clause-ok : goal.skip_payload-returns-in-StartGroup-clause-ok
skip_payload-returns-in-StartGroup-clause-ok t c = skips_group _ _ _ _ c.skip_group.result c.in-StartGroup.is c.skip_group.ensures.ok
