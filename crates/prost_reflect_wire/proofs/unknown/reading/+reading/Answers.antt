use Rattle.std.specs.Prelude.{◌≡◌, ◌<◌}
use Rattle.prost_reflect_wire.proofs.Common.{sym, subst, arith, inl, err_from_is_err_and, record_at, payload_levels, KeyFront, payload_of, records_of}
use Rattle.prost_reflect_wire.specs.declared.error.DecodeError.TheVariants as errors
use Rattle.prost_reflect_wire.proofs.PlaceFaults.{key_in_group, value_in_group}
use Rattle.prost_reflect_wire.proofs.RecordFronts.{record_front, last_front, levels_last}
use Rattle.prost_reflect_wire.proofs.UnknownViews.{record_of_field}
use Rattle.prost_reflect_wire.proofs.unknown.reading.+reading.Goals as goal

pub decode_group-returns-in_err-key-clause-fault : goal.decode_group-returns-in_err-key-clause-fault
decode_group-returns-in_err-key-clause-fault t c = let p = err_from_is_err_and c.from_residual.result c.from_residual.ensures.1 in
    rw (p.1, p.2) (λ _. key_in_group _ _ _ _ _ _ (omega arith) c.loop-fields.invariant.front c.in_err-key.ensures.fault)

pub decode_group-returns-in-EndGroup-2-clause-fault : goal.decode_group-returns-in-EndGroup-2-clause-fault
decode_group-returns-in-EndGroup-2-clause-fault t c = λ _.
    value_in_group errors.EndGroup _ _ _ _ _ (omega arith) c.loop-fields.invariant.front _ _ _ c.in_ok-key.ensures.ok (λ is same. c.if-get.false (let e : c.in_ok-key.key.value ≡ c.args.number.value = same in cc)) (inl c.in-EndGroup-2.is)

pub decode_group-returns-in_err-value-clause-fault : goal.decode_group-returns-in_err-value-clause-fault
decode_group-returns-in_err-value-clause-fault t c = let p = err_from_is_err_and c.from_residual-in_err-value.result c.from_residual-in_err-value.ensures.1 in
    rw (p.1, p.2) (λ ne. value_in_group _ _ _ _ _ _ (omega arith) c.loop-fields.invariant.front _ _ _ c.in_ok-key.ensures.ok (λ is same. c.in_default.not-EndGroup is) (c.in_err-value.ensures.fault ne))

pub decode_group-loop-fields-preserved : goal.decode_group-loop-fields-preserved
decode_group-loop-fields-preserved t c = let v = c.in_ok-value.ensures.ok in
    let k = subst (λ w. KeyFront c.in_ok-key.key.value w c.loop-fields.rest.now c.in_ok-key.after.now) (sym v.wire) c.in_ok-key.ensures.ok in
    let low : payload_levels (payload_of c.in_ok-value.value) < c.args.levels = omega (arith, v.within) in
    rw (c.in_ok-insert.ensures.records, record_of_field, c.new.ensures.number, c.new.ensures.value) (record {
      front = last_front _ _ _ _ _ c.loop-fields.invariant.front (record_front _ _ _ _ _ k v.front);
      within = levels_last (records_of c.loop-fields.fields) (record_at c.in_ok-key.key.value (payload_of c.in_ok-value.value)) c.args.levels c.loop-fields.invariant.within low;
    })
