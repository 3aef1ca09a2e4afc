use Rattle.prost_reflect_proto.proofs.Common.{refl, sym, ap, subst, ◌∙◌, map, [], err_from_is_err_and, Fields, all_found, all_decoded, records_at, of_message, map_append}
use Rattle.prost_reflect_types.specs.declared.table.RecordType.TheVariants as types
use Rattle.prost_reflect_proto.proofs.NestedRecords.{NestedSoFar, nested_none, nested_more, nested_done, nested_refused, next_body, no_body, ok_at, err_at}
use Rattle.prost_reflect_proto.proofs.DescriptorFaults.{nested_stands}
use Rattle.prost_reflect_proto.proofs.body.+reading.Goals as goal

pub message-returns-in_err-nested_type-clause-fault : goal.message-returns-in_err-nested_type-clause-fault
message-returns-in_err-nested_type-clause-fault t c =
    let p = err_from_is_err_and c.from_residual-in_err-nested_type.result c.from_residual-in_err-nested_type.ensures.1 in
    rw (p.1, p.2) (λ ne. nested_stands c.args.levels types.Message types.Message 3 _ (all_found c.as_slice-fields.result.now) c.args.body.now
    (subst (λ fields. Fields c.args.levels types.Message (all_found fields) c.args.body.now []) (sym c.as_slice-fields.ensures.value) c.in_ok-fields.ensures.ok)
    refl (c.in_err-nested_type.ensures.fault ne))

pub message-returns-clause-ok : goal.message-returns-clause-ok
message-returns-clause-ok t c =
    ok_at _ _ c.message_of.result c.message_of.ensures.ok c.args.body.now
    (subst (λ fields. Fields c.args.levels types.Message (all_found fields) c.args.body.now []) (sym c.as_slice-fields.ensures.value) c.in_ok-fields.ensures.ok)

pub message-returns-clause-fault : goal.message-returns-clause-fault
message-returns-clause-fault t c =
    err_at _ _ c.message_of.result c.message_of.ensures.fault c.args.body.now
    (subst (λ fields. Fields c.args.levels types.Message (all_found fields) c.args.body.now []) (sym c.as_slice-fields.ensures.value) c.in_ok-fields.ensures.ok)

pub messages-returns-in_err-nested_message-clause-fault : goal.messages-returns-in_err-nested_message-clause-fault
messages-returns-in_err-nested_message-clause-fault t c =
    let p = err_from_is_err_and c.from_residual-in_err-nested_message.result c.from_residual-in_err-nested_message.ensures.1 in
    rw (p.1, p.2) (λ ne. rw (← (c.in_ok-bodies.ensures), ← c.as_slice-bodies.ensures.value) (nested_refused _ _ _ _ _ _ _ (subst (NestedSoFar _ _ _ _) (next_body c.as_slice-bodies.result.now c.loop-body.body-index _ c.loop-body-test.true) c.loop-body.invariant) (c.in_err-nested_message.ensures.fault ne)))

pub messages-loop-body-init : goal.messages-loop-body-init
messages-loop-body-init t c = rw c.in_ok-records.ensures.items (nested_none _ _ _)

pub messages-loop-body-preserved : goal.messages-loop-body-preserved
messages-loop-body-preserved t c =
    nested_more _ _ _ _ _ _ _ _ (subst (NestedSoFar _ _ _ _) (next_body c.as_slice-bodies.result.now c.loop-body.body-index _ c.loop-body-test.true) c.loop-body.invariant) c.in_ok-nested_message.ensures.ok
    (ap (map of_message) c.in_ok-push.ensures.items ∙ map_append of_message c.loop-body.records.items _)

pub messages-returns-clause-ok : goal.messages-returns-clause-ok
unfolding records_at
messages-returns-clause-ok t c =
    ap (all_decoded c.args.levels types.Message) (sym c.in_ok-bodies.ensures ∙ ap (map (λ b. b.now)) (sym c.as_slice-bodies.ensures.value))
    ∙ nested_done _ _ _ _ _ c.loop-body.invariant (no_body c.as_slice-bodies.result.now c.loop-body.body-index c.loop-body-test.false)
