use Rattle.prost_reflect_proto.proofs.Common.{sym, ap, subst, ◌∙◌, map, err_from_is_err_and, all_decoded, records_at, map_append}
use Rattle.prost_reflect_proto.proofs.NestedRecords.{NestedSoFar, nested_none, nested_more, nested_done, nested_refused, next_body, no_body}
use Rattle.prost_reflect_proto.proofs.body.records.Goals as goal

pub returns-in_err-nested-clause-fault : goal.returns-in_err-nested-clause-fault
returns-in_err-nested-clause-fault g c =
    let p = err_from_is_err_and c.from_residual-in_err-nested.result c.from_residual-in_err-nested.ensures.1 in
    rw (p.1, p.2) (λ ne. rw (← (c.in_ok-bodies.ensures), ← c.as_slice-bodies.ensures.value) (nested_refused _ _ _ _ _ _ _ (subst (NestedSoFar _ _ _ _) (next_body c.as_slice-bodies.result.now c.loop-body.body-index _ c.loop-body-test.true) c.loop-body.invariant) (c.in_err-nested.ensures.fault ne)))

pub loop-body-init : goal.loop-body-init
loop-body-init g c = rw c.in_ok-records.ensures.items (nested_none _ _ _)

pub loop-body-preserved : goal.loop-body-preserved
loop-body-preserved g c =
    nested_more _ _ _ _ _ _ _ _ (subst (NestedSoFar _ _ _ _) (next_body c.as_slice-bodies.result.now c.loop-body.body-index _ c.loop-body-test.true) c.loop-body.invariant) c.in_ok-nested.ensures.ok
    (ap (map g.P.HasContent.content) c.in_ok-push.ensures.items ∙ map_append g.P.HasContent.content c.loop-body.records.items _)

pub returns-clause-ok : goal.returns-clause-ok
unfolding records_at
returns-clause-ok g c =
    ap (all_decoded c.args.levels g.P.WriteProto.record_type) (sym c.in_ok-bodies.ensures ∙ ap (map (λ b. b.now)) (sym c.as_slice-bodies.ensures.value))
    ∙ nested_done _ _ _ _ _ c.loop-body.invariant (no_body c.as_slice-bodies.result.now c.loop-body.body-index c.loop-body-test.false)
