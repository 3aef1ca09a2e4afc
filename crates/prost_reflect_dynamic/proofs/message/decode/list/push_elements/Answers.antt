use Rattle.prost_reflect_dynamic.proofs.Common.{rules, err_from_is_err_and}
use Rattle.prost_reflect_dynamic.proofs.ListElements.{packed_added, single_added, body_refused}
use Rattle.prost_reflect_dynamic.proofs.message.decode.list.push_elements.Goals as goal

pub returns-in_err-push_packed-clause-fault : goal.returns-in_err-push_packed-clause-fault
returns-in_err-push_packed-clause-fault c = let p = err_from_is_err_and c.from_residual-in_err-push_packed.result c.from_residual-in_err-push_packed.ensures.1 in
    rw (p.1, p.2) (λ ne. body_refused _ _ _ _ _ _ (search rules) (rw c.if-is_packable.true at (c.is_packable.ensures.scalar c.requires)) c.in_ok-body.ensures.ok (c.in_err-push_packed.ensures.fault ne))

pub returns-then-is_packable-clause-ok : goal.returns-then-is_packable-clause-ok
returns-then-is_packable-clause-ok c = packed_added _ _ _ _ _ _ _ (search rules) (rw c.if-is_packable.true at (c.is_packable.ensures.scalar c.requires)) c.in_ok-body.ensures.ok c.in_ok-push_packed.ensures.ok

pub returns-clause-ok : goal.returns-clause-ok
returns-clause-ok c = single_added _ _ _ _ _ _ _ c.in_ok-value.ensures.ok c.in_ok-push.ensures.items
