use Rattle.prost_reflect_dynamic.proofs.Common.{sym, ap, inr, ◌∙◌, err_from_is_err_and, bytes_below, PooledType, pool_rows, is_stray_number, value_of, message_type_of}
use Rattle.prost_reflect_dynamic.proofs.Merging.{scalar_set, scalar_stray, scalar_fault}
use Rattle.prost_reflect_dynamic.proofs.TypedValues.{scalar_there}
use Rattle.prost_reflect_dynamic.proofs.message.DynamicMessage.merge_scalar.Goals as goal

pub returns-in_err-value-clause-fault : goal.returns-in_err-value-clause-fault
returns-in_err-value-clause-fault c = let p = err_from_is_err_and c.from_residual.result c.from_residual.ensures.1 in
    rw (p.1, p.2) (λ ne. scalar_fault c.args.self.now _ _ _ c.args.kind _ _ c.requires.field (c.in_err-value.ensures.fault ne))

pub merge_unknown-requires-clause-unknown : goal.merge_unknown-requires-clause-unknown
merge_unknown-requires-clause-unknown c =
    let test = λ (d : PooledType). is_stray_number (pool_rows d.pool).enums c.args.kind (value_of c.in_ok-value.value) in
    inr (scalar_stray c.args.self.now _ _ _ c.args.kind c.in_ok-value.value _ _ c.requires.field c.in_ok-value.ensures.ok (ap test (sym c.message_type.ensures) ∙ sym c.is_stray.ensures ∙ c.if-is_stray.true))

pub returns-clause-ok : goal.returns-clause-ok
returns-clause-ok c =
    let test = λ (d : PooledType). is_stray_number (pool_rows d.pool).enums c.args.kind (value_of c.in_ok-value.value) in
    scalar_set c.args.self.now c.set_member.new.self _ _ _ c.args.kind c.in_ok-value.value _ _ c.requires.sound c.requires.field (bytes_below _ c.type_inv.bytes) c.in_ok-value.ensures.ok
    (ap test (sym c.message_type.ensures) ∙ sym c.is_stray.ensures ∙ c.if-is_stray.false) (rw c.get.ensures.value at c.in_ok-set_member.ensures.content)

pub returns-clause-typed : goal.returns-clause-typed
returns-clause-typed c = c.in_ok-set_member.ensures.typed (scalar_there (message_type_of c.args.self.now) c.get.result c.in_ok-value.value c.in_ok-value.ensures.ok.scalar c.in_ok-value.ensures.ok.value)
