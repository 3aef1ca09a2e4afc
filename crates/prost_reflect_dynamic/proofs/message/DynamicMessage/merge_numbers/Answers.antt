use Rattle.prost_reflect_dynamic.proofs.Common.{rules, err_from_is_err_and}
use Rattle.prost_reflect_dynamic.proofs.NumberMerging.{number_taken_step, body_taken_step, length_refused, body_refused, number_refused}
use Rattle.prost_reflect_dynamic.proofs.message.DynamicMessage.merge_numbers.Goals as goal

pub returns-in_err-body-clause-fault : goal.returns-in_err-body-clause-fault
returns-in_err-body-clause-fault c = let p = err_from_is_err_and c.from_residual.result c.from_residual.ensures.1 in
    rw (p.1, p.2) (λ ne. length_refused c.args.self.now _ c.args.kind c.requires.field _ _ _ _ (search rules) c.in_err-body.ensures.fault)

pub returns-in_err-merge_body-clause-fault : goal.returns-in_err-merge_body-clause-fault
returns-in_err-merge_body-clause-fault c = let p = err_from_is_err_and c.from_residual-in_err-merge_body.result c.from_residual-in_err-merge_body.ensures.1 in
    rw (p.1, p.2) (λ ne. body_refused c.args.self.now _ c.args.kind c.requires.field _ _ _ _ _ _ (search rules) c.in_ok-body.ensures.ok (c.in_err-merge_body.ensures.fault ne))

pub returns-then-eq-clause-ok : goal.returns-then-eq-clause-ok
returns-then-eq-clause-ok c = body_taken_step c.args.self.now _ c.args.kind c.requires.field c.merge_body.new.self _ _ _ _ _ c.requires.sound (search rules) c.in_ok-body.ensures.ok c.in_ok-merge_body.ensures.ok

pub returns-in_err-varint-clause-fault : goal.returns-in_err-varint-clause-fault
returns-in_err-varint-clause-fault c = let p = err_from_is_err_and c.from_residual-in_err-varint.result c.from_residual-in_err-varint.ensures.1 in
    rw (p.1, p.2) (λ ne. number_refused c.args.self.now _ c.args.kind c.requires.field _ _ _ _ (search rules) c.in_err-varint.ensures.fault)

pub returns-clause-ok : goal.returns-clause-ok
returns-clause-ok c = number_taken_step c.args.self.now _ c.args.kind c.requires.field c.merge_number.new.self _ _ _ _ _ c.requires.sound c.in_ok-varint.ensures.wire c.in_ok-varint.ensures.ok c.in_ok-merge_number.ensures.content
