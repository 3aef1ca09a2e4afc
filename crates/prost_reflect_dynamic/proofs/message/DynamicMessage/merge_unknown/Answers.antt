use Rattle.prost_reflect_dynamic.proofs.Common.{err_from_is_err_and, bytes_below, message_type_of}
use Rattle.prost_reflect_wire.proofs.UnknownViews.{record_of_field}
use Rattle.prost_reflect_dynamic.proofs.Merging.{unknown_set, unknown_stands, unknown_fault}
use Rattle.prost_reflect_dynamic.proofs.message.DynamicMessage.merge_unknown.Goals as goal

pub returns-in_err-value-clause-fault : goal.returns-in_err-value-clause-fault
returns-in_err-value-clause-fault c = let p = err_from_is_err_and c.from_residual.result c.from_residual.ensures.1 in
    rw (p.1, p.2) (λ ne. unknown_fault c.args.self.now _ _ _ _ _ c.requires.unknown (c.in_err-value.ensures.fault ne) c.in_err-value.ensures.only ne)

pub add_unknown-requires-clause-kept : goal.add_unknown-requires-clause-kept
add_unknown-requires-clause-kept c = rw (record_of_field, c.new.ensures.value, c.get.ensures.value) (unknown_stands (message_type_of c.args.self.now) _ _ _ _ _ _ c.requires.unknown c.args.number.some c.args.number.below (bytes_below _ c.type_inv.bytes) c.in_ok-value.ensures.ok)

pub returns-clause-ok : goal.returns-clause-ok
returns-clause-ok c = unknown_set c.args.self.now c.add_unknown.new.self _ _ _ _ _ _ c.requires.sound c.requires.unknown c.args.number.some c.args.number.below (bytes_below _ c.type_inv.bytes) c.in_ok-value.ensures.ok (rw (record_of_field, c.new.ensures.number, c.new.ensures.value) at c.in_ok-add_unknown.ensures.content)
