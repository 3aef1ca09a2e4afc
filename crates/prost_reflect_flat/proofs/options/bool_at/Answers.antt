use Rattle.std.proofs.Common.{subst}
use Rattle.prost_reflect_wire.specs.Front.{ValueFront}
use Rattle.prost_reflect_flat.proofs.OptionBytes.{bool_of_varint, bool_of_fault}
use Rattle.prost_reflect_flat.proofs.options.bool_at.Goals as goal

pub returns-in-Ok : goal.returns-in-Ok
returns-in-Ok c = λ n levels p rest f. bool_of_varint n levels p _ _ rest _ (subst (λ w. ValueFront n w levels p c.args.bytes.now rest) c.in-Varint.is f) c.in-Ok.ensures.ok

pub returns-in-Err : goal.returns-in-Err
returns-in-Err c = λ n levels p rest f. bool_of_fault n levels p _ _ rest (subst (λ w. ValueFront n w levels p c.args.bytes.now rest) c.in-Varint.is f) c.in-Err.ensures.fault
