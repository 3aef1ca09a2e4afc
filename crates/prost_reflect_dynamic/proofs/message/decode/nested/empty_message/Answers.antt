use Rattle.prost_reflect_dynamic.proofs.TypedValues.{empty_typed}
use Rattle.prost_reflect_dynamic.proofs.message.decode.nested.empty_message.Goals as goal

pub returns-clause-typed : goal.returns-clause-typed
returns-clause-typed c = empty_typed c.args.message_type.now c.in_ok-at.field-0 c.args.place c.of_type.result c.in_ok-at.ensures.pool c.in_ok-at.ensures.index c.of_type.ensures.message_type c.of_type.ensures.nothing
