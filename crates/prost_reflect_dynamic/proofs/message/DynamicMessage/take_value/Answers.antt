use Rattle.prost_reflect_dynamic.proofs.Common.{rules, nat_eq, ap, ◌∙◌, option_map, value_of}
use Rattle.prost_reflect_dynamic.proofs.Stored.{value_of_message, message_cleared}
use Rattle.prost_reflect_dynamic.proofs.Depths.{without_depth}
use Rattle.prost_reflect_dynamic.proofs.Edits.{clears, is_gone, stays_beside}
use Rattle.prost_reflect_dynamic.proofs.TypedSteps.{without_typed}
use Rattle.prost_reflect_dynamic.proofs.message.DynamicMessage.take_value.Goals as goal

pub returns-clause-value : goal.returns-clause-value
returns-clause-value c = ap (option_map value_of) c.take.ensures.value ∙ value_of_message c.args.self.now c.args.number c.take.ensures.ascending

pub returns-clause-removes : goal.returns-clause-removes
returns-clause-removes c =
    clears c.args.self.now _ c.args.number c.take.ensures.ascending (search rules) (message_cleared c.args.self.now c.take.new.self c.args.number c.take.ensures.ascending c.take.ensures.left)
    (without_typed c.args.self.now c.take.new.self (nat_eq c.args.number) c.take.ensures.ascending c.take.ensures.left)
    (without_depth c.args.self.now _ (nat_eq c.args.number) (ap (λ p. p.1) c.take.ensures.left))

pub returns-clause-gone : goal.returns-clause-gone
returns-clause-gone c = is_gone c.args.self.now _ c.args.number c.take.ensures.ascending (message_cleared c.args.self.now c.take.new.self c.args.number c.take.ensures.ascending c.take.ensures.left)

pub returns-clause-others : goal.returns-clause-others
returns-clause-others c = stays_beside c.args.self.now _ c.args.number (returns-clause-removes c)
