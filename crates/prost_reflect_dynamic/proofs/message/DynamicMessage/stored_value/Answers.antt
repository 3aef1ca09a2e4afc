use Rattle.prost_reflect_dynamic.proofs.Common.{ap, ◌∙◌, option_map, value_of}
use Rattle.prost_reflect_dynamic.proofs.Stored.{value_of_message}
use Rattle.prost_reflect_dynamic.proofs.message.DynamicMessage.stored_value.Goals as goal

pub returns-clause-value : goal.returns-clause-value
returns-clause-value c = ap (option_map value_of) c.get.ensures.value ∙ value_of_message c.args.self.now c.args.number c.get.ensures.ascending
