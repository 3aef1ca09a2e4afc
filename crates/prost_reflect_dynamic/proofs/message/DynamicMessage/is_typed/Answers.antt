use Rattle.prost_reflect_dynamic.proofs.Common.{sym, ◌∙◌}
use Rattle.prost_reflect_dynamic.proofs.DeepTypes.{typed_content}
use Rattle.prost_reflect_dynamic.proofs.message.DynamicMessage.is_typed.Goals as goal

pub returns-clause-types : goal.returns-clause-types
returns-clause-types c = λ yes. typed_content c.args.self.now (sym c.message_typed.ensures ∙ yes)
