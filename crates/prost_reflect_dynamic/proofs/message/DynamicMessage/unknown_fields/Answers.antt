use Rattle.prost_reflect_dynamic.proofs.Common.{ap, ◌∙◌, map, unknown_record, all_unknown}
use Rattle.prost_reflect_dynamic.proofs.UnknownLists.{unknown_listed}
use Rattle.prost_reflect_dynamic.proofs.message.DynamicMessage.unknown_fields.Goals as goal

pub returns-clause-content : goal.returns-clause-content
returns-clause-content c = ap (λ es. map unknown_record (all_unknown es)) c.slots.ensures.slots ∙ unknown_listed c.args.self.now c.slots.ensures.ascending c.slots.ensures.sound
