use Rattle.prost_reflect_dynamic.proofs.Common.{true, false, ◌∙◌, known_of, had_values}
use Rattle.prost_reflect_dynamic.proofs.ValueLists.{had_listed}
use Rattle.prost_reflect_dynamic.proofs.message.DynamicMessage.had_values.Goals as goal

pub returns-clause-of_fields : goal.returns-clause-of_fields
returns-clause-of_fields c =
    (λ i. had_values false (known_of (c.message_type.ensures i)) (c.slots.ensures.slots i)) ∙ had_listed false c.args.self.now c.slots.ensures.ascending c.slots.ensures.sound

pub returns-clause-of_extensions : goal.returns-clause-of_extensions
returns-clause-of_extensions c =
    (λ i. had_values true (known_of (c.message_type.ensures i)) (c.slots.ensures.slots i)) ∙ had_listed true c.args.self.now c.slots.ensures.ascending c.slots.ensures.sound
