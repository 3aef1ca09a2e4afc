use Rattle.prost_reflect_dynamic.proofs.Common.{rules, ◌∙◌, known_of, all_items}
use Rattle.prost_reflect_dynamic.proofs.PresentWalks.{all_listed, present_inside, present_own}
use Rattle.prost_reflect_dynamic.proofs.message.DynamicMessage.present.Goals as goal

pub returns-clause-left : goal.returns-clause-left
returns-clause-left c =
    (λ i. all_items (known_of (c.message_type.ensures i)) (c.slots.ensures.slots i)) ∙ all_listed c.args.self.now c.slots.ensures.ascending c.slots.ensures.sound

pub returns-clause-inside : goal.returns-clause-inside
returns-clause-inside c =
    present_inside c.args.self.now _
    ((λ i. all_items (known_of (c.message_type.ensures i)) (c.slots.ensures.slots i)) ∙ all_listed c.args.self.now c.slots.ensures.ascending c.slots.ensures.sound)

pub returns-clause-own : goal.returns-clause-own
returns-clause-own c = present_own c.args.self.now _ (search rules)
