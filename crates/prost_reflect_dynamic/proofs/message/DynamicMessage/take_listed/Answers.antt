use Rattle.prost_reflect_dynamic.proofs.Common.{rules, ap, ◌∙◌, IfOk-weaker, on_ok_weaker, known_of, is_listed, said, message_type_of, stored_in}
use Rattle.prost_reflect_dynamic.proofs.Depths.{without_depth}
use Rattle.prost_reflect_dynamic.proofs.Edits.{takes_all}
use Rattle.prost_reflect_dynamic.proofs.TakenValues.{message_taken}
use Rattle.prost_reflect_dynamic.proofs.TypedSteps.{without_typed}
use Rattle.prost_reflect_dynamic.proofs.ValueLists.{had_listed, said_taken}
use Rattle.prost_reflect_dynamic.proofs.message.DynamicMessage.take_listed.Goals as goal

pub returns-clause-pairs : goal.returns-clause-pairs
returns-clause-pairs c =
    let fields = known_of (message_type_of c.args.self.now) in
    IfOk-weaker c.take_listed.result _ _
    (λ taken is. ap (said fields) is ∙ said_taken c.args.of_extensions fields (stored_in c.args.self.now) ∙ had_listed c.args.of_extensions c.args.self.now c.take_listed.ensures.ascending c.take_listed.ensures.sound) c.take_listed.ensures.values

pub returns-clause-message_type : goal.returns-clause-message_type
returns-clause-message_type c = search rules

pub returns-clause-removes : goal.returns-clause-removes
returns-clause-removes c =
    let fields = known_of (message_type_of c.args.self.now) in
    on_ok_weaker c.take_listed.result
    (λ is. takes_all c.args.self.now _ c.args.of_extensions c.take_listed.ensures.ascending (returns-clause-message_type c) (message_taken c.args.self.now c.take_listed.new.self c.args.of_extensions is)
    (without_typed c.args.self.now c.take_listed.new.self (is_listed c.args.of_extensions fields) c.take_listed.ensures.ascending is)
    (without_depth c.args.self.now _ (is_listed c.args.of_extensions fields) (ap (λ p. p.1) is))) c.take_listed.ensures.left
