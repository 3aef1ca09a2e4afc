use Rattle.prost_reflect_dynamic.proofs.Common.{sym, ◌∙◌, known_of, is_listed, values_left}
use Rattle.prost_reflect_dynamic.proofs.ValueLists.{had_here}
use Rattle.prost_reflect_dynamic.proofs.message.lists.had.HadValues.next_had.Goals as goal

pub returns-in-Some-had_in-clause-left : goal.returns-in-Some-had_in-clause-left
returns-in-Some-had_in-clause-left c =
    had_here c.args.of_extensions (known_of c.loop-slot.self.message_type.now) c.in-Some.slot.now c.in-Some-had_in.value.now _ _ (values_left c.args.of_extensions c.args.self.now)
    c.in-Some.ensures.steps c.in-Some-had_in.ensures.value c.loop-slot.invariant.left

pub returns-in-Some-had_in-clause-listed : goal.returns-in-Some-had_in-clause-listed
returns-in-Some-had_in-clause-listed c =
    let same = sym c.loop-slot.invariant.message_type in
    (λ i. is_listed c.args.of_extensions (known_of (same i).now) c.in-Some.slot.now.0) ∙ c.in-Some-had_in.ensures.listed
