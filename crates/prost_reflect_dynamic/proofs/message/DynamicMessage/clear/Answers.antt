use Rattle.prost_reflect_dynamic.proofs.Common.{ap, ◌∙◌, rules, has_at, content_of}
use Rattle.prost_reflect_dynamic.proofs.Depths.{nothing_depth}
use Rattle.prost_reflect_dynamic.proofs.Edits.{empties, none_cleared}
use Rattle.prost_reflect_dynamic.proofs.Removals.{cleared_sound}
use Rattle.prost_reflect_dynamic.proofs.Stored.{message_emptied}
use Rattle.prost_reflect_dynamic.proofs.TypedSteps.{nothing_typed}
use Rattle.prost_reflect_dynamic.proofs.message.DynamicMessage.clear.Goals as goal

pub returns-clause-typed : goal.returns-clause-typed
returns-clause-typed c = nothing_typed _ (ap (λ p. p.1) c.clear_all.ensures)

pub returns-clause-removes : goal.returns-clause-removes
returns-clause-removes c = empties c.args.self.now _ (search rules) (message_emptied c.args.self.now c.clear_all.new.self c.clear_all.ensures) (returns-clause-typed c) (nothing_depth c.args.self.now _ (ap (λ p. p.1) c.clear_all.ensures))

pub returns-clause-gone : goal.returns-clause-gone
returns-clause-gone c = λ n. ap (has_at n) (message_emptied c.args.self.now c.clear_all.new.self c.clear_all.ensures) ∙ none_cleared (content_of c.args.self.now) n

pub returns-clause-sound : goal.returns-clause-sound
returns-clause-sound c = cleared_sound _ (content_of c.args.self.now) (message_emptied c.args.self.now c.clear_all.new.self c.clear_all.ensures)
