use Rattle.prost_reflect_dynamic.proofs.Common.{rules}
use Rattle.prost_reflect_dynamic.proofs.Removals.{nothing_sound}
use Rattle.prost_reflect_dynamic.proofs.TypedSteps.{nothing_typed}
use Rattle.prost_reflect_dynamic.proofs.message.DynamicMessage.new.Goals as goal

pub returns-clause-typed : goal.returns-clause-typed
returns-clause-typed c = nothing_typed c.of_type.result c.of_type.ensures.nothing

pub returns-clause-content : goal.returns-clause-content
returns-clause-content c = search rules

pub returns-clause-sound : goal.returns-clause-sound
returns-clause-sound c = nothing_sound _ _ _ (returns-clause-content c)
