use Rattle.std.specs.Prelude.{◌≡◌}
use Rattle.prost_reflect_dynamic.proofs.Common.{length, items_left, unknown_left}
use Rattle.prost_reflect_dynamic.proofs.message.unknowns.UnknownFields.fill.Given as goal

-- nothing is lost, and nothing given twice
abbrev pub invariant-loop-self : goal.invariant-loop-self
invariant-loop-self l = unknown_left l.self ≡ unknown_left l.initial.self

abbrev pub decreases-loop-self : goal.decreases-loop-self
decreases-loop-self l = length (items_left l.self.slots)
