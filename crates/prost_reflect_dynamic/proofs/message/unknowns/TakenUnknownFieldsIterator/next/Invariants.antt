use Rattle.std.specs.Prelude.{◌≡◌}
use Rattle.prost_reflect_dynamic.proofs.Common.{into_iter_len, taken_left}
use Rattle.prost_reflect_dynamic.proofs.message.unknowns.TakenUnknownFieldsIterator.next.Given as goal

-- nothing is lost, and nothing given twice
abbrev pub invariant-loop-field : goal.invariant-loop-field
invariant-loop-field l = taken_left l.self ≡ taken_left l.initial.self

abbrev pub decreases-loop-field : goal.decreases-loop-field
decreases-loop-field l = into_iter_len l.self.sets
