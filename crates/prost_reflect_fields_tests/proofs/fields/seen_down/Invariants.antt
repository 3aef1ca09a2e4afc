use Rattle.std.specs.Prelude.{◌≡◌, ◌++◌, reverse}
use Rattle.std.specs.Map.{keys_of}
use Rattle.std.proofs.Common.{map}
use Rattle.prost_reflect_maps.specs.ItemsLeft.{left_down}
use Rattle.prost_reflect_fields_tests.proofs.fields.seen_down.Given as goal

abbrev pub invariant-loop-number : goal.invariant-loop-number
invariant-loop-number g l = map (λ s. s.0) l.walked.items ++ reverse (keys_of (left_down g.S.NumberMap.entries l.number-iterator)) ≡ reverse (keys_of (g.S.NumberMap.entries l.fn.fields))
