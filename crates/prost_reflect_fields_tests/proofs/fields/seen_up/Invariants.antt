use Rattle.std.specs.Prelude.{◌≡◌, ◌++◌}
use Rattle.std.specs.Map.{keys_of}
use Rattle.std.proofs.Common.{map}
use Rattle.prost_reflect_maps.specs.ItemsLeft.{left_up}
use Rattle.prost_reflect_fields_tests.proofs.fields.seen_up.Given as goal

abbrev pub invariant-loop-number : goal.invariant-loop-number
invariant-loop-number g l = map (λ s. s.0) l.walked.items ++ keys_of (left_up g.S.NumberMap.entries l.number-iterator) ≡ keys_of (g.S.NumberMap.entries l.fn.fields)
