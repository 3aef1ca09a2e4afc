use Rattle.std.specs.Prelude.{◌≡◌}
use Rattle.prost_reflect_maps.proofs.Common.{None}
use Rattle.prost_reflect_maps.proofs.Moving.{IsMoving}
use Rattle.prost_reflect_maps.proofs.sorted_map.SortedMap.take_all_over.Given as goal

abbrev pub invariant-loop-number : goal.invariant-loop-number
invariant-loop-number g l = record {
  moving : IsMoving l.numbers l.fn.self.0 l.fn.others.0 l.number-iterator l.self.0 l.others.0;
  notes : l.self.1 ≡ None;
}
