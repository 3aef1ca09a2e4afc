use Rattle.prost_reflect_maps.proofs.Common.{HavePlaces}
use Rattle.prost_reflect_maps.proofs.sorted_map.SortedMap.has_places.Given as goal

-- where the numbers that are left have places, all have
abbrev pub invariant-loop-number : goal.invariant-loop-number
invariant-loop-number g l = HavePlaces l.number-iterator l.self.0 l.others.0 → HavePlaces l.numbers.keys l.self.0 l.others.0
