use Rattle.std.proofs.Common.{◌-◌}
use Rattle.prost_reflect_tables.proofs.Ascending.{Between}
use Rattle.prost_reflect_tables.proofs.lookup.place_among.Given as goal

abbrev pub invariant-loop-low : goal.invariant-loop-low
invariant-loop-low l = Between l.fields l.number l.low l.high

abbrev pub decreases-loop-low : goal.decreases-loop-low
decreases-loop-low l = l.high - l.low
