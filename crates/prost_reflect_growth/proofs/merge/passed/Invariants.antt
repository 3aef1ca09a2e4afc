use Rattle.std.specs.Prelude.{◌≡◌, ◌-◌, ◌≤◌}
use Rattle.prost_reflect_growth.proofs.Common.{Bool, length, IsStrictWeakOrder, sorted_by}
use Rattle.prost_reflect_growth.specs.Merging.{AnswersBy}
use Rattle.prost_reflect_growth.proofs.Passing.{Parts}
use Rattle.prost_reflect_growth.proofs.merge.passed.Given as goal

abbrev pub invariant-loop-low : goal.invariant-loop-low
invariant-loop-low g l = record {
  low : l.low ≤ l.high;
  high : l.high ≤ length l.items;
  between : (lt : _ → _ → Bool) → AnswersBy g.B.Fn l.before lt → IsStrictWeakOrder lt → sorted_by lt l.items ≡ l.items →
      Parts lt l.item l.items l.low l.high;
}

abbrev pub decreases-loop-low : goal.decreases-loop-low
decreases-loop-low g l = l.high - l.low
