use Rattle.std.specs.Prelude.{◌≡◌, ◌++◌}
use Rattle.prost_reflect_growth.proofs.Common.{Bool, drop, IsStrictWeakOrder, sorted_by}
use Rattle.prost_reflect_tables.proofs.Orders.{Rises}
use Rattle.prost_reflect_growth.specs.Merging.{merged, AnswersBy}
use Rattle.prost_reflect_growth.proofs.merge.merged.Given as goal

abbrev pub invariant-loop-item : goal.invariant-loop-item
invariant-loop-item g l =
    (lt : _ → _ → Bool) → AnswersBy g.B.Fn l.before lt → IsStrictWeakOrder lt → sorted_by lt l.old ≡ l.old →
    Rises lt l.left × (l.items.items ++ merged lt l.left (drop l.item-index l.new) ≡ merged lt l.old l.new)
