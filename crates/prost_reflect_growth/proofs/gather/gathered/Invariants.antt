use Rattle.std.specs.Prelude.{◌≡◌, ◌+◌}
use Rattle.prost_reflect_growth.proofs.Common.{ℕ, Option, map, drop}
use Rattle.prost_reflect_tables.proofs.Gathering.{behind}
use Rattle.prost_reflect_tables.specs.Walks.{Computes}
use Rattle.prost_reflect_growth.specs.GatheredFrom.{gathered_from}
use Rattle.prost_reflect_growth.proofs.gather.gathered.Given as goal

abbrev pub invariant-loop-offset : goal.invariant-loop-offset
invariant-loop-offset g l = (o : _ → Option ℕ) → Computes g.F.Fn l.owner o → behind o (l.start + l.offset) (drop l.offset l.items) l.first (map (λ xs. xs.items) l.lists.items) ≡ gathered_from o l.start l.items l.first l.count
