use Rattle.std.proofs.Common.{length, ap}
use Rattle.std.proofs.iter.runs.Sources.{from_front}
use Rattle.std.specs.Iterator.{YieldsFirstRef}
use Rattle.prost_reflect_shared.specs.Items.{items_left}
use Rattle.prost_reflect_shared.proofs.shared_items.SharedItems.new.Goals as goal

pub returns-clause-runs : goal.returns-clause-runs
returns-clause-runs g c = from_front (YieldsFirstRef (items_left {T = g.row.T.Denot})) (λ r. r.now) items_left (λ s t h. ap length h.0) (λ s x t h. h)
