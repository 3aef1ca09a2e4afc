use Rattle.prost_reflect_pool.proofs.Common.{length}
use Rattle.prost_reflect_pool.proofs.records.+record_below.Given as goal

abbrev pub decreases-record_below : goal.decreases-record_below
decreases-record_below l = length l.path.now
