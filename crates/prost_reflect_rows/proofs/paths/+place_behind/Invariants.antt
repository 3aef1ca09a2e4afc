use Rattle.prost_reflect_rows.proofs.Common.{length}
use Rattle.prost_reflect_rows.proofs.paths.+place_behind.Given as goal

abbrev pub decreases-place_behind : goal.decreases-place_behind
decreases-place_behind l = length l.path.now
