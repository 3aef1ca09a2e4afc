use Rattle.std.specs.Prelude.{◌-◌}
use Rattle.prost_reflect_walks.proofs.Common.{arith}
use Rattle.prost_reflect_walks.proofs.PlaceRanges.{range_within}
use Rattle.prost_reflect_walks.proofs.places.Places.up_to.Goals as goal

pub returns-clause-within : goal.returns-clause-within
returns-clause-within c = range_within c.args.count 0 (c.args.count - 0) (omega arith)
