use Rattle.prost_reflect_maps.proofs.Common.{arith}
use Rattle.prost_reflect_maps.proofs.Places.{seek_within, gap_within}
use Rattle.prost_reflect_maps.proofs.RunPlaces.{runs_ascend}
use Rattle.prost_reflect_maps.proofs.runs.run_of.Goals as goal

pub place_in-requires : goal.place_in-requires
place_in-requires g c = runs_ascend c.args.runs.now c.requires

pub returns-in-Ok-clause-within : goal.returns-in-Ok-clause-within
returns-in-Ok-clause-within g c = seek_within _ _ _ c.in-Ok.ensures

pub returns-in-Err-clause-within : goal.returns-in-Err-clause-within
returns-in-Err-clause-within g c = omega (arith, gap_within c.args.number c.args.runs.now c.in-Err.index c.in-Err.ensures, c.in-Err.index-test, c.in-Err.index-is)
