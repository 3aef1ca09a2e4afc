use Rattle.prost_reflect_dynamic.proofs.Keys.{map_insert}
use Rattle.prost_reflect.proofs.laws.map_insert.Goals as goal

pub returns : goal.returns
returns c = map_insert
