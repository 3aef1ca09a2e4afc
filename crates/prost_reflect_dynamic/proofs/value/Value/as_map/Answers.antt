use Rattle.prost_reflect_dynamic.proofs.Depths.{entries_small}
use Rattle.prost_reflect_dynamic.proofs.value.Value.as_map.Goals as goal

pub returns-in-Map-clause-inside : goal.returns-in-Map-clause-inside
returns-in-Map-clause-inside c = entries_small c.args.self.now c.in-Map.value c.in-Map.is
