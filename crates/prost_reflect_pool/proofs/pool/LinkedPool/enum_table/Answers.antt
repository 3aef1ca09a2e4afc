use Rattle.prost_reflect_pool.proofs.PoolRanges.{enum_stands}
use Rattle.prost_reflect_pool.proofs.pool.LinkedPool.enum_table.Goals as goal

pub returns-clause-file : goal.returns-clause-file
returns-clause-file c = (enum_stands c.args.self.now c.args.index c.index.result.now c.requires c.index.ensures).file

pub returns-clause-parent : goal.returns-clause-parent
returns-clause-parent c = (enum_stands c.args.self.now c.args.index c.index.result.now c.requires c.index.ensures).parent
