use Rattle.prost_reflect_pool.proofs.PoolRanges.{message_stands}
use Rattle.prost_reflect_pool.proofs.pool.LinkedPool.message_table.Goals as goal

pub returns-clause-file : goal.returns-clause-file
returns-clause-file c = (message_stands c.args.self.now c.args.index c.index.result.now c.requires c.index.ensures).file

pub returns-clause-parent : goal.returns-clause-parent
returns-clause-parent c = (message_stands c.args.self.now c.args.index c.index.result.now c.requires c.index.ensures).parent
