use Rattle.prost_reflect_pool.proofs.Common.{arith}
use Rattle.prost_reflect_pool.proofs.PoolRanges.{file_listed, file_at, file_within}
use Rattle.prost_reflect_pool.proofs.pool.LinkedPool.file_table.Goals as goal

pub index-requires : goal.index-requires
index-requires c = omega (arith, file_listed c.args.self.now c.args.index c.requires)

pub returns-clause-row : goal.returns-clause-row
returns-clause-row c = file_at c.args.self.now c.args.index c.index.result.now c.requires c.index.ensures

pub returns-clause-messages : goal.returns-clause-messages
returns-clause-messages c = (file_within c.args.self.now c.args.index c.index.result.now c.requires c.index.ensures).messages

pub returns-clause-enums : goal.returns-clause-enums
returns-clause-enums c = (file_within c.args.self.now c.args.index c.index.result.now c.requires c.index.ensures).enums

pub returns-clause-extensions : goal.returns-clause-extensions
returns-clause-extensions c = (file_within c.args.self.now c.args.index c.index.result.now c.requires c.index.ensures).extensions

pub returns-clause-services : goal.returns-clause-services
returns-clause-services c = (file_within c.args.self.now c.args.index c.index.result.now c.requires c.index.ensures).services
