use Rattle.prost_reflect_pool.proofs.Common.{arith}
use Rattle.prost_reflect_pool.proofs.PoolRanges.{enum_listed, enum_lists_at, enum_lists_within}
use Rattle.prost_reflect_pool.proofs.pool.LinkedPool.enum_lists.Goals as goal

pub index-requires : goal.index-requires
index-requires c = omega (arith, enum_listed c.args.self.now c.args.index c.requires)

pub returns-clause-row : goal.returns-clause-row
returns-clause-row c = enum_lists_at c.args.self.now c.args.index c.index.result.now c.requires c.index.ensures

pub returns-clause-by_name : goal.returns-clause-by_name
returns-clause-by_name c = (enum_lists_within c.args.self.now c.args.index c.index.result.now c.requires c.index.ensures).by_name

pub returns-clause-by_number : goal.returns-clause-by_number
returns-clause-by_number c = (enum_lists_within c.args.self.now c.args.index c.index.result.now c.requires c.index.ensures).by_number
