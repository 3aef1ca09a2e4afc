use Rattle.prost_reflect_pool.proofs.Common.{arith}
use Rattle.prost_reflect_pool.proofs.PoolRanges.{message_listed, lists_at, lists_within}
use Rattle.prost_reflect_pool.proofs.pool.LinkedPool.message_lists.Goals as goal

pub index-requires : goal.index-requires
index-requires c = omega (arith, message_listed c.args.self.now c.args.index c.requires)

pub returns-clause-row : goal.returns-clause-row
returns-clause-row c = lists_at c.args.self.now c.args.index c.index.result.now c.requires c.index.ensures

pub returns-clause-messages : goal.returns-clause-messages
returns-clause-messages c = (lists_within c.args.self.now c.args.index c.index.result.now c.requires c.index.ensures).messages

pub returns-clause-enums : goal.returns-clause-enums
returns-clause-enums c = (lists_within c.args.self.now c.args.index c.index.result.now c.requires c.index.ensures).enums

pub returns-clause-extensions : goal.returns-clause-extensions
returns-clause-extensions c = (lists_within c.args.self.now c.args.index c.index.result.now c.requires c.index.ensures).extensions

pub returns-clause-extending : goal.returns-clause-extending
returns-clause-extending c = (lists_within c.args.self.now c.args.index c.index.result.now c.requires c.index.ensures).extending

pub returns-clause-by_name : goal.returns-clause-by_name
returns-clause-by_name c = (lists_within c.args.self.now c.args.index c.index.result.now c.requires c.index.ensures).by_name

pub returns-clause-by_json_name : goal.returns-clause-by_json_name
returns-clause-by_json_name c = (lists_within c.args.self.now c.args.index c.index.result.now c.requires c.index.ensures).by_json_name

pub returns-clause-fields : goal.returns-clause-fields
returns-clause-fields c = (lists_within c.args.self.now c.args.index c.index.result.now c.requires c.index.ensures).fields
