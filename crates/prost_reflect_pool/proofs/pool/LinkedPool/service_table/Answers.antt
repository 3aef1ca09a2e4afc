use Rattle.prost_reflect_pool.proofs.Common.{service_table_row, length, ServiceRowWithin, holds_at, files_of, pool_rows, pool_catalog}
use Rattle.prost_reflect_pool.proofs.PoolRanges.{pool_within}
use Rattle.prost_reflect_pool.proofs.PoolLinks.{row_read, methods_of}
use Rattle.prost_reflect_pool.proofs.pool.LinkedPool.service_table.Goals as goal

pub returns-clause-inputs : goal.returns-clause-inputs
returns-clause-inputs c = λ k d within.
    (methods_of c.args.self.now c.args.index c.index.result.now (row_read service_table_row c.args.self.now.catalog.services c.args.index c.index.result.now c.requires c.index.ensures) k d within).input

pub returns-clause-outputs : goal.returns-clause-outputs
returns-clause-outputs c = λ k d within.
    (methods_of c.args.self.now c.args.index c.index.result.now (row_read service_table_row c.args.self.now.catalog.services c.args.index c.index.result.now c.requires c.index.ensures) k d within).output

pub returns-clause-file : goal.returns-clause-file
returns-clause-file c =
    let pool = c.args.self.now in
    let row = row_read service_table_row pool.catalog.services c.args.index c.index.result.now c.requires c.index.ensures in
    (holds_at (ServiceRowWithin (length (files_of pool)) (length (pool_rows pool).messages)) (pool_catalog pool).services c.args.index (service_table_row c.index.result.now) (pool_within pool).services row).file
