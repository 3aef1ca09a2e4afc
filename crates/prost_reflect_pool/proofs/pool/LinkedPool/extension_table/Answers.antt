use Rattle.prost_reflect_pool.proofs.Common.{slice_get_within, extension_table_row, fields_at, pool_rows}
use Rattle.prost_reflect_pool.proofs.PoolLinks.{row_read, extension_of}
use Rattle.prost_reflect_pool.proofs.pool.LinkedPool.extension_table.Goals as goal

pub returns-clause-message : goal.returns-clause-message
returns-clause-message c =
    let pool = c.args.self.now in
    (extension_of pool c.args.index (extension_table_row c.index.result.now) (row_read extension_table_row pool.catalog.extensions c.args.index c.index.result.now c.requires c.index.ensures)).message

pub returns-clause-field : goal.returns-clause-field
returns-clause-field c =
    let pool = c.args.self.now in
    let x = extension_table_row c.index.result.now in
    let there = extension_of pool c.args.index x (row_read extension_table_row pool.catalog.extensions c.args.index c.index.result.now c.requires c.index.ensures) in
    slice_get_within (fields_at (pool_rows pool) x.message) x.field _ there.at
