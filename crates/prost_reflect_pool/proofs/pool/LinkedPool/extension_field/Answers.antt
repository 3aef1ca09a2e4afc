use Rattle.std.specs.Prelude.{◌≡◌}
use Rattle.prost_reflect_pool.proofs.Common.{Some, length, slice_get, extension_table_row, fields_at, field_row, field_keeps, pool_rows, field_within, files_of}
use Rattle.prost_reflect_pool.proofs.PoolRanges.{pool_within}
use Rattle.prost_reflect_pool.proofs.PoolLinks.{row_in, extension_marked}
use Rattle.prost_reflect_pool.proofs.pool.LinkedPool.extension_field.Goals as goal

pub returns-clause-extension : goal.returns-clause-extension
returns-clause-extension c =
    let pool = c.args.self.now in
    let x = c.extension_table-place.result.now in
    let f = c.index-field_tables-place.result in
    let there : slice_get (fields_at (pool_rows pool) x.message) x.field ≡ Some (field_row f) = row_in field_row c.field_tables.result.now (fields_at (pool_rows pool) x.message) x.field f c.field_tables.ensures c.extension_table-place.ensures.field c.index-field_tables-place.is in
    extension_marked pool c.args.index (extension_table_row x) (field_row f) c.extension_table-place.ensures.row there

pub returns-clause-kind : goal.returns-clause-kind
returns-clause-kind c =
    let pool = c.args.self.now in
    let x = c.extension_table-place.result.now in
    let f = c.index-field_tables-place.result in
    let there : slice_get (fields_at (pool_rows pool) x.message) x.field ≡ Some (field_row f) = row_in field_row c.field_tables.result.now (fields_at (pool_rows pool) x.message) x.field f c.field_tables.ensures c.extension_table-place.ensures.field c.index-field_tables-place.is in
    field_keeps (pool_rows pool) x.message x.field (field_row f) pool.tables.linked there

pub returns-clause-file : goal.returns-clause-file
returns-clause-file c =
    let pool = c.args.self.now in
    let x = c.extension_table-place.result.now in
    let f = c.index-field_tables-place.result in
    let there : slice_get (fields_at (pool_rows pool) x.message) x.field ≡ Some (field_row f) = row_in field_row c.field_tables.result.now (fields_at (pool_rows pool) x.message) x.field f c.field_tables.ensures c.extension_table-place.ensures.field c.index-field_tables-place.is in
    (field_within (length (files_of pool)) (length (pool_rows pool).messages) x.message x.field (pool_rows pool) (field_row f) (pool_within pool).messages there).file

pub returns-clause-parent : goal.returns-clause-parent
returns-clause-parent c =
    let pool = c.args.self.now in
    let x = c.extension_table-place.result.now in
    let f = c.index-field_tables-place.result in
    let there : slice_get (fields_at (pool_rows pool) x.message) x.field ≡ Some (field_row f) = row_in field_row c.field_tables.result.now (fields_at (pool_rows pool) x.message) x.field f c.field_tables.ensures c.extension_table-place.ensures.field c.index-field_tables-place.is in
    (field_within (length (files_of pool)) (length (pool_rows pool).messages) x.message x.field (pool_rows pool) (field_row f) (pool_within pool).messages there).parent
