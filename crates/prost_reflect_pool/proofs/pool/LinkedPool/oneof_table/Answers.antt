use Rattle.std.specs.Prelude.{◌≡◌}
use Rattle.prost_reflect_pool.proofs.Common.{Some, map, sym, ap, slice_get, oneof_row, pool_rows, oneofs_at, oneofs_or_none}
use Rattle.prost_reflect_pool.proofs.PoolLinks.{row_in, members_of}
use Rattle.prost_reflect_pool.proofs.pool.LinkedPool.oneof_table.Goals as goal

pub returns-clause-members : goal.returns-clause-members
returns-clause-members c =
    let rows = oneofs_at (pool_rows c.args.self.now) c.args.message in
    let same : map oneof_row c.message_table.result.now.oneofs.items ≡ rows = sym (ap oneofs_or_none c.message_table.ensures.row) in
    let there : slice_get rows c.args.oneof ≡ Some (oneof_row c.index.result.now) = row_in oneof_row c.message_table.result.now.oneofs.items rows c.args.oneof c.index.result.now same c.requires.oneof c.index.ensures in
    members_of c.args.self.now c.args.message c.args.oneof (oneof_row c.index.result.now) there
