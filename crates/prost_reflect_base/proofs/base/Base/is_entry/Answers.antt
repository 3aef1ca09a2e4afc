use Rattle.std.proofs.Common.{◌∙◌, arith, le-ltb}
use Rattle.std.proofs.lemmas.Option.{slice_get_past}
use Rattle.prost_reflect_tables.specs.Rows.{message_row}
use Rattle.prost_reflect_pool.specs.Pools.{pool_rows}
use Rattle.prost_reflect_base.proofs.Linked.{entry_there, no_entry}
use Rattle.prost_reflect_base.proofs.base.Base.is_entry.Goals as goal

pub returns-then-place-message_count : goal.returns-then-place-message_count
returns-then-place-message_count c = entry_there c.args.self.now.pool.now c.args.place (message_row c.message_table.result.now) c.message_table.ensures.row

pub returns-else-place-message_count : goal.returns-else-place-message_count
returns-else-place-message_count c =
    let pool = c.args.self.now.pool.now in
    le-ltb c.args.place c.message_count.result c.if-place-message_count.false ∙ no_entry pool c.args.place (slice_get_past (pool_rows pool).messages c.args.place (omega (arith, c.message_count.ensures)))
