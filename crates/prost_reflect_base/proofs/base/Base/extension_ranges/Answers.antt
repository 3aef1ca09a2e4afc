use Rattle.std.proofs.Common.{Some, ap, ◌∙◌, arith}
use Rattle.std.proofs.lemmas.Option.{slice_get_past}
use Rattle.prost_reflect_pool.specs.Pools.{pool_rows}
use Rattle.prost_reflect_base.proofs.Linked.{ranges_there, no_ranges}
use Rattle.prost_reflect_base.proofs.base.Base.extension_ranges.Goals as goal

pub returns-then-place-message_count : goal.returns-then-place-message_count
returns-then-place-message_count c = ap Some c.as_slice.ensures.value ∙ ranges_there c.args.self.now.pool.now c.args.place c.message_record.result.now c.message_record.ensures

pub returns-else-place-message_count : goal.returns-else-place-message_count
returns-else-place-message_count c =
    let pool = c.args.self.now.pool.now in
    no_ranges pool c.args.place (slice_get_past (pool_rows pool).messages c.args.place (omega (arith, c.message_count.ensures)))
