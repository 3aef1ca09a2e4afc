use Rattle.std.specs.Prelude.{◌≡◌}
use Rattle.prost_reflect_rows.proofs.Common.{rules, None, sym, field_row}
use Rattle.prost_reflect_pool.specs.Pools.{pool_rows}
use Rattle.prost_reflect_rows.proofs.PathPlaces.{none_led, one_led}
use Rattle.prost_reflect_rows.proofs.paths.field_led.Goals as goal

pub returns-in_err-message : goal.returns-in_err-message
returns-in_err-message c =
    let none : c.from_residual.result ≡ None = search rules in
    rw none (none_led (pool_rows c.args.pool.now) c.args.place c.args.path.now (sym c.in_err-message.ensures.place))

pub returns : goal.returns
returns c = one_led (pool_rows c.args.pool.now) c.args.place c.args.path.now c.in_ok-message.message c.in_ok-message.index (field_row c.table_at.result.now) (sym c.in_ok-message.ensures.place) c.table_at.ensures
