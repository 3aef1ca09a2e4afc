use Rattle.std.specs.Prelude.{◌≡◌}
use Rattle.prost_reflect_rows.proofs.Common.{rules, None, Some, true, false, length, nat_eq, sym, ◌∙◌}
use Rattle.prost_reflect_pool.specs.Pools.{pool_rows}
use Rattle.prost_reflect_rows.proofs.PathPlaces.{last_found, none_inside, more_inside, type_below}
use Rattle.prost_reflect_rows.proofs.paths.+place_behind.Goals as goal

pub returns-in_err-index-clause-place : goal.returns-in_err-index-clause-place
returns-in_err-index-clause-place t c =
    let none : c.from_residual-in_err-index.result ≡ None = search rules in
    let last : nat_eq (length c.in_ok-number.rest.now) 0 ≡ true = search rules in
    rw none (last_found (pool_rows c.args.pool.now) c.args.place c.in_ok-number.number.now c.args.path.now c.in_ok-number.rest.now c.in_ok-number.ensures.cases.0 None last c.in_err-index.ensures.place)

pub returns-then-is_empty-clause-place : goal.returns-then-is_empty-clause-place
returns-then-is_empty-clause-place t c =
    let last : nat_eq (length c.in_ok-number.rest.now) 0 ≡ true = search rules in
    last_found (pool_rows c.args.pool.now) c.args.place c.in_ok-number.number.now c.args.path.now c.in_ok-number.rest.now c.in_ok-number.ensures.cases.0 (Some c.in_ok-index.index) last c.in_ok-index.ensures.place

pub returns-in_err-inside-clause-place : goal.returns-in_err-inside-clause-place
returns-in_err-inside-clause-place t c =
    let none : c.from_residual-in_err-inside.result ≡ None = search rules in
    let more : nat_eq (length c.in_ok-number.rest.now) 0 ≡ false = search rules in
    rw none (none_inside (pool_rows c.args.pool.now) c.args.place c.in_ok-number.number.now c.args.path.now c.in_ok-number.rest.now c.in_ok-number.ensures.cases.0 more c.in_err-inside.ensures)

pub place_behind-requires : goal.place_behind-requires
place_behind-requires t c =
    (search rules, type_below (pool_rows c.args.pool.now) c.args.pool.now.tables.linked c.args.place c.in_ok-number.number.now c.in_ok-inside.inside (sym c.in_ok-inside.ensures))

pub returns-clause-place : goal.returns-clause-place
returns-clause-place t c =
    let more : nat_eq (length c.in_ok-number.rest.now) 0 ≡ false = search rules in
    c.place_behind.ensures.place
    ∙ more_inside (pool_rows c.args.pool.now) c.args.place c.in_ok-number.number.now c.args.path.now c.in_ok-number.rest.now c.in_ok-number.ensures.cases.0 c.in_ok-inside.inside more c.in_ok-inside.ensures
