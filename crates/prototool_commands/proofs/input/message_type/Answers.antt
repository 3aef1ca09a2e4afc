use Rattle.std.proofs.Common.{ap, sym, ◌∙◌}
use Rattle.prost_reflect_tables.specs.Places.{message_place}
use Rattle.prost_reflect_pool.specs.Pools.{pool_rows}
use Rattle.prototool_commands.proofs.input.message_type.Goals as goal

pub returns-clause-named : goal.returns-clause-named
returns-clause-named c =
    let found = rw c.in-Some.is at c.in_ok-descriptor.ensures.found in
    let same = rw c.in-Some.is at c.in_ok-descriptor.ensures.pool in
    ap (λ p. message_place (pool_rows p) c.args.name.now) same ∙ sym found
