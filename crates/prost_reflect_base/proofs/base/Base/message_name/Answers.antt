use Rattle.std.specs.Option.{option_copied}
use Rattle.std.proofs.Common.{sym, ap, ◌∙◌}
use Rattle.prost_reflect_tables.specs.Faults.{message_names}
use Rattle.prost_reflect_tables.specs.Rows.{TableRows, message_row}
use Rattle.prost_reflect_pool.specs.Pools.{pool_rows}
use Rattle.prost_reflect_pool.proofs.InCatalog.{message_name}
use Rattle.prost_reflect_base.proofs.Linked.{flat_of, messages_named}
use Rattle.prost_reflect_base.proofs.NamedPlaces.{name_there, no_name}
use Rattle.prost_reflect_base.proofs.base.Base.message_name.Goals as goal

pub returns-in-Some : goal.returns-in-Some
returns-in-Some c =
    let pool = c.args.self.now.pool.now in
    c.full_name.ensures
    ∙ name_there message_row message_name c.tables.result.now.messages (pool_rows pool).messages (message_names (flat_of pool)) c.args.place c.in-Some.message.now (ap (λ (r : TableRows). r.messages) c.tables.ensures) (messages_named pool)
    (sym c.get.ensures ∙ ap option_copied c.in-Some.is)

pub returns-in-None : goal.returns-in-None
returns-in-None c =
    let pool = c.args.self.now.pool.now in
    no_name message_row message_name c.tables.result.now.messages (pool_rows pool).messages (message_names (flat_of pool)) c.args.place (ap (λ (r : TableRows). r.messages) c.tables.ensures) (messages_named pool) (sym c.get.ensures ∙ ap option_copied c.in-None.is)
