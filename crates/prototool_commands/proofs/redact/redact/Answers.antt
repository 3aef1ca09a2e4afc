use Rattle.std.specs.Prelude.{◌≡◌, ℕ, List, Some}
use Rattle.std.proofs.lemmas.Result.{IfOk-weaker, IfErr-weaker}
use Rattle.prost_reflect_pool.specs.Pools.{pool_rows}
use Rattle.prost_reflect_pool.specs.declared.pool.LinkedPool.{LinkedPool}
use Rattle.prost_reflect_tables.specs.Places.{message_place}
use Rattle.prototool_commands.specs.Naming.{RefusesNamed, RefusesRedaction}
use Rattle.prototool_commands.specs.declared.refusal.Refusal.{Refusal}
use Rattle.prototool_commands.specs.declared.refusal.Refusal.TheVariants as refusals
use Rattle.prototool_commands.proofs.redact.redact.Goals as goal

-- What is refused of the message type.
refused_named : (pool : LinkedPool) (T : ℕ) (name : List ℕ) (paths : List (List ℕ)) → message_place (pool_rows pool) name ≡ Some T → (e : Refusal) → RefusesRedaction pool T paths e → RefusesNamed name paths e
refused_named pool T name paths named (refusals.Path path) nowhere = record { pool = pool; message_type = T; named = named; nowhere = nowhere }
refused_named pool T name paths named e h = tt

pub returns-clause-redacted : goal.returns-clause-redacted
returns-clause-redacted g c =
    let d = c.in_ok-descriptor.descriptor in
    IfOk-weaker c.redact_type.result _ _ (λ output is. record { pool = d.pool.inner.value; message_type = d.index; named = c.in_ok-descriptor.ensures.named; redaction = is }) c.redact_type.ensures.redacted

pub returns-clause-refused : goal.returns-clause-refused
returns-clause-refused g c =
    let d = c.in_ok-descriptor.descriptor in
    IfErr-weaker c.redact_type.result _ _ (λ e is. refused_named d.pool.inner.value d.index c.args.name.now _ c.in_ok-descriptor.ensures.named e is) c.redact_type.ensures.refused
