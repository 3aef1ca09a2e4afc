use Rattle.std.proofs.Common.{inr}
use Rattle.std.proofs.lemmas.Result.{IfOk-weaker, IfErr-weaker}
use Rattle.prost_reflect_wire.specs.Typing.{kept}
use Rattle.prost_reflect_dynamic.specs.View.{content_of}
use Rattle.prost_reflect_dynamic.specs.declared.message.DynamicMessage.{DynamicMessage}
use Rattle.protorelay_commands.specs.Reading.{IsRead, IsReadIn}
use Rattle.protorelay_commands.proofs.reading.read.Goals as goal

pub returns-clause-read : goal.returns-clause-read
returns-clause-read c =
    let In : DynamicMessage → Type 0 = λ m. IsReadIn c.in_ok-pool.pool.inner.value c.args.name.now c.args.digits.now (kept (content_of m)) in
    let Is : DynamicMessage → Type 0 = λ m. IsRead c.args.set.now c.args.name.now c.args.digits.now (kept (content_of m)) in
    IfOk-weaker c.read_in.result In Is (λ m is. record { pool = c.in_ok-pool.pool.inner.value; made = c.in_ok-pool.ensures.made; read = is }) c.read_in.ensures.read

pub returns-clause-refused : goal.returns-clause-refused
returns-clause-refused c = IfErr-weaker _ _ _ (λ refusal is. inr (record { pool = c.in_ok-pool.pool.inner.value; made = c.in_ok-pool.ensures.made; refuses = is })) c.read_in.ensures.refused
