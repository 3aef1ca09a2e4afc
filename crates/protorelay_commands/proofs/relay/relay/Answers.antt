use Rattle.std.proofs.Common.{string_bytes}
use Rattle.std.proofs.lemmas.Result.{err_from_is_err_and}
use Rattle.prost_reflect_dynamic.specs.Named.{type_named}
use Rattle.protorelay_commands.proofs.RelayRefusals.{name_refused, relay_refused}
use Rattle.protorelay_commands.proofs.relay.relay.Goals as goal

pub returns-in_err-older-clause-refused : goal.returns-in_err-older-clause-refused
returns-in_err-older-clause-refused c = let q = err_from_is_err_and c.from_residual-in_err-older.result c.from_residual-in_err-older.ensures.1 in
    rw (q.1, q.2) (name_refused c.args.set.now c.args.name.now c.args.digits.now c.in_ok-pool.pool.inner.value c.in_ok-pool.ensures.made _ c.in_err-older.ensures.refused)

pub returns-in_err-line-clause-refused : goal.returns-in_err-line-clause-refused
returns-in_err-line-clause-refused c = let q = err_from_is_err_and c.from_residual-in_err-line.result c.from_residual-in_err-line.ensures.1 in
    rw (q.1, q.2) (relay_refused c.args.set.now c.args.name.now c.args.digits.now c.in_ok-pool.pool.inner.value c.in_ok-pool.ensures.made (type_named c.in_ok-older.older) c.in_ok-older.ensures.found _
    (rw c.in_ok-older.ensures.schema at c.in_err-line.ensures.refused))

pub returns-clause-relayed : goal.returns-clause-relayed
returns-clause-relayed c = record {
  pool = c.in_ok-pool.pool.inner.value;
  made = c.in_ok-pool.ensures.made;
  message_type = type_named c.in_ok-older.older;
  named = c.in_ok-older.ensures.found;
  written = string_bytes c.in_ok-line.line;
  relayed = rw c.in_ok-older.ensures.schema at c.in_ok-line.ensures.relayed;
  printed = c.in_ok-push_str.ensures.bytes;
}
