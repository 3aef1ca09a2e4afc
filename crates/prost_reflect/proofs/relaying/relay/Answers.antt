use Rattle.std.proofs.lemmas.Result.{err_from_is_err_and}
use Rattle.prost_reflect_wire.proofs.ByteLists.{bytes_below}
use Rattle.prost_reflect_dynamic.specs.Named.{schema_named, type_named}
use Rattle.prost_reflect_dynamic.specs.View.{content_of}
use Rattle.prost_reflect.proofs.Passing.{older_accepts, passes, is_relayed, relay_too_long}
use Rattle.prost_reflect.proofs.relaying.relay.Goals as goal

pub returns-in_err-message-clause-older_accepts : goal.returns-in_err-message-clause-older_accepts
returns-in_err-message-clause-older_accepts c = older_accepts (schema_named c.args.older.now) (type_named c.args.older.now) c.args.bytes.now

pub returns-in_err-written-clause-older_accepts : goal.returns-in_err-written-clause-older_accepts
returns-in_err-written-clause-older_accepts c = older_accepts (schema_named c.args.older.now) (type_named c.args.older.now) c.args.bytes.now

pub returns-in_err-written-clause-refused : goal.returns-in_err-written-clause-refused
returns-in_err-written-clause-refused c = let q = err_from_is_err_and c.from_residual-in_err-written.result c.from_residual-in_err-written.ensures.1 in
    rw (q.1, q.2) (relay_too_long (schema_named c.args.older.now) (type_named c.args.older.now) c.args.bytes.now (content_of c.in_ok-message.message) c.in_ok-message.ensures.read _ c.in_err-written.ensures.too_long)

pub returns-clause-relayed : goal.returns-clause-relayed
returns-clause-relayed c = is_relayed (schema_named c.args.older.now) (type_named c.args.older.now) c.args.bytes.now c.in_ok-written.written.items (content_of c.in_ok-message.message) c.in_ok-message.ensures.read c.in_ok-written.ensures.ok

pub returns-clause-older_accepts : goal.returns-clause-older_accepts
returns-clause-older_accepts c = older_accepts (schema_named c.args.older.now) (type_named c.args.older.now) c.args.bytes.now

pub returns-clause-passes : goal.returns-clause-passes
returns-clause-passes c = passes c.args.older.now c.args.bytes.now c.in_ok-written.written.items (bytes_below _ c.type_inv.bytes) c.in_ok-written.ensures.fits
    (is_relayed (schema_named c.args.older.now) (type_named c.args.older.now) c.args.bytes.now c.in_ok-written.written.items (content_of c.in_ok-message.message) c.in_ok-message.ensures.read c.in_ok-written.ensures.ok)
