use Rattle.std.proofs.Common.{map}
use Rattle.prost_reflect_wire.proofs.ByteLists.{bytes_below}
use Rattle.prost_reflect_dynamic.specs.Named.{schema_named, type_named}
use Rattle.std.proofs.lemmas.Result.{err_from_is_err_and}
use Rattle.prototool_commands.proofs.ClearedPaths.{is_redacted, is_too_long, named_schema, named_type}
use Rattle.prototool_commands.proofs.RefusedRedaction.{encode_refused}
use Rattle.prototool_commands.proofs.NothingLeft.{nothing_left}
use Rattle.prototool_commands.proofs.redact.redacted.Goals as goal

pub encode_to_vec-requires : goal.encode_to_vec-requires
encode_to_vec-requires c =
    let cleared = c.in_ok-clear_all.ensures in
    let holds = cleared.holds in
    let sound = holds.sound in
    record { encodable = sound.fits }

pub returns-clause-nothing_left : goal.returns-clause-nothing_left
returns-clause-nothing_left c = nothing_left (map (λ path. path.items) c.args.paths.now)

pub returns-clause-redacted : goal.returns-clause-redacted
returns-clause-redacted c =
    let message = c.in_ok-message.message in
    let named = c.in_ok-message.ensures.message_type in
    is_redacted (schema_named c.args.descriptor) (type_named c.args.descriptor) (map (λ path. path.items) c.args.paths.now) c.args.bytes.now _ message c.clear_all.new.message (bytes_below _ c.type_inv.bytes) (named_schema c.args.descriptor message named) (named_type c.args.descriptor message named)
    c.in_ok-message.ensures.accepts c.in_ok-message.ensures.means c.in_ok-message.ensures.sound c.in_ok-clear_all.ensures c.in_ok-encode_to_vec.ensures.ok c.in_ok-encode_to_vec.ensures.reads_back

pub returns-in_err-encode_to_vec-clause-refused : goal.returns-in_err-encode_to_vec-clause-refused
returns-in_err-encode_to_vec-clause-refused c =
    let p = err_from_is_err_and c.from_residual-in_err-encode_to_vec.result c.from_residual-in_err-encode_to_vec.ensures.1 in
    rw (p.1, p.2) (encode_refused (schema_named c.args.descriptor) (type_named c.args.descriptor) (map (λ path. path.items) c.args.paths.now) c.args.bytes.now _ (λ is. is_too_long (schema_named c.args.descriptor) (type_named c.args.descriptor) (map (λ path. path.items) c.args.paths.now) c.args.bytes.now c.in_ok-message.message c.clear_all.new.message
    c.in_ok-message.ensures.accepts c.in_ok-message.ensures.means c.in_ok-message.ensures.sound c.in_ok-clear_all.ensures (c.in_err-encode_to_vec.ensures.too_long is)))
