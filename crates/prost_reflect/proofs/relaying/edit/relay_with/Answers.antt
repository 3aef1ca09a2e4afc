use Rattle.std.proofs.Common.{rules, ◌≡◌, None, sym, ◌∙◌}
use Rattle.std.proofs.lemmas.Result.{err_from_is_err_and}
use Rattle.prost_reflect_wire.proofs.ByteLists.{bytes_below}
use Rattle.prost_reflect_dynamic.specs.Named.{schema_named, type_named}
use Rattle.prost_reflect_dynamic.specs.View.{value_of, content_of}
use Rattle.prost_reflect.proofs.Edits.{leads_in, is_edited, edit_too_long, passes_edit}
use Rattle.prost_reflect.proofs.Passing.{older_accepts}
use Rattle.prost_reflect.proofs.relaying.edit.relay_with.Goals as goal

pub returns-in-Some-clause-older_accepts : goal.returns-in-Some-clause-older_accepts
returns-in-Some-clause-older_accepts c = older_accepts (schema_named c.args.older.now) (type_named c.args.older.now) c.args.bytes.now

pub returns-in_err-message-clause-older_accepts : goal.returns-in_err-message-clause-older_accepts
returns-in_err-message-clause-older_accepts c = older_accepts (schema_named c.args.older.now) (type_named c.args.older.now) c.args.bytes.now

pub set_at_path-requires-clause-path : goal.set_at_path-requires-clause-path
set_at_path-requires-clause-path c =
    let none : c.refusal_of.result ≡ None = search rules in
    leads_in (schema_named c.args.older.now) (type_named c.args.older.now) c.args.bytes.now c.args.path.now (value_of c.args.value) (content_of c.in_ok-message.message) c.in_ok-message.ensures.read (sym c.refusal_of.ensures.refusal ∙ none) (c.refusal_of.ensures.ordered none)

pub returns-in_err-written-clause-refused : goal.returns-in_err-written-clause-refused
returns-in_err-written-clause-refused c = let q = err_from_is_err_and c.from_residual-in_err-written.result c.from_residual-in_err-written.ensures.1 in
    rw (q.1, q.2) (edit_too_long (schema_named c.args.older.now) (type_named c.args.older.now) c.args.bytes.now c.args.path.now (value_of c.args.value) (content_of c.in_ok-message.message) (content_of c.set_at_path.new.message) c.in_ok-message.ensures.read c.in_ok-set_at_path.ensures _ c.in_err-written.ensures.too_long)

pub returns-clause-passes : goal.returns-clause-passes
returns-clause-passes c =
    let none : c.refusal_of.result ≡ None = search rules in
    passes_edit c.args.older.now c.args.bytes.now c.args.path.now c.in_ok-written.written.items (value_of c.args.value) (bytes_below _ c.type_inv.bytes) c.in_ok-written.ensures.fits (sym c.refusal_of.ensures.refusal ∙ none) (c.refusal_of.ensures.ordered none)
    (is_edited (schema_named c.args.older.now) (type_named c.args.older.now) c.args.bytes.now c.args.path.now c.in_ok-written.written.items (value_of c.args.value) (content_of c.in_ok-message.message) (content_of c.set_at_path.new.message) c.in_ok-message.ensures.read c.in_ok-set_at_path.ensures c.in_ok-written.ensures.ok)
