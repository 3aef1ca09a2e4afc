use Rattle.std.proofs.lemmas.Result.{err_from_is_err_and, IfOk-weaker, IfErr-weaker}
use Rattle.prost_reflect_dynamic.specs.Named.{type_named}
use Rattle.protorelay_commands.proofs.EditRefusals.{pool_refused, name_refused, hex_refused, edited_asked, refused_asked}
use Rattle.std.proofs.Common.{string_bytes}
use Rattle.protorelay_commands.proofs.edit.edit.Goals as goal

pub returns-in_err-pool-clause-refused : goal.returns-in_err-pool-clause-refused
returns-in_err-pool-clause-refused c = let q = err_from_is_err_and c.from_residual.result c.from_residual.ensures.1 in
    rw (q.1, q.2) (pool_refused c.args.set.now c.args.name.now c.args.digits.now c.args.path.now c.args.text.now _ c.in_err-pool.ensures.refused)

pub returns-in_err-older-clause-refused : goal.returns-in_err-older-clause-refused
returns-in_err-older-clause-refused c = let q = err_from_is_err_and c.from_residual-in_err-older.result c.from_residual-in_err-older.ensures.1 in
    rw (q.1, q.2) (name_refused c.args.set.now c.args.name.now c.args.digits.now c.args.path.now c.args.text.now c.in_ok-pool.pool.inner.value c.in_ok-pool.ensures.made _ c.in_err-older.ensures.refused)

pub returns-in_err-bytes-clause-refused : goal.returns-in_err-bytes-clause-refused
returns-in_err-bytes-clause-refused c = let q = err_from_is_err_and c.from_residual-in_err-bytes.result c.from_residual-in_err-bytes.ensures.1 in
    rw (q.1, q.2) (hex_refused c.args.set.now c.args.name.now c.args.digits.now c.args.path.now c.args.text.now c.in_ok-pool.pool.inner.value c.in_ok-pool.ensures.made (type_named c.in_ok-older.older) c.in_ok-older.ensures.found _ c.in_err-bytes.ensures.err)

pub returns-clause-edited : goal.returns-clause-edited
returns-clause-edited c = IfOk-weaker c.edit_bytes.result _ _
    (λ line is. edited_asked c.args.set.now c.args.name.now c.args.digits.now c.args.path.now c.args.text.now c.in_ok-pool.pool.inner.value c.in_ok-pool.ensures.made (type_named c.in_ok-older.older) c.in_ok-older.ensures.found
    c.in_ok-bytes.bytes.items c.as_slice.result.now (string_bytes line) c.in_ok-older.older.pool.inner.value c.in_ok-bytes.ensures.ok c.in_ok-older.ensures.pool c.as_slice.ensures.value is)
    c.edit_bytes.ensures.edited

pub returns-clause-refused : goal.returns-clause-refused
returns-clause-refused c = IfErr-weaker c.edit_bytes.result _ _
    (λ e is. refused_asked c.args.set.now c.args.name.now c.args.digits.now c.args.path.now c.args.text.now c.in_ok-pool.pool.inner.value c.in_ok-pool.ensures.made (type_named c.in_ok-older.older) c.in_ok-older.ensures.found
    c.in_ok-bytes.bytes.items c.as_slice.result.now c.in_ok-older.older.pool.inner.value c.in_ok-bytes.ensures.ok c.in_ok-older.ensures.pool c.as_slice.ensures.value e is)
    c.edit_bytes.ensures.refused
