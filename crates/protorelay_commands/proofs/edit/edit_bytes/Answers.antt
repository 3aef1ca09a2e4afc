use Rattle.std.proofs.lemmas.Result.{err_from_is_err_and}
use Rattle.prost_reflect_pool.specs.SharedPools.{pool_rows}
use Rattle.prost_reflect_dynamic.specs.Named.{type_named}
use Rattle.prost_reflect_dynamic.specs.View.{value_of}
use Rattle.protorelay_commands.proofs.EditRefusals.{relay_refused}
use Rattle.protorelay_commands.proofs.edit.edit_bytes.Goals as goal

pub returns-in_err-written-clause-refused : goal.returns-in_err-written-clause-refused
returns-in_err-written-clause-refused c = let q = err_from_is_err_and c.from_residual-in_err-written.result c.from_residual-in_err-written.ensures.1 in
    rw (q.1, q.2) (relay_refused (pool_rows c.args.older.now.pool.inner) (type_named c.args.older.now) c.args.bytes.now c.args.path.now c.args.text.now c.in_ok-numbers.numbers.items (value_of c.in_ok-numbers.value) c.in_ok-numbers.ensures.change _
    (rw c.as_slice.ensures.value at c.in_err-written.ensures.refused))
