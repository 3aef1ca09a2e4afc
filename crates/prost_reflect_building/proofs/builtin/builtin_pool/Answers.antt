use Rattle.std.proofs.lemmas.Result.{err_from_is_err_and}
use Rattle.prost_reflect_building.proofs.BuiltinFacts.{shown_alike, named_alike}
use Rattle.prost_reflect_building.proofs.BuiltinChecked.{refused_for_memory}
use Rattle.prost_reflect_building.proofs.BuiltinLinks.{rows_built, files_built}
use Rattle.prost_reflect_building.proofs.builtin.builtin_pool.Goals as goal

pub returns-clause-files : goal.returns-clause-files
returns-clause-files c = files_built c.new-none.result _ c.in_ok-builtin_files.field-0.items c.new-none.ensures c.in_ok-builtin_files.ensures c.in_ok-pool.ensures.ok

pub returns-clause-rows : goal.returns-clause-rows
returns-clause-rows c = rows_built c.new-none.result _ c.in_ok-builtin_files.field-0.items c.new-none.ensures c.in_ok-builtin_files.ensures c.in_ok-pool.ensures.ok

pub returns-clause-schema : goal.returns-clause-schema
returns-clause-schema c = shown_alike _ (rows_built c.new-none.result _ c.in_ok-builtin_files.field-0.items c.new-none.ensures c.in_ok-builtin_files.ensures c.in_ok-pool.ensures.ok)

pub returns-clause-names : goal.returns-clause-names
returns-clause-names c = named_alike _ (rows_built c.new-none.result _ c.in_ok-builtin_files.field-0.items c.new-none.ensures c.in_ok-builtin_files.ensures c.in_ok-pool.ensures.ok)

pub returns-in_err-pool-clause-refused : goal.returns-in_err-pool-clause-refused
returns-in_err-pool-clause-refused c =
    let q = err_from_is_err_and c.from_residual-in_err-pool.result c.from_residual-in_err-pool.ensures.1 in
    rw (q.1, q.2) (refused_for_memory _ c.in_ok-builtin_files.field-0.items _ c.new-none.ensures c.in_ok-builtin_files.ensures c.in_err-pool.ensures.refused)
