use Rattle.std.specs.Prelude.{◌≡◌, Bool}
use Rattle.prost_reflect_checks.proofs.Common.{drop, list_any, file_list, flat_rows}
use Rattle.prost_reflect_base.specs.Below.{files_below, rows_below}
use Rattle.prost_reflect_growth.specs.ChecksGrow.{added_fault}
use Rattle.prost_reflect_tables.specs.declared.error.PoolError.{PoolError}
use Rattle.prost_reflect_checks.proofs.faults.check_faults.Given as goal

abbrev pub invariant-loop-fault : goal.invariant-loop-fault
invariant-loop-fault l =
    let base = l.resolved.index.base in
    let fault : PoolError → Bool = λ e. added_fault e (files_below base) (file_list l.files) (rows_below base) (flat_rows l.flat) in
    list_any fault l.faults ≡ list_any fault (drop l.fault-index l.faults)
