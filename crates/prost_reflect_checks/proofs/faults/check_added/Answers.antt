use Rattle.std.specs.Prelude.{◌≡◌}
use Rattle.prost_reflect_checks.proofs.Common.{false, refl, subst, file_list, flat_rows}
use Rattle.prost_reflect_base.specs.Below.{files_below, rows_below}
use Rattle.prost_reflect_base.specs.declared.base.Base.{Base}
use Rattle.prost_reflect_growth.specs.ChecksGrow.{added_fault}
use Rattle.prost_reflect_tables.proofs.Refusing.{none_found}
use Rattle.prost_reflect_checks.proofs.faults.check_added.Goals as goal

pub returns-clause-ok : goal.returns-clause-ok
returns-clause-ok c =
    let files = file_list c.args.files.now in
    let new = flat_rows c.args.flat.now in
    let own = c.in_ok-resolved.resolved.index.base in
    λ e.
    subst (λ (base : Base). added_fault e (files_below base) files (rows_below base) new ≡ false) c.in_ok-resolved.ensures.base
    (none_found (λ e. added_fault e (files_below own) files (rows_below own) new) (λ d. refl) refl c.in_ok-check_faults.ensures.ok e)
