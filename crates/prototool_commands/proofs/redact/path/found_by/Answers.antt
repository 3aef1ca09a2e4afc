use Rattle.std.proofs.Common.{sym, subst}
use Rattle.std.specs.Prelude.{IfOk}
use Rattle.prototool_commands.specs.Naming.{IsFoundIn, row_named, shown_name}
use Rattle.prototool_commands.proofs.redact.path.found_by.Goals as goal

pub returns-in-Field : goal.returns-in-Field
returns-in-Field c =
    let pool = c.args.descriptor.now.pool.inner.value in
    subst (λ name. IfOk c.field_by.result (IsFoundIn pool (row_named pool c.args.descriptor.now.index (shown_name name)))) (sym c.in-Field.is) c.field_by.ensures

pub returns-in-Extension : goal.returns-in-Extension
returns-in-Extension c =
    let pool = c.args.descriptor.now.pool.inner.value in
    subst (λ name. IfOk c.extension_by.result (IsFoundIn pool (row_named pool c.args.descriptor.now.index (shown_name name)))) (sym c.in-Extension.is) c.extension_by.ensures
