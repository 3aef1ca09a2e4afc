use Rattle.prototool_commands.proofs.NamedRows.{extension_found, extension_missed}
use Rattle.prototool_commands.proofs.redact.path.extension_by.Goals as goal

pub returns-in_default : goal.returns-in_default
returns-in_default c = extension_missed c.args.descriptor.now c.args.name.now (rw c.in_default.is at c.in_ok-extension.ensures.found)

pub returns : goal.returns
returns c =
    let place = rw c.in-Some.is at c.in_ok-extension.ensures.found in
    let own = rw c.in-Some.is at c.in_ok-extension.ensures.own in
    extension_found c.args.descriptor.now c.args.name.now c.in-Some.extension c.in_ok-of.field-0 place own c.in_ok-of.ensures
