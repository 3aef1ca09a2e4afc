use Rattle.prototool_commands.proofs.NamedRows.{field_found, field_missed}
use Rattle.prototool_commands.proofs.redact.path.field_by.Goals as goal

pub returns-in_default : goal.returns-in_default
returns-in_default c = field_missed c.args.descriptor.now c.args.name.now (rw c.in_default.is at c.in_ok-field.ensures.found)

pub returns : goal.returns
returns c =
    let place = rw c.in-Some.is at c.in_ok-field.ensures.found in
    let same = rw c.in-Some.is at c.in_ok-field.ensures.message in
    field_found c.args.descriptor.now c.args.name.now c.in-Some.field c.in_ok-of.field-0 place same c.in_ok-of.ensures
