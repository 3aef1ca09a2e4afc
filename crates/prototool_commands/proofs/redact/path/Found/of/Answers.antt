use Rattle.prototool_commands.proofs.NamedRows.{found_of}
use Rattle.prototool_commands.proofs.redact.path.Found.of.Goals as goal

pub returns : goal.returns
returns g c =
    let like = g.F.FieldDescriptorLike in
    found_of (like.pool c.args.field.now) (like.table_row c.args.field.now) c.in_ok-kind.kind c.number.result c.in_ok-inside.inside c.number.ensures c.in_ok-kind.ensures.kind c.in_ok-kind.ensures.pool c.in_ok-inside.ensures
