use Rattle.std.proofs.Common.{rules, ◌≡◌, false, Some, option_map}
use Rattle.prost_reflect_tables.specs.Rows.{MessageRow}
use Rattle.prost_reflect_dynamic.specs.Named.{message_row_named}
use Rattle.prototool_commands.proofs.NamedRows.{plain_inside}
use Rattle.prototool_commands.proofs.types.message_within.Goals as goal

pub returns : goal.returns
returns c =
    let plain : option_map (λ (m : MessageRow). m.is_map_entry) (message_row_named c.args.message) ≡ Some false = search rules in
    plain_inside c.args.message plain
