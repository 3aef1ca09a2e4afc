use Rattle.prototool_commands.proofs.NamedRows.{entry_message, entry_scalar}
use Rattle.prototool_commands.proofs.types.message_of_values.Goals as goal

pub returns-in-Message : goal.returns-in-Message
returns-in-Message c =
    entry_message c.args.entry c.requires c.in_ok-value.value c.in_ok-kind.kind c.in_ok-value.ensures.place c.in_ok-value.ensures.message c.in_ok-kind.ensures.kind c.in_ok-kind.ensures.pool c.in-Message.message c.in-Message.is

pub returns : goal.returns
returns c =
    entry_scalar c.args.entry c.requires c.in_ok-value.value c.in_ok-kind.kind c.in_ok-value.ensures.place c.in_ok-value.ensures.message c.in_ok-kind.ensures.kind c.in_ok-kind.ensures.pool c.in_default.not-Message
