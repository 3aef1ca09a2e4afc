use Rattle.std.proofs.Common.{sym, subst}
use Rattle.std.specs.Prelude.{IfOk}
use Rattle.prototool_commands.specs.Naming.{HasInside}
use Rattle.prototool_commands.proofs.NamedRows.{no_inside_kind}
use Rattle.prototool_commands.proofs.types.message_inside.Goals as goal

pub returns-in-Message : goal.returns-in-Message
returns-in-Message c = subst (λ kind. IfOk c.message_within.result (HasInside kind)) (sym c.in-Message.is) c.message_within.ensures

pub returns : goal.returns
returns c = no_inside_kind c.args.kind c.in_default.not-Message
