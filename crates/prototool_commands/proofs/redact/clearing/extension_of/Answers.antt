use Rattle.prost_reflect_dynamic.specs.View.{message_type_of}
use Rattle.prototool_commands.proofs.ClearedCalls.{extension_numbered, extension_unlisted}
use Rattle.prototool_commands.proofs.redact.clearing.extension_of.Goals as goal

pub returns-clause-number : goal.returns-clause-number
returns-clause-number c = extension_numbered (message_type_of c.args.message.now) c.in_ok-descriptor.descriptor c.args.number c.in_ok-descriptor.ensures c.in_ok-get_extension.field-0 c.in_ok-get_extension.ensures.found c.in_ok-get_extension.ensures.own

pub returns-clause-missing : goal.returns-clause-missing
returns-clause-missing c = extension_unlisted (message_type_of c.args.message.now) c.in_ok-descriptor.descriptor c.args.number c.in_ok-descriptor.ensures c.in_ok-get_extension.field-0 c.in_ok-get_extension.ensures.found
