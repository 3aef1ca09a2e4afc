use Rattle.std.specs.Prelude.{◌≡◌, ◌++◌}
use Rattle.prost_reflect_definition_checks.proofs.Common.{map, drop, names_in_messages, message_row, text_list}
use Rattle.prost_reflect_definition_checks.proofs.names.add_names_in_messages.Given as goal

abbrev pub invariant-loop-message : goal.invariant-loop-message
invariant-loop-message l = text_list l.names.items ++ names_in_messages (map message_row (drop l.message-index l.messages)) ≡ text_list l.fn.names.items ++ names_in_messages (map message_row l.messages)
