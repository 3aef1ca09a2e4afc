use Rattle.std.specs.Prelude.{◌≡◌, ◌++◌}
use Rattle.prost_reflect_flat.proofs.Common.{map, drop, message_row, text_list}
use Rattle.prost_reflect_flat.proofs.name_lists.message_names.Given as goal

abbrev pub invariant-loop-message : goal.invariant-loop-message
invariant-loop-message l = text_list l.names.items ++ map (λ m. m.definition.full_name) (map message_row (drop l.message-index l.messages)) ≡ map (λ m. m.definition.full_name) (map message_row l.messages)
