use Rattle.std.specs.Prelude.{◌≡◌}
use Rattle.prost_reflect_definition_checks.proofs.Common.{Bool, map, drop, list_any, definition_row, message_row, Computes}
use Rattle.prost_reflect_types.specs.declared.FieldDescriptorProto.{FieldDescriptorProto}
use Rattle.prost_reflect_tables.specs.Flat.{DefinitionRow}
use Rattle.prost_reflect_definition_checks.proofs.walk.any_in_messages.Given as goal

abbrev pub invariant-loop-message : goal.invariant-loop-message
invariant-loop-message g l = (p : DefinitionRow FieldDescriptorProto → Bool) → Computes g.F.Fn l.test (λ d. p (definition_row d)) →
    list_any (λ m. list_any p m.fields) (map message_row l.messages) ≡ list_any (λ m. list_any p m.fields) (map message_row (drop l.message-index l.messages))
