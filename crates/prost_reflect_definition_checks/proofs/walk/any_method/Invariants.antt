use Rattle.std.specs.Prelude.{◌≡◌}
use Rattle.prost_reflect_definition_checks.proofs.Common.{Bool, map, drop, list_any, definition_row, service_row, Computes}
use Rattle.prost_reflect_types.specs.declared.MethodDescriptorProto.{MethodDescriptorProto}
use Rattle.prost_reflect_tables.specs.Flat.{DefinitionRow}
use Rattle.prost_reflect_definition_checks.proofs.walk.any_method.Given as goal

abbrev pub invariant-loop-service : goal.invariant-loop-service
invariant-loop-service g l = (p : DefinitionRow MethodDescriptorProto → Bool) → Computes g.F.Fn l.test (λ d. p (definition_row d)) →
    list_any (λ m. list_any p m.methods) (map service_row l.services) ≡ list_any (λ m. list_any p m.methods) (map service_row (drop l.service-index l.services))
