use Rattle.std.specs.Prelude.{◌≡◌, ◌++◌}
use Rattle.prost_reflect_linking.proofs.Common.{drop, map, true, EnumValueRow, enum_value_row, definition_row, linked_value}
use Rattle.std.specs.List.{list_all}
use Rattle.prost_reflect_wire.specs.Scalar.{in_i32}
use Rattle.prost_reflect_linking.proofs.link.linked_values.Given as goal

abbrev pub invariant-loop-value : goal.invariant-loop-value
invariant-loop-value l = record {
  rows : map enum_value_row l.tables.items ++ map linked_value (map definition_row (drop l.value-index l.values)) ≡ map linked_value (map definition_row l.values);
  range : list_all in_i32 (map (λ (w : EnumValueRow). w.number) (map enum_value_row l.tables.items)) ≡ true;
}
