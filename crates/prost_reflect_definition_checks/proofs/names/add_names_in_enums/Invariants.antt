use Rattle.std.specs.Prelude.{◌≡◌, ◌++◌}
use Rattle.prost_reflect_definition_checks.proofs.Common.{map, drop, names_in_enums, enum_row, text_list}
use Rattle.prost_reflect_definition_checks.proofs.names.add_names_in_enums.Given as goal

abbrev pub invariant-loop-declared : goal.invariant-loop-declared
invariant-loop-declared l = text_list l.names.items ++ names_in_enums (map enum_row (drop l.declared-index l.enums)) ≡ text_list l.fn.names.items ++ names_in_enums (map enum_row l.enums)
