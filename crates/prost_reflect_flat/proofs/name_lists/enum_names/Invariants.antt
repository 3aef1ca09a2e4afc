use Rattle.std.specs.Prelude.{◌≡◌, ◌++◌}
use Rattle.prost_reflect_flat.proofs.Common.{map, drop, enum_row, text_list}
use Rattle.prost_reflect_flat.proofs.name_lists.enum_names.Given as goal

abbrev pub invariant-loop-declared : goal.invariant-loop-declared
invariant-loop-declared l = text_list l.names.items ++ map (λ e. e.definition.full_name) (map enum_row (drop l.declared-index l.enums)) ≡ map (λ e. e.definition.full_name) (map enum_row l.enums)
