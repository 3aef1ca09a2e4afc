use Rattle.std.specs.Prelude.{◌≡◌, ◌++◌}
use Rattle.prost_reflect_flat.proofs.Common.{map, drop, names_of, definition_row, text_list}
use Rattle.prost_reflect_flat.proofs.name_lists.add_names.Given as goal

abbrev pub invariant-loop-definition : goal.invariant-loop-definition
invariant-loop-definition g l = text_list l.names.items ++ names_of (map definition_row (drop l.definition-index l.more)) ≡ text_list l.fn.names.items ++ names_of (map definition_row l.more)
