use Rattle.std.specs.Prelude.{◌≡◌, ◌++◌}
use Rattle.prost_reflect_lists.proofs.Common.{map, drop, text_list, field_row, field_names}
use Rattle.prost_reflect_lists.proofs.lists.field_names.Given as goal

abbrev pub invariant-loop-field : goal.invariant-loop-field
invariant-loop-field l = text_list l.names.items ++ field_names (map field_row (drop l.field-index l.fields)) ≡ field_names (map field_row l.fields)
