use Rattle.std.specs.Prelude.{◌≡◌, ◌++◌}
use Rattle.prost_reflect_lists.proofs.Common.{map, drop, text_list, field_row, json_names}
use Rattle.prost_reflect_lists.proofs.lists.json_names.Given as goal

abbrev pub invariant-loop-field : goal.invariant-loop-field
invariant-loop-field l = text_list l.names.items ++ json_names (map field_row (drop l.field-index l.fields)) ≡ json_names (map field_row l.fields)
