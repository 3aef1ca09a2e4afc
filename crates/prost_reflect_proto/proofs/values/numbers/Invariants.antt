use Rattle.std.specs.Prelude.{◌≡◌, ◌++◌}
use Rattle.prost_reflect_proto.proofs.Common.{drop, all_found, at_number, number_in}
use Rattle.prost_reflect_proto.proofs.values.numbers.Given as goal

abbrev pub invariant-loop-field : goal.invariant-loop-field
invariant-loop-field l = at_number number_in l.number (all_found l.fields) ≡ l.numbers.items ++ at_number number_in l.number (all_found (drop l.field-index l.fields))
