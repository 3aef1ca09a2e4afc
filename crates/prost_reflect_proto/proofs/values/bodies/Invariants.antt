use Rattle.std.specs.Prelude.{◌≡◌, ◌++◌}
use Rattle.prost_reflect_proto.proofs.Common.{drop, map, all_found, at_number, record_in}
use Rattle.prost_reflect_proto.proofs.values.bodies.Given as goal

abbrev pub invariant-loop-field : goal.invariant-loop-field
invariant-loop-field l = at_number record_in l.number (all_found l.fields) ≡ map (λ b. b.now) l.bodies.items ++ at_number record_in l.number (all_found (drop l.field-index l.fields))
