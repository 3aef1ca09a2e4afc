use Rattle.std.specs.Prelude.{◌≡◌}
use Rattle.prost_reflect_proto.proofs.Common.{None, drop, option_map, all_found, at_number, joined_to, bytes_in}
use Rattle.prost_reflect_proto.proofs.values.bytes.Given as goal

abbrev pub invariant-loop-field : goal.invariant-loop-field
invariant-loop-field l = joined_to None (at_number bytes_in l.number (all_found l.fields)) ≡ joined_to (option_map (λ b. b.items) l.found) (at_number bytes_in l.number (all_found (drop l.field-index l.fields)))
