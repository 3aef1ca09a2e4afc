use Rattle.std.specs.Prelude.{◌≡◌}
use Rattle.prost_reflect_proto.proofs.Common.{Some, None, drop, option_map, found_of, all_found, at_number, last_of}
use Rattle.prost_reflect_proto.proofs.values.last.Given as goal

abbrev pub invariant-loop-field : goal.invariant-loop-field
invariant-loop-field l = last_of None (at_number (λ x. Some x) l.number (all_found l.fields)) ≡ last_of (option_map found_of l.found) (at_number (λ x. Some x) l.number (all_found (drop l.field-index l.fields)))
