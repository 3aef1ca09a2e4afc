use Rattle.std.specs.Prelude.{◌≡◌, ◌++◌}
use Rattle.prost_reflect_proto.proofs.Common.{drop, map, string_bytes, Text, ScalarValue, all_found, at_number, text_in}
use Rattle.prost_reflect_proto.proofs.values.texts.Given as goal

abbrev pub invariant-loop-field : goal.invariant-loop-field
invariant-loop-field l =
    map (λ x. ScalarValue (Text x)) (at_number text_in l.number (all_found l.fields))
    ≡ map (λ t. ScalarValue (Text (string_bytes t))) l.texts.items ++ map (λ x. ScalarValue (Text x)) (at_number text_in l.number (all_found (drop l.field-index l.fields)))
