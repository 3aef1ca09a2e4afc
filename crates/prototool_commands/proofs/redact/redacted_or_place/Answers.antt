use Rattle.std.proofs.Common.{map, ◌∙◌}
use Rattle.prost_reflect_dynamic.specs.Named.{schema_named, type_named}
use Rattle.prototool_commands.proofs.NamedRedaction.{redacted_same}
use Rattle.prototool_commands.proofs.RefusedRedaction.{plain_refusal}
use Rattle.prototool_commands.proofs.redact.redacted_or_place.Goals as goal

pub returns-in-Ok-clause-redacted : goal.returns-in-Ok-clause-redacted
returns-in-Ok-clause-redacted c =
    redacted_same c.args.descriptor c.in_ok-of_type.of_type (map (λ path. path.items) c.args.paths.now) c.args.bytes.now c.in-Ok.written.items c.in_ok-of_type.ensures.cases c.in-Ok.ensures.redacted

pub returns-in-Err-clause-refused : goal.returns-in-Err-clause-refused
returns-in-Err-clause-refused c =
    c.with_place.ensures ∙ plain_refusal (schema_named c.in_ok-of_type.of_type) (type_named c.in_ok-of_type.of_type) (map (λ path. path.items) c.args.paths.now) c.args.bytes.now c.in-Err.refusal c.in-Err.ensures.refused
