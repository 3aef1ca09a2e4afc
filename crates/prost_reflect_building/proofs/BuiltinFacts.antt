-- What holds of the built-in rows and of the schema that they give, by computing.
use Rattle.std.specs.Prelude.{◌≡◌}
use Rattle.prost_reflect_building.proofs.Common.{map, refl, ap, ◌∙◌, MessageRow, TableRows}
use Rattle.prost_reflect_tables.specs.Shown.{schema_from}
use Rattle.prost_reflect_building.specs.Builtin.{builtin_schema, builtin_names}
use Rattle.prost_reflect_building.specs.BuiltinRows.{builtin_messages, builtin_rows}

pub builtin_shown : schema_from builtin_rows ≡ builtin_schema
unfolding schema_from builtin_messages
builtin_shown = refl

pub shown_alike : (rows : TableRows) → rows ≡ builtin_rows → schema_from rows ≡ builtin_schema
shown_alike rows e = ap schema_from e ∙ builtin_shown

pub named_alike : (rows : TableRows) → rows ≡ builtin_rows → map (λ m. m.id.full_name) rows.messages ≡ builtin_names
unfolding builtin_messages
named_alike rows e = ap (λ (x : TableRows). map (λ (m : MessageRow). m.id.full_name) x.messages) e
