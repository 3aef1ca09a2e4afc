-- Kinds of the rows of fields, and the message types that they name.
use Rattle.std.specs.Prelude.{Bool, true, false, ℕ, if◌then◌else◌, Option, Some, None}
use Rattle.prost_reflect_wire.specs.Scalar.{Enum}
use Rattle.prost_reflect_wire.specs.Schema.{Kind, ScalarOf}
use Rattle.prost_reflect_tables.specs.declared.tables.TableKind.{TableKind}
use Rattle.prost_reflect_tables.specs.declared.tables.TableKind.TheVariants.{Message, Enum as EnumAt}
use Rattle.prost_reflect_tables.specs.Linking.{is_repeated}
use Rattle.prost_reflect_tables.specs.Rows.{FieldRow}

-- Neither an enum nor a message.
abbrev pub is_plain : Kind → Bool
is_plain (ScalarOf (Enum first numbers)) = false
is_plain (ScalarOf kind) = true
is_plain kind = false

abbrev pub is_plain_kind : TableKind → Bool
is_plain_kind (Message T) = false
is_plain_kind (EnumAt E) = false
is_plain_kind kind = true

abbrev pub names_message : TableKind → Bool
names_message (Message T) = true
names_message kind = false

-- The place of the message type that a kind of the tables names.
abbrev pub place_named : TableKind → Option ℕ
place_named (Message T) = Some T
place_named kind = None

-- The message type of a field of one message.
abbrev pub single_place : FieldRow → Option ℕ
single_place row = if is_repeated row.cardinality then None else place_named row.kind
