-- When the content of a descriptor record can be written and read back: it is of its type and well-typed, and raw bytes are one piece, at every depth. For private contracts alone.
use Rattle.std.specs.Prelude.{◌≡◌, ⊤, true, false, ◌&&◌, Option, Some, None}
use Rattle.prost_reflect_wire.specs.Content.{Content, Value, schema_of, type_of, ordered, value_ordered}
use Rattle.prost_reflect_wire.specs.Schema.{Field}
use Rattle.prost_reflect_wire.specs.Typing.{EntryTest, fit_test, alone_test, filled_test, default_test, everywhere, value_passes, value_valid, is_empty_value, is_stored_default, kind_for, Typed, ValueTyped}
use Rattle.prost_reflect_types.specs.DescriptorTable.{type_place, record_schema, field_of_row}
use Rattle.prost_reflect_types.specs.DescriptorMeaning.{gathered, value_gathered}
use Rattle.prost_reflect_types.specs.declared.table.FieldKind.{FieldKind}
use Rattle.prost_reflect_types.specs.declared.table.RecordType.{RecordType}

abbrev both : EntryTest → EntryTest → EntryTest
both a b = record { stored = λ fields n v es. a.stored fields n v es && b.stored fields n v es; unknown = λ fields n p. a.unknown fields n p && b.unknown fields n p }

-- An entry fits its field, is alone of its oneof, and says something.
abbrev pub sound_test : EntryTest
sound_test = both fit_test (both alone_test (both filled_test default_test))

pub record RecordSound (t : RecordType) (c : Content) : Type 0 where
  pub own_schema : schema_of c ≡ record_schema
  pub own_type : type_of c ≡ type_place t
  pub passes : everywhere sound_test c ≡ true
  pub types : Typed c
  pub order : ordered c ≡ true
  pub whole : gathered c ≡ c

-- A field of a kind, whatever its number.
abbrev pub field_of_kind : FieldKind → Field
field_of_kind kind = field_of_row (0, kind)

-- So is a value of a kind.
pub record ValueSound (kind : FieldKind) (v : Value) : Type 0 where
  pub fits : value_valid (field_of_kind kind) v ≡ true
  pub nonempty : is_empty_value (field_of_kind kind).form v ≡ false
  pub says : is_stored_default (field_of_kind kind) v ≡ false
  pub passes : value_passes sound_test v ≡ true
  pub types : ValueTyped record_schema (kind_for (Some (field_of_kind kind)) v) v
  pub order : value_ordered v ≡ true
  pub whole : value_gathered v ≡ v

abbrev pub FieldSound : FieldKind → Option Value → Type 0
FieldSound kind None = ⊤
FieldSound kind (Some v) = ValueSound kind v
