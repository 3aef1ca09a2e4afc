-- What is written of one field of a descriptor record, by its number and kind. For private contracts alone.
use Rattle.std.specs.Prelude.{ℕ, List, [], map, Option, Some, None}
use Rattle.prost_reflect_wire.specs.Record.{Payload, record_at, spelled}
use Rattle.prost_reflect_wire.specs.Content.{Value}
use Rattle.prost_reflect_wire.specs.Writing.{field_payloads}
use Rattle.prost_reflect_types.specs.DescriptorTable.{field_of_row}
use Rattle.prost_reflect_types.specs.declared.table.FieldKind.{FieldKind}

-- The payloads of a value that is there.
abbrev pub row_payloads : ℕ × FieldKind → Option Value → List Payload
row_payloads row None = []
row_payloads row (Some v) = field_payloads (Some (field_of_row row)) v

unfoldable pub field_bytes : ℕ → FieldKind → Option Value → List ℕ
field_bytes n kind value = spelled (map (record_at n) (row_payloads (n, kind) value))
