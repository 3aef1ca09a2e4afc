-- What the tables of a pool keep.
use Rattle.std.specs.Prelude.{ℕ, ◌^◌, Bool, true, false, not, ◌&&◌, ◌||◌, List, [], ◌∷◌, length, nat_lt, nat_eq, Option, None, Some}
use Rattle.std.specs.List.{list_all}
use Rattle.prost_reflect_wire.specs.Schema.{schema_valid}
use Rattle.prost_reflect_tables.specs.declared.tables.TableKind.{TableKind}
use Rattle.prost_reflect_tables.specs.declared.tables.TableKind.TheVariants.{Message, Enum}
use Rattle.prost_reflect_tables.specs.Rows.{FieldRow, OneofRow, MessageRow, EnumRow, TableRows}
use Rattle.prost_reflect_tables.specs.Shown.{schema_from}

-- The message type or the enum is one of so many.
abbrev pub kind_in_range : ℕ → ℕ → TableKind → Bool
kind_in_range messages enums (Message T) = nat_lt T messages
kind_in_range messages enums (Enum E) = nat_lt E enums
kind_in_range messages enums kind = true

abbrev pub oneof_in_range : ℕ → Option ℕ → Bool
oneof_in_range oneofs None = true
oneof_in_range oneofs (Some o) = nat_lt o oneofs

-- The numbers ascend from above this one, and stay below 2^29.
abbrev pub ascending_from : ℕ → List FieldRow → Bool
ascending_from low [] = true
ascending_from low (f ∷ fields) = nat_lt low f.number && nat_lt f.number (2 ^ 29) && ascending_from f.number fields

abbrev pub field_linked : ℕ → ℕ → ℕ → FieldRow → Bool
field_linked messages enums oneofs f = kind_in_range messages enums f.kind && oneof_in_range oneofs f.oneof

abbrev pub oneof_linked : ℕ → OneofRow → Bool
oneof_linked fields o = list_all (λ i. nat_lt i fields) o.fields

-- A map's entry has the numbers 1 and 2, and no other.
abbrev pub has_entry_numbers : List FieldRow → Bool
has_entry_numbers (key ∷ value ∷ []) = nat_eq key.number 1 && nat_eq value.number 2
has_entry_numbers fields = false

abbrev pub message_linked : ℕ → ℕ → MessageRow → Bool
message_linked messages enums m =
    ascending_from 0 m.fields
    && list_all (field_linked messages enums (length m.oneofs)) m.fields
    && list_all (oneof_linked (length m.fields)) m.oneofs
    && (not m.is_map_entry || has_entry_numbers m.fields)

-- An enum has a first value.
abbrev pub enum_linked : EnumRow → Bool
enum_linked e = nat_lt 0 (length e.values)

-- Each place is there, numbers ascend, and the schema is one of a checked pool.
abbrev pub is_linked : TableRows → Bool
is_linked rows =
    list_all (message_linked (length rows.messages) (length rows.enums)) rows.messages
    && list_all enum_linked rows.enums
    && schema_valid (schema_from rows)
