-- What the record behind a key is read as.
use Rattle.std.specs.Prelude.{◌≡◌, ℕ, Bool, Option, Some, None}
use Rattle.prost_reflect_wire.specs.Schema.{field_of}
use Rattle.prost_reflect_fields.specs.Known.{known_of, oneof_of}
use Rattle.prost_reflect_tables.specs.declared.tables.TableKind.{TableKind}
use Rattle.prost_reflect_tables.specs.declared.tables.TableKind.TheVariants as kinds
use Rattle.prost_reflect_tables.specs.Rows.{FieldRow}
use Rattle.prost_reflect_rows.specs.FieldKinds.{PlainField, ListField, NumberList, ScalarMap, NestedField, NestedList, NestedMap}
use Rattle.prost_reflect_pool.specs.declared.pooled_type.PooledType.{PooledType}
use Rattle.prost_reflect_rows.specs.declared.targets.Target.{Target}
use Rattle.prost_reflect_rows.specs.declared.targets.Target.TheVariants.{Unknown, Scalar, List as ListOf, Numbers, Map as MapOf, Message, Element, MessageEntry}

-- A record of a field of one value is read as its kind says.
abbrev pub target_of : TableKind → Bool → (oneof : Option ℕ) → Target
target_of (kinds.Message T) g o = Message (record { place = T; is_group = g }) o
target_of kind g o = Scalar kind o

-- A record of a list is read as an element of its kind, or as packed ones.
abbrev pub element_target_of : TableKind → Bool → Target
element_target_of (kinds.Message T) g = Element (record { place = T; is_group = g })
element_target_of (kinds.Enum E) g = Numbers (kinds.Enum E)
element_target_of kind g = ListOf kind

-- A record of a map is read as an entry whose value is of its kind.
abbrev pub entry_target_of : (key value : TableKind) → Target
entry_target_of key (kinds.Message T) = MessageEntry key T
entry_target_of key kind = MapOf key kind

-- One of a repeated field as an entry of its map, or as one of a list.
abbrev pub repeated_target_of : Option (FieldRow × FieldRow) → TableKind → Bool → Target
repeated_target_of (Some parts) kind g = entry_target_of parts.0.kind parts.1.kind
repeated_target_of None kind g = element_target_of kind g

abbrev pub IsTarget : PooledType → ℕ → Target → Type 0
IsTarget d n Unknown = field_of (known_of d) n ≡ None
IsTarget d n (Scalar kind oneof) = PlainField d n kind × (oneof ≡ oneof_of (known_of d) n)
IsTarget d n (ListOf kind) = ListField (known_of d) n kind
IsTarget d n (Numbers kind) = NumberList d n kind
IsTarget d n (MapOf key kind) = ScalarMap d n key kind
IsTarget d n (MessageEntry key T) = NestedMap d n key T
IsTarget d n (Message nested oneof) = NestedField d n nested.place nested.is_group × (oneof ≡ oneof_of (known_of d) n)
IsTarget d n (Element nested) = NestedList d n nested.place nested.is_group
