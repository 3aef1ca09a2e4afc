-- What kinds name.
use Rattle.std.specs.Prelude.{◌≡◌, ⊤, true, false, List, [], Option, None, Some}
use Rattle.std.specs.Prelude as bits
use Rattle.prost_reflect_wire.specs.Schema as schemas
use Rattle.prost_reflect_wire.specs.declared.key.WireType.{WireType}
use Rattle.prost_reflect_wire.specs.declared.key.WireType.TheVariants.{Varint, SixtyFourBit, LengthDelimited, ThirtyTwoBit}
use Rattle.prost_reflect_tables.specs.Rows.{EnumRow, EnumValueRow}
use Rattle.prost_reflect_tables.specs.Shown.{schema_kind}
use Rattle.prost_reflect_pool.specs.declared.pool.LinkedPool.{LinkedPool}
use Rattle.prost_reflect_tables.specs.declared.tables.TableKind.{TableKind}
use Rattle.prost_reflect_tables.specs.declared.tables.TableKind.TheVariants as places
use Rattle.prost_reflect_rows.specs.KindNames.{enums_in}
use Rattle.prost_reflect_dynamic.specs.NamedLists.{values_of}
use Rattle.prost_reflect_dynamic.specs.declared.descriptor.pool.DescriptorPool.{DescriptorPool}
use Rattle.prost_reflect_dynamic.specs.declared.descriptor.message.MessageDescriptor.{MessageDescriptor}
use Rattle.prost_reflect_dynamic.specs.declared.descriptor.enums.EnumDescriptor.{EnumDescriptor}
use Rattle.prost_reflect_dynamic.specs.declared.descriptor.kind.Kind.{Kind}
use Rattle.prost_reflect_dynamic.specs.declared.descriptor.kind.Kind.TheVariants.{Double, Float, Int32, Int64, Uint32, Uint64, Sint32, Sint64, Fixed32, Fixed64, Sfixed32, Sfixed64, Bool, String, Bytes, Message, Enum}

-- The kind with places for descriptors.
abbrev pub table_kind : Kind → TableKind
table_kind Double = places.Double
table_kind Float = places.Float
table_kind Int32 = places.Int32
table_kind Int64 = places.Int64
table_kind Uint32 = places.Uint32
table_kind Uint64 = places.Uint64
table_kind Sint32 = places.Sint32
table_kind Sint64 = places.Sint64
table_kind Fixed32 = places.Fixed32
table_kind Fixed64 = places.Fixed64
table_kind Sfixed32 = places.Sfixed32
table_kind Sfixed64 = places.Sfixed64
table_kind Bool = places.Bool
table_kind String = places.String
table_kind Bytes = places.Bytes
table_kind (Message message) = places.Message message.index
table_kind (Enum e) = places.Enum e.index

-- The type that the kind names is one of the pool.
abbrev pub IsAmong : DescriptorPool → Kind → Type 0
IsAmong pool (Message message) = message.pool.inner.value ≡ pool.inner.value
IsAmong pool (Enum e) = e.pool.inner.value ≡ pool.inner.value
IsAmong pool kind = ⊤

-- The pool of the type that the kind names.
abbrev pub pool_of : Kind → Option LinkedPool
pool_of (Message message) = Some message.pool.inner.value
pool_of (Enum e) = Some e.pool.inner.value
pool_of kind = None

-- The enums of the pool of the type that the kind names.
abbrev pub enums_named : Kind → List EnumRow
enums_named kind = enums_in (pool_of kind)

-- The kind as its schema has it, where a group is a message.
abbrev pub kind_named : Kind → schemas.Kind
kind_named kind = schema_kind (enums_named kind) (table_kind kind) false

abbrev pub message_of : Kind → Option MessageDescriptor
message_of (Message message) = Some message
message_of kind = None

abbrev pub enum_of : Kind → Option EnumDescriptor
enum_of (Enum e) = Some e
enum_of kind = None

-- The wire type of a record of one value; a message's is that of a delimited one.
abbrev pub wire_type_of : Kind → WireType
wire_type_of Double = SixtyFourBit
wire_type_of Float = ThirtyTwoBit
wire_type_of Fixed32 = ThirtyTwoBit
wire_type_of Fixed64 = SixtyFourBit
wire_type_of Sfixed32 = ThirtyTwoBit
wire_type_of Sfixed64 = SixtyFourBit
wire_type_of String = LengthDelimited
wire_type_of Bytes = LengthDelimited
wire_type_of (Message message) = LengthDelimited
wire_type_of kind = Varint

-- Two kinds that are one.
abbrev pub SameKind : Kind → Kind → Type 0
SameKind a b = (table_kind b ≡ table_kind a) × (pool_of b ≡ pool_of a)

-- The values of the enum that the kind names.
abbrev pub values_named : Kind → List EnumValueRow
values_named (Enum e) = values_of e
values_named kind = []

-- The keys of maps may be of the kind: an integer kind, bool or string.
abbrev pub is_key_kind : Kind → bits.Bool
is_key_kind Double = false
is_key_kind Float = false
is_key_kind Bytes = false
is_key_kind (Message message) = false
is_key_kind (Enum e) = false
is_key_kind kind = true
