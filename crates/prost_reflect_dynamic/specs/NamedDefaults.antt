-- The default of a kind.
use Rattle.std.specs.Prelude.{pos, false, []}
use Rattle.prost_reflect_wire.specs.Scalar as scalars
use Rattle.prost_reflect_wire.specs.Content.{Value, ScalarValue, MessageValue, empty}
use Rattle.prost_reflect_pool.specs.Enums.{first_of}
use Rattle.prost_reflect_dynamic.specs.Named.{schema_named, type_named}
use Rattle.prost_reflect_dynamic.specs.NamedEnums.{enum_row_at}
use Rattle.prost_reflect_dynamic.specs.declared.descriptor.kind.Kind.{Kind}
use Rattle.prost_reflect_dynamic.specs.declared.descriptor.kind.Kind.TheVariants.{Double, Float, Int32, Int64, Uint32, Uint64, Sint32, Sint64, Fixed32, Fixed64, Sfixed32, Sfixed64, Bool, String, Bytes, Message, Enum}

-- Zero, false or empty; the first number of an enum; a message without fields.
abbrev pub default_named : Kind → Value
default_named Double = ScalarValue (scalars.F64 0)
default_named Float = ScalarValue (scalars.F32 0)
default_named Int32 = ScalarValue (scalars.I32 (pos 0))
default_named Int64 = ScalarValue (scalars.I64 (pos 0))
default_named Uint32 = ScalarValue (scalars.U32 0)
default_named Uint64 = ScalarValue (scalars.U64 0)
default_named Sint32 = ScalarValue (scalars.I32 (pos 0))
default_named Sint64 = ScalarValue (scalars.I64 (pos 0))
default_named Fixed32 = ScalarValue (scalars.U32 0)
default_named Fixed64 = ScalarValue (scalars.U64 0)
default_named Sfixed32 = ScalarValue (scalars.I32 (pos 0))
default_named Sfixed64 = ScalarValue (scalars.I64 (pos 0))
default_named Bool = ScalarValue (scalars.Boolean false)
default_named String = ScalarValue (scalars.Text [])
default_named Bytes = ScalarValue (scalars.Bytes [])
default_named (Message message) = MessageValue (empty (schema_named message) (type_named message))
default_named (Enum e) = ScalarValue (scalars.EnumNumber (first_of (enum_row_at e)))
