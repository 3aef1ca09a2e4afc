-- What kinds are called, as the language spells them (the language guide, "Scalar Value Types").
use Rattle.std.specs.Prelude.{List, [], Option, None, Some, ℕ, codes, option_map, slice_get, unwrap_or}
use Rattle.prost_reflect_tables.specs.Rows.{EnumRow, MessageRow}
use Rattle.prost_reflect_pool.specs.Pools.{pool_rows}
use Rattle.prost_reflect_pool.specs.declared.pool.LinkedPool.{LinkedPool}
use Rattle.prost_reflect_tables.specs.declared.tables.TableKind.{TableKind}
use Rattle.prost_reflect_tables.specs.declared.tables.TableKind.TheVariants.{Double, Float, Int32, Int64, Uint32, Uint64, Sint32, Sint64, Fixed32, Fixed64, Sfixed32, Sfixed64, Bool, String, Bytes, Message, Enum}

-- The enums of a pool; none where there is none.
abbrev pub enums_in : Option LinkedPool → List EnumRow
enums_in None = []
enums_in (Some pool) = (pool_rows pool).enums

-- The message types of a pool; none where there is none.
abbrev pub messages_in : Option LinkedPool → List MessageRow
messages_in None = []
messages_in (Some pool) = (pool_rows pool).messages

-- The name of a kind whose places are those of these message types and enums. That of a message type or an enum is its full name.
abbrev pub kind_name : List MessageRow → List EnumRow → TableKind → List ℕ
kind_name messages enums Double = codes "double"
kind_name messages enums Float = codes "float"
kind_name messages enums Int32 = codes "int32"
kind_name messages enums Int64 = codes "int64"
kind_name messages enums Uint32 = codes "uint32"
kind_name messages enums Uint64 = codes "uint64"
kind_name messages enums Sint32 = codes "sint32"
kind_name messages enums Sint64 = codes "sint64"
kind_name messages enums Fixed32 = codes "fixed32"
kind_name messages enums Fixed64 = codes "fixed64"
kind_name messages enums Sfixed32 = codes "sfixed32"
kind_name messages enums Sfixed64 = codes "sfixed64"
kind_name messages enums Bool = codes "bool"
kind_name messages enums String = codes "string"
kind_name messages enums Bytes = codes "bytes"
kind_name messages enums (Message place) = unwrap_or (option_map (λ m. m.id.full_name) (slice_get messages place)) []
kind_name messages enums (Enum place) = unwrap_or (option_map (λ e. e.id.full_name) (slice_get enums place)) []
