-- What a value holds, if it is of one variant.
use Rattle.std.specs.Prelude.{ℕ, ℤ, Bool, List, Option, Some, None, string_bytes}
use Rattle.prost_reflect_wire.specs.Scalar as scalars
use Rattle.prost_reflect_wire.specs.Content as contents
use Rattle.prost_reflect_dynamic.specs.declared.value.MapKey.{MapKey}
use Rattle.prost_reflect_dynamic.specs.declared.value.MapKey.TheVariants as keys
use Rattle.prost_reflect_dynamic.specs.declared.value.Value.{Value}
use Rattle.prost_reflect_dynamic.specs.declared.value.Value.TheOpen.{Value-F}
use Rattle.prost_reflect_dynamic.specs.declared.message.DynamicMessage.{DynamicMessage}

abbrev Held : Type 0
Held = Value-F Value DynamicMessage

abbrev pub bool_in : Held → Option Bool
bool_in (Value-F.Bool b) = Some b
bool_in _ = None

abbrev pub i32_in : Held → Option ℤ
i32_in (Value-F.I32 z) = Some z
i32_in _ = None

abbrev pub i64_in : Held → Option ℤ
i64_in (Value-F.I64 z) = Some z
i64_in _ = None

abbrev pub u32_in : Held → Option ℕ
u32_in (Value-F.U32 n) = Some n
u32_in _ = None

abbrev pub u64_in : Held → Option ℕ
u64_in (Value-F.U64 n) = Some n
u64_in _ = None

abbrev pub f32_in : Held → Option ℕ
f32_in (Value-F.F32 n) = Some n
f32_in _ = None

abbrev pub f64_in : Held → Option ℕ
f64_in (Value-F.F64 n) = Some n
f64_in _ = None

abbrev pub enum_number_in : Held → Option ℤ
enum_number_in (Value-F.EnumNumber z) = Some z
enum_number_in _ = None

abbrev pub text_in : Held → Option (List ℕ)
text_in (Value-F.String s) = Some (string_bytes s)
text_in _ = None

abbrev pub bytes_in : Held → Option (List ℕ)
bytes_in (Value-F.Bytes v) = Some v.items
bytes_in _ = None

abbrev pub message_in : Held → Option DynamicMessage
message_in (Value-F.Message m) = Some m
message_in _ = None

abbrev pub list_in : Held → Option (List Value)
list_in (Value-F.List v) = Some v.items
list_in _ = None

abbrev pub pairs_in : Held → Option (List (MapKey × Value))
pairs_in (Value-F.Map m) = Some m.entries
pairs_in _ = None

-- The scalar that is a key of a map, if the value is one.
abbrev pub key_among : scalars.Scalar → Option scalars.Scalar
key_among (scalars.Boolean b) = Some (scalars.Boolean b)
key_among (scalars.I32 z) = Some (scalars.I32 z)
key_among (scalars.I64 z) = Some (scalars.I64 z)
key_among (scalars.U32 n) = Some (scalars.U32 n)
key_among (scalars.U64 n) = Some (scalars.U64 n)
key_among (scalars.Text x) = Some (scalars.Text x)
key_among v = None

abbrev pub key_in : contents.Value → Option scalars.Scalar
key_in (contents.ScalarValue v) = key_among v
key_in (contents.MessageValue c) = None
key_in (contents.ListValue vs) = None
key_in (contents.MapValue ps) = None

-- KEYS

abbrev pub bool_of_key : MapKey → Option Bool
bool_of_key (keys.Bool b) = Some b
bool_of_key _ = None

abbrev pub i32_of_key : MapKey → Option ℤ
i32_of_key (keys.I32 z) = Some z
i32_of_key _ = None

abbrev pub i64_of_key : MapKey → Option ℤ
i64_of_key (keys.I64 z) = Some z
i64_of_key _ = None

abbrev pub u32_of_key : MapKey → Option ℕ
u32_of_key (keys.U32 n) = Some n
u32_of_key _ = None

abbrev pub u64_of_key : MapKey → Option ℕ
u64_of_key (keys.U64 n) = Some n
u64_of_key _ = None

abbrev pub text_of_key : MapKey → Option (List ℕ)
text_of_key (keys.String s) = Some (string_bytes s)
text_of_key _ = None
