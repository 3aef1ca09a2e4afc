-- The lines that name a refusal, and the names of faults in them.
use Rattle.std.specs.Prelude.{ℕ, List, ◌++◌, codes}
use Rattle.prost_reflect_wire.specs.declared.error.DecodeError.{DecodeError}
use Rattle.prost_reflect_wire.specs.declared.error.DecodeError.TheVariants as decode_errors
use Rattle.prost_reflect_wire.specs.declared.error.EncodeError.{EncodeError}
use Rattle.prost_reflect_wire.specs.declared.error.EncodeError.TheVariants as encode_errors
use Rattle.prost_reflect_tables.specs.declared.error.PoolError.{PoolError}
use Rattle.prost_reflect_tables.specs.declared.error.PoolError.TheVariants as pool_errors
use Rattle.protorelay_commands.specs.declared.refusal.Refusal.{Refusal}
use Rattle.protorelay_commands.specs.declared.refusal.Refusal.TheVariants.{Set, Pool, Name, Hex, Number, Value, ValueUnread, Decode, Encode, Memory}

abbrev pub decode_name : DecodeError → List ℕ
decode_name decode_errors.Truncated = codes "Truncated"
decode_name decode_errors.Varint = codes "Varint"
decode_name decode_errors.Key = codes "Key"
decode_name decode_errors.WireType = codes "WireType"
decode_name decode_errors.EndGroup = codes "EndGroup"
decode_name decode_errors.Utf8 = codes "Utf8"
decode_name decode_errors.Depth = codes "Depth"
decode_name decode_errors.OutOfMemory = codes "OutOfMemory"

abbrev pub encode_name : EncodeError → List ℕ
encode_name encode_errors.TooLong = codes "TooLong"
encode_name encode_errors.OutOfMemory = codes "OutOfMemory"

abbrev pub pool_name : PoolError → List ℕ
pool_name (pool_errors.Decode e) = codes "Decode"
pool_name pool_errors.MissingName = codes "MissingName"
pool_name pool_errors.DuplicateName = codes "DuplicateName"
pool_name pool_errors.UnknownSyntax = codes "UnknownSyntax"
pool_name pool_errors.MissingDependency = codes "MissingDependency"
pool_name pool_errors.BadIndex = codes "BadIndex"
pool_name pool_errors.BadNumber = codes "BadNumber"
pool_name pool_errors.DuplicateNumber = codes "DuplicateNumber"
pool_name pool_errors.BadRange = codes "BadRange"
pool_name pool_errors.OutsideRange = codes "OutsideRange"
pool_name pool_errors.UnknownType = codes "UnknownType"
pool_name pool_errors.MissingType = codes "MissingType"
pool_name pool_errors.BadLabel = codes "BadLabel"
pool_name pool_errors.BadOneof = codes "BadOneof"
pool_name pool_errors.BadMapEntry = codes "BadMapEntry"
pool_name pool_errors.EmptyEnum = codes "EmptyEnum"
pool_name pool_errors.BadDefault = codes "BadDefault"
pool_name pool_errors.FloatDefault = codes "FloatDefault"
pool_name pool_errors.BadOptions = codes "BadOptions"
pool_name pool_errors.OutOfMemory = codes "OutOfMemory"

-- The line, without its line feed.
abbrev pub refusal_line : Refusal → List ℕ
refusal_line (Set e) = codes "refused pool Decode " ++ decode_name e
refusal_line (Pool e) = codes "refused pool " ++ pool_name e
refusal_line Name = codes "refused name"
refusal_line Hex = codes "refused hex"
refusal_line Number = codes "refused number"
refusal_line Value = codes "refused value"
refusal_line ValueUnread = codes "refused value"
refusal_line (Decode e) = codes "refused decode " ++ decode_name e
refusal_line (Encode e) = codes "refused encode " ++ encode_name e
refusal_line Memory = codes "refused memory"
