-- What a map's key feeds a hasher.
use Rattle.std.specs.Prelude.{[], ◌++◌, pos}
use Rattle.std.specs.Hash as fed
use Rattle.std.specs.Hash.{HashWrites}
use Rattle.prost_reflect_wire.specs.Scalar as scalars
use Rattle.prost_reflect_wire.specs.Scalar.{Scalar}

-- The place of its variant among those of a key, and then its value; texts by their bytes. Nothing for a scalar that is no key.
abbrev pub key_writes : Scalar → HashWrites
key_writes (scalars.Boolean b) = fed.isize (pos 0) ++ fed.bool b
key_writes (scalars.I32 z) = fed.isize (pos 1) ++ fed.i32 z
key_writes (scalars.I64 z) = fed.isize (pos 2) ++ fed.i64 z
key_writes (scalars.U32 n) = fed.isize (pos 3) ++ fed.u32 n
key_writes (scalars.U64 n) = fed.isize (pos 4) ++ fed.u64 n
key_writes (scalars.Text bytes) = fed.isize (pos 5) ++ fed.str bytes
key_writes (scalars.F32 n) = []
key_writes (scalars.F64 n) = []
key_writes (scalars.Bytes bytes) = []
key_writes (scalars.EnumNumber z) = []
