-- Why bytes make no pool, where they are not read.
use Rattle.prost_reflect_wire.specs.declared.error.DecodeError.{DecodeError}
use Rattle.prost_reflect_wire.specs.declared.error.DecodeError.TheVariants as decode_errors
use Rattle.prost_reflect_tables.specs.declared.error.PoolError.{PoolError}
use Rattle.prost_reflect_tables.specs.declared.error.PoolError.TheVariants.{Decode, OutOfMemory}

-- Being out of memory is no fault of the bytes.
abbrev pub read_error : DecodeError → PoolError
read_error decode_errors.OutOfMemory = OutOfMemory
read_error e = Decode e
