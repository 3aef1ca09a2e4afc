-- Scalars as they are borrowed. For private contracts alone.
use Rattle.prost_reflect_wire.specs.Scalar as scalars
use Rattle.prost_reflect_wire.specs.Scalar.{Scalar}
use Rattle.prost_reflect_tables.specs.declared.scalar.ScalarRef.{ScalarRef}
use Rattle.prost_reflect_tables.specs.declared.scalar.ScalarRef.TheVariants as borrowed

-- The scalar that is borrowed.
abbrev pub scalar_of : ScalarRef → Scalar
scalar_of (borrowed.Bool b) = scalars.Boolean b
scalar_of (borrowed.I32 z) = scalars.I32 z
scalar_of (borrowed.I64 z) = scalars.I64 z
scalar_of (borrowed.U32 n) = scalars.U32 n
scalar_of (borrowed.U64 n) = scalars.U64 n
scalar_of (borrowed.F32 n) = scalars.F32 n
scalar_of (borrowed.F64 n) = scalars.F64 n
scalar_of (borrowed.String text) = scalars.Text text.now
scalar_of (borrowed.Bytes bytes) = scalars.Bytes bytes.now
scalar_of (borrowed.EnumNumber z) = scalars.EnumNumber z
