use Rattle.prost_reflect_tables.specs.Scalars.{scalar_of}
use Rattle.prost_reflect_tables.specs.Schema.{rows_of}
use Rattle.prost_reflect_tables.proofs.KindDefaults.{scalar_kind, zero_is}
use Rattle.prost_reflect_tables.proofs.tables.Tables.kind_default.Goals as goal

pub zero-requires : goal.zero-requires
zero-requires c = scalar_kind c.args.kind c.in_default.not-Message

pub returns-in_default : goal.returns-in_default
returns-in_default c = zero_is (rows_of c.args.self.now).enums c.args.kind (scalar_of c.zero.result) c.zero.ensures c.in_default.not-Enum
