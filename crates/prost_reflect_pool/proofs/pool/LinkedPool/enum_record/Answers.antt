use Rattle.prost_reflect_pool.proofs.Common.{enum_row, EnumRecord}
use Rattle.prost_reflect_pool.proofs.NamedRecords.{enum_there, found_too}
use Rattle.prost_reflect_pool.proofs.pool.LinkedPool.enum_record.Goals as goal

pub the_enum-requires : goal.the_enum-requires
the_enum-requires c = found_too EnumRecord _ _ c.record_of.ensures (enum_there c.args.self.now c.args.index (enum_row c.enum_table.result.now) c.enum_table.ensures.row)
