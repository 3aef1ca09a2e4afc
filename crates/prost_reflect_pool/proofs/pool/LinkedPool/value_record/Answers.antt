use Rattle.prost_reflect_pool.proofs.Common.{enum_value_row, ValueRecord}
use Rattle.prost_reflect_pool.proofs.NamedRecords.{value_there, found_too}
use Rattle.prost_reflect_pool.proofs.pool.LinkedPool.value_record.Goals as goal

pub the_value-requires : goal.the_value-requires
the_value-requires c = found_too ValueRecord _ _ c.record_of.ensures (value_there c.args.self.now c.args.e c.args.value (enum_value_row c.value_at.result.now) c.value_at.ensures)
