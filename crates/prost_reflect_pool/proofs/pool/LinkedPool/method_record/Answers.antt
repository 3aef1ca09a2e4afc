use Rattle.prost_reflect_pool.proofs.Common.{method_table_row, MethodRecord}
use Rattle.prost_reflect_pool.proofs.NamedRecords.{method_there, found_too}
use Rattle.prost_reflect_pool.proofs.pool.LinkedPool.method_record.Goals as goal

pub the_method-requires : goal.the_method-requires
the_method-requires c = found_too MethodRecord _ _ c.record_of.ensures (method_there c.args.self.now c.args.service c.args.method (method_table_row c.method_at.result.now) c.method_at.ensures)
