use Rattle.prost_reflect_pool.proofs.Common.{oneof_row, OneofRecord}
use Rattle.prost_reflect_pool.proofs.NamedRecords.{oneof_there, found_too}
use Rattle.prost_reflect_pool.proofs.pool.LinkedPool.oneof_record.Goals as goal

pub the_oneof-requires : goal.the_oneof-requires
the_oneof-requires c = found_too OneofRecord _ _ c.record_of.ensures (oneof_there c.args.self.now c.args.message c.args.oneof (oneof_row c.oneof_table.result.now) c.oneof_table.ensures.row)
