use Rattle.prost_reflect_pool.proofs.Common.{message_row, MessageRecord}
use Rattle.prost_reflect_pool.proofs.NamedRecords.{message_there, found_too}
use Rattle.prost_reflect_pool.proofs.pool.LinkedPool.message_record.Goals as goal

pub the_message-requires : goal.the_message-requires
the_message-requires c = found_too MessageRecord _ _ c.record_of.ensures (message_there c.args.self.now c.args.index (message_row c.message_table.result.now) c.message_table.ensures.row)
