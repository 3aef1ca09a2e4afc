use Rattle.prost_reflect_pool.proofs.Common.{field_row, FieldRecord}
use Rattle.prost_reflect_pool.proofs.NamedRecords.{field_there, found_too}
use Rattle.prost_reflect_pool.proofs.pool.LinkedPool.field_record.Goals as goal

pub the_field-requires : goal.the_field-requires
the_field-requires c = found_too FieldRecord _ _ c.record_of.ensures (field_there c.args.self.now c.args.message c.args.field (field_row c.field_at.result.now) c.field_at.ensures)
