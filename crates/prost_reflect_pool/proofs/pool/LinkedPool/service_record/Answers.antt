use Rattle.prost_reflect_pool.proofs.Common.{service_table_row, ServiceRecord}
use Rattle.prost_reflect_pool.proofs.NamedRecords.{service_there, found_too}
use Rattle.prost_reflect_pool.proofs.pool.LinkedPool.service_record.Goals as goal

pub the_service-requires : goal.the_service-requires
the_service-requires c = found_too ServiceRecord _ _ c.record_of.ensures (service_there c.args.self.now c.args.index (service_table_row c.service_at.result.now) c.service_at.ensures)
