use Rattle.prost_reflect_dynamic.proofs.Common.{on_ok_weaker, IfErr-weaker}
use Rattle.prost_reflect_pool.proofs.OneFile.{one_added, one_refused}
use Rattle.prost_reflect_dynamic.proofs.descriptor.pool.DescriptorPool.decode_file_descriptor_proto.Goals as goal

pub returns-clause-ok : goal.returns-clause-ok
returns-clause-ok c = on_ok_weaker _ (one_added c.args.bytes.now c.in_ok-file.file _ _ c.in_ok-file.ensures.means) c.add_file_descriptor_proto.ensures.ok

pub returns-clause-refused : goal.returns-clause-refused
returns-clause-refused c = IfErr-weaker _ _ _ (one_refused c.args.bytes.now c.in_ok-file.file _ c.in_ok-file.ensures.means) c.add_file_descriptor_proto.ensures.refused
