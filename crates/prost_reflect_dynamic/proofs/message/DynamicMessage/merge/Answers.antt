use Rattle.prost_reflect_dynamic.proofs.Common.{IfErr-weaker, IfOk-weaker, LEVEL_LIMIT, bytes_below, schema_at, type_at, content_of, message_type_of}
use Rattle.prost_reflect_laws.proofs.FaultLaws.{accepted_only_memory}
use Rattle.prost_reflect_dynamic.proofs.MergedBytes.{fault_stands, message_merges}
use Rattle.prost_reflect_dynamic.proofs.message.DynamicMessage.merge.Goals as goal

pub returns-clause-merged : goal.returns-clause-merged
returns-clause-merged c =
    IfOk-weaker c.read_behind.result _ _
    (λ _ read. message_merges c.args.self.now (content_of c.read_behind.new.self) c.args.bytes.now (bytes_below _ c.type_inv.bytes) c.requires.sound read)
    c.read_behind.ensures.ok

pub returns-clause-accepted : goal.returns-clause-accepted
returns-clause-accepted c =
    IfErr-weaker c.read_behind.result _ _
    (λ e stands accepted. accepted_only_memory (schema_at (message_type_of c.args.self.now)) LEVEL_LIMIT (type_at (message_type_of c.args.self.now)) c.args.bytes.now (bytes_below _ c.type_inv.bytes) accepted e
    (λ other. fault_stands c.args.self.now e c.args.bytes.now (stands other)))
    c.read_behind.ensures.fault
