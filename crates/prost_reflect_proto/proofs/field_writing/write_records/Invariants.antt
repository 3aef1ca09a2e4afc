use Rattle.prost_reflect_proto.proofs.Common.{map, drop, MessageValue, Adds}
use Rattle.prost_reflect_types.specs.declared.table.FieldKind.TheVariants as kinds
use Rattle.prost_reflect_proto.proofs.FieldBytes.{list_bytes}
use Rattle.prost_reflect_proto.proofs.SoundFields.{AllSound}
use Rattle.prost_reflect_proto.proofs.field_writing.write_records.Given as goal

-- the records from the index on are written
abbrev pub invariant-loop-index : goal.invariant-loop-index
invariant-loop-index g l = record {
  added : Adds g.S.Sink.added l.fn.sink l.sink (list_bytes l.number (kinds.Records g.P.WriteProto.record_type) (map (λ r. MessageValue (g.P.HasContent.content r)) (drop l.index l.records.items)));
  sound : AllSound g.P.WriteProto.record_type (map g.P.HasContent.content (drop l.index l.records.items));
}
