use Rattle.prost_reflect_proto.proofs.Common.{map, drop, MessageValue, of_message, Adds}
use Rattle.prost_reflect_types.specs.declared.table.FieldKind.TheVariants as kinds
use Rattle.prost_reflect_types.specs.declared.table.RecordType.TheVariants as types
use Rattle.prost_reflect_proto.proofs.FieldBytes.{list_bytes}
use Rattle.prost_reflect_proto.proofs.SoundFields.{AllSound}
use Rattle.prost_reflect_proto.proofs.writing.+message_writing.Given as goal

-- the messages from the index on are written
abbrev pub invariant-write_messages-loop-index : goal.invariant-write_messages-loop-index
invariant-write_messages-loop-index g l = record {
  added : Adds g.S.Sink.added l.fn.sink l.sink (list_bytes l.number (kinds.Records types.Message) (map (λ m. MessageValue (of_message m)) (drop l.index l.messages.items)));
  sound : AllSound types.Message (map of_message (drop l.index l.messages.items));
}
