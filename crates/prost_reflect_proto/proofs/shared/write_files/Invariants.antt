use Rattle.prost_reflect_proto.proofs.Common.{map, drop, MessageValue, Adds, of_file}
use Rattle.prost_reflect_types.specs.declared.table.FieldKind.TheVariants as kinds
use Rattle.prost_reflect_types.specs.declared.table.RecordType.TheVariants as types
use Rattle.prost_reflect_proto.proofs.FieldBytes.{list_bytes}
use Rattle.prost_reflect_proto.proofs.SoundFields.{AllSound}
use Rattle.prost_reflect_proto.proofs.shared.write_files.Given as goal

-- the files from the index on are written
abbrev pub invariant-loop-index : goal.invariant-loop-index
invariant-loop-index g l = record {
  added : Adds g.S.Sink.added l.fn.sink l.sink (list_bytes l.number (kinds.Records types.File) (map (λ f. MessageValue (of_file f.value)) (drop l.index l.files)));
  sound : AllSound types.File (map (λ f. of_file f.value) (drop l.index l.files));
}
