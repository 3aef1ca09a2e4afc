use Rattle.prost_reflect_proto.proofs.Common.{map, drop, ScalarValue, I32, Adds}
use Rattle.prost_reflect_types.specs.declared.table.FieldKind.TheVariants as kinds
use Rattle.prost_reflect_proto.proofs.FieldBytes.{list_bytes}
use Rattle.prost_reflect_proto.proofs.SoundFields.{InRange}
use Rattle.prost_reflect_proto.proofs.field_writing.write_numbers.Given as goal

-- the numbers from the index on are written
abbrev pub invariant-loop-index : goal.invariant-loop-index
invariant-loop-index g l = record {
  added : Adds g.S.Sink.added l.fn.sink l.sink (list_bytes l.number kinds.Numbers (map (λ z. ScalarValue (I32 z)) (drop l.index l.values.items)));
  range : InRange (drop l.index l.values.items);
}
