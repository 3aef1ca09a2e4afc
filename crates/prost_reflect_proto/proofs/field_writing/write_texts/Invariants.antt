use Rattle.prost_reflect_proto.proofs.Common.{map, drop, string_bytes, ScalarValue, Text, Adds}
use Rattle.prost_reflect_types.specs.declared.table.FieldKind.TheVariants as kinds
use Rattle.prost_reflect_proto.proofs.FieldBytes.{list_bytes}
use Rattle.prost_reflect_proto.proofs.field_writing.write_texts.Given as goal

-- the elements from the index on are written
abbrev pub invariant-loop-index : goal.invariant-loop-index
invariant-loop-index g l = Adds g.S.Sink.added l.fn.sink l.sink (list_bytes l.number kinds.Texts (map (λ t. ScalarValue (Text (string_bytes t))) (drop l.index l.texts.items)))
