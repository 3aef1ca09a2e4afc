use Rattle.std.specs.Prelude.{◌≡◌}
use Rattle.prost_reflect_dynamic.proofs.Common.{take, varints_added, StaysTyped, content_of, message_type_of}
use Rattle.prost_reflect_dynamic.proofs.message.DynamicMessage.add_strays.Given as goal

-- those in front of the index were added
abbrev pub invariant-loop-varint : goal.invariant-loop-varint
invariant-loop-varint l = record {
  content : content_of l.self ≡ varints_added l.number.value (take l.varint-index l.varint-items) (content_of l.fn.self);
  message_type : message_type_of l.self ≡ message_type_of l.fn.self;
  typed : StaysTyped l.fn.self l.self;
}
