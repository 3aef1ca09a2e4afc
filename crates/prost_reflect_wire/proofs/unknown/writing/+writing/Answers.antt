use Rattle.std.specs.Prelude.{◌≡◌}
use Rattle.prost_reflect_wire.proofs.Common.{rules, ◌∙◌, ℕ, length, ap, arith, short, short_key, spelled, records_of}
use Rattle.prost_reflect_wire.specs.declared.key.WireType.TheVariants as wires
use Rattle.prost_reflect_wire.proofs.UnknownViews.{payload_of_LengthDelimited, payload_of_Group, payload_of_SixtyFourBit, payload_of_ThirtyTwoBit}
use Rattle.prost_reflect_wire.proofs.WrittenRecords.{fixed64_valid, fixed32_valid, delimited_valid}
use Rattle.prost_reflect_wire.proofs.SinkSteps.{adds_in_turn, adds_same}
use Rattle.prost_reflect_wire.proofs.unknown.writing.+writing.Goals as goal

pub write_value-returns-in-SixtyFourBit-clause-valid : goal.write_value-returns-in-SixtyFourBit-clause-valid
write_value-returns-in-SixtyFourBit-clause-valid g t c = let is = c.in-SixtyFourBit.is in rw (is, payload_of_SixtyFourBit c.in-SixtyFourBit.payload) (fixed64_valid c.in-SixtyFourBit.payload (search rules) c.prepend.ensures.bytes)

pub write_value-returns-in-LengthDelimited-clause-added : goal.write_value-returns-in-LengthDelimited-clause-added
write_value-returns-in-LengthDelimited-clause-added g t c = let is = c.in-LengthDelimited.is in let v = c.in-LengthDelimited.payload in
    let size : c.len.result ≡ length v.items = c.len.ensures ∙ v.ok.0 in
    rw (is, payload_of_LengthDelimited v)
    (adds_in_turn g.S.Sink.added _ _ _ v.items (short (length v.items))
    (adds_same g.S.Sink.added _ _ _ v.items c.deref.ensures.value c.prepend-in-LengthDelimited.ensures.added)
    (adds_same g.S.Sink.added _ _ _ (short (length v.items)) (ap short size) c.prepend_varint-in-LengthDelimited.ensures))

pub write_value-returns-in-LengthDelimited-clause-valid : goal.write_value-returns-in-LengthDelimited-clause-valid
write_value-returns-in-LengthDelimited-clause-valid g t c = let is = c.in-LengthDelimited.is in let v = c.in-LengthDelimited.payload in
    rw (is, payload_of_LengthDelimited v) (delimited_valid v.items (omega (arith, v.ok.0, v.ok.1, v.small)) (rw c.deref.ensures.value at c.prepend-in-LengthDelimited.ensures.bytes))

pub write_value-returns-in-Group-clause-added : goal.write_value-returns-in-Group-clause-added
write_value-returns-in-Group-clause-added g t c = let is = c.in-Group.is in
    rw (is, payload_of_Group c.in-Group.fields)
    (adds_in_turn g.S.Sink.added _ _ _ (short_key c.args.number.value wires.EndGroup) (spelled (records_of c.in-Group.fields)) (adds_same g.S.Sink.added _ _ _ (short_key c.args.number.value wires.EndGroup) (ap (λ (n : ℕ). short_key n wires.EndGroup) c.get.ensures.value) c.write_key.ensures) c.write_fields.ensures.added)

pub write_value-returns-in-ThirtyTwoBit-clause-valid : goal.write_value-returns-in-ThirtyTwoBit-clause-valid
write_value-returns-in-ThirtyTwoBit-clause-valid g t c = let is = c.in-ThirtyTwoBit.is in rw (is, payload_of_ThirtyTwoBit c.in-ThirtyTwoBit.payload) (fixed32_valid c.in-ThirtyTwoBit.payload (search rules) c.prepend-in-ThirtyTwoBit.ensures.bytes)
