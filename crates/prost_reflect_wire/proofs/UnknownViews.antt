-- What the parts of an unknown field are, step by step.
use Rattle.std.specs.Prelude.{◌≡◌}
use Rattle.prost_reflect_wire.proofs.Common.{ℕ, List, map, SixtyFourBit, ThirtyTwoBit, LengthDelimited, record_at, Record, Payload, Flat, Fix64, Len, Fix32, body_of, value_step, field_step, set_step, payload_of, unknown_record, records_of}
use Rattle.std.specs.Global.{Vec}
use denote.Hole.Carrier as Carrier
use Rattle.prost_reflect_wire.specs.declared.unknown.UnknownFieldValue.{Group}
use Rattle.prost_reflect_wire.specs.declared.unknown.UnknownField.{UnknownField}
use Rattle.prost_reflect_wire.specs.declared.unknown.UnknownFieldSet.{UnknownFieldSet}
use Rattle.prost_reflect_wire.specs.declared.unknown.UnknownFieldValue.TheViews.{out-UnknownFieldValue, out-UnknownFieldSet}
use Rattle.prost_reflect_wire.specs.declared.unknown.UnknownFieldValue.TheFolds.{fold_out-UnknownFieldSet, fold_out-UnknownField, fold_out-UnknownFieldValue}
use Rattle.prost_reflect_wire.specs.Record as model

pub records_of_out : (s : UnknownFieldSet) → records_of s ≡ map unknown_record (out-UnknownFieldSet s).fields.items
records_of_out = fold_out-UnknownFieldSet Payload Record (List Record) value_step field_step set_step

pub record_of_field : (f : UnknownField) → unknown_record f ≡ record_at f.number.value (payload_of f.value)
record_of_field = fold_out-UnknownField Payload Record (List Record) value_step field_step set_step

pub payload_of_SixtyFourBit : (p : List ℕ) → payload_of (SixtyFourBit p) ≡ Flat (Fix64 p)
unfolding out-UnknownFieldValue Carrier.out
payload_of_SixtyFourBit p = fold_out-UnknownFieldValue Payload Record (List Record) value_step field_step set_step (SixtyFourBit p)

pub payload_of_LengthDelimited : (v : Vec ℕ) → payload_of (LengthDelimited v) ≡ Flat (Len v.items)
unfolding out-UnknownFieldValue Carrier.out
payload_of_LengthDelimited v = fold_out-UnknownFieldValue Payload Record (List Record) value_step field_step set_step (LengthDelimited v)

pub payload_of_Group : (s : UnknownFieldSet) → payload_of (Group s) ≡ model.Group (body_of (records_of s))
unfolding out-UnknownFieldValue Carrier.out
payload_of_Group s = fold_out-UnknownFieldValue Payload Record (List Record) value_step field_step set_step (Group s)

pub payload_of_ThirtyTwoBit : (p : List ℕ) → payload_of (ThirtyTwoBit p) ≡ Flat (Fix32 p)
unfolding out-UnknownFieldValue Carrier.out
payload_of_ThirtyTwoBit p = fold_out-UnknownFieldValue Payload Record (List Record) value_step field_step set_step (ThirtyTwoBit p)
