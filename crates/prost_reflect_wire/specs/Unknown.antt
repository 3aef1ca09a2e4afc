-- What an unknown field is, without where it lies in memory.
use Rattle.std.specs.Prelude.{ℕ, List, ◌<◌}
use Rattle.prost_reflect_wire.specs.declared.unknown.UnknownField.{UnknownField}
use Rattle.prost_reflect_wire.specs.declared.unknown.UnknownFieldSet.{UnknownFieldSet}
use Rattle.prost_reflect_wire.specs.declared.unknown.UnknownFieldValue.{UnknownFieldValue}
use Rattle.prost_reflect_wire.specs.declared.unknown.UnknownFieldValue.TheOpen.{UnknownFieldValue-F, UnknownField-F, UnknownFieldSet-F, Varint, SixtyFourBit, LengthDelimited, Group, ThirtyTwoBit}
use Rattle.prost_reflect_wire.specs.declared.unknown.UnknownFieldValue.TheFolds.{fold-UnknownFieldValue, fold-UnknownField, fold-UnknownFieldSet}
use Rattle.prost_reflect_wire.specs.declared.unknown.UnknownFieldValue.TheViews.{out-UnknownFieldSet}
use Rattle.prost_reflect_wire.specs.Record.{Payload, Flat, Record, record_at, Var, Fix64, Len, Fix32, body_of, raw_levels}
use Rattle.prost_reflect_wire.specs.Front.{GroupFront, ValueFront}
use Rattle.prost_reflect_wire.specs.declared.key.WireType.{WireType}
use Rattle.prost_reflect_wire.specs.Record as model

-- One step of each type, over what its parts are.
abbrev pub value_step : UnknownFieldValue-F Payload Record (List Record) → Payload
value_step (Varint value) = Flat (Var value)
value_step (SixtyFourBit bytes) = Flat (Fix64 bytes)
value_step (LengthDelimited bytes) = Flat (Len bytes.items)
value_step (Group records) = model.Group (body_of records)
value_step (ThirtyTwoBit bytes) = Flat (Fix32 bytes)

abbrev pub field_step : UnknownField-F Payload Record (List Record) → Record
field_step field = record_at field.number.value field.value

abbrev pub set_step : UnknownFieldSet-F Payload Record (List Record) → List Record
set_step set = set.fields.items

abbrev pub payload_of : UnknownFieldValue → Payload
payload_of = fold-UnknownFieldValue Payload Record (List Record) value_step field_step set_step

abbrev pub unknown_record : UnknownField → Record
unknown_record = fold-UnknownField Payload Record (List Record) value_step field_step set_step

abbrev pub records_of : UnknownFieldSet → List Record
records_of = fold-UnknownFieldSet Payload Record (List Record) value_step field_step set_step

-- The fields of a set in their order.
abbrev pub unknown_fields_of : UnknownFieldSet → List UnknownField
unknown_fields_of set = (out-UnknownFieldSet set).fields.items

-- Behind the start key of a group of the number: the records, of fewer levels, and the end key.
pub record ReadsGroup (n levels : ℕ) (rs : List Record) (bytes rest : List ℕ) : Type 0 where
  pub front : GroupFront n (body_of rs) bytes rest
  pub within : raw_levels (body_of rs) < levels

-- The same of some records, or of some value behind a key.
abbrev pub SkipsGroup : ℕ → ℕ → List ℕ → List ℕ → Type 0
SkipsGroup n levels bytes rest = (rs : List Record) × ReadsGroup n levels rs bytes rest

abbrev pub SkipsValue : ℕ → WireType → ℕ → List ℕ → List ℕ → Type 0
SkipsValue n w levels bytes rest = (p : Payload) × ValueFront n w levels p bytes rest
