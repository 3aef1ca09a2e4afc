-- What stands at the front of bytes, and what keeps it from standing there (the encoding guide, "Base 128 Varints", "Message Structure" and "Length-Delimited Records").
use Rattle.std.specs.Prelude.{◌≡◌, ◌≢◌, ℕ, ◌+◌, ◌*◌, ◌^◌, ◌<◌, ◌≤◌, ◌⊎◌, List, ◌∷◌, ◌++◌, length}
use Rattle.std.specs.List.{AllByRecursion}
use Rattle.prost_reflect_wire.specs.Varint.{Varint}
use Rattle.prost_reflect_wire.specs.Record.{Plain, Len, NoRecords, Records, Record, Payload, Flat, Group, before, Key, Spells, SpellsPlain, wire_code, payload_wire, payload_levels}
use Rattle.prost_reflect_wire.specs.declared.key.WireType.{WireType}
use Rattle.prost_reflect_wire.specs.declared.key.WireType.TheVariants as wires
use Rattle.prost_reflect_wire.specs.declared.error.DecodeError.{DecodeError}
use Rattle.prost_reflect_wire.specs.declared.error.DecodeError.TheVariants as errors

-- FRONTS

-- A varint at the front, and what follows it.
pub record VarintFront (value : ℕ) (bytes rest : List ℕ) : Type 0 where
  pub front : List ℕ
  pub varint : Varint value front
  pub parts : bytes ≡ front ++ rest

-- A key at the front.
pub record KeyFront (n : ℕ) (w : WireType) (bytes rest : List ℕ) : Type 0 where
  pub front : List ℕ
  pub key : Key n w front
  pub parts : bytes ≡ front ++ rest

-- A plain payload at the front.
pub record PlainFront (p : Plain) (bytes rest : List ℕ) : Type 0 where
  pub front : List ℕ
  pub spelled : SpellsPlain p front
  pub parts : bytes ≡ front ++ rest

-- A delimited payload at the front.
pub record DelimitedFront (body bytes rest : List ℕ) : Type 0 where
  pub front : List ℕ
  pub spelled : SpellsPlain (Len body) front
  pub parts : bytes ≡ front ++ rest

-- Records at the front.
pub record RecordsFront (rs : Records) (bytes rest : List ℕ) : Type 0 where
  pub front : List ℕ
  pub spelled : Spells rs front
  pub parts : bytes ≡ front ++ rest

-- One record at the front.
pub record RecordFront (r : Record) (bytes rest : List ℕ) : Type 0 where
  pub front : List ℕ
  pub spelled : Spells (before r NoRecords) front
  pub parts : bytes ≡ front ++ rest

-- Behind the start key of a group: its records, and its end key.
pub record GroupFront (n : ℕ) (inside : Records) (bytes rest : List ℕ) : Type 0 where
  pub end : List ℕ
  pub records : RecordsFront inside bytes end
  pub stop : KeyFront n wires.EndGroup end rest

-- Behind a key of the number: a payload.
abbrev pub PayloadFront : ℕ → Payload → List ℕ → List ℕ → Type 0
PayloadFront n (Flat p) bytes rest = PlainFront p bytes rest
PayloadFront n (Group inside) bytes rest = GroupFront n inside bytes rest

-- Behind a key of the number and the wire type: a payload of so many levels at most.
pub record ValueFront (n : ℕ) (w : WireType) (levels : ℕ) (p : Payload) (bytes rest : List ℕ) : Type 0 where
  pub wire : payload_wire p ≡ w
  pub front : PayloadFront n p bytes rest
  pub within : payload_levels p ≤ levels

-- One record of so many levels at most.
pub record FieldFront (levels : ℕ) (r : Record) (bytes rest : List ℕ) : Type 0 where
  pub front : RecordFront r bytes rest
  pub within : payload_levels r.payload ≤ levels

-- BYTES THAT END OR PASS

abbrev pub AreOpen : List ℕ → Type 0
AreOpen bytes = AllByRecursion (λ b. 128 ≤ b) bytes

-- The bytes end inside a varint.
pub record VarintEnds (bytes : List ℕ) : Type 0 where
  pub few : length bytes < 10
  pub unended : AreOpen bytes

-- Nine bytes with the top bit set, and a tenth above 1.
pub record VarintPasses (bytes : List ℕ) : Type 0 where
  pub nine : List ℕ
  pub tenth : ℕ
  pub rest : List ℕ
  pub parts : bytes ≡ nine ++ (tenth ∷ rest)
  pub count : length nine ≡ 9
  pub unended : AreOpen nine
  pub above : 1 < tenth

-- A varint that is no key.
pub record NoKey (bytes : List ℕ) : Type 0 where
  pub value : ℕ
  pub rest : List ℕ
  pub front : VarintFront value bytes rest
  pub none : (n : ℕ) (w : WireType) → 0 < n → n < 2 ^ 29 → value ≢ 8 * n + wire_code w

-- A length that passes the end.
pub record LengthPasses (bytes : List ℕ) : Type 0 where
  pub size : ℕ
  pub rest : List ℕ
  pub front : VarintFront size bytes rest
  pub short : length rest < size

-- The bytes end inside a payload of the wire type, or its length passes their end; a group's inside is a place of its own.
abbrev pub PayloadEnds : WireType → List ℕ → Type 0
PayloadEnds wires.Varint bytes = VarintEnds bytes
PayloadEnds wires.SixtyFourBit bytes = length bytes < 8
PayloadEnds wires.LengthDelimited bytes = VarintEnds bytes ⊎ LengthPasses bytes
PayloadEnds wires.StartGroup bytes = ⊥
PayloadEnds wires.EndGroup bytes = ⊥
PayloadEnds wires.ThirtyTwoBit bytes = length bytes < 4

abbrev pub PayloadPasses : WireType → List ℕ → Type 0
PayloadPasses wires.Varint bytes = VarintPasses bytes
PayloadPasses wires.LengthDelimited bytes = VarintPasses bytes
PayloadPasses w bytes = ⊥

-- FAULTS AT THE FRONT

-- Where a varint is read.
abbrev pub VarintFault : DecodeError → List ℕ → Type 0
VarintFault errors.Truncated bytes = VarintEnds bytes
VarintFault errors.Varint bytes = VarintPasses bytes
VarintFault e bytes = ⊥

-- Where a key is read.
abbrev pub KeyFault : DecodeError → List ℕ → Type 0
KeyFault errors.Truncated bytes = VarintEnds bytes
KeyFault errors.Varint bytes = VarintPasses bytes
KeyFault errors.Key bytes = NoKey bytes
KeyFault e bytes = ⊥

-- Where a plain payload of the wire type is read.
abbrev pub PlainFault : DecodeError → WireType → List ℕ → Type 0
PlainFault errors.Truncated w bytes = PayloadEnds w bytes
PlainFault errors.Varint w bytes = PayloadPasses w bytes
PlainFault e w bytes = ⊥
