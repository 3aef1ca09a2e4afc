-- What reading the entry of a map has found, and what it refuses (the encoding guide, "Maps"). For private contracts alone.
use Rattle.std.specs.Prelude.{◌≡◌, ◌≢◌, ◌⊎◌, ⊤, ℕ, false, true, List, [], Option, Some, None}
use Rattle.std.specs.List.{list_all}
use Rattle.prost_reflect_wire.specs.declared.error.DecodeError.{DecodeError}
use Rattle.prost_reflect_wire.specs.declared.error.DecodeError.TheVariants as errors
use Rattle.prost_reflect_wire.specs.declared.key.WireType.{WireType}
use Rattle.prost_reflect_wire.specs.declared.key.WireType.TheVariants as wires
use Rattle.prost_reflect_wire.specs.Record.{Record, body_of}
use Rattle.prost_reflect_wire.specs.Front.{RecordsFront, PlainFault}
use Rattle.prost_reflect_wire.specs.Scalar.{Scalar, ScalarKind, kind_default}
use Rattle.prost_reflect_wire.specs.Schema.{ScalarOf, ValueType, Schema}
use Rattle.prost_reflect_wire.specs.Content.{Value, ScalarValue, MapValue}
use Rattle.prost_reflect_wire.specs.Grammar.{AllowsInside, nothing_inside, in_entry_allowed}
use Rattle.prost_reflect_wire.specs.Meaning.{MeansInside, empty_inside, entry_key, entry_value}
use Rattle.prost_reflect_wire.specs.Fault.{Place, OfEntry, Stands, same_wire}

-- What a map field has: a map, or nothing yet.
abbrev pub IsMapped : Option Value → Type 0
IsMapped None = ⊤
IsMapped (Some (MapValue ps)) = ⊤
IsMapped (Some v) = ⊥

-- The bytes before the rest are records that an entry takes with so many levels left, and these are its key and its value by them. What a message in it takes and means is given.
pub record EntryTo (allow : AllowsInside) (inner : MeansInside) (levels : ℕ) (key value_type : ValueType) (k : Scalar) (v : Value) (bytes rest : List ℕ) : Type 0 where
  pub records : List Record
  pub front : RecordsFront (body_of records) bytes rest
  pub allowed : list_all (in_entry_allowed levels allow key value_type) records ≡ true
  pub key_is : entry_key key records ≡ k
  pub value_is : entry_value inner value_type value_type.kind records ≡ v

-- Where the body of an entry is read.
abbrev pub EntryPlace : ValueType → ValueType → ℕ → List ℕ → Place
EntryPlace key value_type levels bytes = record { bytes = bytes; inside = OfEntry key value_type; levels = levels; open_group = None }

-- Why no body of an entry stands behind a key of the wire type.
abbrev pub BodyFault : DecodeError → WireType → List ℕ → Type 0
BodyFault e w bytes = PlainFault e w bytes ⊎ (((e ≡ errors.EndGroup) × (w ≡ wires.EndGroup)) ⊎ ((e ≡ errors.WireType) × (w ≢ wires.EndGroup) × (same_wire w wires.LengthDelimited ≡ false)))

-- SCALAR KEYS AND VALUES

-- The type of scalars whose default is their kind's.
abbrev pub plain_type : ScalarKind → ValueType
plain_type kind = record { kind = ScalarOf kind; presence = false; required = false; default = kind_default kind }

abbrev pub ScalarEntryTo : (levels : ℕ) (key value_kind : ScalarKind) (k v : Scalar) (bytes rest : List ℕ) → Type 0
ScalarEntryTo levels key value_kind k v bytes rest = EntryTo nothing_inside (empty_inside []) levels (plain_type key) (plain_type value_kind) k (ScalarValue v) bytes rest

-- The bytes have the fault, as the body of any entry of these kinds.
abbrev pub StandsInEntry : (levels : ℕ) (key value_kind : ScalarKind) → DecodeError → List ℕ → Type 0
StandsInEntry levels key value_kind e bytes = (schema : Schema) (key_type value_type : ValueType)
    → key_type.kind ≡ ScalarOf key
    → value_type.kind ≡ ScalarOf value_kind
    → Stands schema e (EntryPlace key_type value_type levels bytes)
