-- What stands behind the key of a message or of a group, and why it is not looked for.
use Rattle.std.specs.Prelude.{◌≡◌, ◌≢◌, ℕ, Bool, false, if◌then◌else◌}
use Rattle.prost_reflect_wire.specs.declared.error.DecodeError.{DecodeError}
use Rattle.prost_reflect_wire.specs.declared.error.DecodeError.TheVariants as errors
use Rattle.prost_reflect_wire.specs.declared.key.WireType.{WireType}
use Rattle.prost_reflect_wire.specs.declared.key.WireType.TheVariants as wires
use Rattle.prost_reflect_wire.specs.Fault.{same_wire}

-- The wire type of the key: a group's records stand up to an end key, those of a message behind their length.
abbrev pub nested_wire : (is_group : Bool) → WireType
nested_wire g = if g then wires.StartGroup else wires.LengthDelimited

-- Why no such records are looked for: an end key, another wire type, or no level is left.
abbrev pub NestedFault : (is_group : Bool) → WireType → (levels : ℕ) → DecodeError → Type 0
NestedFault g w levels errors.EndGroup = w ≡ wires.EndGroup
NestedFault g w levels errors.WireType = (w ≢ wires.EndGroup) × (same_wire w (nested_wire g) ≡ false)
NestedFault g w levels errors.Depth = (w ≡ nested_wire g) × (levels ≡ 0)
NestedFault g w levels e = ⊥
