-- Bodies at their places: records that spell the bytes and are allowed there. For private contracts alone.
use Rattle.std.specs.Prelude.{◌≡◌, ℕ, zero, suc, Bool, true, List, [], Option, Some, None, nat_le}
use Rattle.std.specs.List.{list_all}
use Rattle.prost_reflect_wire.specs.Varint.{AreBytes}
use Rattle.prost_reflect_wire.specs.Record.{Payload, Record, Records, items, payload_levels}
use Rattle.prost_reflect_wire.specs.Schema.{Schema}
use Rattle.prost_reflect_wire.specs.Grammar.{AllowsInside, nothing_inside, allows, field_allowed}
use Rattle.prost_reflect_wire.specs.Fault.{Place, field_at}
use Rattle.prost_reflect_wire.specs.Front.{KeyFront, RecordsFront}
use Rattle.prost_reflect_wire.specs.declared.key.WireType.TheVariants as wires

-- What a type takes one level further down.
abbrev pub inner : Schema → ℕ → AllowsInside
inner schema zero = nothing_inside
inner schema (suc k) = allows schema k

abbrev pub payload_allowed : Schema → Place → ℕ → Payload → Bool
payload_allowed schema place n p = elim (field_at schema place.inside n) [
  | None ↦ nat_le (payload_levels p) place.levels
  | Some f ↦ field_allowed place.levels (inner schema place.levels) f.form f.value_type p
]

abbrev pub allowed_at : Schema → Place → Record → Bool
allowed_at schema place r = payload_allowed schema place r.number r.payload

-- A body ends at the end of the bytes, or at the end key of the open group.
abbrev pub Ended : Option ℕ → List ℕ → List ℕ → Type 0
Ended None bytes rest = (bytes ≡ []) × (rest ≡ [])
Ended (Some n) bytes rest = KeyFront n wires.EndGroup bytes rest

-- Records to the end of the body, each of them allowed at the place.
pub record Body (schema : Schema) (place : Place) (rs : Records) (rest : List ℕ) : Type 0 where
  pub small : AreBytes place.bytes
  pub end : List ℕ
  pub records : RecordsFront rs place.bytes end
  pub ends : Ended place.open_group end rest
  pub allowed : list_all (allowed_at schema place) (items rs) ≡ true
