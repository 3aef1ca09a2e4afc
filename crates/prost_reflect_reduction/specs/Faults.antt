-- Why a message type is no reduction of a newer one: a pair of types that fields lead to, and what differs there.
use Rattle.std.specs.Prelude.{◌≡◌, ◌≢◌, ℕ, Bool, true, false, not, ◌&&◌, List, [], ◌∷◌, flat_map, Option, Some, None, IsTrue}
use Rattle.std.specs.Bool.{beq}
use Rattle.prost_reflect_wire.specs.Scalar.{Enum}
use Rattle.prost_reflect_wire.specs.Schema.{Kind, ScalarOf, Field, MessageType, Schema, message_type, known, field_of, is_sibling, is_singular, passes}
use Rattle.prost_reflect_wire.specs.Reduction.{TypePairs, same_default, is_known, entries_whole}
use Rattle.prost_reflect_reduction.specs.Reaching.{kinds_alike, forms_alike, asked_beside}
use Rattle.prost_reflect_reduction.specs.declared.fault.ReductionFault.{ReductionFault}
use Rattle.prost_reflect_reduction.specs.declared.fault.ReductionFaultKind.{ReductionFaultKind}
use Rattle.prost_reflect_reduction.specs.declared.fault.ReductionFaultKind.TheVariants.{MapEntry, Number, Oneof, Extension, Cardinality, Map, Kind as KindDiffers, Enum as EnumDiffers, Presence, Default}

-- The pair of message types that the fields of a number have, if both types have one, of messages or of groups.
abbrev pub asked_by : List Field → Option Field → TypePairs
asked_by newer None = []
asked_by newer (Some f) = asked_beside f (field_of newer f.number)

abbrev pub pair_by : Schema → Schema → ℕ × ℕ → ℕ → TypePairs
pair_by older newer p n = asked_by (known newer p.1) (field_of (known older p.0) n)

-- The pair that fields of these numbers lead to, one behind another.
unfoldable pub pair_at : Schema → Schema → ℕ × ℕ → List ℕ → TypePairs
pair_at older newer p [] = p ∷ []
pair_at older newer p (n ∷ path) = flat_map (λ q. pair_at older newer q path) (pair_by older newer p n)

abbrev pub both_enums : Kind → Kind → Bool
both_enums (ScalarOf (Enum first numbers)) (ScalarOf (Enum first' numbers')) = true
both_enums k l = false

-- What differs between a field and the one of its number in the newer type.
abbrev pub differs_in : ReductionFaultKind → Field → Field → Bool
differs_in Extension f g = not (beq f.is_extension g.is_extension)
differs_in Cardinality f g = not (beq (is_singular f.form) (is_singular g.form) && beq f.value_type.required g.value_type.required)
differs_in Map f g = beq (is_singular f.form) (is_singular g.form) && not (forms_alike f.form g.form)
differs_in KindDiffers f g = not (both_enums f.value_type.kind g.value_type.kind) && not (kinds_alike f.value_type.kind g.value_type.kind)
differs_in EnumDiffers f g = both_enums f.value_type.kind g.value_type.kind && not (kinds_alike f.value_type.kind g.value_type.kind)
differs_in Presence f g = not (beq f.value_type.presence g.value_type.presence)
differs_in Default f g = not (same_default f.value_type.kind f.value_type.default g.value_type.default)
differs_in other f g = false

-- The number m is that of another member of the oneof that the field of the number n is in.
abbrev pub share_oneof : List Field → ℕ → ℕ → Bool
share_oneof fields n m = passes (field_of fields n) (λ f. is_sibling fields f m)

pub record OneofDiffers (older newer : List Field) (n : ℕ) : Type 0 where
  pub member : ℕ
  pub differ : share_oneof older n member ≢ share_oneof newer n member

-- What differs at a number.
abbrev pub NumberDiffers : ReductionFaultKind → List Field → List Field → ℕ → Type 0
NumberDiffers Number older newer n = IsTrue (is_known older n && not (is_known newer n))
NumberDiffers Oneof older newer n = OneofDiffers older newer n
NumberDiffers fault older newer n = IsTrue (passes (field_of older n) (λ f. passes (field_of newer n) (differs_in fault f)))

-- What differs between two message types: at a number, or the types themselves.
abbrev pub TypeDiffers : Option ℕ → ReductionFaultKind → MessageType → MessageType → Type 0
TypeDiffers (Some n) kind older newer = NumberDiffers kind older.known newer.known n
TypeDiffers None kind older newer = (kind ≡ MapEntry) × (entries_whole older newer ≡ false)

-- The fault stands where its path leads from these two types.
pub record FaultStands (older : Schema) (A : ℕ) (newer : Schema) (B : ℕ) (fault : ReductionFault) : Type 0 where
  pub types : ℕ × ℕ
  pub reached : pair_at older newer (A, B) fault.path.items ≡ types ∷ []
  pub differs : TypeDiffers fault.number fault.kind (message_type older types.0) (message_type newer types.1)
