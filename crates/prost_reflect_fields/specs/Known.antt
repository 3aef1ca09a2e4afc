-- What a message type says of a number.
use Rattle.std.specs.Prelude.{ℕ, Bool, false, not, ◌&&◌, nat_eq, List, [], ◌∷◌, Option, is_some, option_and_then}
use Rattle.std.specs.Bool.{beq}
use Rattle.std.specs.List.{list_all}
use Rattle.prost_reflect_wire.specs.Record.{Record, Payload}
use Rattle.prost_reflect_wire.specs.Schema.{Field, known, field_of, is_sibling, same_oneof, passes}
use Rattle.prost_reflect_wire.specs.Typing.{unknown_fits}
use Rattle.prost_reflect_pool.specs.MessageTypes.{schema_at, type_at}
use Rattle.prost_reflect_pool.specs.declared.pooled_type.PooledType.{PooledType}

-- The fields and extensions of a message type.
abbrev pub known_of : PooledType → List Field
known_of d = known (schema_at d) (type_at d)

abbrev pub is_known : List Field → ℕ → Bool
is_known fields n = is_some (field_of fields n)

-- The number is that of a field, or that of an extension.
abbrev pub is_listed : (of_extensions : Bool) → List Field → ℕ → Bool
is_listed of_extensions fields n = passes (field_of fields n) (λ f. beq of_extensions f.is_extension)

abbrev pub oneof_of : List Field → ℕ → Option ℕ
oneof_of fields n = option_and_then (λ f. f.oneof) (field_of fields n)

-- Another member of the oneof of a number's field.
abbrev pub are_siblings : List Field → ℕ → ℕ → Bool
are_siblings fields n k = passes (field_of fields n) (λ f. is_sibling fields f k)

-- A number whose field is a member of the oneof, but not n.
abbrev pub is_other_member : List Field → Option ℕ → ℕ → ℕ → Bool
is_other_member fields oneof n k = not (nat_eq k n) && same_oneof (oneof_of fields k) oneof

-- Any unknown record stands at an unknown number, and at that of a field one that gives no value, since a closed enum does not declare its number.
abbrev pub keeps_unknown : List Field → ℕ → Payload → Bool
keeps_unknown fields n p = unknown_fits (field_of fields n) n p

abbrev pub all_kept : List Field → ℕ → List Record → Bool
all_kept fields n rs = list_all (λ (r : Record). keeps_unknown fields n r.payload) rs

-- Records of one number, one at least.
abbrev pub are_records_of : ℕ → List Record → Bool
are_records_of n [] = false
are_records_of n (r ∷ rs) = list_all (λ r. nat_eq r.number n) (r ∷ rs)
