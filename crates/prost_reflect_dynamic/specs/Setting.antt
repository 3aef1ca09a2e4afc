-- Why a field is not set.
use Rattle.std.specs.Prelude.{◌≡◌, ⊤, ℕ, false, Option, None, Some}
use Rattle.prost_reflect_pool.specs.MessageTypes.{fields_of}
use Rattle.prost_reflect_pool.specs.declared.pooled_type.PooledType.{PooledType}
use Rattle.prost_reflect_dynamic.specs.Access.{takes, takes_at}
use Rattle.prost_reflect_dynamic.specs.Copies.{SameStored}
use Rattle.prost_reflect_dynamic.specs.Named.{NamesSame}
use Rattle.prost_reflect_dynamic.specs.NamedField.{SameField}
use Rattle.prost_reflect_rows.specs.Paths.{declared_place}
use Rattle.prost_reflect_dynamic.specs.declared.descriptor.field.FieldDescriptor.{FieldDescriptor}
use Rattle.prost_reflect_dynamic.specs.declared.message.setting.SetFieldError.{SetFieldError}
use Rattle.prost_reflect_dynamic.specs.declared.message.setting.SetFieldError.TheVariants.{NotFound, InvalidType, OutOfMemory}
use Rattle.prost_reflect_dynamic.specs.declared.value.Value.{Value}

-- The value does not fit the field, and both are told; or memory is out. That a descriptor's field is not found is never told.
abbrev pub RefusesValue : FieldDescriptor → Value → SetFieldError → Type 0
RefusesValue field v NotFound = ⊥
RefusesValue field v (InvalidType f w) = SameField field f × (w ≡ v) × (takes field v ≡ false)
RefusesValue field v OutOfMemory = ⊤

-- The descriptor of the message type's field of a number.
abbrev pub DescribesField : PooledType → ℕ → FieldDescriptor → Type 0
DescribesField t n field = NamesSame field.message t × (declared_place (fields_of t) n ≡ Some field.index)

-- The same of a field that is looked up: none is found; or the value does not fit the one of the number that is found, and both are told; or memory is out.
abbrev pub RefusesFound : PooledType → Option ℕ → Value → SetFieldError → Type 0
RefusesFound t None v e = e ≡ NotFound
RefusesFound t (Some n) v NotFound = ⊥
RefusesFound t (Some n) v (InvalidType field w) = DescribesField t n field × (w ≡ v) × (takes_at t n v ≡ false)
RefusesFound t (Some n) v OutOfMemory = ⊤

-- A copy of a refusal: the same one, of the same field and of a value that stores the same.
abbrev pub SameRefusal : SetFieldError → SetFieldError → Type 0
SameRefusal (InvalidType field v) (InvalidType f w) = SameField field f × SameStored v w
SameRefusal e d = d ≡ e
