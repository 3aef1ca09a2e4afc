-- The values of a message's fields, and those of its extensions, as lists.
use Rattle.std.specs.Prelude.{◌≡◌, ℕ, Bool, true, false, if◌then◌else◌, List, flat_map, Option, None, option_and_then}
use Rattle.std.specs.Prelude.{Result}
use Rattle.std.specs.Borrow.{Bor}
use Rattle.std.specs.declared.alloc.AllocError.{AllocError}
use Rattle.prost_reflect_walks.specs.Places.{GivesNext}
use Rattle.prost_reflect_wire.specs.Schema.{Field}
use Rattle.prost_reflect_wire.specs.Typing.{kept}
use Rattle.prost_reflect_pool.specs.declared.pooled_type.PooledType.{PooledType}
use Rattle.prost_reflect_maps.specs.ItemsLeft.{items_left}
use Rattle.prost_reflect_fields.specs.Known.{known_of, is_listed}
use Rattle.prost_reflect_fields.specs.FieldSlots.{value_in, numbered}
use Rattle.prost_reflect_fields.specs.declared.slot.FieldSlot.{FieldSlot}
use Rattle.prost_reflect_dynamic.specs.Access.{IsOwnField, number_of, had_at, saying}
use Rattle.prost_reflect_dynamic.specs.ExtensionAccess.{IsOwnExtension, extension_number}
use Rattle.prost_reflect_dynamic.specs.Present.{present_in, number_listed}
use Rattle.prost_reflect_dynamic.specs.View.{content_of}
use Rattle.prost_reflect_dynamic.specs.declared.descriptor.extension.ExtensionDescriptor.{ExtensionDescriptor}
use Rattle.prost_reflect_dynamic.specs.declared.descriptor.field.FieldDescriptor.{FieldDescriptor}
use Rattle.prost_reflect_dynamic.specs.declared.message.DynamicMessage.{DynamicMessage}
use Rattle.prost_reflect_dynamic.specs.declared.message.lists.had.HadValues.{HadValues}
use Rattle.prost_reflect_dynamic.specs.declared.message.lists.had.Fields.{Fields}
use Rattle.prost_reflect_dynamic.specs.declared.message.lists.had.Extensions.{Extensions}
use Rattle.prost_reflect_dynamic.specs.declared.value.Value.{Value}

-- The numbers of the fields that a message has, or those of the extensions, in ascending order.
abbrev pub had_numbers : (of_extensions : Bool) → DynamicMessage → List ℕ
had_numbers of_extensions m = flat_map (number_listed of_extensions) (present_in (kept (content_of m)))

-- Each with the value that is stored there.
abbrev pub had_pairs : (of_extensions : Bool) → DynamicMessage → List (ℕ × Value)
had_pairs of_extensions m = flat_map (λ n. numbered n (had_at n m)) (had_numbers of_extensions m)

-- SLOT BY SLOT

-- The value of a slot, if the number is that of a field, or that of an extension, and the value says something.
abbrev pub had_in : (of_extensions : Bool) → List Field → ℕ → FieldSlot Value → Option Value
had_in of_extensions fields n slot = option_and_then (saying fields n) (if is_listed of_extensions fields n then value_in slot else None)

abbrev pub had_values : (of_extensions : Bool) → List Field → List (ℕ × FieldSlot Value) → List (ℕ × Value)
had_values of_extensions fields es = flat_map (λ e. numbered e.0 (had_in of_extensions fields e.0 e.1)) es

-- Those of values that say something.
abbrev pub said : List Field → List (ℕ × Value) → List (ℕ × Value)
said fields ps = flat_map (λ p. numbered p.0 (saying fields p.0 p.1)) ps

-- WHAT ITERATORS HAVE LEFT

abbrev pub values_left : (of_extensions : Bool) → HadValues → List (ℕ × Value)
values_left of_extensions it = had_values of_extensions (known_of it.message_type.now) (items_left it.slots)

abbrev pub fields_left : Fields → List (ℕ × Value)
fields_left it = values_left false it.values

abbrev pub extensions_left : Extensions → List (ℕ × Value)
extensions_left it = values_left true it.values

-- The field of the number, which is one of the message type, and the value.
abbrev pub IsFieldPair : PooledType → ℕ × Value → FieldDescriptor × Bor Value → Type 0
IsFieldPair t pair given = IsOwnField t given.0 × (number_of given.0 ≡ pair.0) × (given.1.now ≡ pair.1)

abbrev pub IsExtensionPair : PooledType → ℕ × Value → ExtensionDescriptor × Bor Value → Type 0
IsExtensionPair t pair given = IsOwnExtension t given.0 × (extension_number given.0 ≡ pair.0) × (given.1.now ≡ pair.1)

-- One call of `next`.
abbrev pub fields_steps : Fields → Option (Result (FieldDescriptor × Bor Value) AllocError) → Fields → Type 0
fields_steps old given new = GivesNext (IsFieldPair old.values.message_type.now) (fields_left old) given
    (fields_left new)
    × (new.values.message_type ≡ old.values.message_type)

abbrev pub extensions_steps : Extensions → Option (Result (ExtensionDescriptor × Bor Value) AllocError) → Extensions → Type 0
extensions_steps old given new = GivesNext (IsExtensionPair old.values.message_type.now) (extensions_left old) given
    (extensions_left new)
    × (new.values.message_type ≡ old.values.message_type)
