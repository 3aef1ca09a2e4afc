-- What a message has as one list in ascending number: the values of its fields and extensions, and its unknown fields.
use Rattle.std.specs.Prelude.{◌≡◌, ◌<◌, ⊤, ℕ, true, false, ◌++◌, List, [], ◌∷◌, flat_map, Option, None, Some, option_map, option_to_list, Result}
use Rattle.std.specs.Borrow.{Bor}
use Rattle.std.specs.declared.alloc.AllocError.{AllocError}
use Rattle.prost_reflect_wire.specs.Schema.{Field}
use Rattle.prost_reflect_wire.specs.Typing.{kept}
use Rattle.prost_reflect_wire.specs.declared.unknown.UnknownFieldSet.{UnknownFieldSet}
use Rattle.prost_reflect_pool.specs.declared.pooled_type.PooledType.{PooledType}
use Rattle.prost_reflect_maps.specs.ItemsLeft.{items_left}
use Rattle.prost_reflect_fields.specs.Known.{known_of}
use Rattle.prost_reflect_fields.specs.FieldSlots.{unknown_at, unknown_in}
use Rattle.prost_reflect_fields.specs.declared.slot.FieldSlot.{FieldSlot}
use Rattle.prost_reflect_dynamic.specs.Access.{IsOwnField, number_of, had_at}
use Rattle.prost_reflect_dynamic.specs.ExtensionAccess.{IsOwnExtension, extension_number}
use Rattle.prost_reflect_walks.specs.Places.{GivesNext}
use Rattle.prost_reflect_dynamic.specs.Present.{present_in}
use Rattle.prost_reflect_dynamic.specs.ValueLists.{had_in}
use Rattle.prost_reflect_dynamic.specs.View.{content_of, stored_in}
use Rattle.prost_reflect_dynamic.specs.declared.message.DynamicMessage.{DynamicMessage, size-DynamicMessage}
use Rattle.prost_reflect_dynamic.specs.declared.message.lists.present_items.Present.{Present}
use Rattle.prost_reflect_dynamic.specs.declared.message.lists.present_items.Present.TheVariants as given
use Rattle.prost_reflect_dynamic.specs.declared.message.lists.present_items.PresentItems.{PresentItems}
use Rattle.prost_reflect_dynamic.specs.declared.message.present.PresentNumber.{PresentNumber}
use Rattle.prost_reflect_dynamic.specs.declared.message.present.PresentNumber.TheVariants.{Field as FieldNumber, Extension as ExtensionNumber, Unknown as UnknownNumber}
use Rattle.prost_reflect_dynamic.specs.declared.value.Value.{Value, size-Value}

-- What a message has at a number: the value of a field, that of an extension, or unknown fields.
pub data PresentItem : Type 0 where
  FieldItem : ℕ → Value → PresentItem
  ExtensionItem : ℕ → Value → PresentItem
  UnknownItem : ℕ → UnknownFieldSet → PresentItem

abbrev pub unknown_items : ℕ → Option UnknownFieldSet → List PresentItem
unknown_items n unknown = option_to_list (option_map (UnknownItem n) unknown)

-- What is stored of a number that is present.
abbrev pub items_of : DynamicMessage → PresentNumber → List PresentItem
items_of m (FieldNumber n) = option_to_list (option_map (FieldItem n) (had_at n m))
items_of m (ExtensionNumber n) = option_to_list (option_map (ExtensionItem n) (had_at n m))
items_of m (UnknownNumber n count) = unknown_items n (unknown_at (stored_in m) n)

-- The same of all numbers that are present.
abbrev pub present_items : DynamicMessage → List PresentItem
present_items m = flat_map (items_of m) (present_in (kept (content_of m)))

-- SLOT BY SLOT

-- The value of a field, or else that of an extension.
abbrev pub value_or : ℕ → (of_field of_extension : Option Value) → List PresentItem
value_or n (Some v) of_extension = FieldItem n v ∷ []
value_or n None of_extension = option_to_list (option_map (ExtensionItem n) of_extension)

abbrev pub value_items : List Field → ℕ → FieldSlot Value → List PresentItem
value_items fields n slot = value_or n (had_in false fields n slot) (had_in true fields n slot)

abbrev pub slot_items : List Field → ℕ × FieldSlot Value → List PresentItem
slot_items fields e = value_items fields e.0 e.1 ++ unknown_items e.0 (unknown_in e.1)

abbrev pub all_items : List Field → List (ℕ × FieldSlot Value) → List PresentItem
all_items fields es = flat_map (slot_items fields) es

-- WHAT THE ITERATOR HAS LEFT

-- The unknown fields of the slot whose value was given last.
abbrev pub waiting_items : Option (ℕ × Bor UnknownFieldSet) → List PresentItem
waiting_items None = []
waiting_items (Some p) = UnknownItem p.0 p.1.now ∷ []

abbrev pub present_left : PresentItems → List PresentItem
present_left it = waiting_items it.unknown ++ all_items (known_of it.message_type.now) (items_left it.slots)

-- What is given of an item: the descriptor of the message type that has the number, and the value; or the unknown fields.
abbrev pub IsItem : PooledType → PresentItem → Present → Type 0
IsItem t (FieldItem n v) (given.Field field value) = IsOwnField t field × (number_of field ≡ n) × (value.now ≡ v)
IsItem t (ExtensionItem n v) (given.Extension extension value) = IsOwnExtension t extension
    × (extension_number extension ≡ n)
    × (value.now ≡ v)
IsItem t (UnknownItem n u) (given.Unknown number unknown) = (number ≡ n) × (unknown.now ≡ u)
IsItem t item present = ⊥

-- One call of `next`.
abbrev pub present_steps : PresentItems → Option (Result Present AllocError) → PresentItems → Type 0
present_steps old present new = GivesNext (IsItem old.message_type.now) (present_left old) present (present_left new)
    × (new.message_type ≡ old.message_type)

-- A field or an extension is one of the message type.
abbrev pub IsOwn : PooledType → Present → Type 0
IsOwn t (given.Field field value) = IsOwnField t field
IsOwn t (given.Extension extension value) = IsOwnExtension t extension
IsOwn t (given.Unknown number unknown) = ⊤

-- A value nests less deep than the message.
abbrev pub NestsInside : DynamicMessage → Present → Type 0
NestsInside m (given.Field field value) = size-Value value.now < size-DynamicMessage m
NestsInside m (given.Extension extension value) = size-Value value.now < size-DynamicMessage m
NestsInside m (given.Unknown number unknown) = ⊤
