-- What keeps the messages inside a message of their fields' types.
use Rattle.std.specs.Prelude.{◌≡◌, ℕ, Bool, true, List, Option}
use Rattle.prost_reflect_wire.specs.Content.{Content}
use Rattle.prost_reflect_wire.specs.Schema.{field_of}
use Rattle.prost_reflect_tables.specs.Rows.{TableRows}
use Rattle.prost_reflect_pool.specs.SharedPools.{pool_contents, pool_rows}
use Rattle.prost_reflect_pool.specs.declared.pooled_type.PooledType.{PooledType}
use Rattle.prost_reflect_fields.specs.Known.{known_of}
use Rattle.prost_reflect_dynamic.specs.DeepTypes.{all_typed, value_typed, place_for}
use Rattle.prost_reflect_dynamic.specs.Stored.{StoredValue, StoredList, NoItems, ItemThen, StoredItems, StoredMap, NoPairs, value_stored, message_stored}
use Rattle.prost_reflect_dynamic.specs.declared.message.DynamicMessage.{DynamicMessage}
use Rattle.prost_reflect_dynamic.specs.declared.value.Value.{Value}

-- The messages in a value are of the type at a place of the message type's pool, and those inside them are of their fields' types.
abbrev pub typed_as : PooledType → Option ℕ → StoredValue → Bool
typed_as d place v = value_typed (pool_contents d.pool) (pool_rows d.pool) place v

-- They are of the type of a number's field.
abbrev pub typed_at : PooledType → ℕ → StoredValue → Bool
typed_at d n v = typed_as d (place_for (field_of (known_of d) n) v) v

-- Likewise in an element of a list at the number, and in a value of a map there.
abbrev pub element_typed : PooledType → ℕ → StoredValue → Bool
element_typed d n v = typed_as d (place_for (field_of (known_of d) n) (StoredList NoItems)) v

abbrev pub entry_typed : PooledType → ℕ → StoredValue → Bool
entry_typed d n v = typed_as d (place_for (field_of (known_of d) n) (StoredMap NoPairs)) v

-- If the messages inside the old message are of their fields' types, so are those inside the new one.
pub record StaysTyped (old new : DynamicMessage) : Type 0 where
  pub typed : all_typed (message_stored old) ≡ true → all_typed (message_stored new) ≡ true

-- The same of the messages in a value, whatever their type is.
pub record ValueStaysTyped (old new : Value) : Type 0 where
  pub typed : (files : List Content) (rows : TableRows) (place : Option ℕ)
      → value_typed files rows place (value_stored old) ≡ true
      → value_typed files rows place (value_stored new) ≡ true

-- A value behind the elements of the list that is stored.
abbrev pub item_last : StoredItems → StoredValue → StoredItems
item_last NoItems w = ItemThen w NoItems
item_last (ItemThen v vs) w = ItemThen v (item_last vs w)

abbrev pub item_added : StoredValue → StoredValue → StoredValue
item_added (StoredList vs) w = StoredList (item_last vs w)
item_added v w = v
