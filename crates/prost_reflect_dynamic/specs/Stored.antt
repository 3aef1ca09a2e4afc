-- What values and messages store, at every depth, without where it lies in memory.
use Rattle.std.specs.Prelude.{ℕ, List, [], ◌∷◌, string_bytes}
use Rattle.prost_reflect_wire.specs.Record.{Records, body_of}
use Rattle.prost_reflect_wire.specs.Unknown.{records_of}
use Rattle.prost_reflect_wire.specs.Scalar as scalars
use Rattle.prost_reflect_wire.specs.Scalar.{Scalar}
use Rattle.prost_reflect_wire.specs.Content.{Content}
use Rattle.prost_reflect_tables.specs.Rows.{TableRows}
use Rattle.prost_reflect_pool.specs.SharedPools.{pool_rows, pool_contents}
use Rattle.prost_reflect_dynamic.specs.View.{key_of}
use Rattle.prost_reflect_fields.specs.declared.slot.FieldSlot.{FieldSlot}
use Rattle.prost_reflect_fields.specs.declared.slot.FieldSlot.TheVariants.{Value as ValueEntry, Unknown as UnknownEntry, Both as BothEntry}
use Rattle.prost_reflect_dynamic.specs.declared.value.MapKey.{MapKey}
use Rattle.prost_reflect_dynamic.specs.declared.value.Value.{Value, fold-Value}
use Rattle.prost_reflect_dynamic.specs.declared.value.Value.TheOpen.{Value-F, DynamicMessage-F}
use Rattle.prost_reflect_dynamic.specs.declared.message.DynamicMessage.{DynamicMessage, fold-DynamicMessage}

-- A content tells less apart: it names a type by its schema, and leaves out the names in it.
mutual
  -- What its pool's files hold, and the rows that they link to; its type's place in them, and what stands at each number.
  pub data StoredMessage : Type 0 where
    MessageOf : List Content → TableRows → ℕ → StoredEntries → StoredMessage

  -- In ascending number: a value, unknown records, or a value with unknown records beside it.
  pub data StoredEntries : Type 0 where
    NothingStored : StoredEntries
    ValueAt : ℕ → StoredValue → StoredEntries → StoredEntries
    UnknownAt : ℕ → Records → StoredEntries → StoredEntries
    BothAt : ℕ → StoredValue → Records → StoredEntries → StoredEntries

  pub data StoredValue : Type 0 where
    StoredScalar : Scalar → StoredValue
    StoredInside : StoredMessage → StoredValue
    StoredList : StoredItems → StoredValue
    StoredMap : StoredPairs → StoredValue

  pub data StoredItems : Type 0 where
    NoItems : StoredItems
    ItemThen : StoredValue → StoredItems → StoredItems

  -- In ascending key.
  pub data StoredPairs : Type 0 where
    NoPairs : StoredPairs
    PairThen : Scalar → StoredValue → StoredPairs → StoredPairs

-- Lists of values, where each is seen by a view.
module _ {V : Type 0} (view : V → StoredValue) where
  abbrev pub stored_items : List V → StoredItems
  stored_items [] = NoItems
  stored_items (v ∷ vs) = ItemThen (view v) (stored_items vs)

  abbrev pub stored_pairs : List (MapKey × V) → StoredPairs
  stored_pairs [] = NoPairs
  stored_pairs (e ∷ es) = PairThen (key_of e.0) (view e.1) (stored_pairs es)

  abbrev pub stored_entry : ℕ → FieldSlot V → StoredEntries → StoredEntries
  stored_entry n (ValueEntry v) es = ValueAt n (view v) es
  stored_entry n (UnknownEntry u) es = UnknownAt n (body_of (records_of u)) es
  stored_entry n (BothEntry v u) es = BothAt n (view v) (body_of (records_of u)) es

  abbrev pub stored_entries : List (ℕ × FieldSlot V) → StoredEntries
  stored_entries [] = NothingStored
  stored_entries (e ∷ es) = stored_entry e.0 e.1 (stored_entries es)

-- One step of each type, over what its parts store.
abbrev pub stored_step : Value-F StoredValue StoredMessage → StoredValue
stored_step (Value-F.Bool b) = StoredScalar (scalars.Boolean b)
stored_step (Value-F.I32 z) = StoredScalar (scalars.I32 z)
stored_step (Value-F.I64 z) = StoredScalar (scalars.I64 z)
stored_step (Value-F.U32 n) = StoredScalar (scalars.U32 n)
stored_step (Value-F.U64 n) = StoredScalar (scalars.U64 n)
stored_step (Value-F.F32 n) = StoredScalar (scalars.F32 n)
stored_step (Value-F.F64 n) = StoredScalar (scalars.F64 n)
stored_step (Value-F.String text) = StoredScalar (scalars.Text (string_bytes text))
stored_step (Value-F.Bytes bytes) = StoredScalar (scalars.Bytes bytes.items)
stored_step (Value-F.EnumNumber z) = StoredScalar (scalars.EnumNumber z)
stored_step (Value-F.Message m) = StoredInside m
stored_step (Value-F.List values) = StoredList (stored_items (λ v. v) values.items)
stored_step (Value-F.Map pairs) = StoredMap (stored_pairs (λ v. v) pairs.entries)

abbrev pub stored_message_step : DynamicMessage-F StoredValue StoredMessage → StoredMessage
stored_message_step m = MessageOf (pool_contents m.fields.0.pool) (pool_rows m.fields.0.pool) m.fields.0.index (stored_entries (λ v. v) m.fields.1)

-- What a value stores.
abbrev pub value_stored : Value → StoredValue
value_stored = fold-Value StoredValue StoredMessage stored_step stored_message_step

-- What a message stores.
abbrev pub message_stored : DynamicMessage → StoredMessage
message_stored = fold-DynamicMessage StoredValue StoredMessage stored_step stored_message_step
