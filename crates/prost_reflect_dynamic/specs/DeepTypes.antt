-- Whether each message inside a message is of its field's type, at every depth, as descriptors tell types apart: by what their pools' files hold and by their places.
use Rattle.std.specs.Prelude.{ℕ, Bool, true, ◌&&◌, nat_eq, List, Option, Some, None, option_and_then}
use Rattle.prost_reflect_wire.specs.Content.{Content}
use Rattle.prost_reflect_wire.specs.Schema.{Kind, ScalarOf, MessageOf, GroupOf, Field, known, field_of, passes}
use Rattle.prost_reflect_wire.specs.Typing.{own_kind}
use Rattle.prost_reflect_tables.specs.Rows.{TableRows}
use Rattle.prost_reflect_tables.specs.Shown.{schema_from}
use Rattle.prost_reflect_tables.specs.Equality.{rows_eq}
use Rattle.prost_reflect_pool.specs.PoolEquality.{contents_eq}
use Rattle.prost_reflect_dynamic.specs.Stored.{StoredMessage, MessageOf as StoredOf, StoredEntries, NothingStored, ValueAt, UnknownAt, BothAt, StoredValue, StoredScalar, StoredInside, StoredList, StoredMap, StoredItems, NoItems, ItemThen, StoredPairs, NoPairs, PairThen}

-- The place of the message type that a kind names.
abbrev pub kind_place : Kind → Option ℕ
kind_place (ScalarOf kind) = None
kind_place (MessageOf T) = Some T
kind_place (GroupOf T) = Some T

-- The kind of the messages of a field: those in a map are values of its entries; one that stands alone or in a list at a map field is of no kind.
abbrev pub stored_kind : Option Field → StoredValue → Option Kind
stored_kind None v = None
stored_kind (Some f) (StoredMap ps) = Some f.value_type.kind
stored_kind (Some f) v = own_kind f.form f.value_type.kind

-- The place of their type, if they have one.
abbrev pub place_for : Option Field → StoredValue → Option ℕ
place_for o v = option_and_then kind_place (stored_kind o v)

-- Within a pool whose files hold this and link to these rows.
module _ (files : List Content) (rows : TableRows) where
  -- The message is of the type at the place of the pool, or of one whose files hold the same.
  abbrev pub stands_there : Option ℕ → StoredMessage → Bool
  stands_there place (StoredOf gs s T es) = passes place (nat_eq T) && (contents_eq files gs && rows_eq rows s)

abbrev mutual
  pub all_typed : StoredMessage → Bool
  all_typed (StoredOf files rows T es) = entries_typed files rows (known (schema_from rows) T) es

  pub entries_typed : List Content → TableRows → List Field → StoredEntries → Bool
  entries_typed files rows fields NothingStored = true
  entries_typed files rows fields (ValueAt n v es) = value_typed files rows (place_for (field_of fields n) v) v
      && entries_typed files rows fields es
  entries_typed files rows fields (UnknownAt n rs es) = entries_typed files rows fields es
  entries_typed files rows fields (BothAt n v rs es) = value_typed files rows (place_for (field_of fields n) v) v
      && entries_typed files rows fields es

  pub value_typed : List Content → TableRows → Option ℕ → StoredValue → Bool
  value_typed files rows place (StoredScalar v) = true
  value_typed files rows place (StoredInside m) = stands_there files rows place m && all_typed m
  value_typed files rows place (StoredList vs) = items_typed files rows place vs
  value_typed files rows place (StoredMap ps) = pairs_typed files rows place ps

  pub items_typed : List Content → TableRows → Option ℕ → StoredItems → Bool
  items_typed files rows place NoItems = true
  items_typed files rows place (ItemThen v vs) = value_typed files rows place v && items_typed files rows place vs

  pub pairs_typed : List Content → TableRows → Option ℕ → StoredPairs → Bool
  pairs_typed files rows place NoPairs = true
  pairs_typed files rows place (PairThen k v ps) = value_typed files rows place v && pairs_typed files rows place ps
