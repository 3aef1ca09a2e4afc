-- Equality of what is stored, as tests that decide it.
use Rattle.std.specs.Prelude.{◌≡◌, Bool, true, false, ◌&&◌, nat_eq, refl}
use Rattle.std.specs.Bool.{Decides}
use Rattle.std.specs.Cmp.{IsPartialEquivalence, unsigned_Decides, partial_equiv_from_equiv, on_per}
use Rattle.std.proofs.Common.{sym, ap, ap₂, true≢false}
use Rattle.std.proofs.lemmas.Bool.{and_parts, and_from}
use Rattle.prost_reflect_wire.specs.Scalar.{scalar_eq}
use Rattle.prost_reflect_wire.specs.Equality.{records_eq, records_same, records_refl}
use Rattle.prost_reflect_wire.specs.Deciding.{decided, equivalence, scalar_decides}
use Rattle.prost_reflect_tables.specs.Equality.{rows_eq, rows_decide}
use Rattle.prost_reflect_pool.specs.PoolEquality.{contents_eq, contents_decide}
use Rattle.prost_reflect_dynamic.specs.Stored.{StoredMessage, MessageOf, StoredEntries, NothingStored, ValueAt, UnknownAt, BothAt, StoredValue, StoredScalar, StoredInside, StoredList, StoredMap, StoredItems, NoItems, ItemThen, StoredPairs, NoPairs, PairThen, value_stored, message_stored}
use Rattle.prost_reflect_dynamic.specs.declared.value.Value.{Value}
use Rattle.prost_reflect_dynamic.specs.declared.message.DynamicMessage.{DynamicMessage}

abbrev mutual
  pub same_message : StoredMessage → StoredMessage → Bool
  same_message (MessageOf fs r T es) (MessageOf gs s U ds) = ((contents_eq fs gs && rows_eq r s) && nat_eq T U) && same_entries es ds

  pub same_entries : StoredEntries → StoredEntries → Bool
  same_entries NothingStored NothingStored = true
  same_entries (ValueAt n v es) (ValueAt m w ds) = (nat_eq n m && same_value v w) && same_entries es ds
  same_entries (UnknownAt n rs es) (UnknownAt m qs ds) = (nat_eq n m && records_eq rs qs) && same_entries es ds
  same_entries (BothAt n v rs es) (BothAt m w qs ds) = (nat_eq n m && (same_value v w && records_eq rs qs)) && same_entries es ds
  same_entries es ds = false

  pub same_value : StoredValue → StoredValue → Bool
  same_value (StoredScalar v) (StoredScalar w) = scalar_eq v w
  same_value (StoredInside m) (StoredInside n) = same_message m n
  same_value (StoredList vs) (StoredList ws) = same_items vs ws
  same_value (StoredMap ps) (StoredMap qs) = same_pairs ps qs
  same_value v w = false

  pub same_items : StoredItems → StoredItems → Bool
  same_items NoItems NoItems = true
  same_items (ItemThen v vs) (ItemThen w ws) = same_value v w && same_items vs ws
  same_items vs ws = false

  pub same_pairs : StoredPairs → StoredPairs → Bool
  same_pairs NoPairs NoPairs = true
  same_pairs (PairThen k v ps) (PairThen l w qs) = (scalar_eq k l && same_value v w) && same_pairs ps qs
  same_pairs ps qs = false

-- EQUAL IS THE SAME

mutual
  message_same : (m n : StoredMessage) → same_message m n ≡ true → m ≡ n
  message_same (MessageOf fs r T es) (MessageOf gs s U ds) h =
      let (types, rest) = and_parts ((contents_eq fs gs && rows_eq r s) && nat_eq T U) (same_entries es ds) h in
      let (pools, place) = and_parts (contents_eq fs gs && rows_eq r s) (nat_eq T U) types in
      let (files, rows) = and_parts (contents_eq fs gs) (rows_eq r s) pools in
      λ i. MessageOf ((contents_decide fs gs).0 files i) ((rows_decide r s).0 rows i) ((unsigned_Decides T U).0 place i) (entries_same es ds rest i)

  entries_same : (es ds : StoredEntries) → same_entries es ds ≡ true → es ≡ ds
  entries_same NothingStored NothingStored h = refl
  entries_same (ValueAt n v es) (ValueAt m w ds) h =
      let (first, rest) = and_parts (nat_eq n m && same_value v w) (same_entries es ds) h in
      let (number, value) = and_parts (nat_eq n m) (same_value v w) first in
      λ i. ValueAt ((unsigned_Decides n m).0 number i) (value_same v w value i) (entries_same es ds rest i)
  entries_same (UnknownAt n rs es) (UnknownAt m qs ds) h =
      let (first, rest) = and_parts (nat_eq n m && records_eq rs qs) (same_entries es ds) h in
      let (number, records) = and_parts (nat_eq n m) (records_eq rs qs) first in
      λ i. UnknownAt ((unsigned_Decides n m).0 number i) (records_same rs qs records i) (entries_same es ds rest i)
  entries_same (BothAt n v rs es) (BothAt m w qs ds) h =
      let (first, rest) = and_parts (nat_eq n m && (same_value v w && records_eq rs qs)) (same_entries es ds) h in
      let (number, parts) = and_parts (nat_eq n m) (same_value v w && records_eq rs qs) first in
      let (value, records) = and_parts (same_value v w) (records_eq rs qs) parts in
      λ i. BothAt ((unsigned_Decides n m).0 number i) (value_same v w value i) (records_same rs qs records i) (entries_same es ds rest i)
  entries_same es ds h = absurd (true≢false (sym h))

  value_same : (v w : StoredValue) → same_value v w ≡ true → v ≡ w
  value_same (StoredScalar v) (StoredScalar w) h = ap StoredScalar ((scalar_decides v w).0 h)
  value_same (StoredInside m) (StoredInside n) h = ap StoredInside (message_same m n h)
  value_same (StoredList vs) (StoredList ws) h = ap StoredList (items_same vs ws h)
  value_same (StoredMap ps) (StoredMap qs) h = ap StoredMap (pairs_same ps qs h)
  value_same v w h = absurd (true≢false (sym h))

  items_same : (vs ws : StoredItems) → same_items vs ws ≡ true → vs ≡ ws
  items_same NoItems NoItems h = refl
  items_same (ItemThen v vs) (ItemThen w ws) h =
      let (first, rest) = and_parts (same_value v w) (same_items vs ws) h in
      ap₂ ItemThen (value_same v w first) (items_same vs ws rest)
  items_same vs ws h = absurd (true≢false (sym h))

  pairs_same : (ps qs : StoredPairs) → same_pairs ps qs ≡ true → ps ≡ qs
  pairs_same NoPairs NoPairs h = refl
  pairs_same (PairThen k v ps) (PairThen l w qs) h =
      let (first, rest) = and_parts (scalar_eq k l && same_value v w) (same_pairs ps qs) h in
      let (key, value) = and_parts (scalar_eq k l) (same_value v w) first in
      λ i. PairThen ((scalar_decides k l).0 key i) (value_same v w value i) (pairs_same ps qs rest i)
  pairs_same ps qs h = absurd (true≢false (sym h))

mutual
  message_itself : (m : StoredMessage) → same_message m m ≡ true
  message_itself (MessageOf fs r T es) = and_from _ _ (and_from _ _ (and_from _ _ ((contents_decide fs fs).1 refl) ((rows_decide r r).1 refl)) ((unsigned_Decides T T).1 refl)) (entries_itself es)

  entries_itself : (es : StoredEntries) → same_entries es es ≡ true
  entries_itself NothingStored = refl
  entries_itself (ValueAt n v es) = and_from _ _ (and_from _ _ ((unsigned_Decides n n).1 refl) (value_itself v)) (entries_itself es)
  entries_itself (UnknownAt n rs es) = and_from _ _ (and_from _ _ ((unsigned_Decides n n).1 refl) (records_refl rs)) (entries_itself es)
  entries_itself (BothAt n v rs es) = and_from _ _ (and_from _ _ ((unsigned_Decides n n).1 refl) (and_from _ _ (value_itself v) (records_refl rs))) (entries_itself es)

  value_itself : (v : StoredValue) → same_value v v ≡ true
  value_itself (StoredScalar v) = (scalar_decides v v).1 refl
  value_itself (StoredInside m) = message_itself m
  value_itself (StoredList vs) = items_itself vs
  value_itself (StoredMap ps) = pairs_itself ps

  items_itself : (vs : StoredItems) → same_items vs vs ≡ true
  items_itself NoItems = refl
  items_itself (ItemThen v vs) = and_from _ _ (value_itself v) (items_itself vs)

  pairs_itself : (ps : StoredPairs) → same_pairs ps ps ≡ true
  pairs_itself NoPairs = refl
  pairs_itself (PairThen k v ps) = and_from _ _ (and_from _ _ ((scalar_decides k k).1 refl) (value_itself v)) (pairs_itself ps)

pub message_decides : (m n : StoredMessage) → Decides (same_message m n) (m ≡ n)
message_decides = decided same_message message_same message_itself

pub value_decides : (v w : StoredValue) → Decides (same_value v w) (v ≡ w)
value_decides = decided same_value value_same value_itself

-- LAWS

abbrev pub equal_values : Value → Value → Bool
equal_values v w = same_value (value_stored v) (value_stored w)

abbrev pub equal_messages : DynamicMessage → DynamicMessage → Bool
equal_messages m n = same_message (message_stored m) (message_stored n)

pub value_laws : IsPartialEquivalence equal_values
value_laws = on_per value_stored (partial_equiv_from_equiv (equivalence same_value value_decides))

pub message_laws : IsPartialEquivalence equal_messages
message_laws = on_per message_stored (partial_equiv_from_equiv (equivalence same_message message_decides))
