-- Values whose messages are of their fields' types: scalars, lists, maps, and messages that are read into.
use Rattle.std.specs.Prelude.{◌≡◌, ◌&&◌, ◌∷◌, ◌++◌}
use Rattle.prost_reflect_dynamic.proofs.Common.{ℕ, Bool, true, false, nat_eq, List, [], Option, None, Some, refl, sym, ap, ◌∙◌, subst, unwrap_or, true≢false, Vec, Global, and_parts, and_from, eq-eqb, BTreeMap, insert_entry, option_and_then, option_map, is_some, match_ordering, Ordering, Less, Equal, Greater, Content, ContentOf, ScalarValue, ListValue, MapValue, NoValues, schema_of, type_of, entries_of, values_in, Scalar, ScalarKind, Enum, Kind, ScalarOf, FieldForm, Repeated, Field, known, field_of, passes, own_kind, element_valid, elements_valid, WellStored, field_number, IsListed, rows_eq, rows_decide, TableRows, TableKind, contents_eq, contents_decide, pool_contents, pool_rows, PooledType, rows_same, IsAscending, known_of, stored_at, compare_keys, DynamicMessage, MapKey, Value, out-Value, Value-F, fold_out-Value, map-Value, kind_place, place_for, stands_there, all_typed, value_typed, items_typed, pairs_typed, ListField, NestedMap, NumberList, StoredMessage, StoredValue, StoredScalar, StoredInside, StoredList, StoredMap, StoredItems, NoItems, ItemThen, StoredPairs, PairThen, stored_items, stored_pairs, stored_step, stored_message_step, value_stored, message_stored, nested_kind, NestedField, NestedList, typed_as, typed_at, element_typed, entry_typed, StaysTyped, ValueStaysTyped, item_last, item_added, list_in, message_in, value_of, content_of, message_type_of, stored_in, overwritten_at, written_at}
use Rattle.prost_reflect_wire.specs.Content as contents
use Rattle.prost_reflect_laws.proofs.ListReads.{StoredList as ListFits, stored_list as list_fits}
use Rattle.prost_reflect_pool.specs.Pools as pools
use Rattle.prost_reflect_dynamic.specs.declared.value.Value as values
use Rattle.prost_reflect_dynamic.specs.Stored.{NoPairs}
use Rattle.prost_reflect_dynamic.specs.Variants.{pairs_in}
use Rattle.prost_reflect_dynamic.proofs.Merging.{known_in}
use Rattle.prost_reflect_dynamic.proofs.Stored.{value_of_message, overwritten_is}
use Rattle.prost_reflect_dynamic.proofs.StoredContents.{value_content, items_content, value_follows}
use Rattle.prost_reflect_dynamic.proofs.StoredViews.{items_mapped, stored_inside, stored_list, stored_map, stored_message, pairs_mapped}
use Rattle.prost_reflect_dynamic.proofs.TypedSteps.{TypedAt, nothing_typed, ascending_written, written_typed, held_step}

-- SCALARS

-- a value that fits a field of scalars holds no message
module _ (files : List Content) (rows : TableRows) (place : Option ℕ) where
  scalar_alone : (s : StoredValue) (x : Scalar) → value_content s ≡ ScalarValue x → value_typed files rows place s ≡ true
  unfolding value_content
  scalar_alone (StoredScalar y) x h = refl
  scalar_alone (StoredInside m) x h = cc
  scalar_alone (StoredList vs) x h = cc
  scalar_alone (StoredMap ps) x h = cc

  list_alone : (s : StoredValue) → value_content s ≡ ListValue NoValues → value_typed files rows place s ≡ true
  unfolding value_content
  list_alone (StoredScalar y) h = refl
  list_alone (StoredInside m) h = cc
  list_alone (StoredList NoItems) h = refl
  list_alone (StoredList (ItemThen v vs)) h = cc
  list_alone (StoredMap ps) h = cc

  map_alone : (s : StoredValue) → value_content s ≡ MapValue contents.NoPairs → value_typed files rows place s ≡ true
  unfolding value_content
  map_alone (StoredScalar y) h = refl
  map_alone (StoredInside m) h = cc
  map_alone (StoredList vs) h = cc
  map_alone (StoredMap NoPairs) h = refl
  map_alone (StoredMap (PairThen k v ps)) h = cc

  pub scalar_typed : (v : Value) (x : Scalar) → value_of v ≡ ScalarValue x → value_typed files rows place (value_stored v) ≡ true
  scalar_typed v x h = scalar_alone (value_stored v) x (value_follows v ∙ h)

  element_alone : (kind : ScalarKind) (s : StoredValue) → element_valid (ScalarOf kind) (value_content s) ≡ true → value_typed files rows place s ≡ true
  unfolding value_content
  element_alone kind (StoredScalar y) h = refl
  element_alone kind (StoredInside m) h = absurd (true≢false (sym h))
  element_alone kind (StoredList vs) h = absurd (true≢false (sym h))
  element_alone kind (StoredMap ps) h = absurd (true≢false (sym h))

  items_alone : (kind : ScalarKind) (vs : StoredItems) → elements_valid (ScalarOf kind) (items_content vs) ≡ true → items_typed files rows place vs ≡ true
  unfolding items_content
  items_alone kind NoItems h = refl
  items_alone kind (ItemThen v vs) h =
      let (one, more) = and_parts (element_valid (ScalarOf kind) (value_content v)) (elements_valid (ScalarOf kind) (items_content vs)) h in
      and_from (value_typed files rows place v) (items_typed files rows place vs) (element_alone kind v one) (items_alone kind vs more)

-- so a scalar is typed wherever it stands
module _ (d : PooledType) (n : ℕ) (v : Value) (x : Scalar) (is : value_of v ≡ ScalarValue x) where
  pub scalar_there : typed_at d n (value_stored v) ≡ true
  scalar_there = scalar_typed (pool_contents d.pool) (pool_rows d.pool) (place_for (field_of (known_of d) n) (value_stored v)) v x is

  pub scalar_element : element_typed d n (value_stored v) ≡ true
  scalar_element = scalar_typed (pool_contents d.pool) (pool_rows d.pool) (place_for (field_of (known_of d) n) (StoredList NoItems)) v x is

  pub scalar_entry : entry_typed d n (value_stored v) ≡ true
  scalar_entry = scalar_typed (pool_contents d.pool) (pool_rows d.pool) (place_for (field_of (known_of d) n) (StoredMap NoPairs)) v x is

-- and so is an empty list, and an empty map
pub empty_list_there : (d : PooledType) (n : ℕ) (v : Value) → value_of v ≡ ListValue NoValues → typed_at d n (value_stored v) ≡ true
empty_list_there d n v is = list_alone (pool_contents d.pool) (pool_rows d.pool) (place_for (field_of (known_of d) n) (value_stored v)) (value_stored v) (value_follows v ∙ is)

pub empty_map_there : (d : PooledType) (n : ℕ) (v : Value) → value_of v ≡ MapValue contents.NoPairs → typed_at d n (value_stored v) ≡ true
empty_map_there d n v is = map_alone (pool_contents d.pool) (pool_rows d.pool) (place_for (field_of (known_of d) n) (value_stored v)) (value_stored v) (value_follows v ∙ is)

-- LISTS

-- a list has one place, whatever its elements are
list_place : (o : Option Field) (vs : StoredItems) → place_for o (StoredList vs) ≡ place_for o (StoredList NoItems)
list_place None vs = refl
list_place (Some f) vs = refl

items_pushed : (files : List Content) (rows : TableRows) (place : Option ℕ) (vs : StoredItems) (w : StoredValue) → items_typed files rows place vs ≡ true → value_typed files rows place w ≡ true → items_typed files rows place (item_last vs w) ≡ true
items_pushed files rows place NoItems w h one = and_from (value_typed files rows place w) true one refl
items_pushed files rows place (ItemThen v vs) w h one =
    let (first, more) = and_parts (value_typed files rows place v) (items_typed files rows place vs) h in
    and_from (value_typed files rows place v) (items_typed files rows place (item_last vs w)) first (items_pushed files rows place vs w more one)

listed_alone : (files : List Content) (rows : TableRows) (place : Option ℕ) (kind : ScalarKind) (s : StoredValue) → IsListed (Some (value_content s)) → elements_valid (ScalarOf kind) (values_in (Some (value_content s))) ≡ true → value_typed files rows place s ≡ true
unfolding value_content
listed_alone files rows place kind (StoredScalar x) listed valid = refl
listed_alone files rows place kind (StoredInside m) listed valid = absurd listed
listed_alone files rows place kind (StoredList vs) listed valid = items_alone files rows place kind vs valid
listed_alone files rows place kind (StoredMap ps) listed valid = absurd listed

elements_fit : (c : Content) (n : ℕ) (f : Field) (packed : Bool) → WellStored c → field_of (known (schema_of c) (type_of c)) n ≡ Some f → f.form ≡ Repeated packed → ListFits f.value_type.kind (contents.value_at n (entries_of c))
elements_fit (ContentOf schema T es) n f packed sound found form =
    let number : f.number ≡ n = field_number (known schema T) n f found in
    subst (λ m. ListFits f.value_type.kind (contents.value_at m es)) number (list_fits (known schema T) es f packed sound.fits (ap (field_of (known schema T)) number ∙ found) form)

-- the number is that of a list of scalars
pub record ScalarsListed (fields : List Field) (n : ℕ) : Type 0 where
  pub field : Field
  pub scalar_kind : ScalarKind
  pub packed : Bool
  pub found : field_of fields n ≡ Some field
  pub form : field.form ≡ Repeated packed
  pub kind_is : field.value_type.kind ≡ ScalarOf scalar_kind

-- a list of scalars that fits holds no message
list_typed : (m : DynamicMessage) (n : ℕ) → IsAscending (stored_in m) → WellStored (content_of m) → ScalarsListed (known_of (message_type_of m)) n → TypedAt (message_type_of m) n (stored_at (stored_in m) n)
list_typed m n s sound at =
    cases (stored_at (stored_in m) n)
    (subst (λ k. ListFits k (option_map value_of (stored_at (stored_in m) n))) at.kind_is
    (subst (ListFits at.field.value_type.kind) (sym (value_of_message m n s)) (elements_fit (content_of m) n at.field at.packed sound (ap (λ fields. field_of fields n) (known_in m) ∙ at.found) at.form)))
  where
    cases : (o : Option Value) → ListFits (ScalarOf at.scalar_kind) (option_map value_of o) → TypedAt (message_type_of m) n o
    cases None fits = tt
    cases (Some v) fits =
        listed_alone (pool_contents (message_type_of m).pool) (pool_rows (message_type_of m).pool) (place_for (field_of (known_of (message_type_of m)) n) (value_stored v)) at.scalar_kind (value_stored v)
        (subst (λ w. IsListed (Some w)) (sym (value_follows v)) fits.listed) (subst (λ w. elements_valid (ScalarOf at.scalar_kind) (values_in (Some w)) ≡ true) (sym (value_follows v)) fits.valid)

pub list_step : (m : DynamicMessage) (n : ℕ) (default v : Value) → IsAscending (stored_in m) → ScalarsListed (known_of (message_type_of m)) n → WellStored (content_of (written_at m n default v)) → StaysTyped m (written_at m n default v)
list_step m n default v s at sound = written_typed m n default s v (λ h. list_typed (written_at m n default v) n (ascending_written m n default s v) sound at)

pub listed_scalars : (fields : List Field) (n : ℕ) (kind : TableKind) → ListField fields n kind → ScalarsListed fields n
listed_scalars fields n kind at = record { field = at.field; scalar_kind = at.scalar_kind; packed = at.packed; found = at.found; form = at.form; kind_is = at.kind_is }

pub listed_numbers : (d : PooledType) (n : ℕ) (kind : TableKind) → NumberList d n kind → ScalarsListed (known_of d) n
listed_numbers d n kind at = record { field = at.field; scalar_kind = Enum at.first at.numbers; packed = at.packed; found = at.found; form = at.form; kind_is = at.kind_is }

pub element_added : (d : PooledType) (n : ℕ) (s w : StoredValue) → element_typed d n w ≡ true → typed_at d n s ≡ true → typed_at d n (item_added s w) ≡ true
element_added d n (StoredList vs) w one h =
    let place = field_of (known_of d) n in
    subst (λ p. items_typed (pool_contents d.pool) (pool_rows d.pool) p (item_last vs w) ≡ true) (sym (list_place place (item_last vs w)))
    (items_pushed (pool_contents d.pool) (pool_rows d.pool) (place_for place (StoredList NoItems)) vs w (subst (λ p. items_typed (pool_contents d.pool) (pool_rows d.pool) p vs ≡ true) (list_place place vs) h) one)
element_added d n (StoredScalar x) w one h = h
element_added d n (StoredInside m) w one h = h
element_added d n (StoredMap ps) w one h = h

items_last : (vs : List Value) (w : Value) → stored_items value_stored (vs ++ w ∷ []) ≡ item_last (stored_items value_stored vs) (value_stored w)
items_last [] w = refl
items_last (v ∷ vs) w = ap (ItemThen (value_stored v)) (items_last vs w)

-- what a value stores that holds these elements
list_held : (v : Value) (es : List Value) → list_in (out-Value v) ≡ Some es → value_stored v ≡ StoredList (stored_items value_stored es)
list_held v es h = fold_out-Value StoredValue StoredMessage stored_step stored_message_step v ∙ go (out-Value v) h
  where
    go : (x : Value-F Value DynamicMessage) → list_in x ≡ Some es → stored_step (map-Value Value DynamicMessage StoredValue StoredMessage value_stored message_stored x) ≡ StoredList (stored_items value_stored es)
    go (Value-F.List vs) h = ap StoredList (items_mapped vs.items) ∙ ap (λ (o : Option (List Value)). StoredList (stored_items value_stored (unwrap_or o []))) h
    go (Value-F.Bool b) h = cc
    go (Value-F.I32 z) h = cc
    go (Value-F.I64 z) h = cc
    go (Value-F.U32 n) h = cc
    go (Value-F.U64 n) h = cc
    go (Value-F.F32 n) h = cc
    go (Value-F.F64 n) h = cc
    go (Value-F.String text) h = cc
    go (Value-F.Bytes bytes) h = cc
    go (Value-F.EnumNumber z) h = cc
    go (Value-F.Message m) h = cc
    go (Value-F.Map ps) h = cc

pub item_pushed : (v : Value) (olds : List Value) (news : Vec Value Global) (w : Value) → list_in (out-Value v) ≡ Some olds → news.items ≡ olds ++ w ∷ [] → value_stored (values.List news) ≡ item_added (value_stored v) (value_stored w)
item_pushed v olds news w is pushed =
    stored_list news ∙ ap (λ vs. StoredList (stored_items value_stored vs)) pushed ∙ ap StoredList (items_last olds w)
    ∙ sym (ap (λ s. item_added s (value_stored w)) (list_held v olds is))

pub empty_list_typed : (d : PooledType) (n : ℕ) (vs : Vec Value Global) → vs.items ≡ [] → typed_at d n (value_stored (values.List vs)) ≡ true
empty_list_typed d n vs none = ap (typed_at d n) (stored_list vs ∙ ap (λ l. StoredList (stored_items value_stored l)) none)

-- MAPS

map_place : (o : Option Field) (ps : StoredPairs) → place_for o (StoredMap ps) ≡ place_for o (StoredMap NoPairs)
map_place None ps = refl
map_place (Some f) ps = refl

pairs_put : (files : List Content) (rows : TableRows) (place : Option ℕ) (es : List (MapKey × Value)) (k : MapKey) (x : Value) → pairs_typed files rows place (stored_pairs value_stored es) ≡ true → value_typed files rows place (value_stored x) ≡ true
    → pairs_typed files rows place (stored_pairs value_stored (insert_entry compare_keys es k x)) ≡ true
pairs_put files rows place [] k x h one = and_from (value_typed files rows place (value_stored x)) true one refl
pairs_put files rows place (e ∷ es) k x h one =
    let (first, more) = and_parts (value_typed files rows place (value_stored e.1)) (pairs_typed files rows place (stored_pairs value_stored es)) h in
    cases (compare_keys k e.0) first more (pairs_put files rows place es k x more one)
  where
    cases : (o : Ordering) → value_typed files rows place (value_stored e.1) ≡ true → pairs_typed files rows place (stored_pairs value_stored es) ≡ true
        → pairs_typed files rows place (stored_pairs value_stored (insert_entry compare_keys es k x)) ≡ true
        → pairs_typed files rows place (stored_pairs value_stored (match_ordering o ((k, x) ∷ e ∷ es) ((e.0, x) ∷ es) (e ∷ insert_entry compare_keys es k x))) ≡ true
    cases Less first more rest = and_from (value_typed files rows place (value_stored x)) (pairs_typed files rows place (stored_pairs value_stored (e ∷ es))) one h
    cases Equal first more rest = and_from (value_typed files rows place (value_stored x)) (pairs_typed files rows place (stored_pairs value_stored es)) one more
    cases Greater first more rest = and_from (value_typed files rows place (value_stored e.1)) (pairs_typed files rows place (stored_pairs value_stored (insert_entry compare_keys es k x))) first rest

-- what a value stores that holds these pairs
pairs_held : (v : Value) (es : List (MapKey × Value)) → pairs_in (out-Value v) ≡ Some es → value_stored v ≡ StoredMap (stored_pairs value_stored es)
pairs_held v es h = fold_out-Value StoredValue StoredMessage stored_step stored_message_step v ∙ go (out-Value v) h
  where
    go : (x : Value-F Value DynamicMessage) → pairs_in x ≡ Some es → stored_step (map-Value Value DynamicMessage StoredValue StoredMessage value_stored message_stored x) ≡ StoredMap (stored_pairs value_stored es)
    go (Value-F.Map m) h = ap StoredMap (pairs_mapped m.entries) ∙ ap (λ (o : Option (List (MapKey × Value))). StoredMap (stored_pairs value_stored (unwrap_or o []))) h
    go (Value-F.Bool b) h = cc
    go (Value-F.I32 z) h = cc
    go (Value-F.I64 z) h = cc
    go (Value-F.U32 n) h = cc
    go (Value-F.U64 n) h = cc
    go (Value-F.F32 n) h = cc
    go (Value-F.F64 n) h = cc
    go (Value-F.String text) h = cc
    go (Value-F.Bytes bytes) h = cc
    go (Value-F.EnumNumber z) h = cc
    go (Value-F.Message m) h = cc
    go (Value-F.List vs) h = cc

-- the map after an entry was put in
pub entry_added : (d : PooledType) (n : ℕ) (v : Value) (es : List (MapKey × Value)) (new : BTreeMap MapKey Value) (k : MapKey) (x : Value) → pairs_in (out-Value v) ≡ Some es → new.entries ≡ insert_entry compare_keys es k x
    → entry_typed d n (value_stored x) ≡ true → typed_at d n (value_stored v) ≡ true → typed_at d n (value_stored (values.Map new)) ≡ true
entry_added d n v es new k x is put one h =
    let here = field_of (known_of d) n in
    let old : pairs_typed (pool_contents d.pool) (pool_rows d.pool) (place_for here (StoredMap NoPairs)) (stored_pairs value_stored es) ≡ true =
    subst (λ p. pairs_typed (pool_contents d.pool) (pool_rows d.pool) p (stored_pairs value_stored es) ≡ true) (map_place here (stored_pairs value_stored es)) (sym (ap (typed_at d n) (pairs_held v es is)) ∙ h) in
    ap (typed_at d n) (stored_map new ∙ ap (λ ds. StoredMap (stored_pairs value_stored ds)) put)
    ∙ subst (λ p. pairs_typed (pool_contents d.pool) (pool_rows d.pool) p (stored_pairs value_stored (insert_entry compare_keys es k x)) ≡ true) (sym (map_place here (stored_pairs value_stored (insert_entry compare_keys es k x))))
    (pairs_put (pool_contents d.pool) (pool_rows d.pool) (place_for here (StoredMap NoPairs)) es k x old one)

pub empty_map_typed : (d : PooledType) (n : ℕ) (ps : BTreeMap MapKey Value) → ps.entries ≡ [] → typed_at d n (value_stored (values.Map ps)) ≡ true
empty_map_typed d n ps none = ap (typed_at d n) (stored_map ps ∙ ap (λ es. StoredMap (stored_pairs value_stored es)) none)

-- MESSAGES

module _ (files : List Content) (rows : TableRows) (place : Option ℕ) where
  abbrev stands_by : PooledType → Bool
  stands_by d = passes place (nat_eq d.index) && (contents_eq files (pool_contents d.pool) && rows_eq rows (pool_rows d.pool))

  stands_is : (m : DynamicMessage) → stands_there files rows place (message_stored m) ≡ stands_by (message_type_of m)
  stands_is m = ap (stands_there files rows place) (stored_message m)

  -- a message of the same type stands where the other one stood
  pub message_stays : (old new : DynamicMessage) → message_type_of new ≡ message_type_of old → StaysTyped old new
      → value_typed files rows place (StoredInside (message_stored old)) ≡ true → value_typed files rows place (StoredInside (message_stored new)) ≡ true
  message_stays old new type stays h =
      let (there, inside) = and_parts (stands_there files rows place (message_stored old)) (all_typed (message_stored old)) h in
      and_from (stands_there files rows place (message_stored new)) (all_typed (message_stored new)) (stands_is new ∙ ap stands_by type ∙ sym (stands_is old) ∙ there) (stays.typed inside)

-- what a value stores that holds this message
pub message_held : (v : Value) (m : DynamicMessage) → message_in (out-Value v) ≡ Some m → value_stored v ≡ StoredInside (message_stored m)
message_held v m h = fold_out-Value StoredValue StoredMessage stored_step stored_message_step v ∙ go (out-Value v) h
  where
    go : (x : Value-F Value DynamicMessage) → message_in x ≡ Some m → stored_step (map-Value Value DynamicMessage StoredValue StoredMessage value_stored message_stored x) ≡ StoredInside (message_stored m)
    go (Value-F.Message k) h = ap (λ (o : Option DynamicMessage). StoredInside (message_stored (unwrap_or o m))) h
    go (Value-F.Bool b) h = cc
    go (Value-F.I32 z) h = cc
    go (Value-F.I64 z) h = cc
    go (Value-F.U32 n) h = cc
    go (Value-F.U64 n) h = cc
    go (Value-F.F32 n) h = cc
    go (Value-F.F64 n) h = cc
    go (Value-F.String text) h = cc
    go (Value-F.Bytes bytes) h = cc
    go (Value-F.EnumNumber z) h = cc
    go (Value-F.List vs) h = cc
    go (Value-F.Map ps) h = cc

-- the message in a value was read into
pub held_stays : (v : Value) (old new : DynamicMessage) → message_in (out-Value v) ≡ Some old → message_type_of new ≡ message_type_of old → StaysTyped old new → ValueStaysTyped v (values.Message new)
held_stays v old new is type stays = record {
  typed = λ files rows place h.
      ap (value_typed files rows place) (stored_inside new) ∙ message_stays files rows place old new type stays (sym (ap (value_typed files rows place) (message_held v old is)) ∙ h);
}

-- a message that stores nothing, of the type at a place of a pool of the same files
pub empty_there : (d : PooledType) (T : ℕ) (m : DynamicMessage) → pool_contents d.pool ≡ pool_contents (message_type_of m).pool → (message_type_of m).index ≡ T → stored_in m ≡ [] → typed_as d (Some T) (StoredInside (message_stored m)) ≡ true
empty_there d T m files index none =
    and_from (stands_there (pool_contents d.pool) (pool_rows d.pool) (Some T) (message_stored m)) (all_typed (message_stored m))
    (stands_is (pool_contents d.pool) (pool_rows d.pool) (Some T) m
    ∙ and_from (nat_eq (message_type_of m).index T) (contents_eq (pool_contents d.pool) (pool_contents (message_type_of m).pool) && rows_eq (pool_rows d.pool) (pool_rows (message_type_of m).pool))
    (eq-eqb (message_type_of m).index T index)
    (and_from (contents_eq (pool_contents d.pool) (pool_contents (message_type_of m).pool)) (rows_eq (pool_rows d.pool) (pool_rows (message_type_of m).pool))
    ((contents_decide (pool_contents d.pool) (pool_contents (message_type_of m).pool)).1 files)
    ((rows_decide (pool_rows d.pool) (pool_rows (message_type_of m).pool)).1 (rows_same d.pool (message_type_of m).pool files))))
    (nothing_typed m none)

-- the same of one pool
pub empty_typed : (d t : PooledType) (T : ℕ) (m : DynamicMessage) → t.pool.value ≡ d.pool.value → t.index ≡ T → message_type_of m ≡ t → stored_in m ≡ [] → typed_as d (Some T) (StoredInside (message_stored m)) ≡ true
empty_typed d t T m pool index type none = empty_there d T m (sym (ap (λ (c : PooledType). pool_contents c.pool) type ∙ ap pools.pool_contents pool)) (ap (λ (c : PooledType). c.index) type ∙ index) none

-- FIELDS OF MESSAGES

nested_place : (kind : Kind) (T : ℕ) (g : Bool) → kind ≡ nested_kind g T → kind_place kind ≡ Some T
nested_place kind T g is = ap kind_place is ∙ cases g
  where
    cases : (g : Bool) → kind_place (nested_kind g T) ≡ Some T
    cases true = refl
    cases false = refl

-- a field that is no map has one place for whatever is stored
pub own_place : (f : Field) (s : StoredValue) → own_kind f.form f.value_type.kind ≡ Some f.value_type.kind → place_for (Some f) s ≡ kind_place f.value_type.kind
own_place f (StoredScalar x) own = ap (option_and_then kind_place) own
own_place f (StoredInside m) own = ap (option_and_then kind_place) own
own_place f (StoredList vs) own = ap (option_and_then kind_place) own
own_place f (StoredMap ps) own = refl

pub field_typed : (d : PooledType) (n T : ℕ) (g : Bool) → NestedField d n T g → (s : StoredValue) → typed_at d n s ≡ typed_as d (Some T) s
field_typed d n T g at s =
    ap (λ p. typed_as d p s)
    (ap (λ o. place_for o s) at.found ∙ own_place at.field s (ap (λ (form : FieldForm). own_kind form at.field.value_type.kind) at.form) ∙ nested_place at.field.value_type.kind T g at.kind_is)

pub element_typed_as : (d : PooledType) (n T : ℕ) (g : Bool) → NestedList d n T g → (s : StoredValue) → element_typed d n s ≡ typed_as d (Some T) s
element_typed_as d n T g at s =
    ap (λ p. typed_as d p s)
    (ap (λ o. place_for o (StoredList NoItems)) at.found ∙ own_place at.field (StoredList NoItems) (ap (λ (form : FieldForm). own_kind form at.field.value_type.kind) at.form) ∙ nested_place at.field.value_type.kind T g at.kind_is)

pub entry_typed_as : (d : PooledType) (n : ℕ) (key : TableKind) (T : ℕ) → NestedMap d n key T → (s : StoredValue) → entry_typed d n s ≡ typed_as d (Some T) s
entry_typed_as d n key T at s = ap (λ p. typed_as d p s) (ap (λ o. place_for o (StoredMap NoPairs)) at.found ∙ ap kind_place at.value_is)

-- a message that was empty was read, as the value of a field
pub first_read : (d : PooledType) (n T : ℕ) (g : Bool) (empty done : DynamicMessage) → NestedField d n T g → typed_as d (Some T) (StoredInside (message_stored empty)) ≡ true → message_type_of done ≡ message_type_of empty → StaysTyped empty done
    → typed_at d n (value_stored (values.Message done)) ≡ true
first_read d n T g empty done at there type stays =
    ap (typed_at d n) (stored_inside done) ∙ field_typed d n T g at (StoredInside (message_stored done)) ∙ message_stays (pool_contents d.pool) (pool_rows d.pool) (Some T) empty done type stays there

-- the message that is there was read into
pub held_read : (m : DynamicMessage) (n T : ℕ) (g : Bool) (v w : Value) → IsAscending (stored_in m) → NestedField (message_type_of m) n T g → stored_at (stored_in m) n ≡ Some v → ValueStaysTyped v w → StaysTyped m (overwritten_at m n w)
held_read m n T g v w s at there stays =
    let d = message_type_of m in
    subst (StaysTyped m) (sym (overwritten_is m n w (ap is_some there)))
    (held_step m n w s v w there (λ h. field_typed d n T g at (value_stored w) ∙ stays.typed (pool_contents d.pool) (pool_rows d.pool) (Some T) (sym (field_typed d n T g at (value_stored v)) ∙ h)))

-- a message that was empty was read, as an element of a list or as the value of an entry
pub element_read : (d : PooledType) (n T : ℕ) (g : Bool) (empty done : DynamicMessage) → NestedList d n T g → typed_as d (Some T) (StoredInside (message_stored empty)) ≡ true → message_type_of done ≡ message_type_of empty → StaysTyped empty done
    → element_typed d n (value_stored (values.Message done)) ≡ true
element_read d n T g empty done at there type stays =
    ap (element_typed d n) (stored_inside done) ∙ element_typed_as d n T g at (StoredInside (message_stored done)) ∙ message_stays (pool_contents d.pool) (pool_rows d.pool) (Some T) empty done type stays there

pub entry_read : (d : PooledType) (n : ℕ) (key : TableKind) (T : ℕ) (empty done : DynamicMessage) → NestedMap d n key T → typed_as d (Some T) (StoredInside (message_stored empty)) ≡ true → message_type_of done ≡ message_type_of empty → StaysTyped empty done
    → entry_typed d n (value_stored (values.Message done)) ≡ true
entry_read d n key T empty done at there type stays =
    ap (entry_typed d n) (stored_inside done) ∙ entry_typed_as d n key T at (StoredInside (message_stored done)) ∙ message_stays (pool_contents d.pool) (pool_rows d.pool) (Some T) empty done type stays there
