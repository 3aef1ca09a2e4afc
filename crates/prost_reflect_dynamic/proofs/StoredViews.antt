-- What values and messages store, by variant, and the content that follows from it.
use Rattle.std.specs.Prelude.{◌≡◌, ◌&&◌, ◌∷◌, ◌↔◌, String as Text}
use Rattle.prost_reflect_dynamic.proofs.Common.{ℕ, Bool, true, false, not, nat_eq, List, [], map, refl, ap, ap₂, sym, subst, ◌∙◌, string_bytes, true≢false, ne_eqb, Decides-and, Decides, Global, IsTrue, Vec, BTreeMap, unsigned_Decides, body_of, records_of, Content, TableRows, rows_eq, pool_rows, pool_contents, contents_eq, contents_decide, SameMessage, rows_follow, PooledType, FieldSlot, MapKey, Value, Value-F, DynamicMessage-F, roll-Value, roll-DynamicMessage, fold-roll-Value, fold-roll-DynamicMessage, fold_out-DynamicMessage, DynamicMessage, slot_former, message_type_of, stored_in, key_of, StoredMessage, StoredEntries, NothingStored, StoredValue, StoredScalar, StoredInside, StoredList, StoredMap, ItemThen, PairThen, stored_items, stored_pairs, stored_entry, stored_entries, stored_step, stored_message_step, value_stored, message_stored, same_message, same_value, same_items, same_pairs, same_entries, equal_values, equal_messages}
use Rattle.std.specs.Cmp.Lexicographic.{pointwise, texts_ties}
use mathlib.Core.Former.{this}
use denote.Hole.Carrier as Carrier
use Rattle.prost_reflect_wire.specs.Scalar as scalars
use Rattle.prost_reflect_wire.specs.Equality.{records_eq}
use Rattle.prost_reflect_dynamic.specs.contracts.value.MapKeyPartialEq.TheImpl as key_eq
use Rattle.prost_reflect_dynamic.proofs.Keys.{keys_equal}
use Rattle.prost_reflect_fields.specs.declared.slot.FieldSlot.TheVariants as entries
use Rattle.prost_reflect_dynamic.specs.declared.value.Value as values
use Rattle.prost_reflect_dynamic.specs.Stored.{MessageOf}

-- LISTS OF VALUES

abbrev seen : StoredValue → StoredValue
seen v = v

pub items_mapped : (vs : List Value) → stored_items seen (map value_stored vs) ≡ stored_items value_stored vs
items_mapped [] = refl
items_mapped (v ∷ vs) = ap (ItemThen (value_stored v)) (items_mapped vs)

pub pairs_mapped : (es : List (MapKey × Value)) → stored_pairs seen (map (λ (e : MapKey × Value). (e.0, value_stored e.1)) es) ≡ stored_pairs value_stored es
pairs_mapped [] = refl
pairs_mapped (e ∷ es) = ap (PairThen (key_of e.0) (value_stored e.1)) (pairs_mapped es)

abbrev over : FieldSlot Value → FieldSlot StoredValue
over = (slot_former this).map Value StoredValue value_stored

entry_mapped : (n : ℕ) (e : FieldSlot Value) (es : StoredEntries) → stored_entry seen n (over e) es ≡ stored_entry value_stored n e es
entry_mapped n (entries.Value v) es = refl
entry_mapped n (entries.Unknown u) es = refl
entry_mapped n (entries.Both v u) es = refl

entries_mapped : (es : List (ℕ × FieldSlot Value)) → stored_entries seen (map (λ e. (e.0, over e.1)) es) ≡ stored_entries value_stored es
entries_mapped [] = refl
entries_mapped (e ∷ es) = entry_mapped e.0 e.1 (stored_entries seen (map (λ e. (e.0, over e.1)) es)) ∙ ap (stored_entry value_stored e.0 e.1) (entries_mapped es)

-- VARIANTS

stored_text : (text : Text Global) → value_stored (values.String text) ≡ StoredScalar (scalars.Text (string_bytes text))
unfolding roll-Value Carrier.roll
stored_text text = fold-roll-Value StoredValue StoredMessage stored_step stored_message_step (Value-F.String text)

pub stored_bytes : (bytes : Vec ℕ Global) → value_stored (values.Bytes bytes) ≡ StoredScalar (scalars.Bytes bytes.items)
unfolding roll-Value Carrier.roll
stored_bytes bytes = fold-roll-Value StoredValue StoredMessage stored_step stored_message_step (Value-F.Bytes bytes)

pub stored_inside : (m : DynamicMessage) → value_stored (values.Message m) ≡ StoredInside (message_stored m)
unfolding roll-Value Carrier.roll
stored_inside m = fold-roll-Value StoredValue StoredMessage stored_step stored_message_step (Value-F.Message m)

pub stored_list : (vs : Vec Value Global) → value_stored (values.List vs) ≡ StoredList (stored_items value_stored vs.items)
unfolding roll-Value Carrier.roll
stored_list vs = fold-roll-Value StoredValue StoredMessage stored_step stored_message_step (Value-F.List vs) ∙ ap StoredList (items_mapped vs.items)

pub stored_map : (m : BTreeMap MapKey Value) → value_stored (values.Map m) ≡ StoredMap (stored_pairs value_stored m.entries)
unfolding roll-Value Carrier.roll
stored_map m = fold-roll-Value StoredValue StoredMessage stored_step stored_message_step (Value-F.Map m) ∙ ap StoredMap (pairs_mapped m.entries)

pub stored_message : (m : DynamicMessage) → message_stored m ≡ MessageOf (pool_contents m.fields.0.pool) (pool_rows m.fields.0.pool) m.fields.0.index (stored_entries value_stored m.fields.1)
stored_message m = fold_out-DynamicMessage StoredValue StoredMessage stored_step stored_message_step m ∙ ap (MessageOf (pool_contents m.fields.0.pool) (pool_rows m.fields.0.pool) m.fields.0.index) (entries_mapped m.fields.1)

pub stored_roll : (m : DynamicMessage-F Value DynamicMessage) → message_stored (roll-DynamicMessage m) ≡ MessageOf (pool_contents m.fields.0.pool) (pool_rows m.fields.0.pool) m.fields.0.index (stored_entries value_stored m.fields.1)
stored_roll m = fold-roll-DynamicMessage StoredValue StoredMessage stored_step stored_message_step m ∙ ap (MessageOf (pool_contents m.fields.0.pool) (pool_rows m.fields.0.pool) m.fields.0.index) (entries_mapped m.fields.1)

abbrev files_in : StoredMessage → List Content
files_in (MessageOf fs r T es) = fs

abbrev rows_in : StoredMessage → TableRows
rows_in (MessageOf fs r T es) = r

abbrev place_in : StoredMessage → ℕ
place_in (MessageOf fs r T es) = T

-- messages that store the same are of one type
pub same_types : (m n : DynamicMessage) → message_stored n ≡ message_stored m → SameMessage (message_type_of m) (message_type_of n)
same_types m n h = let same = sym (stored_message n) ∙ h ∙ stored_message m in (ap files_in same, ap rows_in same, ap place_in same)

-- VALUES

by_views : (v w a b : Value) (s t : StoredValue) → v ≡ a → w ≡ b → value_stored a ≡ s → value_stored b ≡ t → same_value s t ≡ equal_values v w
by_views v w a b s t va wb sa tb = sym (λ i. same_value ((ap value_stored va ∙ sa) i) ((ap value_stored wb ∙ tb) i))

pub texts_equal : (v w : Value) (a b : Text Global) (r : Bool) → v ≡ values.String a → w ≡ values.String b → r ≡ pointwise nat_eq (string_bytes a) (string_bytes b) → r ≡ equal_values v w
texts_equal v w a b r va wb is = is ∙ texts_ties (string_bytes a) (string_bytes b) ∙ by_views v w (values.String a) (values.String b) _ _ va wb (stored_text a) (stored_text b)

pub bytes_equal : (v w : Value) (a b : Vec ℕ Global) (r : Bool) → v ≡ values.Bytes a → w ≡ values.Bytes b → r ≡ pointwise nat_eq a.items b.items → r ≡ equal_values v w
bytes_equal v w a b r va wb is = is ∙ texts_ties a.items b.items ∙ by_views v w (values.Bytes a) (values.Bytes b) _ _ va wb (stored_bytes a) (stored_bytes b)

pub lists_equal : (v w : Value) (a b : Vec Value Global) (r : Bool) → v ≡ values.List a → w ≡ values.List b → r ≡ same_items (stored_items value_stored a.items) (stored_items value_stored b.items) → r ≡ equal_values v w
lists_equal v w a b r va wb is = is ∙ by_views v w (values.List a) (values.List b) _ _ va wb (stored_list a) (stored_list b)

pub maps_equal : (v w : Value) (a b : BTreeMap MapKey Value) (r : Bool) → v ≡ values.Map a → w ≡ values.Map b → r ≡ same_pairs (stored_pairs value_stored a.entries) (stored_pairs value_stored b.entries) → r ≡ equal_values v w
maps_equal v w a b r va wb is = is ∙ by_views v w (values.Map a) (values.Map b) _ _ va wb (stored_map a) (stored_map b)

-- TYPES

abbrev pub same_type : PooledType → PooledType → Bool
same_type a b = (contents_eq (pool_contents a.pool) (pool_contents b.pool) && rows_eq (pool_rows a.pool) (pool_rows b.pool)) && nat_eq a.index b.index

types_decide : (a b : PooledType) → Decides (same_type a b) ((pool_contents a.pool ≡ pool_contents b.pool) × (a.index ≡ b.index))
types_decide a b =
    let contents = contents_eq (pool_contents a.pool) (pool_contents b.pool) in
    let of_pools = contents_decide (pool_contents a.pool) (pool_contents b.pool) in
    subst (λ t. Decides (t && nat_eq a.index b.index) ((pool_contents a.pool ≡ pool_contents b.pool) × (a.index ≡ b.index))) (rows_follow a.pool b.pool)
    (Decides-and contents (nat_eq a.index b.index) of_pools (unsigned_Decides a.index b.index))

-- what is told of the pools' contents and the places is that test
pub type_same : (a b : PooledType) (r : Bool) → (IsTrue r ↔ ((pool_contents b.pool ≡ pool_contents a.pool) × (b.index ≡ a.index))) → r ≡ same_type a b
type_same a b r h = go r (same_type a b) refl refl
  where
    there : r ≡ true → same_type a b ≡ true
    there same = let parts = h.0 same in (types_decide a b).1 (sym parts.0, sym parts.1)

    back : same_type a b ≡ true → r ≡ true
    back same = let parts = (types_decide a b).0 same in h.1 (sym parts.0, sym parts.1)

    go : (x y : Bool) → r ≡ x → same_type a b ≡ y → r ≡ same_type a b
    go true y is other = is ∙ sym (there is)
    go false true is other = absurd (true≢false (sym (back other) ∙ is))
    go false false is other = is ∙ sym other

opened : (m n : DynamicMessage) → equal_messages m n ≡ (same_type (message_type_of m) (message_type_of n) && same_entries (stored_entries value_stored (stored_in m)) (stored_entries value_stored (stored_in n)))
opened m n = λ i. same_message (stored_message m i) (stored_message n i)

pub types_differ : (m n : DynamicMessage) → same_type (message_type_of m) (message_type_of n) ≡ false → false ≡ equal_messages m n
types_differ m n h = sym (opened m n ∙ ap (λ b. b && same_entries (stored_entries value_stored (stored_in m)) (stored_entries value_stored (stored_in n))) h)

pub types_same : (m n : DynamicMessage) → same_type (message_type_of m) (message_type_of n) ≡ true → same_entries (stored_entries value_stored (stored_in m)) (stored_entries value_stored (stored_in n)) ≡ equal_messages m n
types_same m n h = sym (opened m n ∙ ap (λ b. b && same_entries (stored_entries value_stored (stored_in m)) (stored_entries value_stored (stored_in n))) h)

-- ENTRIES

abbrev Entries : Type 0
Entries = List (ℕ × FieldSlot Value)

apart : (n m : ℕ) (e d : FieldSlot Value) (es ds : StoredEntries) → nat_eq n m ≡ false → same_entries (stored_entry value_stored n e es) (stored_entry value_stored m d ds) ≡ false
apart n m (entries.Value v) (entries.Value w) es ds h = ap (λ b. (b && same_value (value_stored v) (value_stored w)) && same_entries es ds) h
apart n m (entries.Unknown u) (entries.Unknown t) es ds h = ap (λ b. (b && records_eq (body_of (records_of u)) (body_of (records_of t))) && same_entries es ds) h
apart n m (entries.Both v u) (entries.Both w t) es ds h = ap (λ b. (b && (same_value (value_stored v) (value_stored w) && records_eq (body_of (records_of u)) (body_of (records_of t)))) && same_entries es ds) h
apart n m (entries.Value v) (entries.Unknown t) es ds h = refl
apart n m (entries.Value v) (entries.Both w t) es ds h = refl
apart n m (entries.Unknown u) (entries.Value w) es ds h = refl
apart n m (entries.Unknown u) (entries.Both w t) es ds h = refl
apart n m (entries.Both v u) (entries.Value w) es ds h = refl
apart n m (entries.Both v u) (entries.Unknown t) es ds h = refl

alone : (n : ℕ) (e : FieldSlot Value) (es : StoredEntries) → same_entries (stored_entry value_stored n e es) NothingStored ≡ false
alone n (entries.Value v) es = refl
alone n (entries.Unknown u) es = refl
alone n (entries.Both v u) es = refl

abbrev left : Entries → Entries → Bool
left es ds = same_entries (stored_entries value_stored es) (stored_entries value_stored ds)

-- what is left differs in its first number, or one side has an entry more
pub numbers_differ : (es ds more rest : Entries) (e d : ℕ × FieldSlot Value) (b : Bool) → es ≡ e ∷ more → ds ≡ d ∷ rest → (e.0 ≡ d.0 → ⊥) → left es ds ≡ b → false ≡ b
numbers_differ es ds more rest e d b first other differ same =
    sym (apart e.0 d.0 e.1 d.1 (stored_entries value_stored more) (stored_entries value_stored rest) (ne_eqb e.0 d.0 differ)) ∙ sym (ap₂ left first other) ∙ same

pub entry_alone : (es ds more : Entries) (e : ℕ × FieldSlot Value) (b : Bool) → es ≡ e ∷ more → ds ≡ [] → left es ds ≡ b → false ≡ b
entry_alone es ds more e b first none same = sym (alone e.0 e.1 (stored_entries value_stored more)) ∙ sym (ap₂ left first none) ∙ same

-- whether two slots store the same
abbrev pub same_slot : FieldSlot Value → FieldSlot Value → Bool
same_slot (entries.Value v) (entries.Value w) = equal_values v w
same_slot (entries.Unknown u) (entries.Unknown t) = records_eq (body_of (records_of u)) (body_of (records_of t))
same_slot (entries.Both v u) (entries.Both w t) = equal_values v w && records_eq (body_of (records_of u)) (body_of (records_of t))
same_slot e d = false

slots_same : (n m : ℕ) (e d : FieldSlot Value) (es ds : StoredEntries) → nat_eq n m ≡ true → same_slot e d ≡ true → same_entries (stored_entry value_stored n e es) (stored_entry value_stored m d ds) ≡ same_entries es ds
slots_same n m (entries.Value v) (entries.Value w) es ds number same = ap₂ (λ x y. (x && y) && same_entries es ds) number same
slots_same n m (entries.Unknown u) (entries.Unknown t) es ds number same = ap₂ (λ x y. (x && y) && same_entries es ds) number same
slots_same n m (entries.Both v u) (entries.Both w t) es ds number same = ap₂ (λ x y. (x && y) && same_entries es ds) number same
slots_same n m (entries.Value v) (entries.Unknown t) es ds number same = absurd (true≢false (sym same))
slots_same n m (entries.Value v) (entries.Both w t) es ds number same = absurd (true≢false (sym same))
slots_same n m (entries.Unknown u) (entries.Value w) es ds number same = absurd (true≢false (sym same))
slots_same n m (entries.Unknown u) (entries.Both w t) es ds number same = absurd (true≢false (sym same))
slots_same n m (entries.Both v u) (entries.Value w) es ds number same = absurd (true≢false (sym same))
slots_same n m (entries.Both v u) (entries.Unknown t) es ds number same = absurd (true≢false (sym same))

-- an equal slot may be left out
pub slot_passed : (es ds more rest : Entries) (e d : ℕ × FieldSlot Value) (b : Bool) → es ≡ e ∷ more → ds ≡ d ∷ rest → e.0 ≡ d.0 → same_slot e.1 d.1 ≡ true → left es ds ≡ b → left more rest ≡ b
slot_passed es ds more rest e d b first other number same whole =
    sym (slots_same e.0 d.0 e.1 d.1 (stored_entries value_stored more) (stored_entries value_stored rest) ((unsigned_Decides e.0 d.0).1 number) same) ∙ sym (ap₂ left first other) ∙ whole

-- PAIRS

abbrev eq_key : MapKey → MapKey → Bool
eq_key = (key_eq.ghosts).eq

abbrev Pairs : Type 0
Pairs = List (MapKey × Value)

abbrev same_left : Pairs → Pairs → Bool
same_left es ds = same_pairs (stored_pairs value_stored es) (stored_pairs value_stored ds)

first_pair : (k l : MapKey) (v w : Value) (es ds : Pairs) (x y : Bool) → eq_key k l ≡ x → equal_values v w ≡ y → same_left ((k, v) ∷ es) ((l, w) ∷ ds) ≡ ((x && y) && same_left es ds)
first_pair k l v w es ds x y h g = ap₂ (λ c d. (c && d) && same_left es ds) (sym (keys_equal k l) ∙ h) g

-- what is left differs in its first key or value
pub keys_differ : (k l : MapKey) (v w : Value) (xs ys es ds : Pairs) (b : Bool) → xs ≡ (k, v) ∷ es → ys ≡ (l, w) ∷ ds → eq_key k l ≡ false → same_left xs ys ≡ b → false ≡ b
keys_differ k l v w xs ys es ds b cut from h same = sym (ap₂ same_left cut from ∙ first_pair k l v w es ds false (equal_values v w) h refl) ∙ same

pub values_differ : (k l : MapKey) (v w : Value) (xs ys es ds : Pairs) (b : Bool) → xs ≡ (k, v) ∷ es → ys ≡ (l, w) ∷ ds → eq_key k l ≡ true → equal_values v w ≡ false → same_left xs ys ≡ b → false ≡ b
values_differ k l v w xs ys es ds b cut from h g same = sym (ap₂ same_left cut from ∙ first_pair k l v w es ds true false h g) ∙ same

-- an equal pair may be left out
pub pair_passed : (k l : MapKey) (v w : Value) (xs ys es ds : Pairs) (b : Bool) → xs ≡ (k, v) ∷ es → ys ≡ (l, w) ∷ ds → eq_key k l ≡ true → equal_values v w ≡ true → same_left xs ys ≡ b → same_left es ds ≡ b
pair_passed k l v w xs ys es ds b cut from h g same = sym (ap₂ same_left cut from ∙ first_pair k l v w es ds true true h g) ∙ same

-- TESTS

pub turned_true : (r b : Bool) → r ≡ not b → r ≡ true → b ≡ false
turned_true r true e h = absurd (true≢false (sym h ∙ e))
turned_true r false e h = refl

pub turned_false : (r b : Bool) → r ≡ not b → r ≡ false → b ≡ true
turned_false r true e h = refl
turned_false r false e h = absurd (true≢false (sym e ∙ h))
