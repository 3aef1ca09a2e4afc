-- What records mean has its numbers and keys in ascending order.
use Rattle.std.specs.Prelude.{◌≡◌, ◌<◌, ◌≤◌, ◌&&◌, ◌∷◌, ◌++◌}
use Rattle.prost_reflect_laws.proofs.Common.{ℕ, zero, suc, Bool, true, false, cond, not, List, [], flat_map, Option, Some, None, refl, ap, ◌∙◌, arith, ⊤, lt-ltb, le-leb, and_parts, and_from, ◌>>=◌, Record, Payload, Scalar, elem, scalar_lt, scalar_eq, Kind, ScalarOf, MessageOf, GroupOf, ValueType, FieldForm, Singular, Repeated, MapFrom, Field, Schema, known, field_of, Entries, Value, ScalarValue, Values, NoValues, Item, Pairs, NoPairs, Pair, values_from, Slot, then_unknowns, then_value, table, comes_before, key_before, ordered, entries_ordered, value_ordered, values_ordered, pairs_ordered, last, payloads, records_in, value_records, record_numbers, survive, MeansInside, present, present_list, present_map, one_value, element, scalar_values, put, put_entry, put_entries, entry_key, entry_value, field_value, meaning_at, meaning_by, empty_inside, meaning, Ascending, numbers_ascending, scalar_decides}
use Rattle.prost_reflect_laws.proofs.Putting.{otherwise, before_put}

pub record AllOrdered (inner : MeansInside) : Type 0 where
  pub each : (T : ℕ) (rs : List Record) → ordered (inner T rs) ≡ true

abbrev pub OrderedOption : Option Value → Type 0
OrderedOption None = ⊤
OrderedOption (Some v) = value_ordered v ≡ true

-- MAPS

pub put_ordered : (k : Scalar) (v : Value) (ps : Pairs) → value_ordered v ≡ true → pairs_ordered ps ≡ true → pairs_ordered (put k v ps) ≡ true
put_ordered k v NoPairs h o = and_from _ _ h refl
put_ordered k v (Pair l w ps) h o =
    let (ab, rest) = and_parts (key_before l ps && value_ordered w) (pairs_ordered ps) o in
    let (b, wo) = and_parts (key_before l ps) (value_ordered w) ab in
    go (scalar_lt k l) refl (scalar_eq k l) refl b wo rest (put_ordered k v ps h rest)
  where
    go : (x : Bool) → scalar_lt k l ≡ x → (y : Bool) → scalar_eq k l ≡ y → key_before l ps ≡ true → value_ordered w ≡ true → pairs_ordered ps ≡ true → pairs_ordered (put k v ps) ≡ true →
        pairs_ordered (cond x (Pair k v (Pair l w ps)) (cond y (Pair k v ps) (Pair l w (put k v ps)))) ≡ true
    go true e y d b wo rest more = and_from _ _ (and_from _ _ e h) (and_from _ _ (and_from _ _ b wo) rest)
    go false e true d b wo rest more = and_from _ _ (and_from _ _ (ap (λ x. key_before x ps) ((scalar_decides k l).0 d) ∙ b) h) rest
    go false e false d b wo rest more = and_from _ _ (and_from _ _ (before_put l k v ps (otherwise k l e d) b) wo) more

-- VALUES

entry_ordered : (inner : MeansInside) (value_type : ValueType) (kind : Kind) (rs : List Record) → AllOrdered inner → value_ordered (entry_value inner value_type kind rs) ≡ true
entry_ordered inner value_type (ScalarOf kind) rs a = refl
entry_ordered inner value_type (MessageOf T) rs a = a.each T _
entry_ordered inner value_type (GroupOf T) rs a = a.each T _

entries_put : (inner : MeansInside) (key value_type : ValueType) (qs : List Payload) (ps : Pairs) → AllOrdered inner → pairs_ordered ps ≡ true → pairs_ordered (put_entries inner key value_type qs ps) ≡ true
entries_put inner key value_type [] ps a o = o
entries_put inner key value_type (q ∷ qs) ps a o =
    entries_put inner key value_type qs (put_entry inner key value_type q ps) a (put_ordered (entry_key key (records_in q)) (entry_value inner value_type value_type.kind (records_in q)) ps (entry_ordered inner value_type value_type.kind (records_in q) a) o)

elements_ordered : (inner : MeansInside) (kind : Kind) (ps : List Payload) → AllOrdered inner → values_ordered (values_from (flat_map (element inner kind) ps)) ≡ true
elements_ordered inner kind [] a = refl
elements_ordered inner (ScalarOf kind) (p ∷ ps) a = go (elem kind p) (elements_ordered inner (ScalarOf kind) ps a)
  where
    go : (o : Option Scalar) → values_ordered (values_from (flat_map (element inner (ScalarOf kind)) ps)) ≡ true → values_ordered (values_from (scalar_values o ++ flat_map (element inner (ScalarOf kind)) ps)) ≡ true
    go None more = more
    go (Some v) more = more
elements_ordered inner (MessageOf T) (p ∷ ps) a = and_from _ _ (a.each T (records_in p)) (elements_ordered inner (MessageOf T) ps a)
elements_ordered inner (GroupOf T) (p ∷ ps) a = and_from _ _ (a.each T (records_in p)) (elements_ordered inner (GroupOf T) ps a)

list_ordered : (vs : Values) → values_ordered vs ≡ true → OrderedOption (present_list vs)
list_ordered NoValues h = tt
list_ordered (Item v vs) h = h

map_ordered : (ps : Pairs) → pairs_ordered ps ≡ true → OrderedOption (present_map ps)
map_ordered NoPairs h = tt
map_ordered (Pair k v ps) h = h

one_ordered : (inner : MeansInside) (value_type : ValueType) (kind : Kind) (ps : List Payload) → AllOrdered inner → OrderedOption (one_value inner value_type kind ps)
one_ordered inner value_type (ScalarOf kind) ps a = go (last ps)
  where
    stays : (v : Scalar) (b : Bool) → OrderedOption (cond b None (Some (ScalarValue v)))
    stays v true = tt
    stays v false = refl

    read : (o : Option Scalar) → OrderedOption (o >>= present value_type)
    read None = tt
    read (Some v) = stays v (not value_type.presence && scalar_eq v value_type.default)

    go : (o : Option Payload) → OrderedOption (o >>= λ p. elem kind p >>= present value_type)
    go None = tt
    go (Some p) = read (elem kind p)
one_ordered inner value_type (MessageOf T) [] a = tt
one_ordered inner value_type (MessageOf T) (p ∷ ps) a = a.each T _
one_ordered inner value_type (GroupOf T) [] a = tt
one_ordered inner value_type (GroupOf T) (p ∷ ps) a = a.each T _

field_ordered : (inner : MeansInside) (c : FieldForm) (value_type : ValueType) (ps : List Payload) → AllOrdered inner → OrderedOption (field_value inner c value_type ps)
field_ordered inner Singular value_type ps a = one_ordered inner value_type value_type.kind ps a
field_ordered inner (Repeated packed) value_type ps a = list_ordered (values_from (flat_map (element inner value_type.kind) ps)) (elements_ordered inner value_type.kind ps a)
field_ordered inner (MapFrom key) value_type ps a = map_ordered (put_entries inner key value_type ps NoPairs) (entries_put inner key value_type ps NoPairs a refl)

-- TABLES

unknowns_before : (n m : ℕ) (ps : List Payload) (es : Entries) → n ≤ m → comes_before n es ≡ true → comes_before n (then_unknowns m ps es) ≡ true
unknowns_before n m [] es l h = h
unknowns_before n m (p ∷ ps) es l h = le-leb n m l

table_before : (at : ℕ → Slot) (n low : ℕ) (ns : List ℕ) → n < low → Ascending low ns → comes_before n (table at ns) ≡ true
table_before at n low [] l a = refl
table_before at n low (m ∷ ms) l (h, a) = go (at m).value (unknowns_before n m (at m).unknowns (table at ms) (omega (arith, l, h)) (table_before at n (suc m) ms (omega (arith, l, h)) a))
  where
    go : (o : Option Value) → comes_before n (then_unknowns m (at m).unknowns (table at ms)) ≡ true → comes_before n (then_value m o (then_unknowns m (at m).unknowns (table at ms))) ≡ true
    go None more = more
    go (Some v) more = lt-ltb n m (omega (arith, l, h))

unknowns_ordered : (n : ℕ) (ps : List Payload) (es : Entries) → comes_before n es ≡ true → entries_ordered es ≡ true → entries_ordered (then_unknowns n ps es) ≡ true
unknowns_ordered n [] es h o = o
unknowns_ordered n (p ∷ ps) es h o = and_from _ _ (unknowns_before n n ps es (omega arith) h) (unknowns_ordered n ps es h o)

pub table_ordered : (at : ℕ → Slot) (low : ℕ) (ns : List ℕ) → Ascending low ns → ((n : ℕ) → OrderedOption (at n).value) → entries_ordered (table at ns) ≡ true
table_ordered at low [] a h = refl
table_ordered at low (n ∷ ns) (l, a) h =
    let behind : comes_before n (table at ns) ≡ true = table_before at n (suc n) ns (omega arith) a in
    go (at n).value (h n) (unknowns_before n n (at n).unknowns (table at ns) (omega arith) behind) (unknowns_ordered n (at n).unknowns (table at ns) behind (table_ordered at (suc n) ns a h))
  where
    go : (o : Option Value) → OrderedOption o → comes_before n (then_unknowns n (at n).unknowns (table at ns)) ≡ true → entries_ordered (then_unknowns n (at n).unknowns (table at ns)) ≡ true → entries_ordered (then_value n o (then_unknowns n (at n).unknowns (table at ns))) ≡ true
    go None v b o = o
    go (Some w) v b o = and_from _ _ (and_from _ _ b v) o

ordered_by : (inner : MeansInside) (schema : Schema) (T : ℕ) (rs : List Record) → AllOrdered inner → ordered (meaning_by inner schema T rs) ≡ true
ordered_by inner schema T rs a = table_ordered (meaning_at inner (known schema T) rs) 0 (record_numbers rs) (numbers_ascending rs) (λ n. go (field_of (known schema T) n))
  where
    go : (o : Option Field) → OrderedOption (o >>= λ f. field_value inner f.form f.value_type (payloads (survive (known schema T) f (flat_map (value_records (known schema T)) rs))))
    go None = tt
    go (Some f) = field_ordered inner f.form f.value_type (payloads (survive (known schema T) f (flat_map (value_records (known schema T)) rs))) a

pub meaning_ordered : (schema : Schema) (k T : ℕ) (rs : List Record) → ordered (meaning schema k T rs) ≡ true
unfolding meaning
meaning_ordered schema zero T rs = ordered_by (empty_inside schema) schema T rs (record { each = λ T rs. refl })
meaning_ordered schema (suc k) T rs = ordered_by (meaning schema k) schema T rs (record { each = meaning_ordered schema k })
