-- An entry of a map that is copied behind all others.
use Rattle.std.specs.Prelude.{◌≡◌, ◌∷◌, ◌++◌}
use Rattle.prost_reflect_dynamic.proofs.Common.{List, [], refl, ap, sym, ◌∙◌, Ordering, Less, Equal, Greater, match_ordering, BTreeMap, insert_entry, IsStrictlySortedBy, keys_of, Scalar, scalar_cmp, MapKey, Value, compare_keys, pairs_seen, StoredValue, StoredMap, StoredPairs, PairThen, stored_pairs, value_stored, key_of}
use Rattle.prost_reflect_dynamic.specs.contracts.value.MapKeyOrd.TheImpl.Laws as ord_laws
use Rattle.prost_reflect_dynamic.specs.declared.value.Value as values
use Rattle.prost_reflect_dynamic.specs.Stored.{NoPairs}
use Rattle.prost_reflect_dynamic.proofs.Copied.{insert_last}
use Rattle.prost_reflect_dynamic.proofs.Keys.{keys_compared}
use Rattle.prost_reflect_dynamic.proofs.StoredViews.{stored_map}

abbrev Seen : Type 0
Seen = List (Scalar × StoredValue)

abbrev chosen : MapKey × Value → List (MapKey × Value) → MapKey → Value → Seen → Ordering → Seen
chosen e es k v behind o = match_ordering o ((key_of k, value_stored v) ∷ pairs_seen (e ∷ es)) ((key_of e.0, value_stored v) ∷ pairs_seen es) ((key_of e.0, value_stored e.1) ∷ behind)

-- an entry put into a map is put among what is seen of it
insert_seen : (es : List (MapKey × Value)) (k : MapKey) (v : Value) → pairs_seen (insert_entry compare_keys es k v) ≡ insert_entry scalar_cmp (pairs_seen es) (key_of k) (value_stored v)
insert_seen [] k v = refl
insert_seen (e ∷ es) k v = cases (compare_keys k e.0) (insert_seen es k v) ∙ ap (chosen e es k v (insert_entry scalar_cmp (pairs_seen es) (key_of k) (value_stored v))) (keys_compared k e.0)
  where
    cases : (o : Ordering) → pairs_seen (insert_entry compare_keys es k v) ≡ insert_entry scalar_cmp (pairs_seen es) (key_of k) (value_stored v)
        → pairs_seen (match_ordering o ((k, v) ∷ e ∷ es) ((e.0, v) ∷ es) (e ∷ insert_entry compare_keys es k v)) ≡ chosen e es k v (insert_entry scalar_cmp (pairs_seen es) (key_of k) (value_stored v)) o
    cases Less rest = refl
    cases Equal rest = refl
    cases Greater rest = ap (λ (ps : Seen). (key_of e.0, value_stored e.1) ∷ ps) rest

-- a copy of an entry that stands behind those that were copied
pub pair_copied : (copied done : List (MapKey × Value)) (k l : MapKey) (v w : Value) (rest : List MapKey) → IsStrictlySortedBy compare_keys (keys_of done ++ k ∷ rest) → pairs_seen copied ≡ pairs_seen done → key_of l ≡ key_of k → value_stored w ≡ value_stored v
    → pairs_seen (insert_entry compare_keys copied l w) ≡ pairs_seen (done ++ (k, v) ∷ [])
pair_copied copied done k l v w rest s same key value =
    insert_seen copied l w ∙ (λ i. insert_entry scalar_cmp (same i) (key i) (value i)) ∙ sym (insert_seen done k v) ∙ ap pairs_seen (insert_last compare_keys ord_laws.total-law done k v rest s)

-- WHAT A MAP STORES IS WHAT IS SEEN OF IT

from_seen : Seen → StoredPairs
from_seen [] = NoPairs
from_seen (p ∷ ps) = PairThen p.0 p.1 (from_seen ps)

pairs_from_seen : (es : List (MapKey × Value)) → stored_pairs value_stored es ≡ from_seen (pairs_seen es)
unfolding from_seen
pairs_from_seen [] = refl
pairs_from_seen (e ∷ es) = ap (PairThen (key_of e.0) (value_stored e.1)) (pairs_from_seen es)

pub map_copied : (a b : BTreeMap MapKey Value) → pairs_seen a.entries ≡ pairs_seen b.entries → value_stored (values.Map a) ≡ value_stored (values.Map b)
map_copied a b h = stored_map a ∙ ap StoredMap (pairs_from_seen a.entries ∙ ap from_seen h ∙ sym (pairs_from_seen b.entries)) ∙ sym (stored_map b)
