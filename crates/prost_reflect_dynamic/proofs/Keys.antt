-- Keys compare as the scalars that they are.
use Rattle.std.specs.Prelude.{◌≡◌, ◌∷◌}
use Rattle.prost_reflect_dynamic.proofs.Common.{Bool, true, cond, [], Some, refl, ap, sym, ◌∙◌, Ordering, Less, Equal, Greater, Scalar, scalar_cmp, scalar_eq, is_less, key_of, value_of, MapKey, key_in, is_eq, match_ordering, insert_entry, ScalarValue, Pairs, Pair, put, scalar_decides, MapInsert, pairs_shown, compare_keys}
use Rattle.prost_reflect_dynamic.specs.declared.value.MapKey.TheVariants as keys
use Rattle.prost_reflect_dynamic.specs.contracts.value.MapKeyOrd.TheImpl.Laws as ord_laws
use Rattle.prost_reflect_dynamic.specs.contracts.value.MapKeyPartialEq.TheImpl as key_eq
use Rattle.prost_reflect_dynamic.specs.contracts.value.MapKeyHash.TheImpl as key_hash
use Rattle.std.specs.Hash.{HashWrites}
use Rattle.prost_reflect_dynamic.specs.Keys.{key_writes}
use Rattle.prost_reflect_wire.specs.Content.{Value}

pub keys_compared : (a b : MapKey) → compare_keys a b ≡ scalar_cmp (key_of a) (key_of b)
keys_compared (keys.Bool b) (keys.Bool b2) = refl
keys_compared (keys.Bool b) (keys.I32 z2) = refl
keys_compared (keys.Bool b) (keys.I64 z2) = refl
keys_compared (keys.Bool b) (keys.U32 n2) = refl
keys_compared (keys.Bool b) (keys.U64 n2) = refl
keys_compared (keys.Bool b) (keys.String t2) = refl
keys_compared (keys.I32 z) (keys.Bool b2) = refl
keys_compared (keys.I32 z) (keys.I32 z2) = refl
keys_compared (keys.I32 z) (keys.I64 z2) = refl
keys_compared (keys.I32 z) (keys.U32 n2) = refl
keys_compared (keys.I32 z) (keys.U64 n2) = refl
keys_compared (keys.I32 z) (keys.String t2) = refl
keys_compared (keys.I64 z) (keys.Bool b2) = refl
keys_compared (keys.I64 z) (keys.I32 z2) = refl
keys_compared (keys.I64 z) (keys.I64 z2) = refl
keys_compared (keys.I64 z) (keys.U32 n2) = refl
keys_compared (keys.I64 z) (keys.U64 n2) = refl
keys_compared (keys.I64 z) (keys.String t2) = refl
keys_compared (keys.U32 n) (keys.Bool b2) = refl
keys_compared (keys.U32 n) (keys.I32 z2) = refl
keys_compared (keys.U32 n) (keys.I64 z2) = refl
keys_compared (keys.U32 n) (keys.U32 n2) = refl
keys_compared (keys.U32 n) (keys.U64 n2) = refl
keys_compared (keys.U32 n) (keys.String t2) = refl
keys_compared (keys.U64 n) (keys.Bool b2) = refl
keys_compared (keys.U64 n) (keys.I32 z2) = refl
keys_compared (keys.U64 n) (keys.I64 z2) = refl
keys_compared (keys.U64 n) (keys.U32 n2) = refl
keys_compared (keys.U64 n) (keys.U64 n2) = refl
keys_compared (keys.U64 n) (keys.String t2) = refl
keys_compared (keys.String t) (keys.Bool b2) = refl
keys_compared (keys.String t) (keys.I32 z2) = refl
keys_compared (keys.String t) (keys.I64 z2) = refl
keys_compared (keys.String t) (keys.U32 n2) = refl
keys_compared (keys.String t) (keys.U64 n2) = refl
keys_compared (keys.String t) (keys.String t2) = refl

abbrev eq_key : MapKey → MapKey → Bool
eq_key = (key_eq.ghosts).eq

abbrev hash_key : MapKey → HashWrites
hash_key = (key_hash.ghosts).hash_input

pub keys_equal : (a b : MapKey) → eq_key a b ≡ scalar_eq (key_of a) (key_of b)
keys_equal a b = ord_laws.matches_eq-law a b ∙ ap is_eq (keys_compared a b)

-- HASHING

pub keys_hashed : (a : MapKey) → hash_key a ≡ key_writes (key_of a)
keys_hashed (keys.Bool b) = refl
keys_hashed (keys.I32 z) = refl
keys_hashed (keys.I64 z) = refl
keys_hashed (keys.U32 n) = refl
keys_hashed (keys.U64 n) = refl
keys_hashed (keys.String t) = refl

pub keys_alike : (a b : MapKey) → scalar_eq (key_of a) (key_of b) ≡ true → hash_key a ≡ hash_key b
keys_alike a b h = keys_hashed a ∙ ap key_writes ((scalar_decides (key_of a) (key_of b)).0 h) ∙ sym (keys_hashed b)

-- KEYS AS VALUES

pub keys_again : (key : MapKey) → key_in (ScalarValue (key_of key)) ≡ Some (key_of key)
keys_again (keys.Bool b) = refl
keys_again (keys.I32 z) = refl
keys_again (keys.I64 z) = refl
keys_again (keys.U32 n) = refl
keys_again (keys.U64 n) = refl
keys_again (keys.String t) = refl

pub keys_same : (a b : MapKey) → key_of a ≡ key_of b → eq_key a b ≡ true
keys_same a b h = keys_equal a b ∙ (scalar_decides (key_of a) (key_of b)).1 h

-- MAPS

put_shown : (o : Ordering) (k l : Scalar) (v w : Value) (ps : Pairs) → scalar_cmp k l ≡ o
    → match_ordering o (Pair k v (Pair l w ps)) (Pair l v ps) (Pair l w (put k v ps)) ≡ put k v (Pair l w ps)
put_shown Less k l v w ps h = ap (λ o. cond (is_less o) (Pair k v (Pair l w ps)) (cond (is_eq o) (Pair k v ps) (Pair l w (put k v ps)))) (sym h)
put_shown Equal k l v w ps h = ap (λ z. Pair z v ps) (sym ((scalar_decides k l).0 (ap is_eq h))) ∙ ap (λ o. cond (is_less o) (Pair k v (Pair l w ps)) (cond (is_eq o) (Pair k v ps) (Pair l w (put k v ps)))) (sym h)
put_shown Greater k l v w ps h = ap (λ o. cond (is_less o) (Pair k v (Pair l w ps)) (cond (is_eq o) (Pair k v ps) (Pair l w (put k v ps)))) (sym h)

pub map_insert : MapInsert
map_insert [] k v = refl
map_insert (e ∷ es) k v = cases (compare_keys k e.0) ∙ ap (λ o. match_ordering o (Pair (key_of k) (value_of v) (pairs_shown (e ∷ es))) (Pair (key_of e.0) (value_of v) (pairs_shown es)) (Pair (key_of e.0) (value_of e.1) (pairs_shown (insert_entry compare_keys es k v)))) (keys_compared k e.0)
    ∙ ap (λ ps. match_ordering (scalar_cmp (key_of k) (key_of e.0)) (Pair (key_of k) (value_of v) (pairs_shown (e ∷ es))) (Pair (key_of e.0) (value_of v) (pairs_shown es)) (Pair (key_of e.0) (value_of e.1) ps)) (map_insert es k v)
    ∙ put_shown (scalar_cmp (key_of k) (key_of e.0)) (key_of k) (key_of e.0) (value_of v) (value_of e.1) (pairs_shown es) refl
  where
    cases : (o : Ordering) → pairs_shown (match_ordering o ((k, v) ∷ e ∷ es) ((e.0, v) ∷ es) (e ∷ insert_entry compare_keys es k v))
        ≡ match_ordering o (Pair (key_of k) (value_of v) (pairs_shown (e ∷ es))) (Pair (key_of e.0) (value_of v) (pairs_shown es)) (Pair (key_of e.0) (value_of e.1) (pairs_shown (insert_entry compare_keys es k v)))
    cases Less = refl
    cases Equal = refl
    cases Greater = refl
