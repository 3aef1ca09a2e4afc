-- Pairs put into a map one after another: keys stay in order, and a map in order is what its pairs make.
use Rattle.std.specs.Prelude.{◌≡◌, ◌&&◌}
use Rattle.prost_reflect_laws.proofs.Common.{Bool, true, false, cond, refl, ap, ◌∙◌, ⊤, is_eq, ordering_reverse, and_parts, Scalar, scalar_cmp, scalar_lt, scalar_eq, is_less, Value, Pairs, NoPairs, Pair, key_before, value_ordered, pairs_ordered, put, scalar_decides}
use Rattle.std.specs.declared.cmp.Ordering.{Ordering}
use Rattle.std.specs.declared.cmp.Ordering.TheVariants.{Greater}
use Rattle.prost_reflect_laws.proofs.Order.{scalar_total, less_less, not_below, not_same}

-- KEYS IN ORDER

abbrev pub Rising : Pairs → Type 0
Rising NoPairs = ⊤
Rising (Pair k v ps) = (key_before k ps ≡ true) × Rising ps

pub pairs_rising : (ps : Pairs) → pairs_ordered ps ≡ true → Rising ps
pairs_rising NoPairs h = tt
pairs_rising (Pair x v ps) h =
    let (ab, rest) = and_parts (key_before x ps && value_ordered v) (pairs_ordered ps) h in
    ((and_parts (key_before x ps) (value_ordered v) ab).0, pairs_rising ps rest)

pub otherwise : (k l : Scalar) → scalar_lt k l ≡ false → scalar_eq k l ≡ false → scalar_lt l k ≡ true
otherwise k l h e = ap is_less (scalar_total.antisymm l k) ∙ go (scalar_cmp k l) h e
  where
    go : (o : Ordering) → is_less o ≡ false → is_eq o ≡ false → is_less (ordering_reverse o) ≡ true
    go Greater h e = refl
    go _ h e = cc

pub before_put : (l k : Scalar) (v : Value) (ps : Pairs) → scalar_lt l k ≡ true → key_before l ps ≡ true → key_before l (put k v ps) ≡ true
before_put l k v NoPairs h b = h
before_put l k v (Pair m w ps) h b = go (scalar_lt k m) (scalar_eq k m)
  where
    go : (x y : Bool) → key_before l (cond x (Pair k v (Pair m w ps)) (cond y (Pair k v ps) (Pair m w (put k v ps)))) ≡ true
    go true y = h
    go false true = h
    go false false = b

pub put_rising : (k : Scalar) (v : Value) (ps : Pairs) → Rising ps → Rising (put k v ps)
put_rising k v NoPairs r = (refl, tt)
put_rising k v (Pair l w ps) (b, rest) = go (scalar_lt k l) refl (scalar_eq k l) refl (put_rising k v ps rest)
  where
    go : (x : Bool) → scalar_lt k l ≡ x → (y : Bool) → scalar_eq k l ≡ y → Rising (put k v ps) → Rising (cond x (Pair k v (Pair l w ps)) (cond y (Pair k v ps) (Pair l w (put k v ps))))
    go true e y d more = (e, (b, rest))
    go false e true d more = (ap (λ x. key_before x ps) ((scalar_decides k l).0 d) ∙ b, rest)
    go false e false d more = (before_put l k v ps (otherwise k l e d) b, more)

-- PAIRS ONE AFTER ANOTHER

abbrev pub then_pairs : Pairs → Pairs → Pairs
then_pairs NoPairs qs = qs
then_pairs (Pair k v ps) qs = Pair k v (then_pairs ps qs)

then_none : (ps : Pairs) → ps ≡ then_pairs ps NoPairs
then_none NoPairs = refl
then_none (Pair k v ps) = ap (Pair k v) (then_none ps)

then_then : (ps qs rs : Pairs) → then_pairs (then_pairs ps qs) rs ≡ then_pairs ps (then_pairs qs rs)
then_then NoPairs qs rs = refl
then_then (Pair k v ps) qs rs = ap (Pair k v) (then_then ps qs rs)

-- each key is less than this one
abbrev AllBelow : Scalar → Pairs → Type 0
AllBelow k NoPairs = ⊤
AllBelow k (Pair l w ps) = (scalar_lt l k ≡ true) × AllBelow k ps

raised : (k l : Scalar) (ps : Pairs) → scalar_lt k l ≡ true → AllBelow k ps → AllBelow l ps
raised k l NoPairs h a = tt
raised k l (Pair m w ps) h (one, more) = (less_less m k l one h, raised k l ps h more)

one_below : (k l : Scalar) (v : Value) (ps : Pairs) → scalar_lt k l ≡ true → AllBelow l ps → AllBelow l (then_pairs ps (Pair k v NoPairs))
one_below k l v NoPairs h a = (h, tt)
one_below k l v (Pair m w ps) h (one, more) = (one, one_below k l v ps h more)

put_last : (k : Scalar) (v : Value) (ps : Pairs) → AllBelow k ps → put k v ps ≡ then_pairs ps (Pair k v NoPairs)
put_last k v NoPairs a = refl
put_last k v (Pair l w ps) (one, more) =
    ap (λ b. cond b (Pair k v (Pair l w ps)) (cond (scalar_eq k l) (Pair k v ps) (Pair l w (put k v ps)))) (not_below l k one)
    ∙ ap (λ b. cond b (Pair k v ps) (Pair l w (put k v ps))) (not_same l k one) ∙ ap (Pair l w) (put_last k v ps more)

abbrev Follows : Pairs → Pairs → Type 0
Follows front NoPairs = ⊤
Follows front (Pair k v ps) = AllBelow k front

follow : (front : Pairs) (k : Scalar) (v : Value) (ps : Pairs) → AllBelow k front → key_before k ps ≡ true → Follows (then_pairs front (Pair k v NoPairs)) ps
follow front k v NoPairs a h = tt
follow front k v (Pair l w ps) a h = one_below k l v front h (raised k l front h a)

-- the pairs of a map put in, in their order
abbrev pub put_all : Pairs → Pairs → Pairs
put_all NoPairs front = front
put_all (Pair k v ps) front = put_all ps (put k v front)

put_behind : (front ps : Pairs) → Rising ps → Follows front ps → put_all ps front ≡ then_pairs front ps
put_behind front NoPairs r f = then_none front
put_behind front (Pair k v ps) (next, rest) f =
    ap (put_all ps) (put_last k v front f) ∙ put_behind (then_pairs front (Pair k v NoPairs)) ps rest (follow front k v ps f next) ∙ then_then front (Pair k v NoPairs) ps

pub put_all_rising : (ps : Pairs) → Rising ps → put_all ps NoPairs ≡ ps
put_all_rising NoPairs r = refl
put_all_rising (Pair k v ps) r = put_behind NoPairs (Pair k v ps) r tt
