-- A map, carried through a reduction.
use Rattle.std.specs.Prelude.{◌++◌, ◌≡◌, ◌&&◌, ◌∷◌}
use Rattle.prost_reflect_laws.proofs.Common.{ℕ, Bool, true, false, cond, not, List, [], flat_map, Some, refl, ap, ap₂, sym, subst, ◌∙◌, true≢false, ⊤, list_all, and_parts, and_from, Payload, payload_valid, Scalar, ScalarKind, scalar_lt, scalar_eq, ScalarOf, ValueType, MapFrom, Field, is_key_kind, has_kind_default, default_valid, Value, ScalarValue, Pairs, NoPairs, Pair, pairs_ordered, AllowsInside, records_in, has_level, field_allowed, value_payloads, stray_payloads, MeansInside, entry_key, entry_value, put, put_entry, put_entries, present_map, pair_payload, pair_payloads, key_of, kind_takes, element_valid, pairs_valid, TypePairs, same_kind, scalar_decides}
use Rattle.prost_reflect_laws.proofs.Spelt.{SoundPayloads}
use Rattle.prost_reflect_laws.proofs.Alike.{SameType, default_alike}
use Rattle.prost_reflect_laws.proofs.ByNumber.{stored_payloads}
use Rattle.prost_reflect_laws.proofs.Again.{Carries, scalar_again, FieldAgain}
use Rattle.prost_reflect_laws.proofs.EntryAgain.{map_source, Entry, entry_of, key_takes, key_same, ValueAgain, value_again, PairReads, PairAgain, pair_again}
use Rattle.prost_reflect_laws.proofs.Putting.{Rising, put_rising, put_all, put_all_rising, pairs_rising}

-- EACH PAIR

-- pairs of the same keys, whose values the older type writes so that the newer one reads them
abbrev PairsAgain : ℕ → AllowsInside → MeansInside → ValueType → ValueType → ValueType → ValueType → Pairs → Pairs → Type 0
PairsAgain k a j keyA tA keyB tB NoPairs NoPairs = ⊤
PairsAgain k a j keyA tA keyB tB (Pair x v ps) (Pair y w qs) = (y ≡ x) × PairAgain k a j keyA tA keyB tB x v w × PairsAgain k a j keyA tA keyB tB ps qs
PairsAgain k a j keyA tA keyB tB NoPairs (Pair y w qs) = ⊥
PairsAgain k a j keyA tA keyB tB (Pair x v ps) NoPairs = ⊥

put_again : (k : ℕ) (a : AllowsInside) (j : MeansInside) (keyA tA keyB tB : ValueType) (x : Scalar) (v w : Value) (ps qs : Pairs) → PairAgain k a j keyA tA keyB tB x v w → PairsAgain k a j keyA tA keyB tB ps qs → PairsAgain k a j keyA tA keyB tB (put x v ps) (put x w qs)
put_again k a j keyA tA keyB tB x v w NoPairs NoPairs one h = (refl, one, tt)
put_again k a j keyA tA keyB tB x v w (Pair l u ps) (Pair m y qs) one (e, here, rest) =
    subst (λ m. PairsAgain k a j keyA tA keyB tB (put x v (Pair l u ps)) (put x w (Pair m y qs))) (sym e) (go (scalar_lt x l) (scalar_eq x l) (put_again k a j keyA tA keyB tB x v w ps qs one rest))
  where
    go : (b c : Bool) → PairsAgain k a j keyA tA keyB tB (put x v ps) (put x w qs) →
        PairsAgain k a j keyA tA keyB tB (cond b (Pair x v (Pair l u ps)) (cond c (Pair x v ps) (Pair l u (put x v ps)))) (cond b (Pair x w (Pair l y qs)) (cond c (Pair x w qs) (Pair l y (put x w qs))))
    go true c more = (refl, one, (refl, here, rest))
    go false true more = (refl, one, rest)
    go false false more = (refl, here, more)
put_again k a j keyA tA keyB tB x v w _ _ one h = absurd h

-- what is known of a map's types
pub record MapTypes (pairs : TypePairs) (keyA tA keyB tB : ValueType) : Type 0 where
  pub key : SameType pairs keyA keyB
  pub value : SameType pairs tA tB
  pub keyed : is_key_kind keyA.kind ≡ true
  pub key_default : has_kind_default keyA ≡ true
  pub default : default_valid tA.kind tA.default ≡ true

entries_again : (pairs : TypePairs) (k : ℕ) (i : MeansInside) (a : AllowsInside) (j : MeansInside) (keyA tA keyB tB : ValueType) (qs : List Payload) (ps rs : Pairs) → Carries pairs k i a j → MapTypes pairs keyA tA keyB tB → list_all (map_source k a keyB tB) qs ≡ true →
    PairsAgain k a j keyA tA keyB tB ps rs → PairsAgain k a j keyA tA keyB tB (put_entries i keyA tA qs ps) (put_entries j keyB tB qs rs)
entries_again pairs k i a j keyA tA keyB tB [] ps rs c t all h = h
entries_again pairs k i a j keyA tA keyB tB (q ∷ qs) ps rs c t all h =
    let (one, more) = and_parts (map_source k a keyB tB q) (list_all (map_source k a keyB tB) qs) all in
    let e : Entry k a keyB tB (records_in q) = entry_of k a keyB tB q one in
    let v : Value = entry_value i tA tA.kind (records_in q) in
    let w : Value = entry_value j tB tB.kind (records_in q) in
    let pair : PairAgain k a j keyA tA keyB tB (entry_key keyA (records_in q)) (entry_value i tA tA.kind (records_in q)) (entry_value j tB tB.kind (records_in q)) =
    pair_again pairs k a j keyA tA keyB tB (entry_key keyA (records_in q)) v w t.key t.keyed t.key_default (key_takes keyA (records_in q) t.keyed e.keys_valid) e.level
    (value_again pairs k i a j tA tB tA.kind tB.kind (records_in q) c t.value.kind t.value.default t.default e.values_valid e.values_allowed e.stays e.level) in
    entries_again pairs k i a j keyA tA keyB tB qs (put_entry i keyA tA q ps) (put_entry j keyB tB q rs) c t more
    (subst (λ (x : Scalar). PairsAgain k a j keyA tA keyB tB (put_entry i keyA tA q ps) (put x w rs)) (sym (key_same pairs keyA keyB (records_in q) t.key t.keyed))
    (put_again k a j keyA tA keyB tB (entry_key keyA (records_in q)) v w ps rs pair h))

entries_rising : (inner : MeansInside) (key t : ValueType) (qs : List Payload) (ps : Pairs) → Rising ps → Rising (put_entries inner key t qs ps)
entries_rising inner key t [] ps r = r
entries_rising inner key t (q ∷ qs) ps r = entries_rising inner key t qs (put_entry inner key t q ps) (put_rising (entry_key key (records_in q)) (entry_value inner t t.kind (records_in q)) ps r)

-- WHAT IS WRITTEN OF THEM

pairs_sound : (k : ℕ) (a : AllowsInside) (j : MeansInside) (keyA tA keyB tB : ValueType) (ps qs : Pairs) → PairsAgain k a j keyA tA keyB tB ps qs → SoundPayloads (pair_payloads keyA tA ps)
pairs_sound k a j keyA tA keyB tB NoPairs qs h = tt
pairs_sound k a j keyA tA keyB tB (Pair x v ps) (Pair y w qs) (e, one, more) = (one.sound, pairs_sound k a j keyA tA keyB tB ps qs more)
pairs_sound k a j keyA tA keyB tB (Pair x v ps) NoPairs h = absurd h

record PairsRead (k : ℕ) (a : AllowsInside) (j : MeansInside) (key t : ValueType) (ps : List Payload) (qs : Pairs) : Type 0 where
  strays : flat_map (stray_payloads (MapFrom key) t) ps ≡ []
  values : flat_map (value_payloads (MapFrom key) t) ps ≡ ps
  puts : (front : Pairs) → put_entries j key t ps front ≡ put_all qs front
  allowed : list_all (field_allowed k a (MapFrom key) t) ps ≡ true

pairs_read : (k : ℕ) (a : AllowsInside) (j : MeansInside) (keyA tA keyB tB : ValueType) (ps qs : Pairs) → PairsAgain k a j keyA tA keyB tB ps qs → list_all payload_valid (pair_payloads keyA tA ps) ≡ true → PairsRead k a j keyB tB (pair_payloads keyA tA ps) qs
pairs_read k a j keyA tA keyB tB NoPairs NoPairs h spelt = record { strays = refl; values = refl; puts = λ front. refl; allowed = refl }
pairs_read k a j keyA tA keyB tB (Pair x v ps) (Pair y w qs) (e, one, more) spelt =
    let p : Payload = pair_payload keyA tA x v in
    let (here, behind) = and_parts (payload_valid (pair_payload keyA tA x v)) (list_all payload_valid (pair_payloads keyA tA ps)) spelt in
    let r : PairReads k a j keyB tB (pair_payload keyA tA x v) x w = one.read here in
    let rest : PairsRead k a j keyB tB (pair_payloads keyA tA ps) qs = pairs_read k a j keyA tA keyB tB ps qs more behind in
    record {
      strays = ap₂ ◌++◌ (ap (λ b. cond b (p ∷ []) []) r.stays) rest.strays;
      values = ap₂ ◌++◌ (ap (λ b. cond (not b) (p ∷ []) []) r.stays) rest.values;
      puts = λ front. ap (put_entries j keyB tB (pair_payloads keyA tA ps)) (ap₂ (λ l u. put l u front) (r.key_read ∙ sym e) r.value_read) ∙ rest.puts (put y w front);
      allowed = and_from _ _ r.allowed rest.allowed;
    }
pairs_read k a j keyA tA keyB tB _ _ h spelt = absurd h

map_stored : (f : Field) (key : ValueType) (ps : Pairs) → f.form ≡ MapFrom key → stored_payloads (Some f) (present_map ps) ≡ pair_payloads key f.value_type ps
map_stored f key NoPairs e = refl
map_stored f key (Pair x v ps) e = ap (λ c. pair_payloads (key_of c f.value_type) f.value_type (Pair x v ps)) e

-- a map that is carried
map_field : (k : ℕ) (a : AllowsInside) (j : MeansInside) (f : Field) (keyA keyB tB : ValueType) (ps rs : Pairs) → f.form ≡ MapFrom keyA → PairsAgain k a j keyA f.value_type keyB tB ps rs → Rising rs →
    FieldAgain k a j (MapFrom keyB) tB (stored_payloads (Some f) (present_map ps)) (present_map rs)
map_field k a j f keyA keyB tB ps rs form h rising =
    subst (λ (l : List Payload). FieldAgain k a j (MapFrom keyB) tB l (present_map rs)) (sym (map_stored f keyA ps form)) (record {
      sound = pairs_sound k a j keyA f.value_type keyB tB ps rs h;
      read = λ spelt.
          let r : PairsRead k a j keyB tB (pair_payloads keyA f.value_type ps) rs = pairs_read k a j keyA f.value_type keyB tB ps rs h spelt in
          record { strays = r.strays; value = ap (λ l. present_map (put_entries j keyB tB l NoPairs)) r.values ∙ ap present_map (r.puts NoPairs ∙ put_all_rising rs rising); allowed = r.allowed };
    })

-- the map that both types read of payloads
pub map_again : (pairs : TypePairs) (k : ℕ) (i : MeansInside) (a : AllowsInside) (j : MeansInside) (f : Field) (keyA keyB tB : ValueType) (qs : List Payload) → Carries pairs k i a j → f.form ≡ MapFrom keyA → MapTypes pairs keyA f.value_type keyB tB →
    list_all (map_source k a keyB tB) qs ≡ true → FieldAgain k a j (MapFrom keyB) tB (stored_payloads (Some f) (present_map (put_entries i keyA f.value_type qs NoPairs))) (present_map (put_entries j keyB tB qs NoPairs))
map_again pairs k i a j f keyA keyB tB qs c form t all =
    map_field k a j f keyA keyB tB (put_entries i keyA f.value_type qs NoPairs) (put_entries j keyB tB qs NoPairs) form (entries_again pairs k i a j keyA f.value_type keyB tB qs NoPairs NoPairs c t all tt) (entries_rising j keyB tB qs NoPairs tt)

-- a map to scalars that is there
scalars_each : (pairs : TypePairs) (k : ℕ) (a : AllowsInside) (j : MeansInside) (keyA tA keyB tB : ValueType) (kA kB : ScalarKind) (ps : Pairs) → MapTypes pairs keyA tA keyB tB → tA.kind ≡ ScalarOf kA → tB.kind ≡ ScalarOf kB → same_kind pairs (ScalarOf kA) (ScalarOf kB) ≡ true →
    pairs_valid (MapFrom keyA) (ScalarOf kA) ps ≡ true → PairsAgain k a j keyA tA keyB tB ps ps
scalars_each pairs k a j keyA tA keyB tB kA kB NoPairs t eA eB h ok = tt
scalars_each pairs k a j keyA tA keyB tB kA kB (Pair x v ps) t eA eB h ok =
    let (here, behind) = and_parts (kind_takes keyA.kind x && element_valid (ScalarOf kA) v) (pairs_valid (MapFrom keyA) (ScalarOf kA) ps) ok in
    let (takes, fits) = and_parts (kind_takes keyA.kind x) (element_valid (ScalarOf kA) v) here in
    (refl, pair_again pairs k a j keyA tA keyB tB x v v t.key t.keyed t.key_default takes (ap (has_level k) eB) (go v fits), scalars_each pairs k a j keyA tA keyB tB kA kB ps t eA eB h behind)
  where
    go : (v : Value) → element_valid (ScalarOf kA) v ≡ true → ValueAgain a j tA tB tA.kind tB.kind v v
    go (ScalarValue s) fits =
        subst (λ kd. ValueAgain a j tA tB kd tB.kind (ScalarValue s) (ScalarValue s)) (sym eA) (subst (λ kd. ValueAgain a j tA tB (ScalarOf kA) kd (ScalarValue s) (ScalarValue s)) (sym eB)
        (record { again = scalar_again pairs a j kA kB s h fits; absent = λ d. ap ScalarValue (default_alike pairs tA tB kA eA t.value ∙ sym ((scalar_decides s tA.default).0 (and_parts (not tA.presence) (scalar_eq s tA.default) d).1)) }))
    go _ fits = absurd (true≢false (sym fits))

pub scalar_map_again : (pairs : TypePairs) (k : ℕ) (a : AllowsInside) (j : MeansInside) (f : Field) (keyA keyB tB : ValueType) (kA kB : ScalarKind) (ps : Pairs) → f.form ≡ MapFrom keyA → MapTypes pairs keyA f.value_type keyB tB → f.value_type.kind ≡ ScalarOf kA → tB.kind ≡ ScalarOf kB →
    same_kind pairs (ScalarOf kA) (ScalarOf kB) ≡ true → pairs_valid (MapFrom keyA) (ScalarOf kA) ps ≡ true → pairs_ordered ps ≡ true → FieldAgain k a j (MapFrom keyB) tB (stored_payloads (Some f) (present_map ps)) (present_map ps)
scalar_map_again pairs k a j f keyA keyB tB kA kB ps form t eA eB h ok order =
    map_field k a j f keyA keyB tB ps ps form (scalars_each pairs k a j keyA f.value_type keyB tB kA kB ps t eA eB h ok) (pairs_rising ps order)
