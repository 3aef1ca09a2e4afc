-- Lists and maps whose messages are cleared one after another.
use Rattle.std.proofs.Common.{◌≡◌, ℕ, zero, suc, ◌<◌, ◌≤◌, ◌++◌, List, [], ◌∷◌, length, map, Option, refl, ap, sym, ◌∙◌, subst, arith, get_or, take, drop}
use Rattle.std.proofs.lemmas.List.{append_assoc, append-nil, map-append}
use Rattle.std.proofs.Math.ListN.{set}
use Rattle.prost_reflect_wire.specs.Scalar.{Scalar}
use Rattle.prost_reflect_wire.specs.Content.{Content, Value, Values, NoValues, Item, Pairs, NoPairs, Pair, ScalarValue, MessageValue, ListValue, MapValue, values_from}
use Rattle.prost_reflect_wire.specs.Schema.{Kind, Schema}
use Rattle.prost_reflect_wire.specs.Edit.{in_message}
use Rattle.prototool_commands.specs.Redacting.{in_values, in_pairs, cleared_along, IsWell, AreWell, PairsWell, HoldsWell, ClearsElement}
use Rattle.prototool_commands.proofs.RedactedValues.{SoundValue, message_sound, item_parts, pair_parts}

-- WHAT IS SOUND HAS SOUND MESSAGES

element_well : (schema : Schema) (kind : Option Kind) (v : Value) → SoundValue schema kind v → IsWell v
element_well schema kind (ScalarValue v) s = tt
element_well schema kind (MessageValue c) s = (message_sound schema kind c s).1
element_well schema kind (ListValue vs) s = tt
element_well schema kind (MapValue ps) s = tt

list_well : (schema : Schema) (kind : Option Kind) (vs : Values) → SoundValue schema kind (ListValue vs) → AreWell vs
list_well schema kind NoValues s = tt
list_well schema kind (Item v vs) s = let (here, behind) = item_parts schema kind v vs s in (element_well schema kind v here, list_well schema kind vs behind)

map_well : (schema : Schema) (kind : Option Kind) (ps : Pairs) → SoundValue schema kind (MapValue ps) → PairsWell ps
map_well schema kind NoPairs s = tt
map_well schema kind (Pair k v ps) s = let (before, here, behind) = pair_parts schema kind k v ps s in (element_well schema kind v here, map_well schema kind ps behind)

pub value_well : (schema : Schema) (kind : Option Kind) (v : Value) → SoundValue schema kind v → HoldsWell v
value_well schema kind (ScalarValue v) s = tt
value_well schema kind (MessageValue c) s = (message_sound schema kind c s).1
value_well schema kind (ListValue vs) s = list_well schema kind vs s
value_well schema kind (MapValue ps) s = map_well schema kind ps s

-- ELEMENT AFTER ELEMENT

-- the first elements were changed
abbrev pub in_first : (Content → Content) → ℕ → Values → Values
in_first change zero vs = vs
in_first change (suc i) NoValues = NoValues
in_first change (suc i) (Item v vs) = Item (in_message v change) (in_first change i vs)

-- what was written back over a list of its length is the list
written_back : {V : Type 0} (xs ys : List V) → length xs ≡ length ys → take (length xs) (xs ++ drop (length xs) ys) ≡ xs
written_back [] ys l = refl
written_back (x ∷ xs) [] l = absurd (omega (arith, l))
written_back (x ∷ xs) (y ∷ ys) l = ap (λ zs. x ∷ zs) (written_back xs ys (omega (arith, l)))

module _ {V : Type 0} (view : V → Value) (path : List ℕ) where
  pub one_more_changed : (i : ℕ) (xs : List V) (old : Values) (d y : V) → AreWell old → values_from (map view xs) ≡ in_first (cleared_along path) i old → i < length xs → ClearsElement path (view (get_or xs i d)) (view y)
      → values_from (map view (set xs i y)) ≡ in_first (cleared_along path) (suc i) old
  one_more_changed i [] old d y w e l s = absurd (omega (arith, l))
  one_more_changed zero (x ∷ xs) NoValues d y w e l s = cc
  one_more_changed zero (x ∷ xs) (Item v vs) d y w e l s =
      let here : view x ≡ v = cc in
      let behind : values_from (map view xs) ≡ vs = cc in
      λ i. Item ((s.cleared (subst IsWell (sym here) w.0) ∙ ap (λ z. in_message z (cleared_along path)) here) i) (behind i)
  one_more_changed (suc i) (x ∷ xs) NoValues d y w e l s = cc
  one_more_changed (suc i) (x ∷ xs) (Item v vs) d y w e l s =
      let here : view x ≡ in_message v (cleared_along path) = cc in
      let behind : values_from (map view xs) ≡ in_first (cleared_along path) i vs = cc in
      λ j. Item (here j) (one_more_changed i xs vs d y w.1 behind (omega (arith, l)) s j)

  pub one_changed_at : (i j : ℕ) (xs : List V) (old : Values) (d y : V) → j ≡ suc i → i < length xs → (AreWell old → values_from (map view xs) ≡ in_first (cleared_along path) i old) → ClearsElement path (view (get_or xs i d)) (view y)
      → AreWell old → values_from (map view (set xs i y)) ≡ in_first (cleared_along path) j old
  one_changed_at i j xs old d y next less e s w = subst (λ k. values_from (map view (set xs i y)) ≡ in_first (cleared_along path) k old) (sym next) (one_more_changed i xs old d y w (e w) less s)

  pub all_changed : (i : ℕ) (xs : List V) (old : Values) → values_from (map view xs) ≡ in_first (cleared_along path) i old → length xs ≤ i → values_from (map view xs) ≡ in_values (cleared_along path) old
  all_changed zero [] NoValues e l = refl
  all_changed zero [] (Item v vs) e l = cc
  all_changed (suc i) [] NoValues e l = refl
  all_changed (suc i) [] (Item v vs) e l = cc
  all_changed zero (x ∷ xs) old e l = absurd (omega (arith, l))
  all_changed (suc i) (x ∷ xs) NoValues e l = cc
  all_changed (suc i) (x ∷ xs) (Item v vs) e l =
      let here : view x ≡ in_message v (cleared_along path) = cc in
      let behind : values_from (map view xs) ≡ in_first (cleared_along path) i vs = cc in
      λ j. Item (here j) (all_changed i xs vs behind (omega (arith, l)) j)

  pub all_changed_back : (i n : ℕ) (xs ys : List V) (old : Values) → n ≡ length xs → length xs ≡ length ys → length xs ≤ i → (AreWell old → values_from (map view xs) ≡ in_first (cleared_along path) i old)
      → AreWell old → values_from (map view (take n (xs ++ drop (length xs) ys))) ≡ in_values (cleared_along path) old
  all_changed_back i n xs ys old e l done h w =
      ap (λ k. values_from (map view (take k (xs ++ drop (length xs) ys)))) e
      ∙ ap (λ zs. values_from (map view zs)) (written_back xs ys l)
      ∙ all_changed i xs old (h w) done

-- ENTRY AFTER ENTRY

abbrev pub shown : {K V : Type 0} → (V → Value) → List (K × V) → List (K × Value)
shown view es = map (λ e. (e.0, view e.1)) es

abbrev pub changed : {K V : Type 0} → (V → Value) → (Content → Content) → List (K × V) → List (K × Value)
changed view F es = map (λ e. (e.0, in_message (view e.1) F)) es

abbrev pub pairs_of : {K : Type 0} → (K → Scalar) → List (K × Value) → Pairs
pairs_of key [] = NoPairs
pairs_of key (e ∷ es) = Pair (key e.0) e.1 (pairs_of key es)

module _ {K V : Type 0} (key : K → Scalar) (view : V → Value) where
  pub changed_pairs : (F : Content → Content) (es : List (K × V)) → pairs_of key (changed view F es) ≡ in_pairs F (pairs_of key (shown view es))
  changed_pairs F [] = refl
  changed_pairs F (e ∷ es) = ap (Pair (key e.0) (in_message (view e.1) F)) (changed_pairs F es)

  pub well_behind : (done : List (K × V)) (e : K × V) (rest : List (K × V)) → PairsWell (pairs_of key (shown view (done ++ e ∷ rest))) → IsWell (view e.1)
  well_behind [] e rest w = w.0
  well_behind (d ∷ done) e rest w = well_behind done e rest w.1

abbrev keys : {K V : Type 0} → List (K × V) → List K
keys es = map (λ e. e.0) es

-- the entries that were changed so far, and those that are left
pub record EntriesSoFar {K V : Type 0} (key : K → Scalar) (view : V → Value) (path : List ℕ) (all left new : List (K × V)) : Type 0 where
  pub done : List (K × V)
  pub parts : all ≡ done ++ left
  pub same : keys new ≡ keys done
  pub values : PairsWell (pairs_of key (shown view all)) → shown view new ≡ changed view (cleared_along path) done

module _ {K V : Type 0} (key : K → Scalar) (view : V → Value) (path : List ℕ) where
  abbrev F : Content → Content
  F = cleared_along path

  -- one more, which was put behind them
  pub one_entry : (all left new next : List (K × V)) (e : K × V) (y : V) → EntriesSoFar key view path all (e ∷ left) new → ClearsElement path (view e.1) (view y) → next ≡ new ++ (e.0, y) ∷ [] → EntriesSoFar key view path all left next
  one_entry all left new next e y s cleared is = record {
    done = s.done ++ e ∷ [];
    parts = s.parts ∙ sym (append_assoc s.done (e ∷ []) left);
    same = ap keys is ∙ map-append (λ e. e.0) new ((e.0, y) ∷ []) ∙ ap (λ ks. ks ++ e.0 ∷ []) s.same ∙ sym (map-append (λ e. e.0) s.done (e ∷ []));
    values = λ w.
        ap (shown view) is
        ∙ map-append (λ (d : K × V). (d.0, view d.1)) new ((e.0, y) ∷ [])
        ∙ (λ i. s.values w i ++ (e.0, cleared.cleared (well_behind key view s.done e left (subst (λ es. PairsWell (pairs_of key (shown view es))) s.parts w)) i) ∷ [])
        ∙ sym (map-append (λ (d : K × V). (d.0, in_message (view d.1) F)) s.done (e ∷ []));
  }

  pub all_entries : (all new : List (K × V)) → EntriesSoFar key view path all [] new → PairsWell (pairs_of key (shown view all)) → pairs_of key (shown view new) ≡ in_pairs F (pairs_of key (shown view all))
  all_entries all new s w =
      ap (pairs_of key) (s.values w)
      ∙ ap (λ es. pairs_of key (changed view F es)) (sym (append-nil s.done) ∙ sym s.parts)
      ∙ changed_pairs key view F all
