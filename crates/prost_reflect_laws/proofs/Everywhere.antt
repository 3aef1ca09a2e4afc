-- Tests of every entry at every depth.
use Rattle.std.specs.Prelude.{◌≡◌, ◌&&◌}
use Rattle.prost_reflect_laws.proofs.Common.{ℕ, true, List, refl, and_parts, and_from, Field, known, Content, ContentOf, Entries, NoEntries, Stored, Unknown, Value, ScalarValue, MessageValue, ListValue, MapValue, Values, NoValues, Item, Pairs, NoPairs, Pair, EntryTest, everywhere, entries_pass, value_passes, values_pass, pairs_pass}

-- what a test says of a value and what stands behind it
pub record StoredPasses (test : EntryTest) (fields : List Field) (n : ℕ) (v : Value) (es : Entries) : Type 0 where
  pub here : test.stored fields n v es ≡ true
  pub inside : value_passes test v ≡ true
  pub behind : entries_pass test fields es ≡ true

pub stored_passes : (test : EntryTest) (fields : List Field) (n : ℕ) (v : Value) (es : Entries) → entries_pass test fields (Stored n v es) ≡ true → StoredPasses test fields n v es
stored_passes test fields n v es h =
    let (ab, c) = and_parts (test.stored fields n v es && value_passes test v) (entries_pass test fields es) h in
    let (a, b) = and_parts (test.stored fields n v es) (value_passes test v) ab in
    record { here = a; inside = b; behind = c }

-- both of two tests
abbrev pub both_tests : EntryTest → EntryTest → EntryTest
both_tests a b = record { stored = λ fields n v es. a.stored fields n v es && b.stored fields n v es; unknown = λ fields n p. a.unknown fields n p && b.unknown fields n p }

mutual
  pub both_pass : (a b : EntryTest) (c : Content) → everywhere a c ≡ true → everywhere b c ≡ true → everywhere (both_tests a b) c ≡ true
  both_pass a b (ContentOf schema T es) h k = entries_both a b (known schema T) es h k

  pub entries_both : (a b : EntryTest) (fields : List Field) (es : Entries) → entries_pass a fields es ≡ true → entries_pass b fields es ≡ true → entries_pass (both_tests a b) fields es ≡ true
  entries_both a b fields NoEntries h k = refl
  entries_both a b fields (Stored n v es) h k =
      let x = stored_passes a fields n v es h in
      let y = stored_passes b fields n v es k in
      and_from _ _ (and_from _ _ (and_from _ _ x.here y.here) (value_both a b v x.inside y.inside)) (entries_both a b fields es x.behind y.behind)
  entries_both a b fields (Unknown n p es) h k =
      let (x, x') = and_parts (a.unknown fields n p) (entries_pass a fields es) h in
      let (y, y') = and_parts (b.unknown fields n p) (entries_pass b fields es) k in
      and_from _ _ (and_from _ _ x y) (entries_both a b fields es x' y')

  pub value_both : (a b : EntryTest) (v : Value) → value_passes a v ≡ true → value_passes b v ≡ true → value_passes (both_tests a b) v ≡ true
  value_both a b (ScalarValue v) h k = refl
  value_both a b (MessageValue c) h k = both_pass a b c h k
  value_both a b (ListValue vs) h k = values_both a b vs h k
  value_both a b (MapValue ps) h k = pairs_both a b ps h k

  values_both : (a b : EntryTest) (vs : Values) → values_pass a vs ≡ true → values_pass b vs ≡ true → values_pass (both_tests a b) vs ≡ true
  values_both a b NoValues h k = refl
  values_both a b (Item v vs) h k =
      let (x, x') = and_parts (value_passes a v) (values_pass a vs) h in
      let (y, y') = and_parts (value_passes b v) (values_pass b vs) k in
      and_from _ _ (value_both a b v x y) (values_both a b vs x' y')

  pairs_both : (a b : EntryTest) (ps : Pairs) → pairs_pass a ps ≡ true → pairs_pass b ps ≡ true → pairs_pass (both_tests a b) ps ≡ true
  pairs_both a b NoPairs h k = refl
  pairs_both a b (Pair x v ps) h k =
      let (l, l') = and_parts (value_passes a v) (pairs_pass a ps) h in
      let (m, m') = and_parts (value_passes b v) (pairs_pass b ps) k in
      and_from _ _ (value_both a b v l m) (pairs_both a b ps l' m')

-- and each of them
mutual
  pub both_parts : (a b : EntryTest) (c : Content) → everywhere (both_tests a b) c ≡ true → (everywhere a c ≡ true) × (everywhere b c ≡ true)
  both_parts a b (ContentOf schema T es) h = entries_parts a b (known schema T) es h

  pub entries_parts : (a b : EntryTest) (fields : List Field) (es : Entries) → entries_pass (both_tests a b) fields es ≡ true → (entries_pass a fields es ≡ true) × (entries_pass b fields es ≡ true)
  entries_parts a b fields NoEntries h = (refl, refl)
  entries_parts a b fields (Stored n v es) h =
      let x = stored_passes (both_tests a b) fields n v es h in
      let (here, here') = and_parts (a.stored fields n v es) (b.stored fields n v es) x.here in
      let (inside, inside') = value_parts a b v x.inside in
      let (behind, behind') = entries_parts a b fields es x.behind in
      (and_from _ _ (and_from _ _ here inside) behind, and_from _ _ (and_from _ _ here' inside') behind')
  entries_parts a b fields (Unknown n p es) h =
      let (here, behind) = and_parts (a.unknown fields n p && b.unknown fields n p) (entries_pass (both_tests a b) fields es) h in
      let (one, two) = and_parts (a.unknown fields n p) (b.unknown fields n p) here in
      let (rest, rest') = entries_parts a b fields es behind in
      (and_from _ _ one rest, and_from _ _ two rest')

  pub value_parts : (a b : EntryTest) (v : Value) → value_passes (both_tests a b) v ≡ true → (value_passes a v ≡ true) × (value_passes b v ≡ true)
  value_parts a b (ScalarValue v) h = (refl, refl)
  value_parts a b (MessageValue c) h = both_parts a b c h
  value_parts a b (ListValue vs) h = values_parts a b vs h
  value_parts a b (MapValue ps) h = pairs_parts a b ps h

  values_parts : (a b : EntryTest) (vs : Values) → values_pass (both_tests a b) vs ≡ true → (values_pass a vs ≡ true) × (values_pass b vs ≡ true)
  values_parts a b NoValues h = (refl, refl)
  values_parts a b (Item v vs) h =
      let (one, more) = and_parts (value_passes (both_tests a b) v) (values_pass (both_tests a b) vs) h in
      let (x, y) = value_parts a b v one in
      let (x', y') = values_parts a b vs more in
      (and_from _ _ x x', and_from _ _ y y')

  pairs_parts : (a b : EntryTest) (ps : Pairs) → pairs_pass (both_tests a b) ps ≡ true → (pairs_pass a ps ≡ true) × (pairs_pass b ps ≡ true)
  pairs_parts a b NoPairs h = (refl, refl)
  pairs_parts a b (Pair k v ps) h =
      let (one, more) = and_parts (value_passes (both_tests a b) v) (pairs_pass (both_tests a b) ps) h in
      let (x, y) = value_parts a b v one in
      let (x', y') = pairs_parts a b ps more in
      (and_from _ _ x x', and_from _ _ y y')
