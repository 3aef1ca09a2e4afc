-- Contents that are well-typed and of so many levels, number by number.
use Rattle.std.specs.Prelude.{◌≡◌, ◌≤◌, ◌&&◌, ◌||◌, ◌∷◌}
use Rattle.prost_reflect_laws.proofs.Common.{ℕ, Bool, true, false, cond, not, List, [], nat_eq, nat_le, Option, Some, None, refl, ap, sym, ◌∙◌, subst, arith, true≢false, list_any, list_all, eqb-true, eq-eqb, leb-true, le-leb, and_parts, and_from, or-true, Payload, Field, Schema, known, field_of, same_oneof, is_sibling, numbers_differ, passes, Content, Entries, NoEntries, Stored, Unknown, Value, Slot, value_at, unknowns_at, slot_at, then_unknowns, then_value, table, numbers_in, ordered, comes_before, entries_ordered, value_ordered, unknown_levels, levels, entries_levels, value_levels, value_valid, unknown_fits, EntryTest, everywhere, entries_pass, value_passes, fit_test, has_value_of, is_alone, alone_test, is_empty_value, is_stored_default, filled_test, default_test, kind_for, Typed, EntriesTyped, ValueTyped, WellTyped, Ascending, eqb-sym, both_max, field_number}
use Rattle.prost_reflect_laws.proofs.Everywhere.{stored_passes, both_tests, both_pass, both_parts, entries_parts}
use Rattle.prost_reflect_laws.proofs.Arranged.{OrderedOption, table_ordered}
use Rattle.prost_reflect_laws.proofs.Rebuilt.{rebuilt}

-- WHAT IS ASKED

abbrev pub deep_test : EntryTest
deep_test = both_tests fit_test (both_tests alone_test (both_tests filled_test default_test))

-- a content that is well-typed, of so many levels
pub record GoodContent (k : ℕ) (c : Content) : Type 0 where
  pub deep : everywhere deep_test c ≡ true
  pub types : Typed c
  pub order : ordered c ≡ true
  pub low : levels c ≤ k

pub record GoodEntries (schema : Schema) (fields : List Field) (k : ℕ) (es : Entries) : Type 0 where
  pub deep : entries_pass deep_test fields es ≡ true
  pub types : EntriesTyped schema fields es
  pub order : entries_ordered es ≡ true
  pub low : entries_levels fields es ≤ k

-- a value at a number
pub record GoodValue (schema : Schema) (o : Option Field) (k : ℕ) (v : Value) : Type 0 where
  pub valid : passes o (λ f. value_valid f v) ≡ true
  pub filled : not (passes o (λ f. is_empty_value f.form v)) ≡ true
  pub default : not (passes o (λ f. is_stored_default f v)) ≡ true
  pub deep : value_passes deep_test v ≡ true
  pub types : ValueTyped schema (kind_for o v) v
  pub order : value_ordered v ≡ true
  pub low : value_levels v ≤ k

abbrev pub unknown_good : Option Field → ℕ → ℕ → Payload → Bool
unknown_good o k n p = unknown_fits o n p && nat_le (unknown_levels o p) k

-- no two members of a oneof have a value
abbrev pub Apart : List Field → (ℕ → Slot) → Type 0
Apart fields at = (n m : ℕ) (f : Field) (v w : Value) → field_of fields n ≡ Some f → is_sibling fields f m ≡ true → (at n).value ≡ Some v → (at m).value ≡ Some w → ⊥

pub record GoodSlots (schema : Schema) (fields : List Field) (k : ℕ) (at : ℕ → Slot) : Type 0 where
  pub value : (n : ℕ) (v : Value) → (at n).value ≡ Some v → GoodValue schema (field_of fields n) k v
  pub unknown : (n : ℕ) → list_all (unknown_good (field_of fields n) k n) (at n).unknowns ≡ true
  pub alone : Apart fields at

-- SIBLINGS

has_any : (fields : List Field) (n : ℕ) (f : Field) (test : Field → Bool) → field_of fields n ≡ Some f → test f ≡ true → list_any test fields ≡ true
has_any [] n f test e h = absurd cc
has_any (g ∷ fields) n f test e h = go (nat_eq g.number n) e (has_any fields n f test)
  where
    go : (b : Bool) → cond b (Some g) (field_of fields n) ≡ Some f → (field_of fields n ≡ Some f → test f ≡ true → list_any test fields ≡ true) → (test g || list_any test fields) ≡ true
    go true e more =
        let same : g ≡ f = ap (λ (o : Option Field). elim o [ None ↦ g | Some x ↦ x ]) e in
        ap (λ b. b || list_any test fields) (ap test same ∙ h)
    go false e more = ap (λ b. test g || b) (more e h) ∙ or-true (test g)

or_either : (a b : Bool) → (a || b) ≡ true → a ≡ false → b ≡ true
or_either true b h e = absurd (true≢false e)
or_either false b h e = h

-- the field that is found at a number, where no two have one
found_there : (fields : List Field) (m : ℕ) (test : Field → Bool) → numbers_differ fields ≡ true → list_any (λ g. nat_eq g.number m && test g) fields ≡ true → (g : Field) × (field_of fields m ≡ Some g) × (test g ≡ true)
found_there [] m test d h = absurd (true≢false (sym h))
found_there (f ∷ fields) m test d h =
    let (apart, rest) = and_parts (not (list_any (λ g. nat_eq g.number f.number) fields)) (numbers_differ fields) d in
    go (nat_eq f.number m && test f) refl apart (found_there fields m test rest)
  where
    go : (b : Bool) → (nat_eq f.number m && test f) ≡ b → not (list_any (λ g. nat_eq g.number f.number) fields) ≡ true
        → (list_any (λ g. nat_eq g.number m && test g) fields ≡ true → (g : Field) × (field_of fields m ≡ Some g) × (test g ≡ true)) → (g : Field) × (field_of (f ∷ fields) m ≡ Some g) × (test g ≡ true)
    go true e apart more =
        let (a, b) = and_parts (nat_eq f.number m) (test f) e in
        (f, ap (λ b. cond b (Some f) (field_of fields m)) a, b)
    go false e apart more =
        let (g, found, t) = more (or_either (nat_eq f.number m && test f) (list_any (λ g. nat_eq g.number m && test g) fields) h e) in
        (g, ap (λ b. cond b (Some f) (field_of fields m)) (other (nat_eq f.number m) refl g found) ∙ found, t)
      where
        other : (b : Bool) → nat_eq f.number m ≡ b → (g : Field) → field_of fields m ≡ Some g → nat_eq f.number m ≡ false
        other false e g found = e
        other true e g found =
            let same : f.number ≡ m = eqb-true f.number m e in
            let number : g.number ≡ f.number = field_number fields m g found ∙ sym same in
            absurd (true≢false (sym apart ∙ ap not (has_any fields m g (λ g. nat_eq g.number f.number) found (eq-eqb g.number f.number number))))

same_oneof_back : (a b : Option ℕ) → same_oneof a b ≡ true → same_oneof b a ≡ true
same_oneof_back (Some a) (Some b) h = eqb-sym b a ∙ h
same_oneof_back _ _ h = absurd (true≢false (sym h))

-- a sibling has its sibling
pub sibling_back : (fields : List Field) (n m : ℕ) (f : Field) → numbers_differ fields ≡ true → field_of fields n ≡ Some f → is_sibling fields f m ≡ true → (g : Field) × (field_of fields m ≡ Some g) × (is_sibling fields g n ≡ true)
sibling_back fields n m f d e h =
    let (apart, shares) = and_parts (not (nat_eq m f.number)) (list_any (λ g. nat_eq g.number m && same_oneof g.oneof f.oneof) fields) h in
    let (g, found, same) = found_there fields m (λ g. same_oneof g.oneof f.oneof) d shares in (
      g,
      found,
      and_from _ _ (ap not (ap (nat_eq n) (field_number fields m g found) ∙ eqb-sym n m ∙ ap (nat_eq m) (sym (field_number fields n f e))) ∙ apart)
          (has_any fields n f (λ x. nat_eq x.number n && same_oneof x.oneof g.oneof) e (and_from _ _ (eq-eqb f.number n (field_number fields n f e)) (same_oneof_back g.oneof f.oneof same))),
    )

-- no field is its own
pub not_own : (fields : List Field) (f : Field) (m : ℕ) → is_sibling fields f m ≡ true → nat_eq m f.number ≡ false
not_own fields f m h = go (nat_eq m f.number) (and_parts (not (nat_eq m f.number)) (list_any (λ g. nat_eq g.number m && same_oneof g.oneof f.oneof) fields) h).0
  where
    go : (b : Bool) → not b ≡ true → b ≡ false
    go true h = absurd (true≢false (sym h))
    go false h = refl

-- a field is a sibling of its siblings, and of no others
pub siblings_mutual : (fields : List Field) (f : Field) → numbers_differ fields ≡ true → field_of fields f.number ≡ Some f → (m : ℕ) (g : Field) → field_of fields m ≡ Some g → is_sibling fields g f.number ≡ is_sibling fields f m
siblings_mutual fields f d found m g at = go (is_sibling fields g f.number) refl (is_sibling fields f m) refl
  where
    one : (a b : Field) (o : Option Field) → o ≡ Some a → o ≡ Some b → a ≡ b
    one a b o x y = ap (λ (o : Option Field). elim o [ None ↦ a | Some x ↦ x ]) (sym x ∙ y)

    go : (a : Bool) → is_sibling fields g f.number ≡ a → (b : Bool) → is_sibling fields f m ≡ b → a ≡ b
    go true x true y = refl
    go false x false y = refl
    go true x false y =
        let (h, other, back) = sibling_back fields m f.number g d at x in
        absurd (true≢false (sym back ∙ ap (λ (z : Field). is_sibling fields z m) (one h f (field_of fields f.number) other found) ∙ y))
    go false x true y =
        let (h, other, back) = sibling_back fields f.number m f d found y in
        absurd (true≢false (sym back ∙ ap (λ (z : Field). is_sibling fields z f.number) (one h g (field_of fields m) other at) ∙ x))

-- FROM ENTRIES TO SLOTS

-- what the tests say of a stored value
pub record DeepParts (fields : List Field) (n : ℕ) (v : Value) (es : Entries) : Type 0 where
  pub valid : passes (field_of fields n) (λ f. value_valid f v) ≡ true
  pub alone : is_alone fields (field_of fields n) es ≡ true
  pub filled : not (passes (field_of fields n) (λ f. is_empty_value f.form v)) ≡ true
  pub default : not (passes (field_of fields n) (λ f. is_stored_default f v)) ≡ true

deep_parts : (fields : List Field) (n : ℕ) (v : Value) (es : Entries) → deep_test.stored fields n v es ≡ true → DeepParts fields n v es
deep_parts fields n v es h =
    let a : Bool = passes (field_of fields n) (λ f. value_valid f v) in
    let b : Bool = is_alone fields (field_of fields n) es in
    let c : Bool = not (passes (field_of fields n) (λ f. is_empty_value f.form v)) in
    let d : Bool = not (passes (field_of fields n) (λ f. is_stored_default f v)) in
    let (one, bcd) = and_parts a (b && (c && d)) h in
    let (two, cd) = and_parts b (c && d) bcd in
    let (three, four) = and_parts c d cd in
    record { valid = one; alone = two; filled = three; default = four }

pub record StoredGood (schema : Schema) (fields : List Field) (k n : ℕ) (v : Value) (es : Entries) : Type 0 where
  pub here : GoodValue schema (field_of fields n) k v
  pub alone : is_alone fields (field_of fields n) es ≡ true
  pub behind : GoodEntries schema fields k es

stored_good : (schema : Schema) (fields : List Field) (k n : ℕ) (v : Value) (es : Entries) → GoodEntries schema fields k (Stored n v es) → StoredGood schema fields k n v es
stored_good schema fields k n v es g =
    let x = stored_passes deep_test fields n v es g.deep in
    let p : DeepParts fields n v es = deep_parts fields n v es x.here in
    let (ab, rest) = and_parts (comes_before n es && value_ordered v) (entries_ordered es) g.order in
    let (low, low') = both_max (value_levels v) (entries_levels fields es) k g.low in
    record {
      here = record { valid = p.valid; filled = p.filled; default = p.default; deep = x.inside; types = g.types.0; order = (and_parts (comes_before n es) (value_ordered v) ab).1; low = low };
      alone = p.alone;
      behind = record { deep = x.behind; types = g.types.1; order = rest; low = low' };
    }

pub record UnknownGood (schema : Schema) (fields : List Field) (k n : ℕ) (p : Payload) (es : Entries) : Type 0 where
  pub here : unknown_good (field_of fields n) k n p ≡ true
  pub behind : GoodEntries schema fields k es

module _ (schema : Schema) (fields : List Field) where
  unknown_parts : (k n : ℕ) (p : Payload) (es : Entries) → GoodEntries schema fields k (Unknown n p es) → UnknownGood schema fields k n p es
  unknown_parts k n p es g =
      let (here, behind) = and_parts (deep_test.unknown fields n p) (entries_pass deep_test fields es) g.deep in
      let (low, low') = both_max (unknown_levels (field_of fields n) p) (entries_levels fields es) k g.low in
      record {
        here = and_from _ _ (and_parts (unknown_fits (field_of fields n) n p) true here).0 (le-leb (unknown_levels (field_of fields n) p) k low);
        behind = record { deep = behind; types = g.types; order = (and_parts (comes_before n es) (entries_ordered es) g.order).1; low = low' };
      }

  value_good : (k : ℕ) (es : Entries) (n : ℕ) (v : Value) → GoodEntries schema fields k es → value_at n es ≡ Some v → GoodValue schema (field_of fields n) k v
  value_good k NoEntries n v g e = absurd cc
  value_good k (Stored m w es) n v g e =
      let s = stored_good schema fields k m w es g in
      go (nat_eq m n) refl e s.here (value_good k es n v s.behind)
    where
      go : (b : Bool) → nat_eq m n ≡ b → cond b (Some w) (value_at n es) ≡ Some v → GoodValue schema (field_of fields m) k w → (value_at n es ≡ Some v → GoodValue schema (field_of fields n) k v) → GoodValue schema (field_of fields n) k v
      go true e f here more =
          let same : w ≡ v = ap (λ (o : Option Value). elim o [ None ↦ w | Some x ↦ x ]) f in
          subst (λ (x : Value). GoodValue schema (field_of fields n) k x) same (subst (λ (x : ℕ). GoodValue schema (field_of fields x) k w) (eqb-true m n e) here)
      go false e f here more = more f
  value_good k (Unknown m p es) n v g e = value_good k es n v (unknown_parts k m p es g).behind e

  unknowns_good : (k : ℕ) (es : Entries) (n : ℕ) → GoodEntries schema fields k es → list_all (unknown_good (field_of fields n) k n) (unknowns_at n es) ≡ true
  unknowns_good k NoEntries n g = refl
  unknowns_good k (Stored m w es) n g = unknowns_good k es n (stored_good schema fields k m w es g).behind
  unknowns_good k (Unknown m p es) n g =
      let u = unknown_parts k m p es g in
      go (nat_eq m n) refl u.here (unknowns_good k es n u.behind)
    where
      go : (b : Bool) → nat_eq m n ≡ b → unknown_good (field_of fields m) k m p ≡ true → list_all (unknown_good (field_of fields n) k n) (unknowns_at n es) ≡ true
          → list_all (unknown_good (field_of fields n) k n) (cond b (p ∷ unknowns_at n es) (unknowns_at n es)) ≡ true
      go true e here more = and_from _ _ (ap (λ (x : ℕ). unknown_good (field_of fields x) k x p) (sym (eqb-true m n e)) ∙ here) more
      go false e here more = more

-- a value that is there is among the values
there : (test : ℕ → Bool) (es : Entries) (n : ℕ) (v : Value) → value_at n es ≡ Some v → test n ≡ true → has_value_of test es ≡ true
there test NoEntries n v e h = absurd cc
there test (Stored m w es) n v e h = go (nat_eq m n) refl e (there test es n v)
  where
    go : (b : Bool) → nat_eq m n ≡ b → cond b (Some w) (value_at n es) ≡ Some v → (value_at n es ≡ Some v → test n ≡ true → has_value_of test es ≡ true) → (test m || has_value_of test es) ≡ true
    go true e f more = ap (λ b. b || has_value_of test es) (ap test (eqb-true m n e) ∙ h)
    go false e f more = ap (λ b. test m || b) (more f h) ∙ or-true (test m)
there test (Unknown m p es) n v e h = there test es n v e h

not_alone : (fields : List Field) (f : Field) (es : Entries) (o : Option Field) → o ≡ Some f → is_alone fields o es ≡ true → has_value_of (is_sibling fields f) es ≡ true → ⊥
not_alone fields f es None e h k = cc
not_alone fields f es (Some g) e h k =
    let same : g ≡ f = ap (λ (o : Option Field). elim o [ None ↦ g | Some x ↦ x ]) e in
    true≢false (sym h ∙ ap (λ (x : Field). not (has_value_of (is_sibling fields x) es)) same ∙ ap not k)

-- where numbers differ, no two members of a oneof have a value
pub members_apart : (fields : List Field) (es : Entries) → numbers_differ fields ≡ true → entries_pass alone_test fields es ≡ true → Apart fields (slot_at es)
members_apart fields NoEntries d g n m f v w found h e e' = cc
members_apart fields (Stored l x es) d g n m f v w found h e e' =
    let s = stored_passes alone_test fields l x es g in
    go (nat_eq l n) refl e (nat_eq l m) refl e' s.here (members_apart fields es d s.behind n m f v w found h)
  where
    go : (a : Bool) → nat_eq l n ≡ a → cond a (Some x) (value_at n es) ≡ Some v → (b : Bool) → nat_eq l m ≡ b → cond b (Some x) (value_at m es) ≡ Some w →
        is_alone fields (field_of fields l) es ≡ true → (value_at n es ≡ Some v → value_at m es ≡ Some w → ⊥) → ⊥
    go false a p false b q alone more = more p q
    go true a p true b q alone more =
        let same : m ≡ f.number = sym (eqb-true l m b) ∙ eqb-true l n a ∙ sym (field_number fields n f found) in
        true≢false (sym (eq-eqb m f.number same) ∙ not_own fields f m h)
    go true a p false b q alone more = not_alone fields f es (field_of fields l) (ap (field_of fields) (eqb-true l n a) ∙ found) alone (there (is_sibling fields f) es m w q h)
    go false a p true b q alone more =
        let (g, other, back) = sibling_back fields n m f d found h in
        not_alone fields g es (field_of fields l) (ap (field_of fields) (eqb-true l m b) ∙ other) alone (there (is_sibling fields g) es n v p back)
members_apart fields (Unknown l p es) d g n m f v w found h e e' = members_apart fields es d (and_parts (alone_test.unknown fields l p) (entries_pass alone_test fields es) g).1 n m f v w found h e e'

pub slots_good : (schema : Schema) (fields : List Field) (k : ℕ) (es : Entries) → numbers_differ fields ≡ true → GoodEntries schema fields k es → GoodSlots schema fields k (slot_at es)
slots_good schema fields k es d g = record {
  value = λ n v. value_good schema fields k es n v g;
  unknown = λ n. unknowns_good schema fields k es n g;
  alone = members_apart fields es d
      (let (fits, rest) = entries_parts fit_test (both_tests alone_test (both_tests filled_test default_test)) fields es g.deep in (entries_parts alone_test (both_tests filled_test default_test) fields es rest).0);
}

-- FROM SLOTS TO ENTRIES

table_unknowns : (test : EntryTest) (fields : List Field) (n : ℕ) (ps : List Payload) (es : Entries) → list_all (test.unknown fields n) ps ≡ true → entries_pass test fields es ≡ true → entries_pass test fields (then_unknowns n ps es) ≡ true
table_unknowns test fields n [] es h k = k
table_unknowns test fields n (p ∷ ps) es h k =
    let (one, more) = and_parts (test.unknown fields n p) (list_all (test.unknown fields n) ps) h in
    and_from _ _ one (table_unknowns test fields n ps es more k)

pub table_passes : (test : EntryTest) (fields : List Field) (at : ℕ → Slot) (ns : List ℕ) → ((n : ℕ) (v : Value) (ms : List ℕ) → (at n).value ≡ Some v → test.stored fields n v (then_unknowns n (at n).unknowns (table at ms)) ≡ true) →
    ((n : ℕ) (v : Value) → (at n).value ≡ Some v → value_passes test v ≡ true) → ((n : ℕ) → list_all (test.unknown fields n) (at n).unknowns ≡ true) → entries_pass test fields (table at ns) ≡ true
table_passes test fields at [] here inside unknown = refl
table_passes test fields at (n ∷ ns) here inside unknown =
    go (at n).value refl (table_unknowns test fields n (at n).unknowns (table at ns) (unknown n) (table_passes test fields at ns here inside unknown))
  where
    go : (o : Option Value) → (at n).value ≡ o → entries_pass test fields (then_unknowns n (at n).unknowns (table at ns)) ≡ true → entries_pass test fields (then_value n o (then_unknowns n (at n).unknowns (table at ns))) ≡ true
    go None e more = more
    go (Some v) e more = and_from _ _ (and_from _ _ (here n v ns e) (inside n v e)) more

table_alone : (at : ℕ → Slot) (test : ℕ → Bool) (ms : List ℕ) → ((m : ℕ) (w : Value) → test m ≡ true → (at m).value ≡ Some w → ⊥) → has_value_of test (table at ms) ≡ false
table_alone at test [] h = refl
table_alone at test (m ∷ ms) h = go (at m).value refl (unknowns (at m).unknowns (table_alone at test ms h))
  where
    unknowns : (ps : List Payload) → has_value_of test (table at ms) ≡ false → has_value_of test (then_unknowns m ps (table at ms)) ≡ false
    unknowns [] k = k
    unknowns (p ∷ ps) k = unknowns ps k

    go : (o : Option Value) → (at m).value ≡ o → has_value_of test (then_unknowns m (at m).unknowns (table at ms)) ≡ false → has_value_of test (then_value m o (then_unknowns m (at m).unknowns (table at ms))) ≡ false
    go None e more = more
    go (Some w) e more = ap (λ b. b || has_value_of test (then_unknowns m (at m).unknowns (table at ms))) (by (test m) refl) ∙ more
      where
        by : (b : Bool) → test m ≡ b → b ≡ false
        by false f = refl
        by true f = absurd (h m w f e)

unknowns_alone : (test : ℕ → Bool) (n : ℕ) (ps : List Payload) (es : Entries) → has_value_of test (then_unknowns n ps es) ≡ has_value_of test es
unknowns_alone test n [] es = refl
unknowns_alone test n (p ∷ ps) es = unknowns_alone test n ps es

-- the members apart from one another, no other one stands behind a value
first_alone : (fields : List Field) (at : ℕ → Slot) → Apart fields at → (n : ℕ) (v : Value) (ms : List ℕ) → (at n).value ≡ Some v → (o : Option Field) → field_of fields n ≡ o → is_alone fields o (then_unknowns n (at n).unknowns (table at ms)) ≡ true
first_alone fields at apart n v ms e None f = refl
first_alone fields at apart n v ms e (Some x) f = ap not (unknowns_alone (is_sibling fields x) n (at n).unknowns (table at ms) ∙ table_alone at (is_sibling fields x) ms (λ m w h e'. apart n m x v w f h e e'))

-- ordered entries whose members stand apart
pub apart_members : (fields : List Field) (es : Entries) → entries_ordered es ≡ true → Apart fields (slot_at es) → ((n : ℕ) (v : Value) → value_at n es ≡ Some v → value_passes alone_test v ≡ true) → entries_pass alone_test fields es ≡ true
apart_members fields es o apart inside = subst (λ (es : Entries). entries_pass alone_test fields es ≡ true) (rebuilt es o)
    (table_passes alone_test fields (slot_at es) (numbers_in es) (λ n v ms e. first_alone fields (slot_at es) apart n v ms e (field_of fields n) refl) inside (λ n. every (unknowns_at n es)))
  where
    every : {A : Type 0} (xs : List A) → list_all (λ x. true) xs ≡ true
    every [] = refl
    every (x ∷ xs) = every xs

table_typed : (schema : Schema) (fields : List Field) (at : ℕ → Slot) (ns : List ℕ) → ((n : ℕ) (v : Value) → (at n).value ≡ Some v → ValueTyped schema (kind_for (field_of fields n) v) v) → EntriesTyped schema fields (table at ns)
table_typed schema fields at [] h = tt
table_typed schema fields at (n ∷ ns) h = go (at n).value refl (unknowns (at n).unknowns (table_typed schema fields at ns h))
  where
    unknowns : (ps : List Payload) → EntriesTyped schema fields (table at ns) → EntriesTyped schema fields (then_unknowns n ps (table at ns))
    unknowns [] k = k
    unknowns (p ∷ ps) k = unknowns ps k

    go : (o : Option Value) → (at n).value ≡ o → EntriesTyped schema fields (then_unknowns n (at n).unknowns (table at ns)) → EntriesTyped schema fields (then_value n o (then_unknowns n (at n).unknowns (table at ns)))
    go None e more = more
    go (Some v) e more = (h n v e, more)

table_low : (fields : List Field) (k : ℕ) (at : ℕ → Slot) (ns : List ℕ) → ((n : ℕ) (v : Value) → (at n).value ≡ Some v → value_levels v ≤ k) → ((n : ℕ) → list_all (λ p. nat_le (unknown_levels (field_of fields n) p) k) (at n).unknowns ≡ true) → entries_levels fields (table at ns) ≤ k
table_low fields k at [] h u = omega arith
table_low fields k at (n ∷ ns) h u = go (at n).value refl (unknowns (at n).unknowns (u n) (table_low fields k at ns h u))
  where
    unknowns : (ps : List Payload) → list_all (λ p. nat_le (unknown_levels (field_of fields n) p) k) ps ≡ true → entries_levels fields (table at ns) ≤ k → entries_levels fields (then_unknowns n ps (table at ns)) ≤ k
    unknowns [] u l = l
    unknowns (p ∷ ps) u l =
        let (one, more) = and_parts (nat_le (unknown_levels (field_of fields n) p) k) (list_all (λ p. nat_le (unknown_levels (field_of fields n) p) k) ps) u in
        let low : unknown_levels (field_of fields n) p ≤ k = leb-true (unknown_levels (field_of fields n) p) k one in
        let rest : entries_levels fields (then_unknowns n ps (table at ns)) ≤ k = unknowns ps more l in
        omega arith

    go : (o : Option Value) → (at n).value ≡ o → entries_levels fields (then_unknowns n (at n).unknowns (table at ns)) ≤ k → entries_levels fields (then_value n o (then_unknowns n (at n).unknowns (table at ns))) ≤ k
    go None e more = more
    go (Some v) e more = let low : value_levels v ≤ k = h n v e in omega arith

pub table_good : (schema : Schema) (fields : List Field) (k : ℕ) (at : ℕ → Slot) (ns : List ℕ) → Ascending 0 ns → GoodSlots schema fields k at → GoodEntries schema fields k (table at ns)
table_good schema fields k at ns a g = record {
  deep = table_passes deep_test fields at ns stored (λ n v e. (g.value n v e).deep) (λ n. fits n (at n).unknowns (g.unknown n));
  types = table_typed schema fields at ns (λ n v e. (g.value n v e).types);
  order = table_ordered at 0 ns a (λ n. ordered_slot n (at n).value refl);
  low = table_low fields k at ns (λ n v e. (g.value n v e).low) (λ n. lows n (at n).unknowns (g.unknown n));
}
  where
    fits : (n : ℕ) (ps : List Payload) → list_all (unknown_good (field_of fields n) k n) ps ≡ true → list_all (deep_test.unknown fields n) ps ≡ true
    fits n [] h = refl
    fits n (p ∷ ps) h =
        let (one, more) = and_parts (unknown_good (field_of fields n) k n p) (list_all (unknown_good (field_of fields n) k n) ps) h in
        and_from _ _ (and_from _ _ (and_parts (unknown_fits (field_of fields n) n p) (nat_le (unknown_levels (field_of fields n) p) k) one).0 refl) (fits n ps more)

    lows : (n : ℕ) (ps : List Payload) → list_all (unknown_good (field_of fields n) k n) ps ≡ true → list_all (λ p. nat_le (unknown_levels (field_of fields n) p) k) ps ≡ true
    lows n [] h = refl
    lows n (p ∷ ps) h =
        let (one, more) = and_parts (unknown_good (field_of fields n) k n p) (list_all (unknown_good (field_of fields n) k n) ps) h in
        and_from _ _ (and_parts (unknown_fits (field_of fields n) n p) (nat_le (unknown_levels (field_of fields n) p) k) one).1 (lows n ps more)

    ordered_slot : (n : ℕ) (o : Option Value) → (at n).value ≡ o → OrderedOption o
    ordered_slot n None e = tt
    ordered_slot n (Some v) e = (g.value n v e).order

    stored : (n : ℕ) (v : Value) (ms : List ℕ) → (at n).value ≡ Some v → deep_test.stored fields n v (then_unknowns n (at n).unknowns (table at ms)) ≡ true
    stored n v ms e =
        let x = g.value n v e in
        and_from _ _ x.valid (and_from _ _ (first_alone fields at g.alone n v ms e (field_of fields n) refl) (and_from _ _ x.filled x.default))

-- CONTENTS

pub well_good : (k : ℕ) (c : Content) → WellTyped c → levels c ≤ k → GoodContent k c
well_good k c w l = record {
  deep = both_pass fit_test (both_tests alone_test (both_tests filled_test default_test)) c w.fitting.fits (both_pass alone_test (both_tests filled_test default_test) c w.members (both_pass filled_test default_test c w.fitting.nonempty w.without_stored_defaults));
  types = w.fitting.types;
  order = w.fitting.order;
  low = l;
}

pub good_well : (k : ℕ) (c : Content) → GoodContent k c → WellTyped c
good_well k c g =
    let (fits, rest) = both_parts fit_test (both_tests alone_test (both_tests filled_test default_test)) c g.deep in
    let (members, more) = both_parts alone_test (both_tests filled_test default_test) c rest in
    let (nonempty, without) = both_parts filled_test default_test c more in
    record { fitting = record { fits = fits; types = g.types; order = g.order; nonempty = nonempty }; members = members; without_stored_defaults = without }

-- CHANGES

-- where one member gets a value and its siblings none, no two have one
pub alone_changed : (fields : List Field) (at by : ℕ → Slot) (f : Field) → numbers_differ fields ≡ true → field_of fields f.number ≡ Some f →
    ((m : ℕ) → is_sibling fields f m ≡ true → (by m).value ≡ None) → ((m : ℕ) → nat_eq m f.number ≡ false → is_sibling fields f m ≡ false → (by m).value ≡ (at m).value) → Apart fields at → Apart fields by
alone_changed fields at by f d known gone same old n m g v w found h e e' = go (nat_eq n f.number) refl (is_sibling fields f n) refl (nat_eq m f.number) refl (is_sibling fields f m) refl
  where
    one : (a b : Field) (o : Option Field) → o ≡ Some a → o ≡ Some b → a ≡ b
    one a b o x y = ap (λ (o : Option Field). elim o [ None ↦ a | Some x ↦ x ]) (sym x ∙ y)

    go : (a : Bool) → nat_eq n f.number ≡ a → (b : Bool) → is_sibling fields f n ≡ b → (c : Bool) → nat_eq m f.number ≡ c → (s : Bool) → is_sibling fields f m ≡ s → ⊥
    go true a b x c y s z =
        let its : g ≡ f = one g f (field_of fields n) found (ap (field_of fields) (eqb-true n f.number a) ∙ known) in
        let none : (by m).value ≡ None = gone m (ap (λ (x : Field). is_sibling fields x m) (sym its) ∙ h) in
        cc
    go false a true x c y s z = let none : (by n).value ≡ None = gone n x in cc
    go false a false x true y s z =
        let (i, other, back) = sibling_back fields n m g d found h in
        let its : i ≡ f = one i f (field_of fields m) other (ap (field_of fields) (eqb-true m f.number y) ∙ known) in
        true≢false (sym back ∙ ap (λ (x : Field). is_sibling fields x n) its ∙ x)
    go false a false x false y true z = let none : (by m).value ≡ None = gone m z in cc
    go false a false x false y false z = old n m g v w found h (sym (same n a x) ∙ e) (sym (same m y z) ∙ e')
