-- Where a path was cleared no value is left, and none comes back where others are.
use Rattle.std.proofs.Common.{◌≡◌, ℕ, Bool, true, false, cond, not, ◌||◌, nat_eq, List, [], ◌∷◌, Option, Some, None, option_map, is_some, refl, ap, sym, ◌∙◌, arith, true≢false}
use Rattle.std.proofs.lemmas.Bool.{and_from, or_parts, eqb-true, eq-eqb}
use Rattle.prost_reflect_wire.specs.Schema.{passes}
use Rattle.prost_reflect_wire.specs.Content.{Content, ContentOf, Entries, NoEntries, Stored, Unknown, Value, ScalarValue, MessageValue, ListValue, MapValue, Values, NoValues, Item, Pairs, NoPairs, Pair, Slot, value_at, slot_at, insert_number, numbers_in, entries_of}
use Rattle.prost_reflect_wire.specs.Edit.{with_value, clear_field, in_message}
use Rattle.prost_reflect_wire.proofs.Numbers.{is_in, Covers, empty_slot, insert_ascending, entries_ascending, in_insert, slot_outside, slot_table}
use Rattle.prost_reflect_dynamic.specs.Contents.{value_cleared}
use Rattle.prototool_commands.specs.Redacting.{in_values, in_pairs, in_messages, changed_at, cleared_along, cleared_all, message_passes, one_passes, pair_passes, holds_passing, has_along, NothingLeft}

-- WHAT STANDS AT A NUMBER

cleared_at : (n k : ℕ) (es : Entries) → value_at k (clear_field n es) ≡ cond (nat_eq k n) None (value_at k es)
cleared_at n k es = ap (λ (s : Slot). s.value) (slot_table (λ m. cond (nat_eq m n) (with_value None (slot_at es m)) (slot_at es m)) k (insert_number n (numbers_in es)) (insert_ascending n 0 (numbers_in es) (entries_ascending es) (omega arith)) outside) ∙ go (nat_eq k n)
  where
    go : (b : Bool) → (cond b (with_value None (slot_at es k)) (slot_at es k)).value ≡ cond b None (value_at k es)
    go true = refl
    go false = refl

    still : (b : Bool) → cond b (with_value None empty_slot) empty_slot ≡ empty_slot
    still true = refl
    still false = refl

    outside : Covers (λ m. cond (nat_eq m n) (with_value None (slot_at es m)) (slot_at es m)) 0 (insert_number n (numbers_in es))
    outside j low out = ap (λ s. cond (nat_eq j n) (with_value None s) s) (slot_outside es j (or_parts (nat_eq j n) (is_in j (numbers_in es)) (sym (in_insert j n (numbers_in es)) ∙ out)).1) ∙ still (nat_eq j n)

changed_value : (n k : ℕ) (change : Value → Value) (es : Entries) → value_at k (changed_at n change es) ≡ cond (nat_eq k n) (option_map change (value_at k es)) (value_at k es)
changed_value n k change NoEntries = go (nat_eq k n)
  where
    go : (b : Bool) → None ≡ cond b (option_map change None) None
    go true = refl
    go false = refl
changed_value n k change (Unknown m p es) = changed_value n k change es
changed_value n k change (Stored m v es) = go (nat_eq m k) refl (nat_eq k n) refl (changed_value n k change es)
  where
    go : (a : Bool) → nat_eq m k ≡ a → (b : Bool) → nat_eq k n ≡ b → value_at k (changed_at n change es) ≡ cond b (option_map change (value_at k es)) (value_at k es)
        → cond a (Some (cond (nat_eq m n) (change v) v)) (value_at k (changed_at n change es)) ≡ cond b (option_map change (cond a (Some v) (value_at k es))) (cond a (Some v) (value_at k es))
    go false e b f more = more
    go true e true f more = ap (λ c. Some (cond c (change v) v)) (ap (λ i. nat_eq i n) (eqb-true m k e) ∙ f)
    go true e false f more = ap (λ c. Some (cond c (change v) v)) (ap (λ i. nat_eq i n) (eqb-true m k e) ∙ f)

-- MESSAGES IN VALUES

module _ (F : Content → Content) (test : Content → Bool) (none : (c : Content) → test c ≡ false → test (F c) ≡ false) where
  element_less : (v : Value) → message_passes test v ≡ false → message_passes test (in_message v F) ≡ false
  element_less (ScalarValue v) h = refl
  element_less (MessageValue c) h = none c h
  element_less (ListValue vs) h = refl
  element_less (MapValue ps) h = refl

  or_from : (a b : Bool) → a ≡ false → b ≡ false → (a || b) ≡ false
  or_from a b e f = ap (λ x. x || b) e ∙ f

  values_less : (vs : Values) → one_passes test vs ≡ false → one_passes test (in_values F vs) ≡ false
  values_less NoValues h = refl
  values_less (Item v vs) h = let (one, more) = or_parts (message_passes test v) (one_passes test vs) h in or_from _ _ (element_less v one) (values_less vs more)

  pairs_less : (ps : Pairs) → pair_passes test ps ≡ false → pair_passes test (in_pairs F ps) ≡ false
  pairs_less NoPairs h = refl
  pairs_less (Pair k v ps) h = let (one, more) = or_parts (message_passes test v) (pair_passes test ps) h in or_from _ _ (element_less v one) (pairs_less ps more)

  value_less : (v : Value) → holds_passing test v ≡ false → holds_passing test (in_messages F v) ≡ false
  value_less (ScalarValue v) h = refl
  value_less (MessageValue c) h = none c h
  value_less (ListValue vs) h = values_less vs h
  value_less (MapValue ps) h = pairs_less ps h

-- where no message passes once it was changed
module _ (F : Content → Content) (test : Content → Bool) (none : (c : Content) → test (F c) ≡ false) where
  element_none : (v : Value) → message_passes test (in_message v F) ≡ false
  element_none (ScalarValue v) = refl
  element_none (MessageValue c) = none c
  element_none (ListValue vs) = refl
  element_none (MapValue ps) = refl

  values_none : (vs : Values) → one_passes test (in_values F vs) ≡ false
  values_none NoValues = refl
  values_none (Item v vs) = ap (λ b. b || one_passes test (in_values F vs)) (element_none v) ∙ values_none vs

  pairs_none : (ps : Pairs) → pair_passes test (in_pairs F ps) ≡ false
  pairs_none NoPairs = refl
  pairs_none (Pair k v ps) = ap (λ b. b || pair_passes test (in_pairs F ps)) (element_none v) ∙ pairs_none ps

  value_none : (v : Value) → holds_passing test (in_messages F v) ≡ false
  value_none (ScalarValue v) = refl
  value_none (MessageValue c) = none c
  value_none (ListValue vs) = values_none vs
  value_none (MapValue ps) = pairs_none ps

  option_none : (o : Option Value) → passes (option_map (in_messages F) o) (holds_passing test) ≡ false
  option_none None = refl
  option_none (Some v) = value_none v

-- ALONG ONE PATH

pub one_left : (path : List ℕ) (c : Content) → has_along path (cleared_along path c) ≡ false
one_left [] c = refl
one_left (n ∷ []) (ContentOf schema T es) = ap is_some (cleared_at n n es ∙ ap (λ b. cond b None (value_at n es)) (eq-eqb n n refl))
one_left (n ∷ m ∷ path) (ContentOf schema T es) =
    ap (λ o. passes o (holds_passing (has_along (m ∷ path)))) (changed_value n n (in_messages (cleared_along (m ∷ path))) es ∙ ap (λ b. cond b (option_map (in_messages (cleared_along (m ∷ path))) (value_at n es)) (value_at n es)) (eq-eqb n n refl))
    ∙ option_none (cleared_along (m ∷ path)) (has_along (m ∷ path)) (one_left (m ∷ path)) (value_at n es)

-- ANOTHER PATH

module _ (test : Option Value → Bool) (nothing : test None ≡ false) where
  cleared_less : (n k : ℕ) (c : Content) → test (value_at n (entries_of c)) ≡ false → test (value_at n (entries_of (value_cleared k c))) ≡ false
  cleared_less n k (ContentOf schema T es) h = ap test (cleared_at k n es) ∙ go (nat_eq n k)
    where
      go : (b : Bool) → test (cond b None (value_at n es)) ≡ false
      go true = nothing
      go false = h

  changed_less : (n k : ℕ) (change : Value → Value) (es : Entries) → ((v : Value) → test (Some v) ≡ false → test (Some (change v)) ≡ false) → test (value_at n es) ≡ false → test (value_at n (changed_at k change es)) ≡ false
  changed_less n k change es less h = ap test (changed_value k n change es) ∙ go (nat_eq n k) (value_at n es) h
    where
      go : (b : Bool) (o : Option Value) → test o ≡ false → test (cond b (option_map change o) o) ≡ false
      go true None h = h
      go true (Some v) h = less v h
      go false o h = h

pub none_back : (path other : List ℕ) (c : Content) → has_along path c ≡ false → has_along path (cleared_along other c) ≡ false
none_back [] other c h = refl
none_back path [] c h = h
none_back (n ∷ []) (k ∷ []) c h = cleared_less is_some refl n k c h
none_back (n ∷ []) (k ∷ l ∷ other) (ContentOf schema T es) h = changed_less is_some refl n k (in_messages (cleared_along (l ∷ other))) es (λ v h. absurd (true≢false h)) h
none_back (n ∷ m ∷ path) (k ∷ []) c h = cleared_less (λ o. passes o (holds_passing (has_along (m ∷ path)))) refl n k c h
none_back (n ∷ m ∷ path) (k ∷ l ∷ other) (ContentOf schema T es) h =
    changed_less (λ o. passes o (holds_passing (has_along (m ∷ path)))) refl n k (in_messages (cleared_along (l ∷ other))) es
    (value_less (cleared_along (l ∷ other)) (has_along (m ∷ path)) (none_back (m ∷ path) (l ∷ other))) h

-- EACH PATH

all_back : (path : List ℕ) (others : List (List ℕ)) (c : Content) → has_along path c ≡ false → has_along path (cleared_all others c) ≡ false
all_back path [] c h = h
all_back path (other ∷ others) c h = all_back path others (cleared_along other c) (none_back path other c h)

pub nothing_left : (paths : List (List ℕ)) → NothingLeft paths
nothing_left [] c = refl
nothing_left (path ∷ paths) c = and_from _ _ (ap not (all_back path paths (cleared_along path c) (one_left path c))) (nothing_left paths (cleared_along path c))
