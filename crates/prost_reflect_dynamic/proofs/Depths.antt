-- What a message lends nests less deep than the message.
use Rattle.std.specs.Prelude.{◌≡◌, ◌<◌, ◌≤◌, ◌+◌, ◌∷◌, ◌++◌}
use Rattle.prost_reflect_dynamic.proofs.Common.{rules, ℕ, max, Bool, true, false, cond, List, [], length, get_or, Option, Some, None, Bor, true≢false, sym, subst, ap, refl, ◌∙◌, arith, Result, IfOk, IfSome, flat_map, option_and_then, option_map, option_to_list, is_some, unwrap_or, AllByRecursion, All, lookup, is_at, nat_cmp, match_ordering, Ordering, Less, Equal, Greater, Field, AllocError, Global, Ok, Err, recursion_from_All, get_or-map, length-map, value_in, stored_at, has_value, numbered, left_in, then_slot, without_values, value_alone, values_alone, with_value_in, revalued, put_slot, put_value, with_slot, slot_weighed, IsAscending, item_at, put_item, with_item, known_of, are_siblings, prepared, set_value_at, FieldSlot, PooledType, IsOwnField, has_at, had_at, saying, left_at, GivesInside, IsOwnExtension, extension_number, number_of, GivesNext, had_numbers, had_pairs, fields_left, extensions_left, fields_steps, extensions_steps, IsFieldPair, IsExtensionPair, content_of, message_type_of, stored_in, EachGiven, DynamicMessage, size-DynamicMessage, size_is-DynamicMessage, MapKey, Value, size-Value, the_lemmas}
use denote.Param.Weighed.{w_const, w_pair, w_this, most}
use Rattle.std.specs.Map.{values_of}
use Rattle.std.specs.declared.collections.BTreeMap.{BTreeMap}
use Rattle.prost_reflect_fields.specs.FieldSlots.{with_value}
use Rattle.prost_reflect_fields.specs.declared.slot.FieldSlot.TheVariants as slots
use Rattle.prost_reflect_dynamic.proofs.Had.{has_found}
use Rattle.prost_reflect_walks.proofs.Walks.{gives}
use Rattle.prost_reflect_dynamic.specs.declared.message.lists.had.Fields.{Fields}
use Rattle.prost_reflect_dynamic.specs.declared.message.lists.had.Extensions.{Extensions}
use Rattle.prost_reflect_dynamic.specs.declared.value.Value as values

-- LISTS

pub joined : {X : Type 0} (P : X → Type 0) (xs ys : List X) → AllByRecursion P xs → AllByRecursion P ys → AllByRecursion P (xs ++ ys)
joined P [] ys h k = k
joined P (x ∷ xs) ys h k = (h.0, joined P xs ys h.1 k)

pub flat : {X Y : Type 0} (P : Y → Type 0) (f : X → List Y) → ((x : X) → AllByRecursion P (f x)) → (xs : List X) → AllByRecursion P (flat_map f xs)
flat P f h [] = tt
flat P f h (x ∷ xs) = joined P (f x) (flat_map f xs) (h x) (flat P f h xs)

-- WHAT IS STORED

module _ (m : DynamicMessage) where
  abbrev pub Small : Value → Type 0
  Small v = size-Value v < size-DynamicMessage m

  abbrev SmallIn : ℕ × FieldSlot Value → Type 0
  SmallIn e = IfSome (value_in e.1) Small

  slot_small : (k : ℕ) (d : ℕ × FieldSlot Value) → k < length (stored_in m) → (s : FieldSlot Value) → (get_or (stored_in m) k d).1 ≡ s → IfSome (value_in s) Small
  slot_small k d l (slots.Value v) is = search (rules, the_lemmas)
  slot_small k d l (slots.Unknown u) is = tt
  slot_small k d l (slots.Both v u) is = search (rules, the_lemmas)

  all_small : AllByRecursion SmallIn (stored_in m)
  all_small = recursion_from_All SmallIn (stored_in m) (λ k d l. slot_small k d l (get_or (stored_in m) k d).1 refl)

  found_case : (n : ℕ) (b : Bool) (e : ℕ × FieldSlot Value) (es : List (ℕ × FieldSlot Value)) → SmallIn e → IfSome (stored_at es n) Small
      → IfSome (option_and_then value_in (cond b (Some e.1) (lookup (is_at (nat_cmp n)) es))) Small
  found_case n true e es h k = h
  found_case n false e es h k = k

  found_small : (n : ℕ) (es : List (ℕ × FieldSlot Value)) → AllByRecursion SmallIn es → IfSome (stored_at es n) Small
  found_small n [] h = tt
  found_small n (e ∷ es) h = found_case n (is_at (nat_cmp n) e.0) e es h.0 (found_small n es h.1)

  pub stored_small : (n : ℕ) → IfSome (stored_at (stored_in m) n) Small
  stored_small n = found_small n (stored_in m) all_small

  pub lent_small : (n : ℕ) (default lent : Value) → IsAscending (stored_in m) → lent ≡ unwrap_or (stored_at (stored_in m) n) default → has_at n (content_of m) ≡ true → Small lent
  lent_small n default lent s is has = go (stored_at (stored_in m) n) is (sym (has_found m n (stored_at (stored_in m) n) s refl) ∙ has) (stored_small n)
    where
      go : (o : Option Value) → lent ≡ unwrap_or o default → is_some (option_and_then (saying (known_of (message_type_of m)) n) o) ≡ true → IfSome o Small → Small lent
      go None l t h = absurd (true≢false (sym t))
      go (Some v) l t h = subst Small (sym l) h

  pub had_small : (n : ℕ) (b : Bool) → IfSome (cond b (stored_at (stored_in m) n) None) Small
  had_small n true = stored_small n
  had_small n false = tt

  numbered_small : (n : ℕ) (o : Option Value) → IfSome o Small → AllByRecursion (λ (p : ℕ × Value). Small p.1) (numbered n o)
  numbered_small n None h = tt
  numbered_small n (Some v) h = (h, tt)

  pub pairs_small : (of_extensions : Bool) → AllByRecursion (λ (p : ℕ × Value). Small p.1) (had_pairs of_extensions m)
  pairs_small b = flat (λ (p : ℕ × Value). Small p.1) (λ n. numbered n (had_at n m)) (λ n. numbered_small n (had_at n m) (had_small n (has_at n (content_of m)))) (had_numbers b m)

-- WHAT A WALK GIVES

module _ (Such : ℕ → Value → Type 0) where
  abbrev AllHold : List (ℕ × Value) → Type 0
  AllHold left = AllByRecursion (λ (p : ℕ × Value). Such p.0 p.1) left

  next_holds : {D : Type 0} (number : D → ℕ) (stands : ℕ × Value → D × Bor Value → Type 0) → ((p : ℕ × Value) (given : D × Bor Value) → stands p given → (number given.0 ≡ p.0) × (given.1.now ≡ p.1))
      → (old new : List (ℕ × Value)) (x : Result (D × Bor Value) AllocError) → AllHold old → GivesNext stands old (Some x) new → IfOk x (λ pair. Such (number pair.0) pair.1.now) × AllHold new
  next_holds number stands same [] new x h g = absurd g
  next_holds number stands same (p ∷ old) new (Ok given) h g =
      let (at, is) = same p given g.1 in
      (subst (λ k. Such k given.1.now) (sym at) (subst (Such p.0) (sym is) h.0), subst AllHold (sym g.0) h.1)
  next_holds number stands same (p ∷ old) new (Err e) h g = (tt, subst AllHold (sym g.0) h.1)

  -- of the values of a list, each that a walk over it gives
  pub fields_hold : (it : Fields) (ps : List (ℕ × Value)) → fields_left it ≡ ps → AllHold ps → EachGiven fields_steps (λ pair. Such (number_of pair.0) pair.1.now) it
  fields_hold it ps is all = gives fields_steps (λ s. AllHold (fields_left s)) (λ pair. Such (number_of pair.0) pair.1.now)
      (λ s t x h g. next_holds number_of (IsFieldPair s.values.message_type.now) (λ p given st. (st.1, st.2)) (fields_left s) (fields_left t) x h g.0) it (subst AllHold (sym is) all)

  pub extensions_hold : (it : Extensions) (ps : List (ℕ × Value)) → extensions_left it ≡ ps → AllHold ps → EachGiven extensions_steps (λ pair. Such (extension_number pair.0) pair.1.now) it
  extensions_hold it ps is all = gives extensions_steps (λ s. AllHold (extensions_left s)) (λ pair. Such (extension_number pair.0) pair.1.now)
      (λ s t x h g. next_holds extension_number (IsExtensionPair s.values.message_type.now) (λ p given st. (st.1, st.2)) (extensions_left s) (extensions_left t) x h g.0) it (subst AllHold (sym is) all)

module _ (m : DynamicMessage) where
  pub fields_inside : (it : Fields) → fields_left it ≡ had_pairs false m → GivesInside fields_steps m it
  fields_inside it is = fields_hold (λ n v. size-Value v < size-DynamicMessage m) it (had_pairs false m) is (pairs_small m false)

  pub extensions_inside : (it : Extensions) → extensions_left it ≡ had_pairs true m → GivesInside extensions_steps m it
  extensions_inside it is = extensions_hold (λ n v. size-Value v < size-DynamicMessage m) it (had_pairs true m) is (pairs_small m true)

  next_own : {D : Type 0} (Own : D → Type 0) (stands : ℕ × Value → D × Bor Value → Type 0) → ((p : ℕ × Value) (given : D × Bor Value) → stands p given → Own given.0)
      → (old new : List (ℕ × Value)) (x : Result (D × Bor Value) AllocError) → GivesNext stands old (Some x) new → IfOk x (λ pair. Own pair.0)
  next_own Own stands own [] new x g = absurd g
  next_own Own stands own (p ∷ old) new (Ok given) g = own p given g.1
  next_own Own stands own (p ∷ old) new (Err e) g = tt

  pub fields_own : (it : Fields) → it.values.message_type.now ≡ message_type_of m → EachGiven fields_steps (λ pair. IsOwnField (message_type_of m) pair.0) it
  fields_own it is = gives fields_steps (λ s. s.values.message_type.now ≡ message_type_of m) (λ pair. IsOwnField (message_type_of m) pair.0)
      (λ s t x h g. (
        next_own (IsOwnField (message_type_of m)) (IsFieldPair s.values.message_type.now) (λ p given st. subst (λ d. IsOwnField d given.0) h st.0) (fields_left s) (fields_left t) x g.0,
        ap (λ (b : Bor PooledType). b.now) g.1 ∙ h,
      )) it is

  pub extensions_own : (it : Extensions) → it.values.message_type.now ≡ message_type_of m → EachGiven extensions_steps (λ pair. IsOwnExtension (message_type_of m) pair.0) it
  extensions_own it is = gives extensions_steps (λ s. s.values.message_type.now ≡ message_type_of m) (λ pair. IsOwnExtension (message_type_of m) pair.0)
      (λ s t x h g. (
        next_own (IsOwnExtension (message_type_of m)) (IsExtensionPair s.values.message_type.now) (λ p given st. subst (λ d. IsOwnExtension d given.0) h st.0) (extensions_left s) (extensions_left t) x g.0,
        ap (λ (b : Bor PooledType). b.now) g.1 ∙ h,
      )) it is

-- WHAT IS LEFT

-- a slot's depth is that of its value
slot_below : (b : ℕ) → 0 < b → (s : FieldSlot Value) → IfSome (value_in s) (λ v. size-Value v < b) → (slot_weighed w_this).weight Value size-Value s < b
slot_below b some (slots.Value v) h = h
slot_below b some (slots.Unknown u) h = some
slot_below b some (slots.Both v u) h = omega (arith, h)

abbrev depth_of_slot : ℕ × FieldSlot Value → ℕ
depth_of_slot = (w_pair (w_const ℕ) (slot_weighed w_this)).weight Value size-Value

most_below : (b : ℕ) → 0 < b → (es : List (ℕ × FieldSlot Value)) → AllByRecursion (λ e. IfSome (value_in e.1) (λ v. size-Value v < b)) es → most depth_of_slot es < b
most_below b some [] h = some
most_below b some (e ∷ es) h =
    let here : (slot_weighed w_this).weight Value size-Value e.1 < b = slot_below b some e.1 h.0 in
    let more : most depth_of_slot es < b = most_below b some es h.1 in
    omega (arith, here, more)

-- the depth is one more than that of the deepest slot
depth_is : (m : DynamicMessage) → size-DynamicMessage m ≡ max (max 0 (most depth_of_slot (stored_in m))) 0 + 1
depth_is m = size_is-DynamicMessage m

-- a message whose values nest less deep than another is no deeper
pub no_deeper : (m new : DynamicMessage) → AllByRecursion (SmallIn m) (stored_in new) → size-DynamicMessage new ≤ size-DynamicMessage m
no_deeper m new h =
    let old = depth_is m in
    let some : 0 < size-DynamicMessage m = omega (arith, old) in
    let below : most depth_of_slot (stored_in new) < size-DynamicMessage m = most_below (size-DynamicMessage m) some (stored_in new) h in
    let is = depth_is new in
    omega (arith, below, is)

module _ (P : Value → Type 0) where
  abbrev Holds : ℕ × FieldSlot Value → Type 0
  Holds e = IfSome (value_in e.1) P

  then_holds : (n : ℕ) (o : Option (FieldSlot Value)) (es : List (ℕ × FieldSlot Value)) → IfSome o (λ s. IfSome (value_in s) P) → AllByRecursion Holds es → AllByRecursion Holds (then_slot n o es)
  then_holds n None es h k = k
  then_holds n (Some s) es h k = (h, k)

  left_holds : (s : FieldSlot Value) → IfSome (left_in s) (λ s. IfSome (value_in s) P)
  left_holds (slots.Value v) = tt
  left_holds (slots.Unknown u) = tt
  left_holds (slots.Both v u) = tt

  kept_holds : (b : Bool) (s : FieldSlot Value) → IfSome (value_in s) P → IfSome (cond b (left_in s) (Some s)) (λ s. IfSome (value_in s) P)
  kept_holds true s h = left_holds s
  kept_holds false s h = h

  without_holds : (test : ℕ → Bool) (es : List (ℕ × FieldSlot Value)) → AllByRecursion Holds es → AllByRecursion Holds (without_values test es)
  without_holds test [] h = tt
  without_holds test (e ∷ es) h = then_holds e.0 (cond (test e.0) (left_in e.1) (Some e.1)) (without_values test es) (kept_holds (test e.0) e.1 h.0) (without_holds test es h.1)

  alone_holds : (es : List (ℕ × FieldSlot Value)) → AllByRecursion Holds es → AllByRecursion Holds (values_alone es)
  alone_holds [] h = tt
  alone_holds (e ∷ es) h = joined Holds (value_alone e) (values_alone es) (one (value_in e.1) h.0) (alone_holds es h.1)
    where
      one : (o : Option Value) → IfSome o P → AllByRecursion Holds (option_to_list (option_map (λ v. (e.0, slots.Value v)) o))
      one None h = tt
      one (Some v) h = (h, tt)

  put_holds : (n : ℕ) (s : FieldSlot Value) → IfSome (value_in s) P → (es : List (ℕ × FieldSlot Value)) → AllByRecursion Holds es → AllByRecursion Holds (put_item es n s)
  put_holds n s h [] k = (h, tt)
  put_holds n s h (e ∷ es) k = go (nat_cmp n e.0) (put_holds n s h es k.1)
    where
      go : (o : Ordering) → AllByRecursion Holds (put_item es n s) → AllByRecursion Holds (match_ordering o ((n, s) ∷ e ∷ es) ((e.0, s) ∷ es) (e ∷ put_item es n s))
      go Less more = (h, k)
      go Equal more = (h, k.1)
      go Greater more = (k.0, more)

  replaced_holds : (n : ℕ) (s : FieldSlot Value) → IfSome (value_in s) P → (es : List (ℕ × FieldSlot Value)) → AllByRecursion Holds es → AllByRecursion Holds (with_item es n s)
  replaced_holds n s h [] k = tt
  replaced_holds n s h (e ∷ es) k = go (is_at (nat_cmp n) e.0) (replaced_holds n s h es k.1)
    where
      go : (b : Bool) → AllByRecursion Holds (with_item es n s) → AllByRecursion Holds (cond b ((e.0, s) ∷ es) (e ∷ with_item es n s))
      go true more = (h, k.1)
      go false more = (k.0, more)

  module _ (n : ℕ) (v : Value) (here : P v) (es : List (ℕ × FieldSlot Value)) (k : AllByRecursion Holds es) where
    set_holds : AllByRecursion Holds (put_value es n v)
    set_holds = go (item_at es n)
      where
        inside : (s : FieldSlot Value) → IfSome (value_in (with_value_in s v)) P
        inside (slots.Value w) = here
        inside (slots.Unknown u) = here
        inside (slots.Both w u) = here

        go : (o : Option (FieldSlot Value)) → AllByRecursion Holds (put_slot es n v o)
        go None = put_holds n (slots.Value v) here es k
        go (Some s) = replaced_holds n (with_value_in s v) (inside s) es k

    prepared_holds : (fields : List Field) → AllByRecursion Holds (prepared fields es n v)
    prepared_holds fields = go (has_value es n)
      where
        go : (b : Bool) → AllByRecursion Holds (cond b es (set_value_at fields es n v))
        go true = k
        go false = without_holds (are_siblings fields n) (put_value es n v) set_holds

    written_holds : AllByRecursion Holds (with_value es n v)
    written_holds = go (item_at es n)
      where
        inside : (s : FieldSlot Value) → IfSome (value_in (revalued s v)) P
        inside (slots.Value w) = here
        inside (slots.Unknown u) = tt
        inside (slots.Both w u) = here

        go : (o : Option (FieldSlot Value)) → AllByRecursion Holds (with_slot es n v o)
        go None = k
        go (Some s) = replaced_holds n (revalued s v) (inside s) es k

pub left_depth : (m : DynamicMessage) (n : ℕ) (v : Value) → size-Value v < size-DynamicMessage m → size-DynamicMessage (left_at m n v) ≤ size-DynamicMessage m
left_depth m n v less =
    let fields = known_of (message_type_of m) in
    no_deeper m (left_at m n v) (written_holds (Small m) n v less (prepared fields (stored_in m) n v) (prepared_holds (Small m) n v less (stored_in m) (all_small m) fields))

pub without_depth : (m new : DynamicMessage) (test : ℕ → Bool) → stored_in new ≡ without_values test (stored_in m) → size-DynamicMessage new ≤ size-DynamicMessage m
without_depth m new test is = no_deeper m new (subst (AllByRecursion (SmallIn m)) (sym is) (without_holds (Small m) test (stored_in m) (all_small m)))

pub alone_depth : (m new : DynamicMessage) → stored_in new ≡ values_alone (stored_in m) → size-DynamicMessage new ≤ size-DynamicMessage m
alone_depth m new is = no_deeper m new (subst (AllByRecursion (SmallIn m)) (sym is) (alone_holds (Small m) (stored_in m) (all_small m)))

pub nothing_depth : (m new : DynamicMessage) → stored_in new ≡ [] → size-DynamicMessage new ≤ size-DynamicMessage m
nothing_depth m new is = no_deeper m new (subst (AllByRecursion (SmallIn m)) (sym is) tt)

-- WHAT A VALUE HOLDS

pub message_small : (v : Value) (m : DynamicMessage) → v ≡ values.Message m → size-DynamicMessage m < size-Value v
message_small v m is = search (rules, the_lemmas)

module _ (v : Value) (map : BTreeMap MapKey Value Global) (is : v ≡ values.Map map) where
  value_small : (k : ℕ) (d : Value) → k < length (values_of map.entries) → size-Value (get_or (values_of map.entries) k d) < size-Value v
  value_small k d l = search (rules, the_lemmas)

  pub entries_small : All (λ e. size-Value e.1 < size-Value v) map.entries
  entries_small k d l = subst (λ w. size-Value w < size-Value v) (get_or-map (λ (e : MapKey × Value). e.1) map.entries k d d.1 l) (value_small k d.1 (search (rules, length-map)))
