-- Sorting is merging what is sorted.
use Rattle.std.specs.Prelude.{◌≡◌, ◌+◌, ◌<◌, ◌≤◌, ◌∷◌, ◌++◌}
use Rattle.prost_reflect_growth.proofs.Common.{IsStrictWeakOrder, slice_cmp, All, nat_cmp, is_lt, ℕ, Bool, true, false, cond, List, [], length, map, refl, sym, ap, ap₂, ◌∙◌, subst, arith, append_assoc, add-zero, get_or, true≢false, nat_list_cmp_total, map-append, length-map, get_or_append_left, get_or-append-add, All-nil, All-head, All-tail, All-append, All-map, ranks_by, unwrap_or-slice_get, map-map, FileDescriptorProto, file_names, message_names, enum_names, names_of, FlatEnumRow, FlatServiceRow, FlatRows, behind, places_from, all_places, pairs_at, pairs_from, all_pairs, ordered, value_places, value_full_name, value_full_names, service_names, text_or_empty, put_by, sorted_by, text_at, text_in, text_before}
use Rattle.prost_reflect_tables.proofs.CatalogParts.{same_sorted}
use Rattle.prost_reflect_tables.proofs.CatalogRanges.{order_all, places_below}
use Rattle.prost_reflect_tables.proofs.Orders.{Rises, order_rises}
use Rattle.prost_reflect_growth.specs.Merging.{merged, OrderedGrows, OrderedStays, later_value, ordered_values, ValuesGrow, ValuesStay, SortedGrows}
use Rattle.prost_reflect_growth.proofs.Already.{sorted_already}
use Rattle.prost_reflect_growth.proofs.Lists.{places_both, places_shifted}
use Rattle.prost_reflect_growth.proofs.Stays.{FieldDef, message_names_more, enum_names_more}

module _ {X : Type 0} (lt : X → X → Bool) (o : IsStrictWeakOrder lt) where
  -- One item more of those in order in front.
  merged_none : (ys : List X) → merged lt [] ys ≡ ys
  merged_none [] = refl
  merged_none (y ∷ ys) = ap (λ l. y ∷ l) (merged_none ys)

  passed : (y x : X) (b : Bool) → lt y x ≡ b → (xs ys : List X) →
      merged lt (x ∷ xs) (y ∷ ys) ≡ cond b (y ∷ merged lt (x ∷ xs) ys) (x ∷ merged lt xs (y ∷ ys))
  passed y x true e xs ys = rw e refl
  passed y x false e xs ys = rw e refl

  through : (a b c : X) → lt a b ≡ true → lt b c ≡ true → lt a c ≡ true
  through a b c e f = go (lt a c) refl
    where
      go : (t : Bool) → lt a c ≡ t → t ≡ true
      go true is = refl
      go false is = absurd (true≢false (sym e ∙ o.chain a c b is (o.one_way b c f)))

  -- What is put among the merged ones is put among those in front.
  put_merged : (x : X) (ys xs : List X) → put_by lt x (merged lt xs ys) ≡ merged lt (put_by lt x xs) ys
  put_merged x [] xs = refl
  put_merged x (y ∷ ys) [] = go (lt y x) refl (put_merged x ys [])
    where
      go : (b : Bool) → lt y x ≡ b → put_by lt x (merged lt [] ys) ≡ merged lt (x ∷ []) ys →
          cond b (y ∷ put_by lt x (merged lt [] ys)) (x ∷ y ∷ merged lt [] ys) ≡ merged lt (x ∷ []) (y ∷ ys)
      go true e more = ap (λ l. y ∷ l) more ∙ sym (passed y x true e [] ys)
      go false e more = sym (passed y x false e [] ys)
  put_merged x (y ∷ ys) (s ∷ xs) =
      go (lt y s) (lt s x) (lt y x) refl refl refl (put_merged x ys (s ∷ xs)) (put_merged x (y ∷ ys) xs)
    where
      go : (b c d : Bool) → lt y s ≡ b → lt s x ≡ c → lt y x ≡ d →
          put_by lt x (merged lt (s ∷ xs) ys) ≡ merged lt (put_by lt x (s ∷ xs)) ys →
          put_by lt x (merged lt xs (y ∷ ys)) ≡ merged lt (put_by lt x xs) (y ∷ ys) →
          put_by lt x (merged lt (s ∷ xs) (y ∷ ys)) ≡ merged lt (put_by lt x (s ∷ xs)) (y ∷ ys)
      go true true true e f g one two =
          ap (put_by lt x) (passed y s true e xs ys) ∙ (rw g (ap (λ l. y ∷ l) one) ∙ (ap (λ l. y ∷ merged lt l ys) (put_passed true f) ∙ (sym (passed y s true e (put_by lt x xs) ys) ∙ ap (λ l. merged lt l (y ∷ ys)) (sym (put_passed true f)))))
        where
          put_passed : (c : Bool) → lt s x ≡ c → put_by lt x (s ∷ xs) ≡ cond c (s ∷ put_by lt x xs) (x ∷ s ∷ xs)
          put_passed c e = rw e refl
      go true true false e f g one two = absurd (true≢false (sym (through y s x e f) ∙ g))
      go true false true e f g one two =
          ap (put_by lt x) (passed y s true e xs ys) ∙ (rw g (ap (λ l. y ∷ l) one) ∙ (ap (λ l. y ∷ merged lt l ys) (put_passed false f) ∙ (sym (passed y x true g (s ∷ xs) ys) ∙ ap (λ l. merged lt l (y ∷ ys)) (sym (put_passed false f)))))
        where
          put_passed : (c : Bool) → lt s x ≡ c → put_by lt x (s ∷ xs) ≡ cond c (s ∷ put_by lt x xs) (x ∷ s ∷ xs)
          put_passed c e = rw e refl
      go true false false e f g one two =
          ap (put_by lt x) (passed y s true e xs ys) ∙ (rw g (ap (λ l. x ∷ l) (sym (passed y s true e xs ys))) ∙ (sym (passed y x false g (s ∷ xs) ys) ∙ ap (λ l. merged lt l (y ∷ ys)) (sym (put_passed false f))))
        where
          put_passed : (c : Bool) → lt s x ≡ c → put_by lt x (s ∷ xs) ≡ cond c (s ∷ put_by lt x xs) (x ∷ s ∷ xs)
          put_passed c e = rw e refl
      go false true d e f g one two =
          ap (put_by lt x) (passed y s false e xs ys) ∙ (rw f (ap (λ l. s ∷ l) two) ∙ (sym (passed y s false e (put_by lt x xs) ys) ∙ ap (λ l. merged lt l (y ∷ ys)) (sym (put_passed true f))))
        where
          put_passed : (c : Bool) → lt s x ≡ c → put_by lt x (s ∷ xs) ≡ cond c (s ∷ put_by lt x xs) (x ∷ s ∷ xs)
          put_passed c e = rw e refl
      go false false true e f g one two = absurd (true≢false (sym g ∙ o.chain y s x e f))
      go false false false e f g one two =
          ap (put_by lt x) (passed y s false e xs ys) ∙ (rw f (ap (λ l. x ∷ l) (sym (passed y s false e xs ys))) ∙ (sym (passed y x false g (s ∷ xs) ys) ∙ ap (λ l. merged lt l (y ∷ ys)) (sym (put_passed false f))))
        where
          put_passed : (c : Bool) → lt s x ≡ c → put_by lt x (s ∷ xs) ≡ cond c (s ∷ put_by lt x xs) (x ∷ s ∷ xs)
          put_passed c e = rw e refl

  pub sorted_merges : (xs ys : List X) → sorted_by lt (xs ++ ys) ≡ merged lt (sorted_by lt xs) (sorted_by lt ys)
  sorted_merges [] ys = sym (merged_none (sorted_by lt ys))
  sorted_merges (x ∷ xs) ys = ap (put_by lt x) (sorted_merges xs ys) ∙ put_merged x (sorted_by lt ys) (sorted_by lt xs)

-- ANOTHER ORDER THAT AGREES

put_mapped : {X Y : Type 0} (f : X → Y) (lt : X → X → Bool) (gt : Y → Y → Bool) → ((a b : X) → gt (f a) (f b) ≡ lt a b) →
    (x : X) (xs : List X) → put_by gt (f x) (map f xs) ≡ map f (put_by lt x xs)
put_mapped f lt gt same x [] = refl
put_mapped f lt gt same x (y ∷ xs) = rw (same y x) (go (lt y x) (put_mapped f lt gt same x xs))
  where
    go : (b : Bool) → put_by gt (f x) (map f xs) ≡ map f (put_by lt x xs) →
        cond b (f y ∷ put_by gt (f x) (map f xs)) (f x ∷ f y ∷ map f xs) ≡ map f (cond b (y ∷ put_by lt x xs) (x ∷ y ∷ xs))
    go true more = ap (λ l. f y ∷ l) more
    go false more = refl

sorted_mapped : {X Y : Type 0} (f : X → Y) (lt : X → X → Bool) (gt : Y → Y → Bool) → ((a b : X) → gt (f a) (f b) ≡ lt a b) → (xs : List X) →
    sorted_by gt (map f xs) ≡ map f (sorted_by lt xs)
sorted_mapped f lt gt same [] = refl
sorted_mapped f lt gt same (x ∷ xs) = ap (put_by gt (f x)) (sorted_mapped f lt gt same xs) ∙ put_mapped f lt gt same x (sorted_by lt xs)

module _ {X : Type 0} (lt gt : X → X → Bool) (P : X → Type 0) (same : (a b : X) → P a → P b → gt a b ≡ lt a b) where
  put_agrees : (x : X) (xs : List X) → P x → All P xs → put_by gt x xs ≡ put_by lt x xs
  put_agrees x [] h hs = refl
  put_agrees x (y ∷ xs) h hs = rw (same y x (All-head P y xs hs) h, put_agrees x xs h (All-tail P y xs hs)) refl

  sorted_agrees : (xs : List X) → All P xs → sorted_by gt xs ≡ sorted_by lt xs
  sorted_agrees [] h = refl
  sorted_agrees (x ∷ xs) h =
      ap (put_by gt x) (sorted_agrees xs (All-tail P x xs h)) ∙ put_agrees x (sorted_by lt xs) (All-head P x xs h) (order_all P lt xs (All-tail P x xs h))

-- TEXTS

pub text_order : {X : Type 0} (text : X → List ℕ) → IsStrictWeakOrder (text_before text)
text_order text = ranks_by nat_list_cmp_total text

texts_agree : {X Y : Type 0} (f : Y → List ℕ) (g : X → List ℕ) (a b : Y) (x y : X) → f a ≡ g x → f b ≡ g y →
    text_before f a b ≡ text_before g x y
texts_agree f g a b x y p q = ap₂ (λ s t. is_lt (slice_cmp nat_cmp s t)) p q

module _ (old new : List (List ℕ)) where
  front_text : (i : ℕ) → i < length old → text_at (old ++ new) i ≡ text_at old i
  front_text i less = unwrap_or-slice_get (old ++ new) i [] ∙ (get_or_append_left old new [] i less ∙ sym (unwrap_or-slice_get old i []))

  back_text : (i : ℕ) → text_at (old ++ new) (length old + i) ≡ text_at new i
  back_text i = unwrap_or-slice_get (old ++ new) (length old + i) [] ∙ (get_or-append-add old new i [] ∙ sym (unwrap_or-slice_get new i []))

  -- The order of all is that of the old ones among these.
  old_ordered : sorted_by (text_before (text_at (old ++ new))) (all_places old) ≡ ordered old
  old_ordered =
      sorted_agrees (text_before (text_at old)) (text_before (text_at (old ++ new))) (λ i. i < length old)
      (λ a b p q. texts_agree (text_at (old ++ new)) (text_at old) a b a b (front_text a p) (front_text b q))
      (all_places old) (places_below (λ (t : List ℕ). true) 0 (length old) old (omega arith))

pub ordered_grows : OrderedGrows
ordered_grows old new =
    let all = text_at (old ++ new) in
    let later = λ (i : ℕ). length old + i in
    let shifted : places_from (λ (t : List ℕ). true) (0 + length old) new ≡ map later (all_places new) =
    ap (λ k. places_from (λ (t : List ℕ). true) k new) (omega arith) ∙ places_shifted (λ (t : List ℕ). true) (length old) 0 new in
    ap (sorted_by (text_before all)) (places_both (λ (t : List ℕ). true) 0 old new ∙ ap (λ l. all_places old ++ l) shifted)
    ∙ (sorted_merges (text_before all) (text_order all) (all_places old) (map later (all_places new))
    ∙ ap₂ (merged (text_before all)) (old_ordered old new)
    (sorted_mapped later (text_before (text_at new)) (text_before all) (λ a b. texts_agree all (text_at new) (later a) (later b) a b (back_text old new a) (back_text old new b)) (all_places new)))

pub ordered_stays : OrderedStays
ordered_stays old new =
    let all = text_at (old ++ new) in
    sorted_already (text_before all) (text_order all) (ordered old) (subst (Rises (text_before all)) (old_ordered old new) (order_rises (text_before all) (text_order all) (all_places old)))

-- VALUES OF ENUMS

pairs_both : {X : Type 0} (i : ℕ) (xs ys : List (List X)) → pairs_from i (xs ++ ys) ≡ pairs_from i xs ++ pairs_from (i + length xs) ys
pairs_both i [] ys = rw (add-zero i) refl
pairs_both i (x ∷ xs) ys =
    let e : i + 1 + length xs ≡ i + length (x ∷ xs) = omega arith in
    rw (← e) (ap (λ l. pairs_at i x ++ l) (pairs_both (i + 1) xs ys) ∙ sym (append_assoc (pairs_at i x) (pairs_from (i + 1) xs) (pairs_from (i + 1 + length xs) ys)))

pairs_shifted : {X : Type 0} (n i : ℕ) (lists : List (List X)) → pairs_from (n + i) lists ≡ map (later_value n) (pairs_from i lists)
pairs_shifted n i [] = refl
pairs_shifted n i (xs ∷ lists) =
    let e : n + i + 1 ≡ n + (i + 1) = omega arith in
    rw e (ap₂ (λ a b. a ++ b) (sym (map-map (later_value n) (λ (place : ℕ). (i, place)) (all_places xs))) (pairs_shifted n (i + 1) lists)
    ∙ sym (map-append (later_value n) (pairs_at i xs) (pairs_from (i + 1) lists)))

pairs_below : {X : Type 0} (n i : ℕ) (lists : List (List X)) → i + length lists ≤ n → All (λ (p : ℕ × ℕ). p.0 < n) (pairs_from i lists)
pairs_below n i [] h = All-nil (λ (p : ℕ × ℕ). p.0 < n)
pairs_below {X} n i (xs ∷ lists) h =
    All-append (λ (p : ℕ × ℕ). p.0 < n) (pairs_at i xs) (pairs_from (i + 1) lists)
    (All-map (λ (p : ℕ × ℕ). p.0 < n) (λ (place : ℕ). (i, place)) (all_places xs) (λ k d less. omega arith))
    (pairs_below n (i + 1) lists (omega arith))

abbrev names_in : FlatEnumRow → List (List ℕ)
names_in e = names_of e.values

module _ (old new : FlatRows) where
  values_more : value_places (behind old new) ≡ value_places old ++ map (later_value (length old.enums)) (value_places new)
  values_more =
      let values = λ (e : FlatEnumRow). e.values in
      let count : 0 + length (map values old.enums) ≡ length old.enums + 0 = omega (arith, length-map old.enums values) in
      ap all_pairs (map-append values old.enums new.enums)
      ∙ (pairs_both 0 (map values old.enums) (map values new.enums)
      ∙ ap (λ l. value_places old ++ l) (ap (λ k. pairs_from k (map values new.enums)) count ∙ pairs_shifted (length old.enums) 0 (map values new.enums)))

  names_more : value_full_names (behind old new) ≡ value_full_names old ++ value_full_names new
  names_more = map-append names_in old.enums new.enums

  front_value : (p : ℕ × ℕ) → p.0 < length old.enums → value_full_name (behind old new) p ≡ value_full_name old p
  front_value p less =
      let inside : p.0 < length (value_full_names old) = omega (arith, length-map old.enums names_in) in
      ap (λ l. text_in l p) names_more
      ∙ ap (λ (l : List (List ℕ)). text_at l p.1)
      (unwrap_or-slice_get (value_full_names old ++ value_full_names new) p.0 [] ∙ (get_or_append_left (value_full_names old) (value_full_names new) [] p.0 inside ∙ sym (unwrap_or-slice_get (value_full_names old) p.0 [])))

  back_value : (p : ℕ × ℕ) → value_full_name (behind old new) (later_value (length old.enums) p) ≡ value_full_name new p
  back_value p =
      let count : length old.enums + p.0 ≡ length (value_full_names old) + p.0 = omega (arith, length-map old.enums names_in) in
      ap (λ l. text_in l (later_value (length old.enums) p)) names_more
      ∙ ap (λ (l : List (List ℕ)). text_at l p.1)
      (unwrap_or-slice_get (value_full_names old ++ value_full_names new) (length old.enums + p.0) []
      ∙ (ap (λ k. get_or (value_full_names old ++ value_full_names new) k []) count
      ∙ (get_or-append-add (value_full_names old) (value_full_names new) p.0 [] ∙ sym (unwrap_or-slice_get (value_full_names new) p.0 []))))

  old_values_ordered : sorted_by (text_before (value_full_name (behind old new))) (value_places old) ≡ ordered_values old
  old_values_ordered =
      let all = value_full_name (behind old new) in
      let values = λ (e : FlatEnumRow). e.values in
      sorted_agrees (text_before (value_full_name old)) (text_before all) (λ (p : ℕ × ℕ). p.0 < length old.enums)
      (λ a b p q. texts_agree all (value_full_name old) a b a b (front_value a p) (front_value b q))
      (value_places old) (pairs_below (length old.enums) 0 (map values old.enums) (omega (arith, length-map old.enums values)))

pub values_grow : ValuesGrow
values_grow old new =
    let all = value_full_name (behind old new) in
    let later = later_value (length old.enums) in
    ap (sorted_by (text_before all)) (values_more old new)
    ∙ (sorted_merges (text_before all) (text_order all) (value_places old) (map later (value_places new))
    ∙ ap₂ (merged (text_before all)) (old_values_ordered old new)
    (sorted_mapped later (text_before (value_full_name new)) (text_before all)
    (λ a b. texts_agree all (value_full_name new) (later a) (later b) a b (back_value old new a) (back_value old new b)) (value_places new)))

pub values_stay : ValuesStay
values_stay old new =
    let all = value_full_name (behind old new) in
    sorted_already (text_before all) (text_order all) (ordered_values old)
    (subst (Rises (text_before all)) (old_values_ordered old new) (order_rises (text_before all) (text_order all) (value_places old)))

-- ALL OF THEM

pub sorted_grows : SortedGrows
sorted_grows files added old new =
    same_sorted _ _
    (ap ordered (map-append (λ (f : FileDescriptorProto). text_or_empty f.name) files added) ∙ ordered_grows (file_names files) (file_names added))
    (ap ordered (message_names_more old new) ∙ ordered_grows (message_names old) (message_names new))
    (ap ordered (enum_names_more old new) ∙ ordered_grows (enum_names old) (enum_names new))
    (ap ordered (map-append (λ (d : FieldDef). d.full_name) old.extensions new.extensions) ∙ ordered_grows (names_of old.extensions) (names_of new.extensions))
    (ap ordered (map-append (λ (s : FlatServiceRow). s.definition.full_name) old.services new.services) ∙ ordered_grows (service_names old) (service_names new))
    (values_grow old new)
