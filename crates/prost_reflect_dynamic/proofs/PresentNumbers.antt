-- What is present in a message's content is what is present in its entries, one after another.
use Rattle.std.specs.Prelude.{◌≡◌, ◌||◌, ◌++◌, ◌+◌, ◌≤◌, ◌<◌, ◌∷◌}
use Rattle.prost_reflect_dynamic.proofs.Common.{ℕ, zero, suc, Bool, true, false, cond, List, [], length, nat_lt, Option, Some, unwrap_or, refl, ap, ap₂, sym, ◌∙◌, append-nil, arith, flat_map, ltb-true, ltb-false, ne_eqb, option_map, option_and_then, is_eq, IsStrictlySortedBy, keys_of, Field, Entries, Slot, slot_at, numbers_in, entries_of, kept, kept_entries, Ascending, is_in, not_in, entries_ascending, slot_outside, FieldSlot, DynamicMessage, PresentNumber, Value, IsAscending, item_at, known_of, value_in, records_in, value_of, content_of, message_type_of, stored_in, entries_from, payloads_of, slot_present, present_in, kept_slot, entry_present, apart_of, itself}
use Rattle.prost_reflect_dynamic.proofs.Views.{shown, content_of_message}
use Rattle.prost_reflect_dynamic.proofs.Slots.{keys_ascending, not_among}
use Rattle.prost_reflect_dynamic.proofs.Stored.{slot_stored}
use Rattle.prost_reflect_dynamic.proofs.ContentChanges.{message_arranged}
use Rattle.prost_reflect_dynamic.proofs.KeptSlots.{slot_kept}

-- LISTS OVER ASCENDING NUMBERS

module _ {A : Type 0} where
  -- the function has nothing outside the numbers
  abbrev Within : (ℕ → List A) → ℕ → List ℕ → Type 0
  Within f low ns = (k : ℕ) → low ≤ k → is_in k ns ≡ false → f k ≡ []

  within_tail : (f : ℕ → List A) (low n : ℕ) (ns : List ℕ) → low ≤ n → Within f low (n ∷ ns) → Within f (suc n) ns
  within_tail f low n ns l h k more out = h k (omega (arith, l, more)) (ap (λ b. b || is_in k ns) (ne_eqb k n (λ e. omega (arith, more, e))) ∙ out)

  within_less : (f : ℕ → List A) (low n : ℕ) (ns : List ℕ) → low ≤ n → Within f low ns → Within f (suc n) ns
  within_less f low n ns l h k more out = h k (omega (arith, l, more)) out

  -- over any ascending numbers that have all of it
  flat_within : (f : ℕ → List A) (fuel low : ℕ) (ns ms : List ℕ) → length ns + length ms ≤ fuel → Ascending low ns → Ascending low ms → Within f low ns → Within f low ms → flat_map f ns ≡ flat_map f ms
  flat_within f fuel low [] [] enough a b h k = refl
  flat_within f zero low (n ∷ ns) ms enough a b h k = absurd (omega arith)
  flat_within f zero low [] (m ∷ ms) enough a b h k = absurd (omega arith)
  flat_within f (suc fuel) low [] (m ∷ ms) enough a (l, b) h k =
      flat_within f fuel (suc m) [] ms (omega arith) tt b (within_less f low m [] l h) (within_tail f low m ms l k)
      ∙ ap (λ xs. xs ++ flat_map f ms) (sym (h m l refl))
  flat_within f (suc fuel) low (n ∷ ns) [] enough (l, a) b h k =
      ap (λ xs. xs ++ flat_map f ns) (k n l refl)
      ∙ flat_within f fuel (suc n) ns [] (omega arith) a tt (within_tail f low n ns l h) (within_less f low n [] l k)
  flat_within f (suc fuel) low (n ∷ ns) (m ∷ ms) enough (l, a) (l', b) h k =
      go (nat_lt n m) (nat_lt m n) refl refl
      (λ less. flat_within f fuel (suc n) ns (m ∷ ms) (omega arith) a (less, b) (within_tail f low n ns l h) (within_less f low n (m ∷ ms) l k))
      (λ less. flat_within f fuel (suc m) (n ∷ ns) ms (omega arith) (less, a) b (within_less f low m (n ∷ ns) l' h) (within_tail f low m ms l' k))
      (λ same. flat_within f fuel (suc n) ns ms (omega arith) a (rw same b) (within_tail f low n ns l h) (rw same (within_tail f low m ms l' k)))
    where
      go : (x y : Bool) → nat_lt n m ≡ x → nat_lt m n ≡ y
          → (n < m → flat_map f ns ≡ flat_map f (m ∷ ms)) → (m < n → flat_map f (n ∷ ns) ≡ flat_map f ms) → (n ≡ m → flat_map f ns ≡ flat_map f ms)
          → flat_map f (n ∷ ns) ≡ flat_map f (m ∷ ms)
      go true y e g one two three =
          let less : n < m = ltb-true n m e in
          ap (λ xs. xs ++ flat_map f ns) (k n l (not_in n m (m ∷ ms) (omega arith, b) less)) ∙ one less
      go false true e g one two three =
          let less : m < n = ltb-true m n g in
          two less ∙ ap (λ xs. xs ++ flat_map f ms) (sym (h m l' (not_in m n (n ∷ ns) (omega arith, a) less)))
      go false false e g one two three =
          let same : n ≡ m = omega (arith, ltb-false n m e, ltb-false m n g) in
          ap₂ (λ j rest. f j ++ rest) same (three same)

  -- of two functions that agree from a number on
  flat_from : (f g : ℕ → List A) (low : ℕ) (ns : List ℕ) → Ascending low ns → ((n : ℕ) → low ≤ n → f n ≡ g n) → flat_map f ns ≡ flat_map g ns
  flat_from f g low [] a same = refl
  flat_from f g low (n ∷ ns) (l, a) same = ap₂ (λ xs ys. xs ++ ys) (same n l) (flat_from f g (suc n) ns a (λ k more. same k (omega (arith, l, more))))

-- ENTRIES

-- the slot of an entry, or of none
abbrev pub slot_of_item : Option (FieldSlot Value) → Slot
slot_of_item o = record { value = option_map value_of (option_and_then value_in o); unknowns = payloads_of (unwrap_or (option_and_then records_in o) []) }

abbrev pub present_of_item : List Field → ℕ → Option (FieldSlot Value) → List PresentNumber
present_of_item fields n o = slot_present fields n (kept_slot fields n (slot_of_item o))

module _ {A : Type 0} (at : ℕ → Option (FieldSlot Value) → List A) where
  -- what the items of all numbers give is what the entries give, one after another
  pub by_keys : (es : List (ℕ × FieldSlot Value)) → IsAscending es → flat_map (λ n. at n (item_at es n)) (keys_of es) ≡ flat_map (λ e. at e.0 (Some e.1)) es
  unfolding IsStrictlySortedBy
  by_keys [] s = refl
  by_keys (e ∷ es) s = ap₂ (λ xs ys. xs ++ ys) here (behind ∙ by_keys es s.1)
    where
      here : at e.0 (item_at (e ∷ es) e.0) ≡ at e.0 (Some e.1)
      here = ap (λ o. at e.0 (cond (is_eq o) (Some e.1) (item_at es e.0))) (itself e.0)

      above : Ascending (suc e.0) (keys_of es)
      above = (keys_ascending (e ∷ es) s).1

      behind : flat_map (λ n. at n (item_at (e ∷ es) n)) (keys_of es) ≡ flat_map (λ n. at n (item_at es n)) (keys_of es)
      behind = flat_from _ _ (suc e.0) (keys_of es) above (λ n more. ap (λ b. at n (cond b (Some e.1) (item_at es n))) (apart_of n e.0 (λ same. omega (arith, same, more))))

pub present_items : (m : DynamicMessage) → IsAscending (stored_in m) → present_in (kept (content_of m)) ≡ flat_map (λ n. present_of_item (known_of (message_type_of m)) n (item_at (stored_in m) n)) (keys_of (stored_in m))
present_items m s =
    ap (λ c. present_in (kept c)) (content_of_message m)
    ∙ flat_within at (length (numbers_in left) + length (keys_of es)) 0 (numbers_in left) (keys_of es) (omega arith) (entries_ascending left) (keys_ascending es s)
    (λ k low out. ap (slot_present fields k) (slot_outside left k out))
    (λ k low out. same k ∙ ap (present_of_item fields k) (not_among es k out))
    ∙ flat_from at (λ n. present_of_item fields n (item_at es n)) 0 (keys_of es) (keys_ascending es s) (λ n low. same n)
  where
    es : List (ℕ × FieldSlot Value)
    es = stored_in m

    fields : List Field
    fields = known_of (message_type_of m)

    left : Entries
    left = kept_entries fields (entries_from (shown es))

    at : ℕ → List PresentNumber
    at n = slot_present fields n (slot_at left n)

    same : (k : ℕ) → at k ≡ present_of_item fields k (item_at es k)
    same k = ap (slot_present fields k) (slot_kept fields (entries_from (shown es)) k (rw (sym (ap entries_of (content_of_message m))) (message_arranged m s)) ∙ ap (kept_slot fields k) (slot_stored es k s))

present_entries : (m : DynamicMessage) → IsAscending (stored_in m) → present_in (kept (content_of m)) ≡ flat_map (λ e. entry_present (known_of (message_type_of m)) e.0 e.1) (stored_in m)
present_entries m s = present_items m s ∙ by_keys (present_of_item (known_of (message_type_of m))) (stored_in m) s

-- a walk over all entries has found it
pub all_present : (m : DynamicMessage) (left : List (ℕ × FieldSlot Value)) (numbers : List PresentNumber) → IsAscending (stored_in m) → left ≡ []
    → flat_map (λ e. entry_present (known_of (message_type_of m)) e.0 e.1) (stored_in m) ≡ numbers ++ flat_map (λ e. entry_present (known_of (message_type_of m)) e.0 e.1) left
    → numbers ≡ present_in (kept (content_of m))
all_present m left numbers s none h =
    sym (append-nil numbers) ∙ ap (λ ds. numbers ++ flat_map by ds) (sym none) ∙ sym h ∙ sym (present_entries m s)
  where
    by : ℕ × FieldSlot Value → List PresentNumber
    by e = entry_present (known_of (message_type_of m)) e.0 e.1
