-- A part of a message, copied number by number.
use Rattle.std.specs.Prelude.{◌≡◌, ◌∷◌}
use Rattle.std.specs.List.Sorted.{IsStrictlySortedBy}
use Rattle.prost_reflect_maps.specs.NumberSets.{is_among}
use Rattle.prost_reflect_maps.proofs.ItemChanges.{Apart, by_number, put_same, put_apart, ascending_put_item, same_items}
use Rattle.prost_reflect_maps.proofs.Moving.{above_none, first_among, among_apart}
use Rattle.prost_reflect_fields.proofs.Replaced.{part_replaced}
use Rattle.prost_reflect_dynamic.proofs.Common.{ℕ, Bool, true, false, cond, List, [], None, Some, refl, ap, sym, subst, ◌∙◌, true≢false, option_map, is_eq, nat_cmp, BTreeSet, has, FieldSlot, Value, IsAscending, item_at, put_item, AreReplaced, SameSlot}
use Rattle.prost_reflect_dynamic.proofs.Copied.{entry_parts, parts_of, keys_of_parts}
use Rattle.prost_reflect_dynamic.proofs.MessageParts.{part, parts_put, same_parts}

abbrev Slots : Type 0
Slots = List (ℕ × FieldSlot Value)

parts_at : (es : Slots) (k : ℕ) → item_at (parts_of es) k ≡ option_map entry_parts (item_at es k)
parts_at [] k = refl
parts_at (e ∷ es) k = cases (is_eq (nat_cmp k e.0)) (parts_at es k)
  where
    cases : (b : Bool) → item_at (parts_of es) k ≡ option_map entry_parts (item_at es k) → cond b (Some (entry_parts e.1)) (item_at (parts_of es) k) ≡ option_map entry_parts (cond b (Some e.1) (item_at es k))
    cases true rest = refl
    cases false rest = rest

ascending_parts : (es : Slots) → IsAscending es → IsAscending (parts_of es)
ascending_parts es s = subst (IsStrictlySortedBy nat_cmp) (sym (keys_of_parts es)) s

-- Where the numbers that are left have what stands there, and the rest is as it is, the part has what it is to have.
pub record IsCopying (numbers : BTreeSet ℕ) (es : Slots) (left : List ℕ) (fields : Slots) : Type 0 where
  pub at : (k : ℕ) → cond (is_among left k) (item_at (parts_of es) k) (item_at (parts_of fields) k) ≡ item_at (parts_of (part numbers es)) k
  pub none : (k : ℕ) → is_among left k ≡ true → item_at (parts_of fields) k ≡ None
  pub ascends : IsAscending fields
  pub apart : IsStrictlySortedBy nat_cmp left

module _ (numbers : BTreeSet ℕ) (es : Slots) where
  replaced : IsAscending es → AreReplaced numbers [] es (part numbers es)
  replaced s = part_replaced numbers es s

  pub copying_begun : IsAscending es → IsStrictlySortedBy nat_cmp numbers.keys → IsCopying numbers es numbers.keys []
  unfolding IsStrictlySortedBy
  copying_begun s sorted = record {
    at = λ k. there k (has numbers k) refl;
    none = λ k among. refl;
    ascends = tt;
    apart = sorted;
  }
    where
      there : (k : ℕ) (b : Bool) → has numbers k ≡ b → cond b (item_at (parts_of es) k) None ≡ item_at (parts_of (part numbers es)) k
      there k b is = chosen b is ∙ sym (parts_at (part numbers es) k ∙ ap (option_map entry_parts) ((replaced s).at k))
        where
          chosen : (b : Bool) → has numbers k ≡ b → cond b (item_at (parts_of es) k) None ≡ option_map entry_parts (cond (has numbers k) (item_at es k) None)
          chosen true is = parts_at es k ∙ ap (λ b. option_map entry_parts (cond b (item_at es k) None)) (sym is)
          chosen false is = ap (λ b. option_map entry_parts (cond b (item_at es k) None)) (sym is)

  module _ (n : ℕ) (left : List ℕ) (fields : Slots) (c : IsCopying numbers es (n ∷ left) fields) where
    gone : is_among left n ≡ false
    unfolding IsStrictlySortedBy
    gone = above_none n left c.apart.0

    rest_apart : IsStrictlySortedBy nat_cmp left
    unfolding IsStrictlySortedBy
    rest_apart = c.apart.1

    apart_from : (k : ℕ) {P : Type 0} → is_among left k ≡ true → (Apart k n → P) → P
    apart_from k {P} among then = by_number k n (λ is. absurd (true≢false (sym among ∙ ap (is_among left) is ∙ gone))) then

    -- what is at the number is what is to be there, and at others nothing changed
    next_at : (new : Slots) → item_at (parts_of new) n ≡ item_at (parts_of es) n → ((k : ℕ) → Apart k n → item_at (parts_of new) k ≡ item_at (parts_of fields) k)
        → (k : ℕ) → cond (is_among left k) (item_at (parts_of es) k) (item_at (parts_of new) k) ≡ item_at (parts_of (part numbers es)) k
    next_at new own others k = by_number k n here there ∙ c.at k
      where
        own_at : cond (is_among left n) (item_at (parts_of es) n) (item_at (parts_of new) n) ≡ cond (is_among (n ∷ left) n) (item_at (parts_of es) n) (item_at (parts_of fields) n)
        own_at = ap (λ b. cond b (item_at (parts_of es) n) (item_at (parts_of new) n)) gone ∙ own
            ∙ ap (λ b. cond b (item_at (parts_of es) n) (item_at (parts_of fields) n)) (sym (first_among n left))

        here : k ≡ n → cond (is_among left k) (item_at (parts_of es) k) (item_at (parts_of new) k) ≡ cond (is_among (n ∷ left) k) (item_at (parts_of es) k) (item_at (parts_of fields) k)
        here is = subst (λ z. cond (is_among left z) (item_at (parts_of es) z) (item_at (parts_of new) z) ≡ cond (is_among (n ∷ left) z) (item_at (parts_of es) z) (item_at (parts_of fields) z)) (sym is) own_at

        there : Apart k n → cond (is_among left k) (item_at (parts_of es) k) (item_at (parts_of new) k) ≡ cond (is_among (n ∷ left) k) (item_at (parts_of es) k) (item_at (parts_of fields) k)
        there apart = ap (cond (is_among left k) (item_at (parts_of es) k)) (others k apart) ∙ ap (λ b. cond b (item_at (parts_of es) k) (item_at (parts_of fields) k)) (sym (among_apart k n left apart))

    pub copied_on : (e d : FieldSlot Value) → item_at es n ≡ Some e → SameSlot e d → IsCopying numbers es left (put_item fields n d)
    copied_on e d found same = record {
      at = next_at (put_item fields n d)
          (ap (λ ps. item_at ps n) (parts_put fields n d) ∙ put_same (parts_of fields) n (entry_parts d) ∙ ap Some (same_parts e d same) ∙ sym (parts_at es n ∙ ap (option_map entry_parts) found))
          (λ k apart. kept k apart);
      none = λ k among. apart_from k among (λ apart. kept k apart ∙ c.none k (among_apart k n left apart ∙ among));
      ascends = ascending_put_item fields n d c.ascends;
      apart = rest_apart;
    }
      where
        kept : (k : ℕ) → Apart k n → item_at (parts_of (put_item fields n d)) k ≡ item_at (parts_of fields) k
        kept k apart = ap (λ ps. item_at ps k) (parts_put fields n d) ∙ put_apart (parts_of fields) n k (entry_parts d) apart

    pub passed_on : item_at es n ≡ None → IsCopying numbers es left fields
    passed_on missing = record {
      at = next_at fields (c.none n (first_among n left) ∙ sym (parts_at es n ∙ ap (option_map entry_parts) missing)) (λ k apart. refl);
      none = λ k among. apart_from k among (λ apart. c.none k (among_apart k n left apart ∙ among));
      ascends = c.ascends;
      apart = rest_apart;
    }

  pub all_copied : (fields : Slots) → IsAscending es → IsCopying numbers es [] fields → parts_of fields ≡ parts_of (part numbers es)
  all_copied fields s c = same_items (parts_of fields) (parts_of (part numbers es)) (ascending_parts fields c.ascends) (ascending_parts (part numbers es) (replaced s).ascends) c.at
