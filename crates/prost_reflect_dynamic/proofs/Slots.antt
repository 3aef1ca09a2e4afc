-- The slots of the entries that a list of stored entries shows.
use Rattle.std.specs.Prelude.{◌≡◌, ◌+◌, ◌≤◌, ◌∷◌}
use Rattle.prost_reflect_dynamic.proofs.Common.{ℕ, suc, false, cond, nat_eq, List, [], length, Option, Some, None, refl, ap, ap₂, sym, ◌∙◌, subst, arith, true≢false, ne_eqb, eqb-false, or_parts, nat_cmp, is_eq, Less, AllByRecursion, IsStrictlySortedBy, keys_of, Entries, Slot, slot_at, store, table, insert_number, numbers_in, changed, Ascending, is_in, Covers, empty_slot, table_same, table_covers, slots_same, value_apart, unknowns_apart, value_here, unknowns_here, insert_ascending, entries_ascending, in_insert, slot_outside, FieldSlot, IsAscending, item_at, slot_of, entries_from, Apart, by_number, none_above, itself}
use Rattle.std.proofs.lemmas.Grind.{common_steps}
use Rattle.prost_reflect_wire.specs.Content.{Value}
use Rattle.prost_reflect_laws.proofs.Rebuilt.{table_from}

abbrev pub slot_in : Option (FieldSlot Value) → Slot
slot_in None = empty_slot
slot_in (Some e) = slot_of (λ v. v) e

store_apart : (n k : ℕ) (slot : Slot) (es : Entries) → nat_eq n k ≡ false → slot_at (store n slot es) k ≡ slot_at es k
store_apart n k slot es h = slots_same (slot_at (store n slot es) k) (slot_at es k) (value_apart n k slot es h) (unknowns_apart n k slot es h)

store_here : (n : ℕ) (slot : Slot) (es : Entries) → slot_at es n ≡ empty_slot → slot_at (store n slot es) n ≡ slot
store_here n slot es h = slots_same (slot_at (store n slot es) n) slot (value_here n slot es (ap (λ (s : Slot). s.value) h)) (unknowns_here n slot es (ap (λ (s : Slot). s.unknowns) h))

differ : (n k : ℕ) → Apart k n → nat_eq n k ≡ false
differ n k a = ne_eqb n k (λ e. true≢false (sym (ap is_eq (ap (nat_cmp k) e ∙ itself k)) ∙ a))

-- the slot of a number is that of its entry
pub slot_from : (es : List (ℕ × FieldSlot Value)) (k : ℕ) → IsAscending es → slot_at (entries_from es) k ≡ slot_in (item_at es k)
unfolding IsStrictlySortedBy
slot_from [] k s = refl
slot_from (e ∷ es) k s = by_number k e.0 (λ is. here is (slot_from es k s.1)) (λ apart. there apart (slot_from es k s.1))
  where
    there : Apart k e.0 → slot_at (entries_from es) k ≡ slot_in (item_at es k) → slot_at (store e.0 (slot_of (λ v. v) e.1) (entries_from es)) k ≡ slot_in (cond (is_eq (nat_cmp k e.0)) (Some e.1) (item_at es k))
    there apart rest = store_apart e.0 k (slot_of (λ v. v) e.1) (entries_from es) (differ e.0 k apart) ∙ rest ∙ ap (λ b. slot_in (cond b (Some e.1) (item_at es k))) (sym apart)

    here : k ≡ e.0 → slot_at (entries_from es) k ≡ slot_in (item_at es k) → slot_at (store e.0 (slot_of (λ v. v) e.1) (entries_from es)) k ≡ slot_in (cond (is_eq (nat_cmp k e.0)) (Some e.1) (item_at es k))
    here is rest =
        let nothing : item_at es k ≡ None = subst (λ z. item_at es z ≡ None) (sym is) (none_above e.0 es s.0) in
        let behind : slot_at (entries_from es) e.0 ≡ empty_slot = subst (λ z. slot_at (entries_from es) z ≡ empty_slot) is (rest ∙ ap slot_in nothing) in
        ap (slot_at (store e.0 (slot_of (λ v. v) e.1) (entries_from es))) is ∙ store_here e.0 (slot_of (λ v. v) e.1) (entries_from es) behind
        ∙ ap (λ b. slot_in (cond b (Some e.1) (item_at es k))) (sym (ap is_eq (ap (nat_cmp k) (sym is) ∙ itself k)))

-- ASCENDING ENTRIES ARE THE TABLE OF THEIR SLOTS

less_is : (m n : ℕ) → nat_cmp m n ≡ Less → suc m ≤ n
less_is m n h = grind (arith, common_steps, h)

ascending_above : (m : ℕ) (ks : List ℕ) → AllByRecursion (λ y. nat_cmp m y ≡ Less) ks → IsStrictlySortedBy nat_cmp ks → Ascending (suc m) ks
unfolding IsStrictlySortedBy
ascending_above m [] all s = tt
ascending_above m (k ∷ ks) all s = (less_is m k all.0, ascending_above k ks s.0 s.1)

pub keys_ascending : {T : Type 0} (es : List (ℕ × T)) → IsAscending es → Ascending 0 (keys_of es)
unfolding IsStrictlySortedBy
keys_ascending [] s = tt
keys_ascending (e ∷ es) s = (omega arith, ascending_above e.0 (keys_of es) s.0 s.1)

pub not_among : {T : Type 0} (es : List (ℕ × T)) (k : ℕ) → is_in k (keys_of es) ≡ false → item_at es k ≡ None
not_among [] k h = refl
not_among (e ∷ es) k h =
    let (apart, rest) = or_parts (nat_eq k e.0) (is_in k (keys_of es)) h in
    ap (λ b. cond b (Some e.1) (item_at es k)) (is_apart apart) ∙ not_among es k rest
  where
    is_apart : nat_eq k e.0 ≡ false → Apart k e.0
    is_apart h = by_number k e.0 (λ e. absurd (eqb-false k _ h e)) (λ a. a)

from_table : (es : List (ℕ × FieldSlot Value)) → IsAscending es → entries_from es ≡ table (slot_at (entries_from es)) (keys_of es)
unfolding IsStrictlySortedBy
from_table [] s = refl
from_table (e ∷ es) s =
    let first : slot_at (entries_from (e ∷ es)) e.0 ≡ slot_of (λ v. v) e.1 = slot_from (e ∷ es) e.0 s ∙ ap (λ o. slot_in (cond (is_eq o) (Some e.1) (item_at es e.0))) (itself e.0) in
    ap₂ (store e.0) (sym first) (from_table es s.1
    ∙ table_from (slot_at (entries_from es)) (slot_at (entries_from (e ∷ es))) (suc e.0) (keys_of es) (ascending_above e.0 (keys_of es) s.0 s.1)
    (λ n more. sym (store_apart e.0 n (slot_of (λ v. v) e.1) (entries_from es) (ne_eqb e.0 n (λ same. omega (arith, same, more))))))

-- what holds of the table of the slots holds of the entries
pub from_keys : (P : Entries → Type 0) (es : List (ℕ × FieldSlot Value)) → IsAscending es → ((ns : List ℕ) → Ascending 0 ns → P (table (slot_at (entries_from es)) ns)) → P (entries_from es)
from_keys P es s h = subst P (sym (from_table es s)) (h (keys_of es) (keys_ascending es s))

covered : (es : List (ℕ × FieldSlot Value)) → IsAscending es → Covers (slot_at (entries_from es)) 0 (keys_of es)
covered es s k low out = slot_from es k s ∙ ap slot_in (not_among es k out)

-- entries are the table of any slots that they have, over any numbers that cover these
pub from_slots : (es : List (ℕ × FieldSlot Value)) (at : ℕ → Slot) (ns : List ℕ) → IsAscending es → Ascending 0 ns → Covers at 0 ns → ((k : ℕ) → slot_at (entries_from es) k ≡ at k) → entries_from es ≡ table at ns
from_slots es at ns s a c same =
    from_table es s ∙ table_same (slot_at (entries_from es)) at (keys_of es) same
    ∙ table_covers at (length (keys_of es) + length ns) 0 (keys_of es) ns (omega arith) (keys_ascending es s) a (λ k low out. sym (same k) ∙ covered es s k low out) c

-- ascending entries of the same slots are the same
pub same_slots_same : (es ds : List (ℕ × FieldSlot Value)) → IsAscending es → IsAscending ds → ((k : ℕ) → slot_at (entries_from es) k ≡ slot_at (entries_from ds) k) → entries_from es ≡ entries_from ds
same_slots_same es ds s r same = from_slots es (slot_at (entries_from ds)) (keys_of ds) s (keys_ascending ds r) (covered ds r) same ∙ sym (from_table ds r)

-- entries whose slots are those of others, changed
pub changed_from : (es : List (ℕ × FieldSlot Value)) (old : Entries) (n : ℕ) (change : ℕ → Slot → Slot) → IsAscending es → ((k : ℕ) → nat_eq k n ≡ false → change k empty_slot ≡ empty_slot)
    → ((k : ℕ) → slot_at (entries_from es) k ≡ change k (slot_at old k)) → entries_from es ≡ changed n change old
changed_from es old n change s still same =
    from_slots es (λ k. change k (slot_at old k)) (insert_number n (numbers_in old)) s (insert_ascending n 0 (numbers_in old) (entries_ascending old) (omega arith)) covers same
  where
    covers : Covers (λ k. change k (slot_at old k)) 0 (insert_number n (numbers_in old))
    covers k low out =
        let (apart, outside) = or_parts (nat_eq k n) (is_in k (numbers_in old)) (sym (in_insert k n (numbers_in old)) ∙ out) in
        ap (change k) (slot_outside old k outside) ∙ still k apart
