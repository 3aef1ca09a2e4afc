-- A value set at a number of an older type, and the same set at the number of its like.
use Rattle.std.specs.Prelude.{◌≡◌}
use Rattle.prost_reflect_laws.proofs.Common.{ℕ, Bool, true, false, cond, List, nat_eq, Option, Some, None, refl, ap, ap₂, sym, subst, ◌∙◌, arith, true≢false, eqb-true, or_parts, none-some, Field, field_of, is_sibling, numbers_differ, Value, Slot, slot_at, table, insert_number, numbers_in, AllowsInside, MeansInside, with_value, with_field_value, TypePairs, Ascending, is_in, insert_ascending, in_insert, Covers, empty_slot, table_same, slot_table, entries_ascending, slot_outside, field_number}
use Rattle.prost_reflect_laws.proofs.Slots.{sibling_back, not_own}
use Rattle.prost_reflect_laws.proofs.Matches.{Like}
use Rattle.prost_reflect_laws.proofs.Fellows.{fellows, unknown_no_sibling}
use Rattle.prost_reflect_laws.proofs.ByNumber.{stored_payloads}
use Rattle.prost_reflect_laws.proofs.Again.{FieldAgain, nothing_again}
use Rattle.prost_reflect_laws.proofs.WrittenSlots.{KnownSlot, LackingSlot, BothSlots}

-- a slot behind a set
abbrev pub set_slot : List Field → Field → Option Value → (ℕ → Slot) → ℕ → Slot
set_slot fields f o at n = cond (nat_eq n f.number) (with_value o (at n)) (cond (is_sibling fields f n) (with_value None (at n)) (at n))

set_here : (fields : List Field) (f : Field) (o : Option Value) (at : ℕ → Slot) (n : ℕ) → nat_eq n f.number ≡ true → set_slot fields f o at n ≡ with_value o (at n)
set_here fields f o at n e = ap (λ b. cond b (with_value o (at n)) (cond (is_sibling fields f n) (with_value None (at n)) (at n))) e

set_beside : (fields : List Field) (f : Field) (o : Option Value) (at : ℕ → Slot) (n : ℕ) (s : Bool) → nat_eq n f.number ≡ false → is_sibling fields f n ≡ s → set_slot fields f o at n ≡ cond s (with_value None (at n)) (at n)
set_beside fields f o at n s e h = ap₂ (λ b s. cond b (with_value o (at n)) (cond s (with_value None (at n)) (at n))) e h

-- THE TABLE BEHIND A SET

-- the numbers there
abbrev pub set_numbers : Field → (ℕ → Slot) → List ℕ → List ℕ
set_numbers f at ns = insert_number f.number (numbers_in (table at ns))

pub set_table : (fields : List Field) (f : Field) (o : Option Value) (at : ℕ → Slot) (ns : List ℕ) → Ascending 0 ns → Covers at 0 ns → with_field_value fields f o (table at ns) ≡ table (set_slot fields f o at) (set_numbers f at ns)
set_table fields f o at ns a covers = table_same (λ n. set_slot fields f o (slot_at (table at ns)) n) (set_slot fields f o at) (set_numbers f at ns)
    (λ n. ap (λ (s : Slot). cond (nat_eq n f.number) (with_value o s) (cond (is_sibling fields f n) (with_value None s) s)) (slot_table at n ns a covers))

pub set_ascending : (f : Field) (at : ℕ → Slot) (ns : List ℕ) → Ascending 0 (set_numbers f at ns)
set_ascending f at ns = insert_ascending f.number 0 (numbers_in (table at ns)) (entries_ascending (table at ns)) (omega arith)

pub set_covers : (fields : List Field) (f : Field) (o : Option Value) (at : ℕ → Slot) (ns : List ℕ) → Ascending 0 ns → Covers at 0 ns → Covers (set_slot fields f o at) 0 (set_numbers f at ns)
set_covers fields f o at ns a covers n l out =
    let (other, outside) = or_parts (nat_eq n f.number) (is_in n (numbers_in (table at ns))) (sym (in_insert n f.number (numbers_in (table at ns))) ∙ out) in
    let nothing : at n ≡ empty_slot = sym (slot_table at n ns a covers) ∙ slot_outside (table at ns) n outside in
    set_beside fields f o at n (is_sibling fields f n) other refl ∙ ap (λ (s : Slot). cond (is_sibling fields f n) (with_value None s) s) nothing ∙ go (is_sibling fields f n)
  where
    go : (b : Bool) → cond b (with_value None empty_slot) empty_slot ≡ empty_slot
    go true = refl
    go false = refl

-- BOTH TYPES

same_field : (fields : List Field) (n m : ℕ) (f h : Field) → field_of fields n ≡ Some f → field_of fields m ≡ Some h → m ≡ n → h ≡ f
same_field fields n m f h found found' e = ap (λ (o : Option Field). elim o [ None ↦ h | Some x ↦ x ]) (sym found' ∙ ap (field_of fields) e ∙ found)

-- a member without a value
cleared_slot : (k : ℕ) (a : AllowsInside) (j : MeansInside) (newer : List Field) (n : ℕ) (f g : Field) (s t : Slot) → KnownSlot k a j newer n f g s t → KnownSlot k a j newer n f g (with_value None s) (with_value None t)
cleared_slot k a j newer n f g s t b = record { found = b.found; stored = nothing_again k a j g.form g.value_type; strays = b.strays; same_strays = b.same_strays }

value_of : Slot → Option Value
value_of s = s.value

pub set_both : (pairs : TypePairs) (k : ℕ) (a : AllowsInside) (j : MeansInside) (older newer : List Field) (at by : ℕ → Slot) (n : ℕ) (f g : Field) (o p : Option Value) → BothSlots pairs k a j older newer at by → numbers_differ older ≡ true → field_of older n ≡ Some f → Like pairs older newer f g →
    FieldAgain k a j g.form g.value_type (stored_payloads (Some f) o) p → BothSlots pairs k a j older newer (set_slot older f o at) (set_slot newer g p by)
unfolding value_of
set_both pairs k a j older newer at by n f g o p b differ found l again = record {
  match = b.match;
  number = b.number;
  known = λ m x y e l'. known m x y e l' (nat_eq m f.number) refl (is_sibling older f m) refl;
  lacking = λ m e. lacking m e;
  alone = λ m w x v e h some. alone m w x v e h some (nat_eq m f.number) refl (is_sibling older f m) refl (nat_eq w f.number) refl (is_sibling older f w) refl;
}
  where
    own : f.number ≡ n
    own = field_number older n f found

    its : g.number ≡ f.number
    its = field_number newer f.number g l.found

    there : (m : ℕ) (c : Bool) → nat_eq m f.number ≡ c → nat_eq m g.number ≡ c
    there m c e = ap (nat_eq m) its ∙ e

    beside : (m : ℕ) (c : Bool) → is_sibling older f m ≡ c → is_sibling newer g m ≡ c
    beside m c e = fellows pairs older newer f g m b.match l ∙ e

    known : (m : ℕ) (x y : Field) → field_of older m ≡ Some x → Like pairs older newer x y → (c : Bool) → nat_eq m f.number ≡ c → (s : Bool) → is_sibling older f m ≡ s → KnownSlot k a j newer m x y (set_slot older f o at m) (set_slot newer g p by m)
    known m x y e l' true d s h =
        let old : KnownSlot k a j newer m x y (at m) (by m) = b.known m x y e l' in
        let same : x ≡ f = same_field older n m f x found e (eqb-true m f.number d ∙ own) in
        let same' : y ≡ g = same_field newer f.number m g y l.found old.found (eqb-true m f.number d) in
        subst (λ t. KnownSlot k a j newer m x y (set_slot older f o at m) t) (sym (set_here newer g p by m (there m true d)))
        (subst (λ s. KnownSlot k a j newer m x y s (with_value p (by m))) (sym (set_here older f o at m d))
        (record { found = old.found; stored = subst (λ (z : Field). FieldAgain k a j z.form z.value_type (stored_payloads (Some x) o) p) (sym same') (subst (λ (z : Field). FieldAgain k a j g.form g.value_type (stored_payloads (Some z) o) p) (sym same) again); strays = old.strays; same_strays = old.same_strays }))
    known m x y e l' false d true h =
        subst (λ t. KnownSlot k a j newer m x y (set_slot older f o at m) t) (sym (set_beside newer g p by m true (there m false d) (beside m true h)))
        (subst (λ s. KnownSlot k a j newer m x y s (with_value None (by m))) (sym (set_beside older f o at m true d h)) (cleared_slot k a j newer m x y (at m) (by m) (b.known m x y e l')))
    known m x y e l' false d false h =
        subst (λ t. KnownSlot k a j newer m x y (set_slot older f o at m) t) (sym (set_beside newer g p by m false (there m false d) (beside m false h)))
        (subst (λ s. KnownSlot k a j newer m x y s (by m)) (sym (set_beside older f o at m false d h)) (b.known m x y e l'))

    lacking : (m : ℕ) → field_of older m ≡ None → LackingSlot k a j newer m (set_slot older f o at m) (set_slot newer g p by m)
    lacking m e =
        let d : nat_eq m f.number ≡ false = other (nat_eq m f.number) refl in
        let h : is_sibling older f m ≡ false = unknown_no_sibling older f m e in
        subst (λ t. LackingSlot k a j newer m (set_slot older f o at m) t) (sym (set_beside newer g p by m false (there m false d) (beside m false h)))
        (subst (λ s. LackingSlot k a j newer m s (by m)) (sym (set_beside older f o at m false d h)) (b.lacking m e))
      where
        other : (c : Bool) → nat_eq m f.number ≡ c → nat_eq m f.number ≡ false
        other false d = d
        other true d = absurd (none-some _ (sym (sym found ∙ ap (field_of older) (sym (eqb-true m f.number d ∙ own)) ∙ e)))

    alone : (m w : ℕ) (x : Field) (v : Value) → field_of older m ≡ Some x → is_sibling older x w ≡ true → (set_slot older f o at m).value ≡ Some v → (c : Bool) → nat_eq m f.number ≡ c → (s : Bool) → is_sibling older f m ≡ s →
        (d : Bool) → nat_eq w f.number ≡ d → (t : Bool) → is_sibling older f w ≡ t → (set_slot older f o at w).value ≡ None
    alone m w x v e h some true ec s es d ed t et =
        let same : x ≡ f = same_field older n m f x found e (eqb-true m f.number ec ∙ own) in
        let hf : is_sibling older f w ≡ true = ap (λ (z : Field). is_sibling older z w) (sym same) ∙ h in
        ap value_of (set_beside older f o at w true (not_own older f w hf) hf)
    alone m w x v e h some false ec true es d ed t et = absurd (none-some _ (sym (ap value_of (set_beside older f o at m true ec es)) ∙ some))
    alone m w x v e h some false ec false es true ed t et =
        let (y, at_w, back) = sibling_back older m w x differ e h in
        let same : y ≡ f = same_field older n w f y found at_w (eqb-true w f.number ed ∙ own) in
        absurd (true≢false (sym (ap (λ (z : Field). is_sibling older z m) (sym same) ∙ back) ∙ es))
    alone m w x v e h some false ec false es false ed true et = ap value_of (set_beside older f o at w true ed et)
    alone m w x v e h some false ec false es false ed false et =
        ap value_of (set_beside older f o at w false ed et) ∙ b.alone m w x v e h (sym (ap value_of (set_beside older f o at m false ec es)) ∙ some)
