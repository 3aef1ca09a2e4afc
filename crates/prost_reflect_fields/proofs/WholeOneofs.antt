-- Numbers added to a set with the members of their oneofs.
use Rattle.std.specs.Prelude.{◌≡◌, ◌&&◌, ◌||◌, ◌∷◌}
use Rattle.prost_reflect_fields.proofs.Common.{ℕ, Bool, true, false, cond, not, nat_eq, List, [], map, Option, Some, None, refl, ap, sym, subst, ◌∙◌, true≢false, eqb-true, eq-eqb, ne_eqb, and_parts, or_left, or_right, list_any, option_and_then, nat_cmp, is_eq, BTreeSet, contains, Field, field_of, is_sibling, same_oneof, passes, numbers_differ, field_row, PooledType, fields_of, known_of, oneof_of, are_siblings, rows_at, HasMembers, has, HasWholeOneofs, is_in_oneof}
use Rattle.prost_reflect_tables.specs.declared.tables.FieldTable.{FieldTable}
use Rattle.prost_reflect_maps.proofs.ItemChanges.{by_number, itself}
use Rattle.prost_reflect_fields.proofs.Siblings.{known_differ, found_passes}
use Rattle.prost_reflect_fields.proofs.MembersCleared.{members_known}

-- ONE NUMBER MORE

same_number : (n q : ℕ) → is_eq (nat_cmp n q) ≡ nat_eq n q
same_number n q = by_number n q (λ e. ap is_eq (ap (nat_cmp n) (sym e) ∙ itself n) ∙ sym (eq-eqb n q e)) (λ a. a ∙ sym (ne_eqb n q (λ e. true≢false (sym (ap is_eq (ap (nat_cmp n) (sym e) ∙ itself n)) ∙ a))))

abbrev pub Updated : BTreeSet ℕ → BTreeSet ℕ → ℕ → Type 0
Updated old new n = (q : ℕ) → contains nat_cmp new q ≡ cond (is_eq (nat_cmp n q)) true (contains nat_cmp old q)

pub inserted : (old new : BTreeSet ℕ) (n : ℕ) → Updated old new n → (q : ℕ) → has new q ≡ (nat_eq n q || has old q)
inserted old new n updates q = updates q ∙ ap (λ b. cond b true (has old q)) (same_number n q) ∙ either (nat_eq n q)
  where
    either : (b : Bool) → cond b true (has old q) ≡ (b || has old q)
    either true = refl
    either false = refl

-- MEMBERS

abbrev pub in_oneof : List Field → Option ℕ → ℕ → Bool
in_oneof fields oneof k = list_any (λ g. nat_eq g.number k && same_oneof g.oneof oneof) fields

same_is : (a b : Option ℕ) → same_oneof a b ≡ true → a ≡ b
same_is None b h = absurd (true≢false (sym h))
same_is (Some i) None h = absurd (true≢false (sym h))
same_is (Some i) (Some j) h = ap Some (eqb-true i j h)

-- the siblings of a member are members
member_siblings : (fields : List Field) (oneof : Option ℕ) (n k : ℕ) → numbers_differ fields ≡ true → in_oneof fields oneof n ≡ true → are_siblings fields n k ≡ true → in_oneof fields oneof k ≡ true
member_siblings fields oneof n k differ member siblings = cases (field_of fields n) (found_passes n (λ g. same_oneof g.oneof oneof) fields differ member) siblings
  where
    cases : (o : Option Field) → passes o (λ g. same_oneof g.oneof oneof) ≡ true → passes o (λ f. is_sibling fields f k) ≡ true → in_oneof fields oneof k ≡ true
    cases None same h = absurd (true≢false (sym h))
    cases (Some g) same h = ap (λ x. in_oneof fields x k) (sym (same_is g.oneof oneof same)) ∙ (and_parts (not (nat_eq k g.number)) (in_oneof fields g.oneof k) h).1

-- the siblings of a number are members of its oneof
own_siblings : (fields : List Field) (n k : ℕ) → are_siblings fields n k ≡ true → in_oneof fields (oneof_of fields n) k ≡ true
own_siblings fields n k h = cases (field_of fields n) h
  where
    cases : (o : Option Field) → passes o (λ f. is_sibling fields f k) ≡ true → in_oneof fields (option_and_then (λ f. f.oneof) o) k ≡ true
    cases None h = absurd (true≢false (sym h))
    cases (Some g) h = (and_parts (not (nat_eq k g.number)) (in_oneof fields g.oneof k) h).1

or_either : {P : Type 0} (a b : Bool) → (a || b) ≡ true → (a ≡ true → P) → (b ≡ true → P) → P
or_either true b h f g = f refl
or_either false b h f g = g h

-- a number and the members of its oneof
module _ (d : PooledType) (old mid new : BTreeSet ℕ) (n : ℕ) (table : List FieldTable) (places : List ℕ) (oneof : Option ℕ) (rows : map field_row table ≡ fields_of d) (all : HasMembers (fields_of d) oneof places) (is : oneof ≡ oneof_of (known_of d) n)
    (updates : Updated old mid n) (members : (k : ℕ) → has new k ≡ (has mid k || is_in_oneof (rows_at table places) oneof k)) where
  in_known : (k : ℕ) → is_in_oneof (rows_at table places) oneof k ≡ in_oneof (known_of d) oneof k
  in_known k = members_known d table places oneof k rows all

  from_mid : (k : ℕ) → has mid k ≡ true → has new k ≡ true
  from_mid k h = members k ∙ or_left (has mid k) (is_in_oneof (rows_at table places) oneof k) h

  from_members : (k : ℕ) → in_oneof (known_of d) oneof k ≡ true → has new k ≡ true
  from_members k h = members k ∙ or_right (has mid k) (is_in_oneof (rows_at table places) oneof k) (in_known k ∙ h)

  pub numbers_stay : (k : ℕ) → has old k ≡ true → has new k ≡ true
  numbers_stay k h = from_mid k (inserted old mid n updates k ∙ or_right (nat_eq n k) (has old k) h)

  pub whole_added : HasWholeOneofs (known_of d) old → HasWholeOneofs (known_of d) new
  whole_added whole m k h siblings = or_either (has mid m) (is_in_oneof (rows_at table places) oneof m) (sym (members m) ∙ h)
      (λ x. or_either (nat_eq n m) (has old m) (sym (inserted old mid n updates m) ∙ x)
      (λ e. from_members k (ap (λ o. in_oneof (known_of d) o k) is ∙ own_siblings (known_of d) n k (subst (λ z. are_siblings (known_of d) z k ≡ true) (sym (eqb-true n m e)) siblings)))
      (λ y. numbers_stay k (whole m k y siblings)))
      (λ x. from_members k (member_siblings (known_of d) oneof m k (known_differ d) (sym (in_known m) ∙ x) siblings))

-- ROW BY ROW

module _ (f : FieldTable) (oneof : Option ℕ) where
  pub then_added : (old new : BTreeSet ℕ) (rest : List FieldTable) (k : ℕ) → has new k ≡ (has old k || is_in_oneof (f ∷ []) oneof k) → (has new k || is_in_oneof rest oneof k) ≡ (has old k || is_in_oneof (f ∷ rest) oneof k)
  then_added old new rest k is = ap (λ b. b || is_in_oneof rest oneof k) is ∙ cases (has old k) (nat_eq f.number k && same_oneof f.oneof oneof) (is_in_oneof rest oneof k)
    where
      cases : (a b c : Bool) → ((a || (b || false)) || c) ≡ (a || (b || c))
      cases true b c = refl
      cases false true c = refl
      cases false false c = refl

-- no row is left
pub members_done : (numbers : BTreeSet ℕ) (oneof : Option ℕ) (k : ℕ) → has numbers k ≡ (has numbers k || is_in_oneof [] oneof k)
members_done numbers oneof k = cases (has numbers k)
  where
    cases : (b : Bool) → b ≡ (b || false)
    cases true = refl
    cases false = refl
