-- That each member that has a value is noted by a walk over all slots.
use Rattle.std.specs.Prelude.{◌≡◌, ◌∷◌}
use Rattle.prost_reflect_fields.proofs.Common.{ℕ, Bool, true, false, cond, nat_eq, List, [], Option, Some, None, refl, ap, sym, ◌∙◌, subst, true≢false, eq-eqb, ne_eqb, eqb-true, eqb-false, false_from_ne_true, option_and_then, is_some, nat_cmp, is_eq, IsStrictlySortedBy, Field, same_oneof, numbers_differ, FieldSlot, IsAscending, item_at, put_item, value_in, has_value, oneof_of, are_siblings, is_noted, is_member_of, NotesOwn, NotesWhole, AreNoted, note_under, with_note, OneofsSingle}
use Rattle.prost_reflect_maps.proofs.ItemChanges.{Apart, by_number, itself, none_above}
use Rattle.prost_reflect_fields.proofs.OnlyMembers.{same_through, sibling_of}
use Rattle.prost_reflect_fields.proofs.NotedMembers.{own_put, noted_put, noted_put_apart}

-- A NOTE UNDER A NUMBER'S ONEOF

own_under : (fields : List Field) (notes : List (ℕ × ℕ)) (n : ℕ) → NotesOwn fields notes → NotesOwn fields (note_under notes (oneof_of fields n) n)
own_under fields notes n own = cases (oneof_of fields n) refl
  where
    cases : (q : Option ℕ) → oneof_of fields n ≡ q → NotesOwn fields (note_under notes q n)
    cases None is = own
    cases (Some o) is = own_put fields notes o n is own

stays_under : (fields : List Field) (notes : List (ℕ × ℕ)) (o m n : ℕ) → is_member_of fields o n ≡ false → is_noted notes o m ≡ true → is_noted (note_under notes (oneof_of fields n) n) o m ≡ true
stays_under fields notes o m n other h = cases (oneof_of fields n) other
  where
    cases : (q : Option ℕ) → same_oneof q (Some o) ≡ false → is_noted (note_under notes q n) o m ≡ true
    cases None apart = h
    cases (Some p) apart = noted_put_apart notes p n o m (ne_eqb o p (λ same. eqb-false p o apart (sym same))) ∙ h

noted_under : (fields : List Field) (notes : List (ℕ × ℕ)) (o n : ℕ) → is_member_of fields o n ≡ true → is_noted (note_under notes (oneof_of fields n) n) o n ≡ true
noted_under fields notes o n member = cases (oneof_of fields n) member
  where
    cases : (q : Option ℕ) → same_oneof q (Some o) ≡ true → is_noted (note_under notes q n) o n ≡ true
    cases None h = absurd (true≢false (sym h))
    cases (Some p) h = ap (λ z. is_noted (put_item notes p n) z n) (sym (eqb-true p o h)) ∙ noted_put notes p n n ∙ eq-eqb n n refl

unequal : (k n : ℕ) → Apart k n → nat_eq k n ≡ false
unequal k n apart = ne_eqb k n (λ same. true≢false (sym (ap is_eq (ap (nat_cmp k) (sym same) ∙ itself k)) ∙ apart))

module _ {V : Type 0} where
  -- The notes of all slots behind those that there are.
  abbrev pub notes_of : List Field → List (ℕ × ℕ) → List (ℕ × FieldSlot V) → List (ℕ × ℕ)
  notes_of fields notes [] = notes
  notes_of fields notes (e ∷ es) = notes_of fields (with_note fields notes e) es

  -- EACH NOTE IS OF A MEMBER

  own_with : (fields : List Field) (notes : List (ℕ × ℕ)) (e : ℕ × FieldSlot V) → NotesOwn fields notes → NotesOwn fields (with_note fields notes e)
  own_with fields notes e own = cases (is_some (value_in e.1))
    where
      cases : (b : Bool) → NotesOwn fields (cond b (note_under notes (oneof_of fields e.0) e.0) notes)
      cases true = own_under fields notes e.0 own
      cases false = own

  all_own : (fields : List Field) (notes : List (ℕ × ℕ)) (es : List (ℕ × FieldSlot V)) → NotesOwn fields notes → NotesOwn fields (notes_of fields notes es)
  all_own fields notes [] own = own
  all_own fields notes (e ∷ es) own = all_own fields (with_note fields notes e) es (own_with fields notes e own)

  -- WHAT THE FIRST SLOT SAYS OF THE OTHERS

  first_has : (e : ℕ × FieldSlot V) (es : List (ℕ × FieldSlot V)) → is_some (value_in e.1) ≡ true → has_value (e ∷ es) e.0 ≡ true
  first_has e es h = ap (λ b. is_some (option_and_then value_in (cond b (Some e.1) (item_at es e.0)))) (ap is_eq (itself e.0)) ∙ h

  -- no further slot has the number of the first
  further : (e : ℕ × FieldSlot V) (es : List (ℕ × FieldSlot V)) (k : ℕ) → IsAscending (e ∷ es) → has_value es k ≡ true → Apart k e.0
  unfolding IsStrictlySortedBy
  further e es k s there = by_number k e.0 (λ same. absurd (true≢false (sym there ∙ ap (λ o. is_some (option_and_then value_in o)) (ap (item_at es) same ∙ none_above e.0 es s.0)))) (λ apart. apart)

  further_has : (e : ℕ × FieldSlot V) (es : List (ℕ × FieldSlot V)) (k : ℕ) → Apart k e.0 → has_value (e ∷ es) k ≡ has_value es k
  further_has e es k apart = ap (λ b. is_some (option_and_then value_in (cond b (Some e.1) (item_at es k)))) apart

  single_behind : (fields : List Field) (e : ℕ × FieldSlot V) (es : List (ℕ × FieldSlot V)) → IsAscending (e ∷ es) → OneofsSingle fields (e ∷ es) → OneofsSingle fields es
  single_behind fields e es s single m n there siblings =
      false_from_ne_true (has_value es n)
      (λ other. true≢false (sym (further_has e es n (further e es n s other) ∙ other) ∙ single m n (further_has e es m (further e es m s there) ∙ there) siblings))

  -- A NOTE STAYS

  -- No member of the oneof has a value.
  abbrev Free : List Field → ℕ → List (ℕ × FieldSlot V) → Type 0
  Free fields o es = (k : ℕ) → has_value es k ≡ true → is_member_of fields o k ≡ false

  note_stays : (fields : List Field) (notes : List (ℕ × ℕ)) (es : List (ℕ × FieldSlot V)) (o m : ℕ) → IsAscending es → Free fields o es → is_noted notes o m ≡ true → is_noted (notes_of fields notes es) o m ≡ true
  unfolding IsStrictlySortedBy
  note_stays fields notes [] o m s free h = h
  note_stays fields notes (e ∷ es) o m s free h =
      note_stays fields (with_note fields notes e) es o m s.1 (λ k there. free k (further_has e es k (further e es k s there) ∙ there)) (cases (is_some (value_in e.1)) refl)
    where
      cases : (b : Bool) → is_some (value_in e.1) ≡ b → is_noted (cond b (note_under notes (oneof_of fields e.0) e.0) notes) o m ≡ true
      cases true is = stays_under fields notes o m e.0 (free e.0 (first_has e es is)) h
      cases false is = h

  -- EACH MEMBER THAT HAS A VALUE IS NOTED

  -- the first one's siblings have none
  free_behind : (fields : List Field) (e : ℕ × FieldSlot V) (es : List (ℕ × FieldSlot V)) (o : ℕ) → numbers_differ fields ≡ true → IsAscending (e ∷ es) → OneofsSingle fields (e ∷ es) → has_value (e ∷ es) e.0 ≡ true → is_member_of fields o e.0 ≡ true → Free fields o es
  free_behind fields e es o differ s single there member k other =
      false_from_ne_true (is_member_of fields o k)
      (λ same.
      let apart = further e es k s other in
      let siblings : are_siblings fields e.0 k ≡ true = sibling_of fields e.0 k differ (unequal k e.0 apart) (same_through (oneof_of fields e.0) (oneof_of fields k) (Some o) member same) in
      true≢false (sym (further_has e es k apart ∙ other) ∙ single e.0 k there siblings))

  all_whole : (fields : List Field) (notes : List (ℕ × ℕ)) (es : List (ℕ × FieldSlot V)) → numbers_differ fields ≡ true → IsAscending es → OneofsSingle fields es → NotesWhole fields (notes_of fields notes es) es
  unfolding IsStrictlySortedBy
  all_whole fields notes [] differ s single o m there member = absurd (true≢false (sym there))
  all_whole fields notes (e ∷ es) differ s single o m there member = by_number m e.0 here (λ apart. all_whole fields (with_note fields notes e) es differ s.1 (single_behind fields e es s single) o m (sym (further_has e es m apart) ∙ there) member)
    where
      here : m ≡ e.0 → is_noted (notes_of fields (with_note fields notes e) es) o m ≡ true
      here same =
          let first : has_value (e ∷ es) e.0 ≡ true = subst (λ z. has_value (e ∷ es) z ≡ true) same there in
          let own : is_member_of fields o e.0 ≡ true = subst (λ z. is_member_of fields o z ≡ true) same member in
          let value : is_some (value_in e.1) ≡ true = sym (ap (λ b. is_some (option_and_then value_in (cond b (Some e.1) (item_at es e.0)))) (ap is_eq (itself e.0))) ∙ first in
          subst (λ z. is_noted (notes_of fields (with_note fields notes e) es) o z ≡ true) (sym same)
          (note_stays fields (with_note fields notes e) es o e.0 s.1 (free_behind fields e es o differ s single first own)
          (ap (λ b. is_noted (cond b (note_under notes (oneof_of fields e.0) e.0) notes) o e.0) value ∙ noted_under fields notes o e.0 own))

  pub all_noted : (fields : List Field) (es : List (ℕ × FieldSlot V)) → numbers_differ fields ≡ true → IsAscending es → OneofsSingle fields es → AreNoted fields (Some (notes_of fields [] es)) es
  all_noted fields es differ s single = (all_own fields [] es (λ o m h. absurd (true≢false (sym h))), all_whole fields [] es differ s single)
