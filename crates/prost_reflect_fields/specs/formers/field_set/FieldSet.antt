-- `FieldSet` as a type that may hold the type that holds it.
use Rattle.std.specs.Prelude.{◌≡◌, ℕ, Bool, true, false, List, [], ◌∷◌, map, cond, is_some, Option, None, Some, option_map, option_and_then}
use mathlib.Core.Path.{refl, sym, ap, ◌∙◌}
use mathlib.Core.Bool.{Bool-set}
use mathlib.Core.HLevel.{Unit-prop}
use mathlib.Core.Former.{Former, this, const, pair, or, list, via}
use base.Stored.{gcons, gnum, code_map, Gv}
use denote.RattleType.{RattleType}
use denote.HoleLaws.{Alike}
use denote.HolePlaces.{Recodes, struct_places, enum_places, eachs, laid}
use denote.Hole.Fix.{over}
use denote.Param.Weighed.{Weighed, w_const, w_pair, w_or, w_list, w_via}
use denote.Model.Placed.{view_places}
use Rattle.std.specs.Ordering.{nat_cmp}
use Rattle.std.specs.BTreeMap.{is_at}
use Rattle.prost_reflect_wire.specs.Schema.{Field}
use Rattle.prost_reflect_pool.specs.declared.pooled_type.PooledType.{PooledType}
use Rattle.prost_reflect_maps.specs.Items.{item_at}
use Rattle.prost_reflect_fields.specs.FieldSlots.{value_in, records_in, records_at, has_value}
use Rattle.prost_reflect_fields.specs.Sound.{Sound, unknown_kept}
use Rattle.prost_reflect_fields.specs.Noted.{AreNoted}
use Rattle.prost_reflect_wire.specs.declared.unknown.UnknownFieldSet.{UnknownFieldSet}
use Rattle.prost_reflect_fields.specs.declared.slot.FieldSlot.{FieldSlot}
use Rattle.prost_reflect_fields.specs.declared.slot.FieldSlot.TheVariants.{Value, Unknown, Both}
use Rattle.prost_reflect_fields.specs.Codes.{split, join, join-split, split-join, slot_code}
use Rattle.prost_reflect_fields.specs.contracts.slot.FieldSlot as E
use Rattle.prost_reflect_wire.specs.contracts.unknown.UnknownFieldSet as unknown
use Rattle.prost_reflect_maps.specs.formers.sorted_map.SortedMap as sorted
use Rattle.prost_reflect_fields.specs.declared.field_set.FieldSet.TheInside.{Inside}
use Rattle.prost_reflect_fields.specs.declared.field_set.FieldSet.TheView.{view, invariant}
use Rattle.prost_reflect_fields.specs.contracts.field_set.FieldSet as C
use Rattle.prost_reflect_fields.specs.contracts.field_set.FieldSet.TheInside as I

abbrev pub slot_former : Former {0} → Former {0}
slot_former g = via (or g (or (const UnknownFieldSet) (pair g (const UnknownFieldSet)))) (λ X. FieldSlot (g.Of X)) (λ X. split) (λ X. join) (λ X. join-split) (λ X. split-join)

abbrev pub slot_weighed : {g : Former {0}} → Weighed g → Weighed (slot_former g)
slot_weighed w = w_via (w_or w (w_or (w_const UnknownFieldSet) (w_pair w (w_const UnknownFieldSet)))) (λ X. FieldSlot _) (λ X. split) (λ X. join) (λ X. join-split) (λ X. split-join)

abbrev pub the_former : Former {0} → Former {0}
the_former g = pair (const PooledType) (list (pair (const ℕ) (slot_former g)))

abbrev pub the_weighed : {g : Former {0}} → Weighed g → Weighed (the_former g)
the_weighed w = w_pair (w_const PooledType) (w_list (w_pair (w_const ℕ) (slot_weighed w)))

abbrev inside_former : Former {0}
inside_former = via (pair (const PooledType) (sorted.the_former (slot_former this))) Inside (λ X a. (a.message_type, a.fields))
    (λ X v. record { message_type = v.0; fields = v.1 }) (λ X a. refl) (λ X v. refl)

behind : {a b c : Gv} → a ≡ b → gcons c a ≡ gcons c b
behind {c = c} e = λ i. gcons c (e i)

module _ {X Y : Type 0} (h : X → Y) where
  abbrev pub over_slot : FieldSlot X → FieldSlot Y
  over_slot = (slot_former this).map X Y h

  abbrev pub over_item : ℕ × FieldSlot X → ℕ × FieldSlot Y
  over_item p = (p.0, over_slot p.1)

  item_over : (es : List (ℕ × FieldSlot X)) (n : ℕ) → item_at (map over_item es) n ≡ option_map over_slot (item_at es n)
  item_over [] n = refl
  item_over (e ∷ es) n = cases (is_at (nat_cmp n) e.0) (item_over es n)
    where
      cases : (b : Bool) → item_at (map over_item es) n ≡ option_map over_slot (item_at es n)
          → cond b (Some (over_slot e.1)) (item_at (map over_item es) n) ≡ option_map over_slot (cond b (Some e.1) (item_at es n))
      cases true rest = refl
      cases false rest = rest

  value_over : (o : Option (FieldSlot X))
      → is_some (option_and_then value_in (option_map over_slot o)) ≡ is_some (option_and_then value_in o)
  value_over None = refl
  value_over (Some (Value x)) = refl
  value_over (Some (Unknown u)) = refl
  value_over (Some (Both x u)) = refl

  records_over : (o : Option (FieldSlot X)) → option_and_then records_in (option_map over_slot o) ≡ option_and_then records_in o
  records_over None = refl
  records_over (Some (Value x)) = refl
  records_over (Some (Unknown u)) = refl
  records_over (Some (Both x u)) = refl

  pub has_value_over : (es : List (ℕ × FieldSlot X)) (n : ℕ) → has_value (map over_item es) n ≡ has_value es n
  has_value_over es n = ap (λ o. is_some (option_and_then value_in o)) (item_over es n) ∙ value_over (item_at es n)

  pub records_at_over : (es : List (ℕ × FieldSlot X)) (n : ℕ) → records_at (map over_item es) n ≡ records_at es n
  records_at_over es n = ap (option_and_then records_in) (item_over es n) ∙ records_over (item_at es n)

  pub sound_over : (fields : List Field) (es : List (ℕ × FieldSlot X)) → Sound fields es → Sound fields (map over_item es)
  sound_over fields es s = (
    λ n v. s.0 n (sym (has_value_over es n) ∙ v),
    λ n. ap (unknown_kept fields n) (records_at_over es n) ∙ s.1 n,
    λ m n v w. has_value_over es n ∙ s.2 m n (sym (has_value_over es m) ∙ v) w,
  )

  pub sound_under : (fields : List Field) (es : List (ℕ × FieldSlot X)) → Sound fields (map over_item es) → Sound fields es
  sound_under fields es s = (
    λ n v. s.0 n (has_value_over es n ∙ v),
    λ n. sym (ap (unknown_kept fields n) (records_at_over es n)) ∙ s.1 n,
    λ m n v w. sym (has_value_over es n) ∙ s.2 m n (has_value_over es m ∙ v) w,
  )

  noted_over : (fields : List Field) (notes : Option (List (ℕ × ℕ))) (es : List (ℕ × FieldSlot X))
      → AreNoted fields notes es
      → AreNoted fields notes (map over_item es)
  noted_over fields None es s = tt
  noted_over fields (Some notes) es s = (s.0, λ o m v w. s.1 o m (sym (has_value_over es m) ∙ v) w)

  noted_under : (fields : List Field) (notes : Option (List (ℕ × ℕ))) (es : List (ℕ × FieldSlot X))
      → AreNoted fields notes (map over_item es)
      → AreNoted fields notes es
  noted_under fields None es s = tt
  noted_under fields (Some notes) es s = (s.0, λ o m v w. s.1 o m (has_value_over es m ∙ v) w)

pub sound_prop : {X : Type 0} (fields : List Field) (es : List (ℕ × FieldSlot X)) → IsProp (Sound fields es)
sound_prop fields es = λ a b i. (
  λ n v. Bool-set _ _ (a.0 n v) (b.0 n v) i,
  λ n. Bool-set _ _ (a.1 n) (b.1 n) i,
  λ m n v w. Bool-set _ _ (a.2 m n v w) (b.2 m n v w) i,
)

noted_prop : {X : Type 0} (fields : List Field) (notes : Option (List (ℕ × ℕ))) (es : List (ℕ × FieldSlot X))
    → IsProp (AreNoted fields notes es)
noted_prop fields None es = Unit-prop
noted_prop fields (Some notes) es = λ a b i. (
  λ o m v. Bool-set _ _ (a.0 o m v) (b.0 o m v) i,
  λ o m v w. Bool-set _ _ (a.1 o m v w) (b.1 o m v w) i,
)

held_prop : {X : Type 0} (fields : List Field) (notes : Option (List (ℕ × ℕ))) (es : List (ℕ × FieldSlot X))
    → IsProp (Sound fields es × AreNoted fields notes es)
held_prop fields notes es = λ a b i. (sound_prop fields es a.0 b.0 i, noted_prop fields notes es a.1 b.1 i)

module _ (R S : RattleType) (h : R.Denot → S.Denot) where
  variant : (e : FieldSlot R.Denot)
      → (E.enum S).as_values (over_slot h e)
      ≡ eachs (E.enum R).parts (E.enum S).parts ((h, tt), (((λ u. u), tt), ((h, ((λ u. u), tt)), tt)))
      ((E.enum R).as_values e)
  variant (Value x) = refl
  variant (Unknown u) = refl
  variant (Both x u) = refl

  slot_places : Alike R S h → Alike (E.the_row R) (E.the_row S) (over_slot h)
  slot_places a = enum_places (E.enum R) (E.enum S) ((h, tt), (((λ u. u), tt), ((h, ((λ u. u), tt)), tt))) (over_slot h) variant refl
      ((laid R S h a, tt), (((refl, (λ n. refl, λ n. refl)), tt), ((laid R S h a, ((refl, (λ n. refl, λ n. refl)), tt)), tt)))

  pub the_places : Alike R S h → Alike (C.the_row R) (C.the_row S) ((the_former this).map R.Denot S.Denot h)
  the_places a = view_places inside_former (the_former this) view (λ X Y k u. refl) (λ X u. refl) R.Denot S.Denot h (C.the_row R).coded (C.the_row S).coded
      (invariant R.Denot) (invariant S.Denot) (λ u. held_prop _ u.fields.1 u.fields.0) (λ u. held_prop _ u.fields.1 u.fields.0)
      (λ u s. (sound_over h _ u.fields.0 s.0, noted_over h _ u.fields.1 u.fields.0 s.1)) (λ u s. (sound_under h _ u.fields.0 s.0, noted_under h _ u.fields.1 u.fields.0 s.1))
      (over (I.the_row R)) (over (I.the_row S))
      (struct_places (I.the_type R) (I.the_type S) ((λ d. d), ((sorted.the_former (slot_former this)).map R.Denot S.Denot h, tt)) _ (λ d. refl) refl
      ((refl, (λ n. refl, λ n. refl)), (laid _ _ _ (sorted.the_places (E.the_row R) (E.the_row S) (over_slot h) (slot_places a)), tt)))

  slot_recoded : Recodes R S h → (x : FieldSlot R.Denot) → (slot_code R.coded).code x ≡ (slot_code S.coded).code (over_slot h x)
  slot_recoded e (Value x) = ap (gcons (gnum 0)) (sym (e x))
  slot_recoded e (Unknown n) = refl
  slot_recoded e (Both x u) = ap (λ c. gcons (gnum 1) (gcons (gnum 1) (gcons c (unknown.the_row.coded.code u)))) (sym (e x))

  abbrev item_code : (T : RattleType) → ℕ × FieldSlot T.Denot → Gv
  item_code T p = gcons (gnum p.0) ((slot_code T.coded).code p.1)

  pub the_codes_placed : Recodes R S h → Recodes (C.the_row R) (C.the_row S) ((the_former this).map R.Denot S.Denot h)
  the_codes_placed e d = behind (sym (code_map {A = ℕ × FieldSlot R.Denot} {B = ℕ × FieldSlot S.Denot} (item_code R) (item_code S) (over_item h) (λ p. ap (gcons (gnum p.0)) (slot_recoded e p.1)) d.1))
