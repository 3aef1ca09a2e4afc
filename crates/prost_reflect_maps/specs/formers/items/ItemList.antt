-- `ItemList` as a type that may hold the type that holds it.
use Rattle.std.specs.Prelude.{◌≡◌, ℕ, List, [], ◌∷◌, map}
use mathlib.Core.Path.{refl, sym, ap, subst}
use mathlib.Core.Former.{Former, this, const, pair, list, via}
use base.Stored.{gcons, gnum, code_map, Gv}
use denote.RattleType.{RattleType}
use denote.HoleLaws.{Alike}
use denote.HolePlaces.{Recodes, struct_places, laid, stays}
use denote.Hole.Fix.{over}
use denote.Param.Weighed.{Weighed, w_const, w_pair, w_list}
use denote.Model.Placed.{view_places}
use denote.Struct.Tuple.{tuple_type, Tuple}
use Rattle.std.specs.formers.vec.Vec as vec
use Rattle.std.specs.contracts.vec.Vec as vecs
use Rattle.std.specs.declared.alloc.Global.{Global}
use Rattle.std.specs.contracts.alloc.Global as heap
use Rattle.std.specs.contracts.impls.GlobalAllocator.TheImpl.{ghosts}
use Rattle.std.specs.Map.{keys_of}
use Rattle.std.specs.Ordering.{nat_cmp}
use Rattle.std.specs.Borrow.{u32}
use Rattle.std.specs.List.Sorted.{IsStrictlySortedBy, IsStrictlySortedBy-prop}
use Rattle.prost_reflect_maps.specs.declared.items.ItemList.TheInside.{Inside}
use Rattle.prost_reflect_maps.specs.declared.items.ItemList.TheView.{view, invariant}
use Rattle.prost_reflect_maps.specs.contracts.items.ItemList as C
use Rattle.prost_reflect_maps.specs.contracts.items.ItemList.TheInside as I

abbrev pub the_former : Former {0} → Former {0}
the_former g = list (pair (const ℕ) g)

abbrev pub the_weighed : {g : Former {0}} → Weighed g → Weighed (the_former g)
the_weighed w = w_list (w_pair (w_const ℕ) w)

pub the_empty : List (ℕ × ⊥)
the_empty = []

abbrev fields : Former {0}
fields = via (vec.the_former (pair (const ℕ) this) Global) Inside (λ X a. a.items) (λ X v. record { items = v }) (λ X a. refl) (λ X v. refl)

module _ {X Y : Type 0} (h : X → Y) where
  abbrev over_item : ℕ × X → ℕ × Y
  over_item p = (p.0, h p.1)

  same_keys : (es : List (ℕ × X)) → keys_of (map over_item es) ≡ keys_of es
  same_keys [] = refl
  same_keys (e ∷ es) = ap (λ ks. e.0 ∷ ks) (same_keys es)

module _ (R S : RattleType) (h : R.Denot → S.Denot) where
  abbrev list_type : RattleType → RattleType
  list_type T = vecs.the_row (Tuple (u32 ∷ T ∷ [])) heap.the_row ghosts

  item_places : Alike R S h → Alike (Tuple (u32 ∷ R ∷ [])) (Tuple (u32 ∷ S ∷ [])) (over_item h)
  item_places a = struct_places (tuple_type (u32 ∷ R ∷ [])) (tuple_type (u32 ∷ S ∷ [])) ((λ n. n), (h, tt)) (over_item h) (λ d. refl) refl (stays u32, (laid R S h a, tt))

  list_places : Alike R S h → Alike (list_type R) (list_type S) (vec.mapped (over_item h))
  list_places a = vec.the_places heap.the_row ghosts (Tuple (u32 ∷ R ∷ [])) (Tuple (u32 ∷ S ∷ [])) (over_item h) (item_places a)

  pub the_places : Alike R S h → Alike (C.the_row R) (C.the_row S) ((the_former this).map R.Denot S.Denot h)
  the_places a = view_places fields (the_former this) view (λ X Y k u. refl) (λ X u. refl) R.Denot S.Denot h (C.the_row R).coded (C.the_row S).coded
      (invariant R.Denot) (invariant S.Denot) (λ u. IsStrictlySortedBy-prop nat_cmp (keys_of u.items.items)) (λ u. IsStrictlySortedBy-prop nat_cmp (keys_of u.items.items))
      (λ u s. subst (IsStrictlySortedBy nat_cmp) (sym (same_keys h u.items.items)) s) (λ u s. subst (IsStrictlySortedBy nat_cmp) (same_keys h u.items.items) s)
      (over (I.the_row R)) (over (I.the_row S))
      (struct_places (I.the_type R) (I.the_type S) (vec.mapped (over_item h), tt) _ (λ d. refl) refl (laid _ _ _ (list_places a), tt))

  abbrev item_code : (T : RattleType) → ℕ × T.Denot → Gv
  item_code T p = gcons (gnum p.0) (T.coded.code p.1)

  pub the_codes_placed : Recodes R S h → Recodes (C.the_row R) (C.the_row S) ((the_former this).map R.Denot S.Denot h)
  the_codes_placed e d = sym (code_map {A = ℕ × R.Denot} {B = ℕ × S.Denot} (item_code R) (item_code S) (over_item h) (λ p. ap (gcons (gnum p.0)) (sym (e p.1))) d)
