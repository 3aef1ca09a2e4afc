-- `SortedMap` as a type that may hold the type that holds it.
use Rattle.std.specs.Prelude.{◌≡◌, ℕ, List, [], Option, None, map}
use mathlib.Core.Path.{refl, sym, ap}
use mathlib.Core.Logic.{◌⊎◌, inl, inr}
use mathlib.Core.Former.{Former, none_left, this, const, pair, or, list, via}
use base.Stored.{gcons, gnum, code_map, Gv}
use denote.RattleType.{RattleType}
use denote.HoleLaws.{Alike}
use denote.HolePlaces.{Recodes, struct_places, enum_places, eachs, laid}
use denote.Hole.Fix.{over}
use denote.Param.Weighed.{Weighed, w_const, w_pair, w_list}
use denote.Model.Placed.{Held as Placed, view_places}
use Rattle.std.specs.declared.alloc.Global.{Global}
use Rattle.prost_reflect_maps.specs.Held.{held_items}
use Rattle.prost_reflect_maps.specs.formers.boxed.Boxed as boxed
use Rattle.prost_reflect_maps.specs.formers.items.ItemList as item_list
use Rattle.prost_reflect_maps.specs.formers.runs.RunMap as run_map
use Rattle.prost_reflect_maps.specs.declared.sorted_map.Held.{Held}
use Rattle.prost_reflect_maps.specs.declared.sorted_map.Held.TheVariants.{Empty, Listed, Laid}
use Rattle.prost_reflect_maps.specs.declared.sorted_map.SortedMap.TheInside.{Inside}
use Rattle.prost_reflect_maps.specs.declared.sorted_map.SortedMap.TheView.{view, invariant}
use Rattle.prost_reflect_maps.specs.contracts.items.ItemList as L
use Rattle.prost_reflect_maps.specs.contracts.runs.RunMap as M
use Rattle.prost_reflect_maps.specs.contracts.sorted_map.Held as H
use Rattle.prost_reflect_maps.specs.contracts.sorted_map.SortedMap as C
use Rattle.prost_reflect_maps.specs.contracts.sorted_map.SortedMap.TheInside as I

abbrev Notes : Type 0
Notes = Option (List (ℕ × ℕ))

abbrev pub the_former : Former {0} → Former {0}
the_former g = pair (list (pair (const ℕ) g)) (const Notes)

abbrev pub the_weighed : {g : Former {0}} → Weighed g → Weighed (the_former g)
the_weighed w = w_pair (w_list (w_pair (w_const ℕ) w)) (w_const Notes)

pub the_empty : List (ℕ × ⊥) × Notes
the_empty = ([], None)

abbrev item : Former {0}
item = pair (const ℕ) this

in_front : {a b c : Gv} → a ≡ b → gcons a c ≡ gcons b c
in_front {c = c} e = λ i. gcons (e i) c

-- the variants of what a map holds
abbrev Parts : Type 0 → Type 0
Parts X = (Global × ℕ) ⊎ (List (ℕ × X) ⊎ (List (ℕ × X) × Notes))

module _ {X : Type 0} where
  abbrev parted : Held X → Parts X
  parted (Empty alloc room) = inl (alloc, room)
  parted (Listed es) = inr (inl es)
  parted (Laid es) = inr (inr es)

  abbrev joined : Parts X → Held X
  joined (inl p) = Empty p.0 p.1
  joined (inr (inl es)) = Listed es
  joined (inr (inr es)) = Laid es

  joined-parted : (d : Held X) → joined (parted d) ≡ d
  joined-parted (Empty alloc room) = refl
  joined-parted (Listed es) = refl
  joined-parted (Laid es) = refl

  parted-joined : (p : Parts X) → parted (joined p) ≡ p
  parted-joined (inl p) = refl
  parted-joined (inr (inl es)) = refl
  parted-joined (inr (inr es)) = refl

abbrev held : Former {0}
held = via (or (const (Global × ℕ)) (or (list item) (pair (list item) (const Notes)))) (λ X. Held X) (λ X. parted) (λ X. joined) (λ X. joined-parted) (λ X. parted-joined)

abbrev fields : Former {0}
fields = via held Inside (λ X a. a.held) (λ X v. record { held = v }) (λ X a. refl) (λ X v. refl)

module _ {X Y : Type 0} (h : X → Y) where
  abbrev over_item : ℕ × X → ℕ × Y
  over_item p = (p.0, h p.1)

  abbrev over_held : Held X → Held Y
  over_held = held.map X Y h

  abbrev over_noted : List (ℕ × X) × Notes → List (ℕ × Y) × Notes
  over_noted p = (map over_item p.0, p.1)

  items_over : (d : Held X) → held_items (over_held d) ≡ over_noted (held_items d)
  items_over (Empty alloc room) = refl
  items_over (Listed es) = refl
  items_over (Laid es) = refl

module _ (X : Type 0) where
  held_same : (d : Held X)
      → ◌≡◌ {A = Placed X} (
        (list item).count (map (item.shape X) (held_items d).0) none_left,
        (list item).put X (held_items d).0
            none_left tt,
      ) (held.count (held.shape X d) none_left, held.put X d none_left tt)
  held_same (Empty alloc room) = refl
  held_same (Listed es) = refl
  held_same (Laid es) = refl

module _ (R S : RattleType) (h : R.Denot → S.Denot) where
  variant : (d : Held R.Denot)
      → (H.enum S).as_values (over_held h d)
      ≡ eachs (H.enum R).parts (H.enum S).parts
      (((λ a. a), ((λ n. n), tt)), ((map (over_item h), tt), ((over_noted h, tt), tt))) ((H.enum R).as_values d)
  variant (Empty alloc room) = refl
  variant (Listed es) = refl
  variant (Laid es) = refl

  held_places : Alike R S h → Alike (H.the_row R) (H.the_row S) (over_held h)
  held_places a = enum_places (H.enum R) (H.enum S) (((λ a. a), ((λ n. n), tt)), ((map (over_item h), tt), ((over_noted h, tt), tt))) (over_held h) variant refl (
    ((refl, (λ n. refl, λ n. refl)), ((refl, (λ n. refl, λ n. refl)), tt)),
    (
      (laid _ _ _ (boxed.the_places (L.the_row R) (L.the_row S) (map (over_item h)) (item_list.the_places R S h a)), tt),
      ((laid _ _ _ (boxed.the_places (M.the_row R) (M.the_row S) (over_noted h) (run_map.the_places R S h a)), tt), tt),
    ),
  )

  pub the_places : Alike R S h → Alike (C.the_row R) (C.the_row S) ((the_former this).map R.Denot S.Denot h)
  the_places a = view_places fields (the_former this) view (λ X Y k u. items_over k u.held) (λ X u. held_same X u.held) R.Denot S.Denot h (C.the_row R).coded (C.the_row S).coded
      (invariant R.Denot) (invariant S.Denot) (λ u p q. refl) (λ u p q. refl) (λ u e. tt) (λ u e. tt)
      (over (I.the_row R)) (over (I.the_row S))
      (struct_places (I.the_type R) (I.the_type S) (over_held h, tt) _ (λ d. refl) refl (laid _ _ _ (held_places a), tt))

  abbrev item_code : (T : RattleType) → ℕ × T.Denot → Gv
  item_code T p = gcons (gnum p.0) (T.coded.code p.1)

  pub the_codes_placed : Recodes R S h → Recodes (C.the_row R) (C.the_row S) ((the_former this).map R.Denot S.Denot h)
  the_codes_placed e d = in_front (sym (code_map {A = ℕ × R.Denot} {B = ℕ × S.Denot} (item_code R) (item_code S) (over_item h) (λ p. ap (gcons (gnum p.0)) (sym (e p.1))) d.0))
