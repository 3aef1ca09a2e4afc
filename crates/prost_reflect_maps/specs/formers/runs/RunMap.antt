-- `RunMap` as a type that may hold the type that holds it.
use Rattle.std.specs.Prelude.{◌≡◌, ℕ, true, List, [], ◌∷◌, ◌++◌, map, Option, None, option_map, Vec}
use mathlib.Core.Path.{refl, sym, ap, ap₂, ◌∙◌, subst}
use mathlib.Core.Bool.{Bool-set}
use mathlib.Core.HLevel.{Unit-prop}
use mathlib.Core.Former.{Former, Count, none_left, Row, this, const, pair, list, via}
use base.Stored.{gcons, gnum, code_map, Gv}
use denote.RattleType.{RattleType}
use denote.HoleLaws.{Alike}
use denote.HolePlaces.{Recodes, struct_places, laid, stays}
use denote.Hole.Fix.{over}
use denote.Param.Weighed.{Weighed, w_const, w_pair, w_list}
use denote.Model.Placed.{Held, view_places}
use denote.Struct.Tuple.{tuple_type, Tuple}
use Rattle.std.specs.formers.vec.Vec as vec
use Rattle.std.specs.contracts.vec.Vec as vecs
use Rattle.std.specs.declared.alloc.Global.{Global}
use Rattle.std.specs.contracts.alloc.Global as heap
use Rattle.std.specs.contracts.impls.GlobalAllocator.TheImpl.{ghosts}
use Rattle.std.specs.BTreeMap.{BTreeMap}
use Rattle.std.specs.Map.{keys_of}
use Rattle.std.specs.Ordering.{nat_cmp, is_le, Ordering-set}
use Rattle.std.specs.Borrow.{u32}
use Rattle.std.specs.List.{AllByRecursion-prop}
use Rattle.std.specs.List.Sorted.{IsStrictlySortedBy-prop}
use Rattle.prost_reflect_maps.specs.declared.runs.RunMap.TheInside.{Inside}
use Rattle.prost_reflect_maps.specs.declared.runs.RunMap.TheView.{view, invariant}
use Rattle.prost_reflect_maps.specs.contracts.runs.RunMap as C
use Rattle.prost_reflect_maps.specs.contracts.runs.RunMap.TheInside as I
use Rattle.prost_reflect_maps.specs.Runs.{Marks, IsAhead, InRuns, Runs, marks, flat}

abbrev Notes : Type 0
Notes = Option (List (ℕ × ℕ))

abbrev pub the_former : Former {0} → Former {0}
the_former g = pair (list (pair (const ℕ) g)) (const Notes)

abbrev pub the_weighed : {g : Former {0}} → Weighed g → Weighed (the_former g)
the_weighed w = w_pair (w_list (w_pair (w_const ℕ) w)) (w_const Notes)

pub the_empty : List (ℕ × ⊥) × Notes
the_empty = ([], None)

abbrev item : Former {0}
item = pair (const ℕ) this

abbrev run : Former {0}
run = pair (const ℕ) (vec.the_former item Global)

abbrev fields : Former {0}
fields = via (pair (vec.the_former run Global) (const (Option (BTreeMap ℕ ℕ)))) Inside (λ X a. (a.runs, a.notes)) (λ X v. record { runs = v.0; notes = v.1 }) (λ X a. refl) (λ X v. refl)

in_front : {a b c : Gv} → a ≡ b → gcons a c ≡ gcons b c
in_front {c = c} e = λ i. gcons (e i) c

-- the items of all runs are what the runs hold
module _ (X : Type 0) where
  held_appended : (xs ys : List (ℕ × X)) (n : Count) (t : Row X n)
      → ◌≡◌ {A = Held X} ((list item).count (map (item.shape X) (xs ++ ys)) n, (list item).put X (xs ++ ys) n t) (
        (list item).count (map (item.shape X) xs) ((list item).count (map (item.shape X) ys) n),
        (list item).put X xs
            ((list item).count (map (item.shape X) ys) n) ((list item).put X ys n t),
      )
  held_appended [] ys n t = refl
  held_appended (x ∷ xs) ys n t = ap (λ (e : Held X). (item.count (item.shape X x) e.0, item.put X x e.0 e.1)) (held_appended xs ys n t)

  held_runs : (rs : Runs X) (n : Count) (t : Row X n)
      → ◌≡◌ {A = Held X} ((list item).count (map (item.shape X) (flat rs)) n, (list item).put X (flat rs) n t)
      ((list run).count (map (run.shape X) rs) n, (list run).put X rs n t)
  held_runs [] n t = refl
  held_runs (r ∷ rs) n t = held_appended r.1.items (flat rs) n t ∙ ap (λ (e : Held X). ((list item).count (map (item.shape X) r.1.items) e.0, (list item).put X r.1.items e.0 e.1)) (held_runs rs n t)

-- that the numbers stand in runs is a proposition
IsAhead-prop : (n : ℕ) (rs : Marks) → IsProp (IsAhead n rs)
IsAhead-prop n [] = Unit-prop
IsAhead-prop n (r ∷ rs) = Ordering-set _ _

InRuns-prop : (rs : Marks) → IsProp (InRuns rs)
InRuns-prop [] = Unit-prop
InRuns-prop (r ∷ rs) = λ a b i. (
  IsStrictlySortedBy-prop nat_cmp r.1 a.0 b.0 i,
  AllByRecursion-prop (λ k. is_le (nat_cmp r.0 k) ≡ true) (λ k. Bool-set _ _) r.1 a.1 b.1 i,
  IsAhead-prop r.0 rs a.2 b.2 i,
  AllByRecursion-prop (λ k. IsAhead k rs) (λ k. IsAhead-prop k rs) r.1 a.3 b.3 i,
  InRuns-prop rs a.4 b.4 i,
)

with_notes : {X : Type 0} {es ds : List (ℕ × X)} (ns : Notes) → es ≡ ds → ◌≡◌ {A = List (ℕ × X) × Notes} (es, ns) (ds, ns)
with_notes ns e = λ i. (e i, ns)

module _ {X Y : Type 0} (h : X → Y) where
  abbrev over_item : ℕ × X → ℕ × Y
  over_item p = (p.0, h p.1)

  abbrev over_run : ℕ × Vec (ℕ × X) Global → ℕ × Vec (ℕ × Y) Global
  over_run r = (r.0, vec.mapped over_item r.1)

  over_appended : (xs ys : List (ℕ × X)) → map over_item (xs ++ ys) ≡ map over_item xs ++ map over_item ys
  over_appended [] ys = refl
  over_appended (x ∷ xs) ys = ap (λ l. over_item x ∷ l) (over_appended xs ys)

  over_flat : (rs : Runs X) → flat (map over_run rs) ≡ map over_item (flat rs)
  over_flat [] = refl
  over_flat (r ∷ rs) = ap (λ l. map over_item r.1.items ++ l) (over_flat rs) ∙ sym (over_appended r.1.items (flat rs))

  same_keys : (es : List (ℕ × X)) → keys_of (map over_item es) ≡ keys_of es
  same_keys [] = refl
  same_keys (e ∷ es) = ap (λ ks. e.0 ∷ ks) (same_keys es)

  same_marks : (rs : Runs X) → marks (map over_run rs) ≡ marks rs
  same_marks [] = refl
  same_marks (r ∷ rs) = ap₂ (λ ks ms. (r.0, ks) ∷ ms) (same_keys r.1.items) (same_marks rs)

module _ (R S : RattleType) (h : R.Denot → S.Denot) where
  abbrev run_type : RattleType → RattleType
  run_type T = vecs.the_row (Tuple (u32 ∷ T ∷ [])) heap.the_row ghosts

  item_places : Alike R S h → Alike (Tuple (u32 ∷ R ∷ [])) (Tuple (u32 ∷ S ∷ [])) (over_item h)
  item_places a = struct_places (tuple_type (u32 ∷ R ∷ [])) (tuple_type (u32 ∷ S ∷ [])) ((λ n. n), (h, tt)) (over_item h) (λ d. refl) refl (stays u32, (laid R S h a, tt))

  run_places : Alike R S h → Alike (Tuple (u32 ∷ run_type R ∷ [])) (Tuple (u32 ∷ run_type S ∷ [])) (over_run h)
  run_places a = struct_places (tuple_type (u32 ∷ run_type R ∷ [])) (tuple_type (u32 ∷ run_type S ∷ [])) ((λ n. n), (vec.mapped (over_item h), tt)) (over_run h) (λ d. refl) refl
      (stays u32, (laid _ _ _ (vec.the_places heap.the_row ghosts (Tuple (u32 ∷ R ∷ [])) (Tuple (u32 ∷ S ∷ [])) (over_item h) (item_places a)), tt))

  pub the_places : Alike R S h → Alike (C.the_row R) (C.the_row S) ((the_former this).map R.Denot S.Denot h)
  the_places a = view_places fields (the_former this) view (λ X Y k u. with_notes (option_map (λ m. m.entries) u.notes) (over_flat k u.runs.items)) (λ X u. held_runs X u.runs.items none_left tt) R.Denot S.Denot h (C.the_row R).coded (C.the_row S).coded
      (invariant R.Denot) (invariant S.Denot) (λ u. InRuns-prop (marks u.runs.items)) (λ u. InRuns-prop (marks u.runs.items))
      (λ u s. subst InRuns (sym (same_marks h u.runs.items)) s) (λ u s. subst InRuns (same_marks h u.runs.items) s)
      (over (I.the_row R)) (over (I.the_row S))
      (struct_places (I.the_type R) (I.the_type S) (vec.mapped (over_run h), ((λ m. m), tt)) _ (λ d. refl) refl
      (laid _ _ _ (vec.the_places heap.the_row ghosts (Tuple (u32 ∷ run_type R ∷ [])) (Tuple (u32 ∷ run_type S ∷ [])) (over_run h) (run_places a)), ((refl, (λ n. refl, λ n. refl)), tt)))

  abbrev item_code : (T : RattleType) → ℕ × T.Denot → Gv
  item_code T p = gcons (gnum p.0) (T.coded.code p.1)

  pub the_codes_placed : Recodes R S h → Recodes (C.the_row R) (C.the_row S) ((the_former this).map R.Denot S.Denot h)
  the_codes_placed e d = in_front (sym (code_map {A = ℕ × R.Denot} {B = ℕ × S.Denot} (item_code R) (item_code S) (over_item h) (λ p. ap (gcons (gnum p.0)) (sym (e p.1))) d.0))
