use Rattle.std.specs.Prelude.{◌≡◌, ◌<◌}
use Rattle.prost_reflect_maps.proofs.Common.{arith, ℕ, List, Option, option_map, sym, subst, ap, ◌∙◌, length, nat_cmp, seek, IsAscending, item_at, with_item, run_at, flat}
use mathlib.Core.Logic.{inl, inr, ◌⊎◌}
use Rattle.std.specs.Vec.{with_item as vec_with}
use Rattle.prost_reflect_maps.proofs.ItemChanges.{none_above}
use Rattle.prost_reflect_maps.proofs.RunPlaces.{run_found, none_found, ahead_above}
use Rattle.prost_reflect_maps.proofs.RunChanges.{own_ascends, run_got, found_within, lent_keys, lent_is, lent_value, none_lent, laid_keys, with_home}
use Rattle.prost_reflect_maps.proofs.runs.RunMap.get_mut.Goals as goal

lent_same : {N A B C : Type 0} (n : N) (f h : A → B) → ((w : A) → f w ≡ h w) → ◌≡◌ {A = (N × (A → B)) ⊎ C} (inl (n, f)) (inl (n, h))
lent_same n f h same = λ j. inl (n, λ w. same w j)

beside : {A N : Type 0} {x y : A} (n : N) → x ≡ y → ◌≡◌ {A = A × N} (x, n) (y, n)
beside n e = λ i. (e i, n)

pub place_in-requires : goal.place_in-requires
place_in-requires g c =
    let runs = c.self.inside.runs.items in
    let home = run_found c.args.number runs c.in-Some.index c.self.invariant (c.in-Some.ensures.run ∙ ap (λ l. run_at (seek (nat_cmp c.args.number) l)) c.deref.ensures.value) in
    subst IsAscending (sym (c.deref-in-Some.ensures.value ∙ ap (λ r. r.1.items) (c.index.ensures ∙ run_got c.args.number runs c.in-Some.index c.self.invariant home _))) (own_ascends c.args.number runs c.in-Some.index c.self.invariant home)

pub index_mut-item-requires : goal.index_mut-item-requires
index_mut-item-requires g c =
    let runs = c.self.inside.runs.items in
    let home = run_found c.args.number runs c.in-Some.index c.self.invariant (c.in-Some.ensures.run ∙ ap (λ l. run_at (seek (nat_cmp c.args.number) l)) c.deref.ensures.value) in
    let own = c.deref-in-Some.ensures.value ∙ ap (λ r. r.1.items) (c.index.ensures ∙ run_got c.args.number runs c.in-Some.index c.self.invariant home _) in
    let r = c.index_mut-run.result.now in
    let is = c.index_mut-run.ensures.value ∙ run_got c.args.number runs c.in-Some.index c.self.invariant home _ in
    let within : c.in-Ok.place < length r.1.items = found_within c.args.number runs c.in-Some.index c.self.invariant home r is c.in-Ok.place c.deref-in-Some.result.now own c.in-Ok.ensures in
    omega (arith, within, r.1.ok.0)

pub invariant_of-self-lent : goal.invariant_of-self-lent
invariant_of-self-lent g c =
    let n = c.args.number in
    let i = c.in-Some.index in
    let runs = c.self.inside.runs.items in
    let home = run_found n runs i c.self.invariant (c.in-Some.ensures.run ∙ ap (λ l. run_at (seek (nat_cmp n) l)) c.deref.ensures.value) in
    let own = c.deref-in-Some.ensures.value ∙ ap (λ r. r.1.items) (c.index.ensures ∙ run_got n runs i c.self.invariant home _) in
    let r = c.index_mut-run.result.now in
    let is = c.index_mut-run.ensures.value ∙ run_got n runs i c.self.invariant home _ in
    let x = c.index_mut-item.result.now in
    λ w. laid_keys n runs i c.self.invariant home (r.0, vec_with r.1 c.in-Ok.place (x.0, w)) (ap (λ q. q.0) is)
    (lent_keys n runs i c.self.invariant home r is c.in-Ok.place c.deref-in-Some.result.now own c.in-Ok.ensures x c.index_mut-item.ensures.value w)

pub returns-in-Ok : goal.returns-in-Ok
returns-in-Ok g c =
    let n = c.args.number in
    let i = c.in-Some.index in
    let runs = c.self.inside.runs.items in
    let home = run_found n runs i c.self.invariant (c.in-Some.ensures.run ∙ ap (λ l. run_at (seek (nat_cmp n) l)) c.deref.ensures.value) in
    let own = c.deref-in-Some.ensures.value ∙ ap (λ r. r.1.items) (c.index.ensures ∙ run_got n runs i c.self.invariant home _) in
    let r = c.index_mut-run.result.now in
    let is = c.index_mut-run.ensures.value ∙ run_got n runs i c.self.invariant home _ in
    let x = c.index_mut-item.result.now in (
      lent_same _ _ _ (λ w. beside (option_map (λ m. m.entries) c.self.inside.notes) (with_home n runs i c.self.invariant home (r.0, vec_with r.1 c.in-Ok.place (x.0, w)) w
          (lent_is n runs i c.self.invariant home r is c.in-Ok.place c.deref-in-Some.result.now own c.in-Ok.ensures x c.index_mut-item.ensures.value w))
          ∙ ap (λ (held : List (ℕ × g.row.T.Denot) × Option (List (ℕ × ℕ))). (with_item held.0 n w, held.1)) c.self.view_is),
      record {
        writes_back = tt;
        value = sym (ap (λ (held : List (ℕ × g.row.T.Denot) × Option (List (ℕ × ℕ))). item_at held.0 n) (sym c.self.view_is) ∙ lent_value n runs i c.self.invariant home r is c.in-Ok.place c.deref-in-Some.result.now own c.in-Ok.ensures x c.index_mut-item.ensures.value);
      },
    )

pub returns-in-Err : goal.returns-in-Err
returns-in-Err g c =
    let n = c.args.number in
    let i = c.in-Some.index in
    let runs = c.self.inside.runs.items in
    let home = run_found n runs i c.self.invariant (c.in-Some.ensures.run ∙ ap (λ l. run_at (seek (nat_cmp n) l)) c.deref.ensures.value) in
    let own = c.deref-in-Some.ensures.value ∙ ap (λ r. r.1.items) (c.index.ensures ∙ run_got n runs i c.self.invariant home _) in (
      λ j. inr (c.self.view_is j),
      record { writes_back = tt; value = sym (ap (λ (held : List (ℕ × g.row.T.Denot) × Option (List (ℕ × ℕ))). item_at held.0 n) (sym c.self.view_is) ∙ none_lent n runs i c.self.invariant home c.deref-in-Some.result.now c.in-Err.field-0 own c.in-Err.ensures) },
    )

pub returns-in-None : goal.returns-in-None
returns-in-None g c =
    let n = c.args.number in
    let runs = c.self.inside.runs.items in
    let ahead = none_found n runs (c.in-None.ensures.run ∙ ap (λ l. run_at (seek (nat_cmp n) l)) c.deref.ensures.value) in (
      λ j. inr (c.self.view_is j),
      record { writes_back = tt; value = sym (ap (λ (held : List (ℕ × g.row.T.Denot) × Option (List (ℕ × ℕ))). item_at held.0 n) (sym c.self.view_is) ∙ none_above n (flat runs) (ahead_above n runs ahead c.self.invariant)) },
    )
