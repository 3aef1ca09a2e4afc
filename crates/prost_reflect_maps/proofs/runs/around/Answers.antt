use Rattle.std.specs.Prelude.{◌++◌}
use Rattle.prost_reflect_maps.proofs.Common.{[], ap, ap₂, sym, subst, ◌∙◌, IsAscending, items_below, items_from, flat}
use Rattle.prost_reflect_maps.proofs.Bounds.{below_home, from_home, in_front_of, behind_it, from_above, below_above}
use Rattle.prost_reflect_maps.proofs.Places.{empty_ascends}
use Rattle.prost_reflect_maps.proofs.RunPlaces.{run_found, none_found, ahead_above}
use Rattle.prost_reflect_maps.proofs.RunChanges.{own_ascends, run_got}
use Rattle.prost_reflect_maps.proofs.runs.around.Goals as goal

pub returns-in-Some-clause-own : goal.returns-in-Some-clause-own
returns-in-Some-clause-own g c =
    let runs = c.args.runs.now in
    let home = run_found c.args.number runs c.in-Some.index c.requires c.in-Some.ensures.run in
    subst IsAscending (sym (c.deref.ensures.value ∙ ap (λ r. r.1.items) (run_got c.args.number runs c.in-Some.index c.requires home c.index-runs-index.result))) (own_ascends c.args.number runs c.in-Some.index c.requires home)

pub returns-in-Some-clause-below : goal.returns-in-Some-clause-below
returns-in-Some-clause-below g c =
    let n = c.args.number in
    let runs = c.args.runs.now in
    let home = run_found n runs c.in-Some.index c.requires c.in-Some.ensures.run in
    let own = c.deref.ensures.value ∙ ap (λ r. r.1.items) (run_got n runs c.in-Some.index c.requires home c.index-runs-index.result) in
    below_home n runs c.in-Some.index c.requires home ∙ ap₂ (λ rs es. flat rs ++ items_below es n) (sym (in_front_of n runs c.in-Some.index c.requires home)) (sym own)

pub returns-in-Some-clause-from : goal.returns-in-Some-clause-from
returns-in-Some-clause-from g c =
    let n = c.args.number in
    let runs = c.args.runs.now in
    let home = run_found n runs c.in-Some.index c.requires c.in-Some.ensures.run in
    let own = c.deref.ensures.value ∙ ap (λ r. r.1.items) (run_got n runs c.in-Some.index c.requires home c.index-runs-index.result) in
    from_home n runs c.in-Some.index c.requires home ∙ ap₂ (λ es rs. items_from es n ++ flat rs) (sym own) (sym (behind_it n runs c.in-Some.index c.requires home))

pub returns-in-None-clause-own : goal.returns-in-None-clause-own
returns-in-None-clause-own g c = empty_ascends {T = g.row.T.Denot} [] (λ i. [])

pub returns-in-None-clause-below : goal.returns-in-None-clause-below
returns-in-None-clause-below g c = below_above c.args.number (flat c.args.runs.now) (ahead_above c.args.number c.args.runs.now (none_found c.args.number c.args.runs.now c.in-None.ensures.run) c.requires)

pub returns-in-None-clause-from : goal.returns-in-None-clause-from
returns-in-None-clause-from g c = from_above c.args.number (flat c.args.runs.now) (ahead_above c.args.number c.args.runs.now (none_found c.args.number c.args.runs.now c.in-None.ensures.run) c.requires)
