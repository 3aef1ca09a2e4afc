use Rattle.prost_reflect_maps.proofs.Common.{sym, subst, ap, ◌∙◌, IsAscending}
use Rattle.prost_reflect_maps.proofs.ItemChanges.{none_above}
use Rattle.prost_reflect_maps.proofs.RunPlaces.{run_found, none_found, ahead_above}
use Rattle.prost_reflect_maps.proofs.RunChanges.{own_ascends, run_got, item_found_in}
use Rattle.prost_reflect_maps.proofs.runs.get_in.Goals as goal

pub get_at-requires : goal.get_at-requires
get_at-requires g c =
    let runs = c.args.runs.now in
    let home = run_found c.args.number runs c.in-Some.index c.requires c.in-Some.ensures.run in
    subst IsAscending (sym (c.deref.ensures.value ∙ ap (λ r. r.1.items) (run_got c.args.number runs c.in-Some.index c.requires home _))) (own_ascends c.args.number runs c.in-Some.index c.requires home)

pub returns-in-Some : goal.returns-in-Some
returns-in-Some g c =
    let runs = c.args.runs.now in
    let home = run_found c.args.number runs c.in-Some.index c.requires c.in-Some.ensures.run in
    c.get_at.ensures ∙ item_found_in c.args.number runs c.in-Some.index c.requires home _ (c.deref.ensures.value ∙ ap (λ r. r.1.items) (run_got c.args.number runs c.in-Some.index c.requires home _))

pub returns-in-None : goal.returns-in-None
returns-in-None g c = sym (none_above c.args.number _ (ahead_above c.args.number c.args.runs.now (none_found c.args.number c.args.runs.now c.in-None.ensures.run) c.requires))
