use Rattle.prost_reflect_maps.proofs.Common.{[], sym, subst, ap, ◌∙◌, nat_cmp, seek, IsAscending, without_item, run_at, flat}
use Rattle.prost_reflect_maps.proofs.ItemChanges.{none_above}
use Rattle.prost_reflect_maps.proofs.RunPlaces.{run_found, none_found, ahead_above, without_above}
use Rattle.prost_reflect_maps.proofs.RunChanges.{own_ascends, run_got, laid_without, without_home, item_found_in}
use Rattle.prost_reflect_maps.proofs.runs.remove_in.Goals as goal

pub remove_at-requires : goal.remove_at-requires
remove_at-requires g c =
    let n = c.args.number in
    let i = c.in-Some.index in
    let runs = c.args.runs.now.items in
    let home = run_found n runs i c.requires (c.in-Some.ensures.run ∙ ap (λ l. run_at (seek (nat_cmp n) l)) c.deref.ensures.value) in
    let is = c.index_mut.ensures.value ∙ run_got n runs i c.requires home _ in
    subst IsAscending (sym (ap (λ r. r.1.items) is)) (own_ascends n runs i c.requires home)

pub returns-in-Some-clause-laid : goal.returns-in-Some-clause-laid
returns-in-Some-clause-laid g c =
    let n = c.args.number in
    let i = c.in-Some.index in
    let runs = c.args.runs.now.items in
    let home = run_found n runs i c.requires (c.in-Some.ensures.run ∙ ap (λ l. run_at (seek (nat_cmp n) l)) c.deref.ensures.value) in
    let is = c.index_mut.ensures.value ∙ run_got n runs i c.requires home _ in
    laid_without n runs i c.requires home (c.index_mut.result.now.0, c.remove_at.new.items) (ap (λ q. q.0) is) (c.remove_at.ensures.items ∙ ap (λ q. without_item q.1.items n) is)

pub returns-in-Some-clause-removed : goal.returns-in-Some-clause-removed
returns-in-Some-clause-removed g c =
    let n = c.args.number in
    let i = c.in-Some.index in
    let runs = c.args.runs.now.items in
    let home = run_found n runs i c.requires (c.in-Some.ensures.run ∙ ap (λ l. run_at (seek (nat_cmp n) l)) c.deref.ensures.value) in
    let is = c.index_mut.ensures.value ∙ run_got n runs i c.requires home _ in
    c.remove_at.ensures.removed ∙ item_found_in n runs i c.requires home c.index_mut.result.now.1.items (ap (λ q. q.1.items) is)

pub returns-in-Some-clause-items : goal.returns-in-Some-clause-items
returns-in-Some-clause-items g c =
    let n = c.args.number in
    let i = c.in-Some.index in
    let runs = c.args.runs.now.items in
    let home = run_found n runs i c.requires (c.in-Some.ensures.run ∙ ap (λ l. run_at (seek (nat_cmp n) l)) c.deref.ensures.value) in
    let is = c.index_mut.ensures.value ∙ run_got n runs i c.requires home _ in
    without_home n runs i c.requires home (c.index_mut.result.now.0, c.remove_at.new.items) (c.remove_at.ensures.items ∙ ap (λ q. without_item q.1.items n) is)

pub returns-in-None-clause-removed : goal.returns-in-None-clause-removed
returns-in-None-clause-removed g c =
    let n = c.args.number in
    let runs = c.args.runs.now.items in
    sym (none_above n (flat runs) (ahead_above n runs (none_found n runs (c.in-None.ensures.run ∙ ap (λ l. run_at (seek (nat_cmp n) l)) c.deref.ensures.value)) c.requires))

pub returns-in-None-clause-items : goal.returns-in-None-clause-items
returns-in-None-clause-items g c =
    let n = c.args.number in
    let runs = c.args.runs.now.items in
    sym (without_above n [] (flat runs) (ahead_above n runs (none_found n runs (c.in-None.ensures.run ∙ ap (λ l. run_at (seek (nat_cmp n) l)) c.deref.ensures.value)) c.requires))
