use Rattle.prost_reflect_maps.proofs.Common.{sym, subst, ap, ◌∙◌, on_ok_weaker, on_err_weaker, nat_cmp, keys_of, seek, IsAscending, put_item, run_at}
use Rattle.prost_reflect_maps.proofs.RunPlaces.{run_found}
use Rattle.prost_reflect_maps.proofs.RunChanges.{own_ascends, run_got, laid_put, laid_keys, put_home, same_home}
use Rattle.prost_reflect_maps.proofs.Results.{either}
use Rattle.prost_reflect_maps.proofs.runs.put_in.Goals as goal

pub put-requires : goal.put-requires
put-requires g c =
    let n = c.args.number in
    let i = c.in-Some.index in
    let runs = c.args.runs.now.items in
    let home = run_found n runs i c.requires (c.in-Some.ensures.run ∙ ap (λ l. run_at (seek (nat_cmp n) l)) c.deref.ensures.value) in
    let is = c.index_mut.ensures.value ∙ run_got n runs i c.requires home _ in
    subst IsAscending (sym (ap (λ r. r.1.items) is)) (own_ascends n runs i c.requires home)

pub returns-in-Some-clause-laid : goal.returns-in-Some-clause-laid
returns-in-Some-clause-laid g c =
    let n = c.args.number in
    let i = c.in-Some.index in
    let runs = c.args.runs.now.items in
    let home = run_found n runs i c.requires (c.in-Some.ensures.run ∙ ap (λ l. run_at (seek (nat_cmp n) l)) c.deref.ensures.value) in
    let is = c.index_mut.ensures.value ∙ run_got n runs i c.requires home _ in
    let r = c.index_mut.result.now in
    either c.put.result c.put.ensures.ok c.put.ensures.err
    (λ put. laid_put n runs i c.requires home (r.0, c.put.new.items) c.args.item (ap (λ q. q.0) is) (put ∙ ap (λ q. put_item q.1.items n c.args.item) is))
    (λ same. laid_keys n runs i c.requires home (r.0, c.put.new.items) (ap (λ q. q.0) is) (ap keys_of (same ∙ ap (λ q. q.1.items) is)))

pub returns-in-Some-clause-ok : goal.returns-in-Some-clause-ok
returns-in-Some-clause-ok g c =
    let n = c.args.number in
    let i = c.in-Some.index in
    let runs = c.args.runs.now.items in
    let home = run_found n runs i c.requires (c.in-Some.ensures.run ∙ ap (λ l. run_at (seek (nat_cmp n) l)) c.deref.ensures.value) in
    let is = c.index_mut.ensures.value ∙ run_got n runs i c.requires home _ in
    on_ok_weaker c.put.result
    (λ put. put_home n runs i c.requires home (c.index_mut.result.now.0, c.put.new.items) c.args.item (put ∙ ap (λ q. put_item q.1.items n c.args.item) is))
    c.put.ensures.ok

pub returns-in-Some-clause-err : goal.returns-in-Some-clause-err
returns-in-Some-clause-err g c =
    let n = c.args.number in
    let i = c.in-Some.index in
    let runs = c.args.runs.now.items in
    let home = run_found n runs i c.requires (c.in-Some.ensures.run ∙ ap (λ l. run_at (seek (nat_cmp n) l)) c.deref.ensures.value) in
    let is = c.index_mut.ensures.value ∙ run_got n runs i c.requires home _ in
    on_err_weaker c.put.result
    (λ same. same_home n runs i c.requires home (c.index_mut.result.now.0, c.put.new.items) (same ∙ ap (λ q. q.1.items) is))
    c.put.ensures.err
