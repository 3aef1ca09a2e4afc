use Rattle.std.specs.Prelude.{◌∷◌, ◌++◌}
use Rattle.prost_reflect_maps.proofs.Common.{ℕ, [], insert, sym, subst, ap, ◌∙◌, flat, IsLaid}
use Rattle.prost_reflect_maps.proofs.RunPlaces.{none_found}
use Rattle.prost_reflect_maps.proofs.RunChanges.{put_ahead, laid_ahead, insert_first}
use Rattle.prost_reflect_maps.proofs.runs.put_first.Goals as goal

pub returns-clause-laid : goal.returns-clause-laid
returns-clause-laid g c =
    let n = c.args.number in
    let runs = c.args.runs.now.items in
    let e : ℕ × g.row.T.Denot = (n, c.args.item) in
    let one = c.in_ok-push.ensures.items ∙ ap (λ l. l ++ e ∷ []) c.new-run.ensures.items in
    let is = c.in_ok-insert.ensures.items ∙ ap (λ rs. insert rs 0 (0, c.push.new.self)) c.in_ok-reserve_exact.ensures.items ∙ insert_first runs (0, c.push.new.self) in
    subst IsLaid (sym is) (laid_ahead n c.args.item c.push.new.self runs c.requires.laid (none_found n runs (sym c.requires.first)) one)

pub returns-clause-ok : goal.returns-clause-ok
returns-clause-ok g c =
    let n = c.args.number in
    let runs = c.args.runs.now.items in
    let e : ℕ × g.row.T.Denot = (n, c.args.item) in
    let one = c.in_ok-push.ensures.items ∙ ap (λ l. l ++ e ∷ []) c.new-run.ensures.items in
    let is = c.in_ok-insert.ensures.items ∙ ap (λ rs. insert rs 0 (0, c.push.new.self)) c.in_ok-reserve_exact.ensures.items ∙ insert_first runs (0, c.push.new.self) in
    ap flat is ∙ ap (λ l. l ++ flat runs) one ∙ put_ahead n c.args.item runs c.requires.laid (none_found n runs (sym c.requires.first))
