use Rattle.std.specs.Prelude.{◌≡◌, ◌++◌}
use Rattle.prost_reflect_maps.proofs.Common.{rules, length, sym, ap, ◌∙◌, append-nil, flat}
use Rattle.prost_reflect_maps.proofs.Weaving.{none_of}
use Rattle.prost_reflect_maps.proofs.RunChanges.{last_run}
use Rattle.prost_reflect_maps.proofs.sorted_map.walks.ItemsBack.fill.Goals as goal

pub loop-run-preserved : goal.loop-run-preserved
loop-run-preserved g c =
    let none : length c.loop-run.run.now ≡ 0 = search rules in
    ap (λ l. flat c.in-Some.rest.now ++ l) c.deref-run.ensures.value ∙ sym (last_run c.loop-run.runs.now c.in-Some.rest.now c.in-Some.last.now c.in-Some.ensures.cases.0) ∙ sym (append-nil (flat c.loop-run.runs.now))
    ∙ ap (λ l. flat c.loop-run.runs.now ++ l) (sym (none_of _ none)) ∙ c.loop-run.invariant
