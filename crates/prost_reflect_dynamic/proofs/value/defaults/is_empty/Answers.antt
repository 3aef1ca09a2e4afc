use Rattle.std.specs.Prelude.{◌==◌}
use Rattle.prost_reflect_dynamic.proofs.Common.{sym, ap, ◌∙◌, true≢false, value_of}
use Rattle.prost_reflect_dynamic.proofs.Views.{value_of_list, value_of_map}
use Rattle.prost_reflect_dynamic.proofs.Defaults.{some_items, no_pairs, some_pairs}
use Rattle.prost_reflect_dynamic.proofs.value.defaults.is_empty.Goals as goal

pub returns-else-is_empty : goal.returns-else-is_empty
returns-else-is_empty c = let vs = c.in-List.values in
    rw (c.in-List.is, value_of_list) (c.if-is_empty.false ∙ some_items value_of vs.items _ (ap (λ n. n == 0) (sym vs.ok.0) ∙ sym c.is_empty.ensures ∙ c.if-is_empty.false))

pub returns-then-is_empty-2 : goal.returns-then-is_empty-2
returns-then-is_empty-2 c = let ps = c.in-Map.pairs in
    rw (c.in-Map.is, value_of_map) (c.is_map.ensures ∙ no_pairs (λ e. (e.0, value_of e.1)) ps.entries _ (c.is_empty-in-Map.ensures.0 c.if-is_empty-2.true))

pub returns-else-is_empty-2 : goal.returns-else-is_empty-2
returns-else-is_empty-2 c = let ps = c.in-Map.pairs in
    rw (c.in-Map.is, value_of_map) (c.if-is_empty-2.false ∙ some_pairs (λ e. (e.0, value_of e.1)) ps.entries _ (λ none. true≢false (sym (c.is_empty-in-Map.ensures.1 none) ∙ c.if-is_empty-2.false)))
