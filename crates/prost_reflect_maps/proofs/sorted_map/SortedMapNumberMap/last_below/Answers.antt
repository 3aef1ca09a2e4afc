use Rattle.prost_reflect_maps.proofs.Common.{ap, sym, ◌∙◌, last, items_left_back}
use Rattle.prost_reflect_maps.proofs.Bounds.{last_behind}
use Rattle.prost_reflect_maps.proofs.sorted_map.SortedMapNumberMap.last_below.Goals as goal

pub returns-in-Some : goal.returns-in-Some
returns-in-Some g c = sym (last_behind (items_left_back c.next.new.self) c.in-Some.field-0.now) ∙ ap last (sym c.in-Some.ensures.steps ∙ c.walks_at.ensures.below)
