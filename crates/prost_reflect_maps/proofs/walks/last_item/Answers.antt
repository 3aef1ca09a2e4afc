use Rattle.prost_reflect_maps.proofs.Common.{rules, sym, ap, ◌∙◌, last}
use Rattle.prost_reflect_maps.proofs.Below.{largest, all_smaller}
use Rattle.prost_reflect_maps.proofs.walks.last_item.Goals as goal

pub returns-in-Some : goal.returns-in-Some
returns-in-Some g c = sym (largest 4294967295 (g.S.NumberMap.entries c.args.map.now) c.in-Some.item.now c.ascends.ensures c.bounded.ensures (search rules))

pub returns-in-None : goal.returns-in-None
returns-in-None g c = c.last_below.ensures ∙ ap last (all_smaller 4294967295 (g.S.NumberMap.entries c.args.map.now) c.bounded.ensures (search rules))
