use Rattle.prost_reflect_maps.proofs.Common.{ap, sym, ◌∙◌, last}
use Rattle.prost_reflect_maps.proofs.Bounds.{below_range, last_behind}
use Rattle.prost_reflect_maps.proofs.number_map.BTreeMapU32NumberMap.last_below.Goals as goal

pub returns-in-Some : goal.returns-in-Some
returns-in-Some g c =
    sym (last_behind c.next_back.new.self (c.in-Some.number.now, c.in-Some.item.now))
    ∙ ap last (sym c.in-Some.ensures.steps ∙ c.range.ensures.between tt ∙ below_range c.args.number c.args.self.now.entries)
