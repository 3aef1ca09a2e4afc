use Rattle.prost_reflect_maps.proofs.Common.{rules, ℕ, ap, sym, ◌∙◌, arith, common_steps, item_copied}
use Rattle.prost_reflect_maps.proofs.Above.{not_above, none_above}
use Rattle.prost_reflect_maps.proofs.walks.bounded.Goals as goal

pub unreachable-requires : goal.unreachable-requires
unreachable-requires g c =
    let e : ℕ × g.row.T.Denot = (c.in-Some.number, c.in-Some.field-0-1.now) in
    not_above (g.S.NumberMap.entries c.args.map.now) 4294967295 e (sym c.first_above.ensures ∙ ap item_copied c.in-Some.is) (grind (arith, common_steps, c.is_u32.ensures))

pub returns : goal.returns
returns g c = none_above 4294967295 (g.S.NumberMap.entries c.args.map.now) (search rules)
