use Rattle.prost_reflect_pool.proofs.Common.{rules, map, EnumValueRow, enum_value_row}
use Rattle.prost_reflect_pool.proofs.InOrder.{named_found, text_order}
use Rattle.prost_reflect_pool.proofs.lookup.value_named_among.Goals as goal

pub returns : goal.returns
returns c =
    let rows = map enum_value_row c.args.values.now in
    named_found (λ (v : EnumValueRow). v.id.name) rows c.args.name.now _ _ c.requires
    (c.first_equal.ensures (text_order (map (λ (v : EnumValueRow). v.id.name) rows) c.args.name.now) (λ x r h. search rules))
