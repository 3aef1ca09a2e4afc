use Rattle.prost_reflect_pool.proofs.Common.{rules, map, enum_value_row}
use Rattle.prost_reflect_pool.proofs.InOrder.{numbered_found, number_order}
use Rattle.prost_reflect_pool.proofs.InCatalog.{number_of}
use Rattle.prost_reflect_pool.proofs.lookup.numbered_among.Goals as goal

pub returns : goal.returns
returns c =
    let rows = map enum_value_row c.args.values.now in
    numbered_found number_of rows c.args.number _ _ c.requires
    (c.first_equal.ensures (number_order (map number_of rows) c.args.number) (λ x r h. search rules))
