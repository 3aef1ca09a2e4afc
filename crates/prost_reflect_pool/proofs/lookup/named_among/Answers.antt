use Rattle.prost_reflect_pool.proofs.Common.{rules, map, not, FieldRow, field_row}
use Rattle.prost_reflect_pool.proofs.InOrder.{text_found, text_order}
use Rattle.prost_reflect_pool.proofs.lookup.named_among.Goals as goal

pub returns : goal.returns
returns c =
    let rows = map field_row c.args.fields.now in
    text_found (λ (f : FieldRow). f.id.name) (λ (f : FieldRow). not f.is_extension) rows c.args.name.now _ _ c.requires
    (c.first_equal.ensures (text_order (map (λ (f : FieldRow). f.id.name) rows) c.args.name.now) (λ x r h. search rules))
