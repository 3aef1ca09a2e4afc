use Rattle.prost_reflect_growth.proofs.Common.{◌∙◌, ap}
use Rattle.prost_reflect_flat.specs.FlatViews.{text_list}
use Rattle.prost_reflect_tables.specs.Orders.{by_text}
use Rattle.prost_reflect_tables.proofs.Gathering.{all_shown}
use Rattle.prost_reflect_growth.proofs.order.ordered_texts.Goals as goal

pub returns : goal.returns
returns c =
    let texts = text_list c.args.texts.now in
    c.in_ok-sort_by_text.ensures ∙ ap (by_text texts) (c.in_ok-places.ensures ∙ all_shown (λ t. t.now) c.args.texts.now)
