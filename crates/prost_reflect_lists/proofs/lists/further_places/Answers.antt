use Rattle.std.specs.List.{list_any}
use Rattle.prost_reflect_lists.proofs.Common.{sym, ap, ◌∙◌, flat_rows, ResolvedRow}
use Rattle.prost_reflect_base.specs.Below.{rows_below}
use Rattle.prost_reflect_growth.specs.FirstPlaces.{is_below}
use Rattle.prost_reflect_lists.proofs.GrownLists.{further_all, further_none}
use Rattle.prost_reflect_lists.proofs.lists.further_places.Goals as goal

pub returns-in_ok-extending : goal.returns-in_ok-extending
returns-in_ok-extending c = further_all (rows_below c.args.base) (flat_rows c.args.flat.now) _ c.message_count-count.result c.message_count-count.ensures c.in_ok-extending.ensures

pub returns-else-any_below : goal.returns-else-any_below
returns-else-any_below c =
    let count = c.message_count-count.result in
    further_none (rows_below c.args.base) (flat_rows c.args.flat.now) _ count c.new.ensures.items c.message_count-count.ensures
    (sym (c.any_below.ensures ∙ ap (list_any (λ (r : ResolvedRow). is_below count r.extendee)) c.requires) ∙ c.if-any_below.false)
