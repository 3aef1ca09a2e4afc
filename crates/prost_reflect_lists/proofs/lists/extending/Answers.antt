use Rattle.prost_reflect_lists.proofs.Common.{List, rules, refl, ap, ◌∙◌, length, flat_rows, all_rows, links_of, ResolvedRow, resolved_row}
use Rattle.prost_reflect_base.specs.Below.{rows_below}
use Rattle.prost_reflect_growth.specs.GatheredFrom.{gathered_from}
use Rattle.prost_reflect_growth.proofs.GatheredFrom.{shown_from}
use Rattle.prost_reflect_lists.proofs.GrownLists.{extending_from}
use Rattle.prost_reflect_lists.proofs.lists.extending.Goals as goal

pub returns : goal.returns
returns c =
    let rows = flat_rows c.args.flat.now in
    let start = length (rows_below c.args.base).extensions in
    let owner = λ (r : ResolvedRow). r.extendee in
    shown_from resolved_row owner c.args.extensions.now _ _ start c.args.first c.args.first c.args.count c.args.count _ refl c.extension_count.ensures refl refl (c.in_ok-gathered.ensures (λ x. owner (resolved_row x)) (λ x r h. search rules))
    ∙ (ap (λ (rs : List ResolvedRow). gathered_from owner start rs c.args.first c.args.count) c.requires
    ∙ extending_from (links_of (all_rows c.args.base rows)) start rows.extensions c.args.first c.args.count)
