use Rattle.prost_reflect_lists.proofs.Common.{rules, arith, ap, ◌∙◌, length, length-map, flat_rows, all_rows, links_of, extended_place, message_row}
use Rattle.prost_reflect_base.specs.Below.{rows_below}
use Rattle.prost_reflect_growth.specs.GatheredFrom.{gathered_from}
use Rattle.prost_reflect_lists.proofs.lists.inner_places.Goals as goal

pub returns : goal.returns
returns c =
    let flat = c.args.flat.now in
    let old = rows_below c.args.base in
    let new = flat_rows flat in
    let owner = extended_place (links_of (all_rows c.args.base new)) in
    record {
      messages = search rules;
      enums = search rules;
      extensions = search rules;
      extending =
          c.in_ok-extending.ensures
          ∙ (ap (λ T. gathered_from owner (length old.extensions) new.extensions T c.len-count.result) c.message_count-first.ensures
          ∙ ap (gathered_from owner (length old.extensions) new.extensions (length old.messages)) (omega (arith, c.len-count.ensures, flat.messages.ok.0, length-map flat.messages.items message_row)));
    }
