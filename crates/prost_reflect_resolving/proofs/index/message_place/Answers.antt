use Rattle.std.specs.Prelude.{◌≡◌}
use Rattle.prost_reflect_resolving.proofs.Common.{length, sym, ap, ◌∙◌, length-map, name_place, place_named, message_names, without_dot, flat_rows, all_rows}
use Rattle.prost_reflect_base.specs.Below.{rows_below}
use Rattle.prost_reflect_resolving.proofs.LookedUp.{messages_behind, found_old, found_new}
use Rattle.prost_reflect_resolving.proofs.index.message_place.Goals as goal

pub returns-in-Some-message_place : goal.returns-in-Some-message_place
returns-in-Some-message_place c =
    let old = rows_below c.args.index.now.base in
    let new = flat_rows c.args.flat.now in
    let all = message_names (all_rows c.args.index.now.base new) in
    let name = c.without_dot-name.result.now in
    let named : place_named all c.args.text.now ≡ name_place all name =
    ap (place_named all) c.in-Some.is ∙ ap (name_place all) (sym (c.without_dot-name.ensures ∙ ap without_dot c.as_str.ensures.value)) in
    found_old (message_names old) (message_names new) all (messages_behind old new) (length old.messages) (sym (length-map old.messages (λ x. x.definition.full_name))) c.args.index.now.messages c.requires.messages name
    c.in-Some-message_place.place (sym c.message_place.ensures ∙ c.in-Some-message_place.is)
    ∙ sym named

pub returns-in-None : goal.returns-in-None
returns-in-None c =
    let old = rows_below c.args.index.now.base in
    let new = flat_rows c.args.flat.now in
    let all = message_names (all_rows c.args.index.now.base new) in
    let name = c.without_dot-name.result.now in
    let named : place_named all c.args.text.now ≡ name_place all name =
    ap (place_named all) c.in-Some.is ∙ ap (name_place all) (sym (c.without_dot-name.ensures ∙ ap without_dot c.as_str.ensures.value)) in
    c.place_in.ensures
    ∙ (found_new (message_names old) (message_names new) all (messages_behind old new) (length old.messages) (sym (length-map old.messages (λ x. x.definition.full_name))) c.args.index.now.messages c.requires.messages name
    (sym c.message_place.ensures ∙ c.in-None.is)
    ∙ sym named)
