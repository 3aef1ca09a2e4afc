use Rattle.std.specs.Prelude.{◌≡◌}
use Rattle.prost_reflect_resolving.proofs.Common.{length, sym, ap, ◌∙◌, length-map, name_place, place_named, enum_names, without_dot, flat_rows, all_rows}
use Rattle.prost_reflect_base.specs.Below.{rows_below}
use Rattle.prost_reflect_resolving.proofs.LookedUp.{enums_behind, found_old, found_new}
use Rattle.prost_reflect_resolving.proofs.index.enum_place.Goals as goal

pub returns-in-Some-enum_place : goal.returns-in-Some-enum_place
returns-in-Some-enum_place c =
    let old = rows_below c.args.index.now.base in
    let new = flat_rows c.args.flat.now in
    let all = enum_names (all_rows c.args.index.now.base new) in
    let name = c.without_dot-name.result.now in
    let named : place_named all c.args.text.now ≡ name_place all name =
    ap (place_named all) c.in-Some.is ∙ ap (name_place all) (sym (c.without_dot-name.ensures ∙ ap without_dot c.as_str.ensures.value)) in
    found_old (enum_names old) (enum_names new) all (enums_behind old new) (length old.enums) (sym (length-map old.enums (λ x. x.definition.full_name))) c.args.index.now.enums c.requires.enums name
    c.in-Some-enum_place.place (sym c.enum_place.ensures ∙ c.in-Some-enum_place.is)
    ∙ sym named

pub returns-in-None : goal.returns-in-None
returns-in-None c =
    let old = rows_below c.args.index.now.base in
    let new = flat_rows c.args.flat.now in
    let all = enum_names (all_rows c.args.index.now.base new) in
    let name = c.without_dot-name.result.now in
    let named : place_named all c.args.text.now ≡ name_place all name =
    ap (place_named all) c.in-Some.is ∙ ap (name_place all) (sym (c.without_dot-name.ensures ∙ ap without_dot c.as_str.ensures.value)) in
    c.place_in.ensures
    ∙ (found_new (enum_names old) (enum_names new) all (enums_behind old new) (length old.enums) (sym (length-map old.enums (λ x. x.definition.full_name))) c.args.index.now.enums c.requires.enums name
    (sym c.enum_place.ensures ∙ c.in-None.is)
    ∙ sym named)
