use Rattle.prost_reflect_fields.proofs.Common.{rules, Some, ap, sym, ◌∙◌, option_and_then, value_in, with_item}
use Rattle.prost_reflect_fields.proofs.SlotChanges.{take_found, take_removed, take_missing}
use Rattle.prost_reflect_fields.proofs.stored.take_value.Goals as goal

pub returns-in-Some-clause-entries : goal.returns-in-Some-clause-entries
returns-in-Some-clause-entries g c =
    let es = g.S.NumberMap.entries c.args.fields.now in
    (c.get_mut.follows.holds c.take_beside.new.self).0 ∙ ap (with_item es c.args.number) c.take_beside.ensures.left
    ∙ take_found es c.args.number c.in-Some.slot.now c.in-Some-Both.field-0.now _ _ c.ascending.ensures c.in-Some-Both.ensures c.in-Some-Both.field-0-is c.in-Some.ensures.value

pub returns-in-Some-Value-remove-clause-entries : goal.returns-in-Some-Value-remove-clause-entries
returns-in-Some-Value-remove-clause-entries g c =
    let es = g.S.NumberMap.entries c.args.fields.now in
    c.remove.ensures.entries ∙ take_removed es c.args.number c.in-Some-Value-remove.value c.ascending.ensures (sym c.remove.ensures.removed ∙ c.in-Some-Value-remove.is ∙ ap Some c.in-Some-Value-remove.field-0-is)

pub returns-in-Some-Unknown-clause-entries : goal.returns-in-Some-Unknown-clause-entries
returns-in-Some-Unknown-clause-entries g c =
    take_missing (g.S.NumberMap.entries c.args.fields.now) c.args.number c.ascending.ensures (ap (option_and_then value_in) (sym c.in-Some-Unknown.ensures ∙ ap Some c.in-Some-Unknown.field-0-is))

pub returns-clause-entries : goal.returns-clause-entries
returns-clause-entries g c = take_missing (g.S.NumberMap.entries c.args.fields.now) c.args.number c.ascending.ensures (search rules)
