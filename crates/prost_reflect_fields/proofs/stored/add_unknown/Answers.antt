use Rattle.std.specs.Prelude.{◌++◌, ◌∷◌}
use Rattle.prost_reflect_fields.proofs.Common.{[], ap, sym, ◌∙◌, subst, on_ok_weaker, on_err_weaker, UnknownAdded, SameStored, put_item, unknown_record}
use Rattle.prost_reflect_fields.specs.declared.slot.FieldSlot.TheVariants as entries
use Rattle.prost_reflect_fields.proofs.SlotChanges.{added_first, added_beside, same_beside}
use Rattle.prost_reflect_fields.proofs.stored.add_unknown.Goals as goal

pub returns-clause-ok : goal.returns-clause-ok
returns-clause-ok g c =
    let es = g.S.NumberMap.entries c.args.fields.now in
    on_ok_weaker c.insert-2.result
    (λ is. subst (λ ds. UnknownAdded es ds (unknown_record c.args.field)) (sym (is ∙ ap (λ ds. put_item ds c.args.number (entries.Unknown c.insert.new.self)) c.get_mut.follows.holds-at-none.0))
    (added_first es c.args.number c.insert.new.self (unknown_record c.args.field) (sym c.in-None.ensures.value) c.requires (c.in_ok-insert.ensures.records ∙ ap (λ rs. rs ++ unknown_record c.args.field ∷ []) c.new-unknown.ensures.records)))
    c.insert-2.ensures.ok

pub returns-in-Some-clause-ok : goal.returns-in-Some-clause-ok
returns-in-Some-clause-ok g c =
    let es = g.S.NumberMap.entries c.args.fields.now in
    let is = (c.get_mut.follows.holds c.add_unknown.new.self).0 in
    on_ok_weaker c.add_unknown.result
    (λ added. subst (λ ds. UnknownAdded es ds (unknown_record c.args.field)) (sym is) (added_beside es c.args.number c.in-Some.slot.now c.add_unknown.new.self (unknown_record c.args.field) (sym c.in-Some.ensures.value) c.requires added))
    c.add_unknown.ensures.ok

pub returns-in-Some-clause-err : goal.returns-in-Some-clause-err
returns-in-Some-clause-err g c =
    let es = g.S.NumberMap.entries c.args.fields.now in
    let is = (c.get_mut.follows.holds c.add_unknown.new.self).0 in
    on_err_weaker c.add_unknown.result
    (λ same. subst (λ ds. SameStored es ds) (sym is) (same_beside es c.args.number c.in-Some.slot.now c.add_unknown.new.self (sym c.in-Some.ensures.value) same))
    c.add_unknown.ensures.err
