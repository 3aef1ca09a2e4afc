use Rattle.prost_reflect_fields.proofs.Common.{ap, sym, ◌∙◌, on_ok_weaker, on_err_weaker, is_at, nat_cmp, put_slot, with_item}
use Rattle.std.proofs.lemmas.Map.Steps.{set_value_same}
use Rattle.prost_reflect_fields.proofs.stored.put_value.Goals as goal

pub returns-in-Some-clause-ok : goal.returns-in-Some-clause-ok
returns-in-Some-clause-ok g c =
    let es = g.S.NumberMap.entries c.args.fields.now in
    on_ok_weaker c.put.result (λ is. (c.get_mut.follows.holds c.put.new.self).0 ∙ ap (with_item es c.args.number) is ∙ ap (put_slot es c.args.number c.args.value) c.in-Some.ensures.value) c.put.ensures.ok

pub returns-in-Some-clause-err : goal.returns-in-Some-clause-err
returns-in-Some-clause-err g c =
    let es = g.S.NumberMap.entries c.args.fields.now in
    on_err_weaker c.put.result (λ is. (c.get_mut.follows.holds c.put.new.self).0 ∙ ap (with_item es c.args.number) is ∙ set_value_same (is_at (nat_cmp c.args.number)) es c.in-Some.slot.now (sym c.in-Some.ensures.value)) c.put.ensures.err
