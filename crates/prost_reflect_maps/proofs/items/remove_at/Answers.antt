use Rattle.prost_reflect_maps.proofs.Common.{arith, ap, sym, ◌∙◌, nat_cmp, seek}
use Rattle.prost_reflect_maps.proofs.Places.{seek_within, item_found, item_absent, without_absent, without_found, value_got}
use Rattle.prost_reflect_maps.proofs.items.remove_at.Goals as goal

pub remove-requires : goal.remove-requires
remove-requires g c =
    let es = c.args.items.now.items in
    omega (arith, c.args.items.now.ok.0, seek_within c.args.number es c.in-Ok.place (c.in-Ok.ensures ∙ ap (seek (nat_cmp c.args.number)) c.deref.ensures.value))

pub returns-in-Ok-clause-removed : goal.returns-in-Ok-clause-removed
returns-in-Ok-clause-removed g c =
    let es = c.args.items.now.items in
    let place = c.in-Ok.ensures ∙ ap (seek (nat_cmp c.args.number)) c.deref.ensures.value in
    sym (item_found c.args.number es c.in-Ok.place place ∙ value_got es c.in-Ok.place c.remove.result (seek_within c.args.number es c.in-Ok.place place) c.remove.ensures.value)

pub returns-in-Ok-clause-items : goal.returns-in-Ok-clause-items
returns-in-Ok-clause-items g c =
    let es = c.args.items.now.items in
    c.remove.ensures.items ∙ without_found c.args.number es c.in-Ok.place (c.in-Ok.ensures ∙ ap (seek (nat_cmp c.args.number)) c.deref.ensures.value)

pub returns-in-Err-clause-removed : goal.returns-in-Err-clause-removed
returns-in-Err-clause-removed g c =
    let es = c.args.items.now.items in
    sym (item_absent c.args.number es c.in-Err.field-0 c.requires (c.in-Err.ensures ∙ ap (seek (nat_cmp c.args.number)) c.deref.ensures.value))

pub returns-in-Err-clause-items : goal.returns-in-Err-clause-items
returns-in-Err-clause-items g c =
    let es = c.args.items.now.items in
    sym (without_absent c.args.number es c.in-Err.field-0 c.requires (c.in-Err.ensures ∙ ap (seek (nat_cmp c.args.number)) c.deref.ensures.value))
