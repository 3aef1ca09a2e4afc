use Rattle.prost_reflect_maps.proofs.Common.{arith, refl, sym, ◌∙◌}
use Rattle.prost_reflect_maps.proofs.Places.{seek_within, item_found, item_absent, with_absent, with_found, set_is, number_kept, value_got}
use Rattle.prost_reflect_maps.proofs.items.item_mut.Goals as goal

pub index_mut-item-requires : goal.index_mut-item-requires
index_mut-item-requires g c = omega (arith, c.args.items.now.ok.0, seek_within c.args.number c.args.items.now.items c.in-Ok.place (rw c.deref.ensures.value at c.in-Ok.ensures))

pub returns-in-Ok : goal.returns-in-Ok
returns-in-Ok g c =
    let n = c.args.number in
    let es = c.args.items.now.items in
    let i = c.in-Ok.place in
    let x = c.index_mut-item.result.now in
    let found = rw c.deref.ensures.value at c.in-Ok.ensures in
    let at = c.index_mut-item.ensures.value in (
      (refl, (λ w. set_is es i x.0 w (number_kept es i x w at) ∙ with_found n es i found w), refl),
      record { writes_back = tt; value = sym (item_found n es i found ∙ value_got es i x (seek_within n es i found) at) },
    )

pub returns-in-Err : goal.returns-in-Err
returns-in-Err g c =
    let n = c.args.number in
    let es = c.args.items.now.items in
    let none = rw c.deref.ensures.value at c.in-Err.ensures in (
      (refl, (λ w. sym (with_absent n es c.in-Err.field-0 c.requires none w)), refl),
      record { writes_back = tt; value = sym (item_absent n es c.in-Err.field-0 c.requires none) },
    )
