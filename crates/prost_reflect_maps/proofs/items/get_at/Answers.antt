use Rattle.prost_reflect_maps.proofs.Common.{arith, ap, sym, ◌∙◌, slice_index_or}
use Rattle.prost_reflect_maps.proofs.Places.{seek_within, item_found, item_absent, value_got}
use Rattle.prost_reflect_maps.proofs.items.get_at.Goals as goal

pub bounds-items-place : goal.bounds-items-place
bounds-items-place g c = seek_within _ _ _ c.in-Ok.ensures

pub returns-in-Ok : goal.returns-in-Ok
returns-in-Ok g c = sym (item_found c.args.number c.args.items.now c.in-Ok.place c.in-Ok.ensures ∙ value_got c.args.items.now c.in-Ok.place (slice_index_or c.args.items.now c.in-Ok.place c.index-items-place.result) (seek_within _ _ _ c.in-Ok.ensures) (ap (slice_index_or c.args.items.now c.in-Ok.place) c.index-items-place.is))

pub returns-in-Err : goal.returns-in-Err
returns-in-Err g c = sym (item_absent _ _ _ c.requires c.in-Err.ensures)

pub offset_bounds-items-place : goal.offset_bounds-items-place
offset_bounds-items-place g c = omega (arith, seek_within c.args.number c.args.items.now c.in-Ok.place c.in-Ok.ensures)
