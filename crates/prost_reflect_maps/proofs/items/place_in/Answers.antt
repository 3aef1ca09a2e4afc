use Rattle.std.specs.Prelude.{◌-◌}
use Rattle.prost_reflect_maps.proofs.Common.{arith, length, sym, slice_get_within}
use Rattle.prost_reflect_maps.proofs.Places.{found_got, missing_behind}
use Rattle.prost_reflect_maps.proofs.items.place_in.Goals as goal

pub returns-in-Equal : goal.returns-in-Equal
returns-in-Equal g c =
    let es = c.args.items.now in
    sym (found_got c.args.number es (length es - 1) c.in-Some.last.now c.requires (sym c.in-Some.ensures.value) (sym c.in-Equal.ensures))

pub returns-in-Greater : goal.returns-in-Greater
returns-in-Greater g c =
    let es = c.args.items.now in
    let at = sym c.in-Some.ensures.value in
    sym (missing_behind c.args.number es (length es - 1) c.in-Some.last.now c.requires (omega (arith, slice_get_within es (length es - 1) c.in-Some.last.now at)) at (sym c.in-Greater.ensures))
