use Rattle.std.specs.Prelude.{◌≡◌}
use Rattle.prost_reflect_maps.proofs.Common.{arith, ap, sym, ◌∙◌, ⊎_elim, take, drop, nat_cmp, seek, index_of}
use Rattle.prost_reflect_maps.proofs.Places.{seek_within, gap_within}
use Rattle.prost_reflect_maps.proofs.Bounds.{below_place, from_place}
use Rattle.prost_reflect_maps.proofs.items.parted_at.Goals as goal

pub split_at-requires : goal.split_at-requires
split_at-requires g c =
    let n = c.args.number in
    let es = c.args.items.now in
    let i = c.in-Ok.place in
    ⊎_elim (λ is. omega (arith, seek_within n es i (sym is ∙ c.place_in.ensures))) (λ is. gap_within n es i (sym is ∙ c.place_in.ensures)) c.in-Ok.is

pub returns-clause-below : goal.returns-clause-below
returns-clause-below g c =
    let n = c.args.number in
    let es = c.args.items.now in
    let at : c.in-Ok.place ≡ index_of (seek (nat_cmp n) es) = sym (⊎_elim (ap index_of) (ap index_of) c.in-Ok.is) ∙ ap index_of c.place_in.ensures in
    c.split_at.ensures.front ∙ ap (λ i. take i es) at ∙ below_place n es c.requires

pub returns-clause-from : goal.returns-clause-from
returns-clause-from g c =
    let n = c.args.number in
    let es = c.args.items.now in
    let at : c.in-Ok.place ≡ index_of (seek (nat_cmp n) es) = sym (⊎_elim (ap index_of) (ap index_of) c.in-Ok.is) ∙ ap index_of c.place_in.ensures in
    c.split_at.ensures.back ∙ ap (λ i. drop i es) at ∙ from_place n es c.requires
