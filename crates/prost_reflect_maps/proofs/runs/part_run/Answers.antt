use Rattle.std.specs.Prelude.{◌<◌, ◌/◌}
use Rattle.prost_reflect_maps.proofs.Common.{arith, length, sym, subst, ap, ◌∙◌, refl, flat, IsLaid}
use Rattle.prost_reflect_maps.proofs.RunChanges.{parted_laid, parted_flat}
use Rattle.prost_reflect_maps.proofs.runs.part_run.Goals as goal

pub returns-clause-laid : goal.returns-clause-laid
returns-clause-laid g c =
    let rs = c.reserve.new.self.items in
    let r = c.index_mut.result.now in
    let x = c.index.result.now in
    let m = c.len-middle.result / 2 in
    let laid = subst IsLaid (sym c.in_ok-reserve.ensures.items) c.requires.laid in
    let inside : c.args.index < length rs = omega (arith, c.requires.index, c.in_ok-reserve.ensures.len, c.reserve.new.self.ok.0) in
    let some : 0 < m = omega (arith, c.if-middle-eq0.false) in
    let within : m < length r.1.items = omega (arith, c.if-middle-eq0.false, c.len-middle.ensures, r.1.ok.0) in
    parted_laid rs c.insert.new.self.items c.args.index r (r.0, c.split_off.new.self) (x.0, c.in_ok-high.high) m x laid inside c.index_mut.ensures.value some within c.index.ensures refl c.in_ok-high.ensures.items refl c.in_ok-high.ensures.tail c.in-Ok.ensures.items

pub returns-clause-items : goal.returns-clause-items
returns-clause-items g c =
    let rs = c.reserve.new.self.items in
    let r = c.index_mut.result.now in
    let x = c.index.result.now in
    let m = c.len-middle.result / 2 in
    let laid = subst IsLaid (sym c.in_ok-reserve.ensures.items) c.requires.laid in
    let inside : c.args.index < length rs = omega (arith, c.requires.index, c.in_ok-reserve.ensures.len, c.reserve.new.self.ok.0) in
    let some : 0 < m = omega (arith, c.if-middle-eq0.false) in
    let within : m < length r.1.items = omega (arith, c.if-middle-eq0.false, c.len-middle.ensures, r.1.ok.0) in
    parted_flat rs c.insert.new.self.items c.args.index r (r.0, c.split_off.new.self) (x.0, c.in_ok-high.high) m x laid inside c.index_mut.ensures.value some within c.index.ensures refl c.in_ok-high.ensures.items refl c.in_ok-high.ensures.tail c.in-Ok.ensures.items ∙ ap flat c.in_ok-reserve.ensures.items
