use Rattle.std.specs.Prelude.{◌+◌, ◌-◌, ◌/◌}
use Rattle.prost_reflect_tables.proofs.Common.{map, arith, sym, field_row}
use Rattle.prost_reflect_tables.proofs.Ascending.{at_start, read_row, upper_half, lower_half, nothing_between, place_found}
use Rattle.prost_reflect_tables.proofs.lookup.place_among.Goals as goal

pub loop-low-init : goal.loop-low-init
loop-low-init c = at_start c.args.fields.now c.args.number

pub returns-then-found-number : goal.returns-then-found-number
returns-then-found-number c =
    let bound = c.loop-low.invariant.in_range in
    sym (place_found c.args.number (map field_row c.args.fields.now) (c.loop-low.low + (c.loop-low.high - c.loop-low.low) / 2) _ c.requires (read_row c.args.fields.now _ c.index-fields-middle.result (omega arith)) c.if-found-number.true)

pub loop-low-preserved-then-found-number-2 : goal.loop-low-preserved-then-found-number-2
loop-low-preserved-then-found-number-2 c =
    let bound = c.loop-low.invariant.in_range in
    upper_half c.args.fields.now c.args.number c.loop-low.low c.loop-low.high _ _ c.requires c.loop-low.invariant (read_row c.args.fields.now (c.loop-low.low + (c.loop-low.high - c.loop-low.low) / 2) c.index-fields-middle.result (omega arith)) (omega arith) c.if-found-number-2.true

pub loop-low-preserved : goal.loop-low-preserved
loop-low-preserved c =
    let bound = c.loop-low.invariant.in_range in
    lower_half c.args.fields.now c.args.number c.loop-low.low c.loop-low.high _ _ c.requires c.loop-low.invariant (read_row c.args.fields.now (c.loop-low.low + (c.loop-low.high - c.loop-low.low) / 2) c.index-fields-middle.result (omega arith)) (omega arith) (omega arith) (omega arith)

pub returns : goal.returns
returns c = sym (nothing_between c.args.fields.now c.args.number c.loop-low.low c.loop-low.high c.loop-low.invariant c.loop-low-test.false)
