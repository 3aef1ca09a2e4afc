use Rattle.std.specs.Prelude.{◌≡◌, ◌<◌}
use Rattle.prost_reflect_wire.proofs.Common.{length, sym, ◌∙◌, arith, unknown_fields_of}
use Rattle.prost_reflect_wire.specs.declared.unknown.UnknownFieldValue.TheViews.{out-UnknownFieldSet}
use Rattle.prost_reflect_wire.proofs.EqualRecords.{equal_step, lengths_differ}
use Rattle.prost_reflect_wire.proofs.unknown.equality.+equality.Goals as goal

pub equal_sets-returns-then-len : goal.equal_sets-returns-then-len
equal_sets-returns-then-len t c =
    let a = out-UnknownFieldSet c.args.a.now in let b = out-UnknownFieldSet c.args.b.now in
    lengths_differ c.args.a.now c.args.b.now (λ same. c.if-len.true (omega (arith, same, a.fields.ok.0, b.fields.ok.0)))

pub equal_sets-loop-index-preserved : goal.equal_sets-loop-index-preserved
equal_sets-loop-index-preserved t c =
    let a = out-UnknownFieldSet c.args.a.now in let b = out-UnknownFieldSet c.args.b.now in
    let same : length b.fields.items ≡ length a.fields.items = omega (arith, a.fields.ok.0, b.fields.ok.0) in
    let within : c.loop-index.index < length a.fields.items = omega (arith, a.fields.ok.0) in
    equal_step (unknown_fields_of c.args.a.now) (unknown_fields_of c.args.b.now) c.loop-index.index _ _ within (omega arith) c.index.ensures c.index-in-loop-index.ensures (sym c.equal_fields.ensures ∙ c.if-not-equal_fields.false) ∙ c.loop-index.invariant
