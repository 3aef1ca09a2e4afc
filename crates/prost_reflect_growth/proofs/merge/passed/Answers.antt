use Rattle.std.specs.Prelude.{◌≡◌, ◌+◌, ◌-◌, ◌/◌}
use Rattle.prost_reflect_growth.proofs.Common.{arith, refl, sym, ◌∙◌}
use Rattle.std.proofs.lemmas.Fn.{says_at_two}
use Rattle.prost_reflect_growth.proofs.Passing.{upper_part, lower_part, parts_met}
use Rattle.prost_reflect_growth.proofs.merge.passed.Goals as goal

pub loop-low-preserved-then-before : goal.loop-low-preserved-then-before
loop-low-preserved-then-before g c = record {
  low = omega arith;
  high = omega arith;
  between = λ lt is o sorted.
      let middle = c.loop-low.low + (c.loop-low.high - c.loop-low.low) / 2 in
      let x = c.index-items-middle.result in
      let told : c.before-in-loop-low.result ≡ lt c.args.item.now x = is _ _ _ (says_at_two g.B.Fn c.before-in-loop-low.ensures refl) in
      lower_part lt o c.args.item.now x c.args.items.now c.loop-low.low c.loop-low.high middle sorted (c.loop-low.invariant.between lt is o sorted) (omega arith) c.index-items-middle.is (sym told ∙ c.if-before.true);
}

pub loop-low-preserved : goal.loop-low-preserved
loop-low-preserved g c = record {
  low = omega arith;
  high = omega arith;
  between = λ lt is o sorted.
      let middle = c.loop-low.low + (c.loop-low.high - c.loop-low.low) / 2 in
      let x = c.index-items-middle.result in
      let told : c.before-in-loop-low.result ≡ lt c.args.item.now x = is _ _ _ (says_at_two g.B.Fn c.before-in-loop-low.ensures refl) in
      upper_part lt o c.args.item.now x c.args.items.now c.loop-low.low c.loop-low.high middle sorted (c.loop-low.invariant.between lt is o sorted) (omega arith) c.index-items-middle.is (sym told ∙ c.if-before.false);
}

pub returns-clause-passed : goal.returns-clause-passed
returns-clause-passed g c =
    λ lt is o sorted. parts_met lt o c.args.item.now c.args.items.now c.loop-low.low c.loop-low.high (omega arith) (omega arith) (c.loop-low.invariant.between lt is o sorted)
