use Rattle.std.specs.Prelude.{◌≡◌}
use Rattle.prost_reflect_reduction.proofs.Common.{ℤ, rules, cond, true, w32, to_z, of_z, is_eq, int_cmp, subst, contains}
use Rattle.std.proofs.Math.Facts.{to_z-of_z}
use Rattle.prost_reflect_reduction.proofs.Enums.{no_numbers, number_more, all_numbers}
use Rattle.prost_reflect_reduction.proofs.kinds.table_numbers.Goals as goal

pub loop-value-init : goal.loop-value-init
loop-value-init c = no_numbers c.new-set.result c.new-set.ensures.empty

pub loop-value-preserved : goal.loop-value-preserved
loop-value-preserved c =
    let same : to_z w32 (of_z w32 c.value-item.result.number) ≡ c.value-item.result.number = search (rules, to_z-of_z) in
    number_more c.loop-value.set c.insert.new.self c.args.values.now c.loop-value.value-index c.value-item.result c.loop-value-test.true c.value-item.is
    (subst (λ k. (z : ℤ) → contains int_cmp c.insert.new.self z ≡ cond (is_eq (int_cmp k z)) true (contains int_cmp c.loop-value.set z)) same c.in_ok-insert.ensures.updates.0) c.loop-value.invariant

pub returns : goal.returns
returns c = all_numbers c.loop-value.set c.args.values.now c.loop-value.value-index c.loop-value-test.false c.loop-value.invariant
