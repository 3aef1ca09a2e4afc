use Rattle.std.specs.Prelude.{◌≡◌}
use Rattle.prost_reflect_dynamic.proofs.Common.{ap, ◌∙◌, ℤ, rules, w32, to_z, of_z, IfOk-weaker, values_at, numbered_value, LinkedPool, values_of}
use Rattle.std.proofs.Math.Facts.{to_z-of_z}
use Rattle.prost_reflect_pool.specs.Pools.{pool_rows}
use Rattle.prost_reflect_dynamic.proofs.descriptor.enums.EnumDescriptor.get_value.Goals as goal

pub returns-clause-found : goal.returns-clause-found
returns-clause-found c =
    let same : to_z w32 (of_z w32 c.args.number) ≡ c.args.number = search (rules, to_z-of_z) in
    let there = ap (λ (pool : LinkedPool). values_at (pool_rows pool) c.args.self.now.index) c.deref.ensures in
    IfOk-weaker c.value_at.result _ _ (λ found is. is ∙ (c.value_place_by_number.ensures ∙ (ap (λ values. numbered_value values (to_z w32 (of_z w32 c.args.number))) there ∙ ap (λ (z : ℤ). numbered_value (values_of c.args.self.now) z) same))) c.value_at.ensures.found

pub returns-clause-missing : goal.returns-clause-missing
returns-clause-missing c none =
    let same : to_z w32 (of_z w32 c.args.number) ≡ c.args.number = search (rules, to_z-of_z) in
    let there = ap (λ (pool : LinkedPool). values_at (pool_rows pool) c.args.self.now.index) c.deref.ensures in
    c.value_at.ensures.missing (c.value_place_by_number.ensures ∙ (ap (λ values. numbered_value values (to_z w32 (of_z w32 c.args.number))) there ∙ ap (λ (z : ℤ). numbered_value (values_of c.args.self.now) z) same) ∙ none)
