use Rattle.prost_reflect_dynamic.proofs.Common.{Some, None, ap, ◌∙◌, values_at, named_value, LinkedPool, values_of}
use Rattle.prost_reflect_pool.specs.Pools.{pool_rows}
use Rattle.prost_reflect_dynamic.proofs.OwnRows.{number_found}
use Rattle.prost_reflect_dynamic.proofs.descriptor.enums.EnumDescriptor.number_named.Goals as goal

pub returns-in-Some : goal.returns-in-Some
returns-in-Some c =
    let there = ap (λ (pool : LinkedPool). named_value (values_at (pool_rows pool) c.args.self.now.index) c.args.name.now) c.deref.ensures in
    c.number_at.ensures ∙ number_found (values_of c.args.self.now) c.args.name.now (Some c.in-Some.place) (c.in-Some.ensures ∙ there)

pub returns-in-None : goal.returns-in-None
returns-in-None c =
    let there = ap (λ (pool : LinkedPool). named_value (values_at (pool_rows pool) c.args.self.now.index) c.args.name.now) c.deref.ensures in
    number_found (values_of c.args.self.now) c.args.name.now None (c.in-None.ensures ∙ there)
