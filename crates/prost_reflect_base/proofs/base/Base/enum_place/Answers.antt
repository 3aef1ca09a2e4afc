use Rattle.std.proofs.Common.{ap, ◌∙◌}
use Rattle.prost_reflect_tables.specs.Faults.{name_place}
use Rattle.prost_reflect_pool.specs.Pools.{pool_rows}
use Rattle.prost_reflect_pool.proofs.InCatalog.{enum_name}
use Rattle.prost_reflect_base.proofs.Lists.{first_named}
use Rattle.prost_reflect_base.proofs.Linked.{enums_named}
use Rattle.prost_reflect_base.proofs.base.Base.enum_place.Goals as goal

pub returns : goal.returns
returns c =
    let pool = c.args.self.now.pool.now in
    c.enum_place.ensures ∙ (first_named enum_name c.args.full_name.now (pool_rows pool).enums ∙ ap (λ names. name_place names c.args.full_name.now) (enums_named pool))
