use Rattle.std.specs.List.{list_any}
use Rattle.std.specs.Option.{is_some}
use Rattle.std.specs.Str.{bytes_eq}
use Rattle.std.proofs.Common.{ap, ◌∙◌}
use Rattle.prost_reflect_pool.specs.Pools.{pool_rows}
use Rattle.prost_reflect_pool.proofs.InCatalog.{enum_name}
use Rattle.prost_reflect_base.proofs.Lists.{some_named}
use Rattle.prost_reflect_base.proofs.Linked.{enums_named}
use Rattle.prost_reflect_base.proofs.base.Base.has_enum.Goals as goal

pub returns : goal.returns
returns c =
    let pool = c.args.self.now.pool.now in
    let name = c.args.full_name.now in
    c.is_some.ensures ∙ (ap is_some c.enum_place.ensures ∙ (some_named enum_name name (pool_rows pool).enums ∙ ap (list_any (bytes_eq name)) (enums_named pool)))
