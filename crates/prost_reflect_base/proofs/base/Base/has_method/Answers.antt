use Rattle.std.specs.List.{list_any}
use Rattle.std.specs.Str.{bytes_eq}
use Rattle.std.proofs.Common.{List, map, ap, ◌∙◌}
use Rattle.prost_reflect_tables.specs.CatalogRows.{MethodRow, method_table_row, service_table_row}
use Rattle.prost_reflect_tables.specs.declared.catalog.MethodTable.{MethodTable}
use Rattle.prost_reflect_base.proofs.FullNames.{method_there, no_method}
use Rattle.prost_reflect_base.proofs.base.Base.has_method.Goals as goal

pub returns-in-Some : goal.returns-in-Some
returns-in-Some c =
    c.is_method_name.ensures
    ∙ (ap (λ (ms : List MethodTable). list_any (λ (m : MethodRow). bytes_eq c.args.name.now m.id.name) (map method_table_row ms)) c.as_slice.ensures.value
    ∙ method_there c.args.self.now.pool.now c.in-Some.place c.args.scope.now c.args.name.now (service_table_row c.service_table.result.now) c.in-Some.ensures c.service_table.ensures.row)

pub returns-in-None : goal.returns-in-None
returns-in-None c = no_method c.args.self.now.pool.now c.args.scope.now c.args.name.now c.in-None.ensures
