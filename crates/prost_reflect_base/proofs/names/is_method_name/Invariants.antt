use Rattle.std.specs.Prelude.{◌≡◌}
use Rattle.std.specs.List.{list_any}
use Rattle.std.specs.Str.{bytes_eq}
use Rattle.std.proofs.Common.{map, drop}
use Rattle.prost_reflect_tables.specs.CatalogRows.{method_table_row}
use Rattle.prost_reflect_base.proofs.names.is_method_name.Given as goal

abbrev pub invariant-loop-method : goal.invariant-loop-method
invariant-loop-method l = list_any (λ m. bytes_eq l.name m.id.name) (map method_table_row l.methods) ≡ list_any (λ m. bytes_eq l.name m.id.name) (map method_table_row (drop l.method-index l.methods))
