use Rattle.std.specs.Prelude.{List}
use Rattle.prost_reflect_pool.proofs.Common.{ap, map, enum_row, none_built}
use Rattle.std.specs.List.{list_all}
use Rattle.prost_reflect_pool.proofs.FileNames.{none_differ}
use Rattle.prost_reflect_pool.proofs.NoFiles.{none_linked}
use Rattle.prost_reflect_tables.specs.InRange.{enum_in_range}
use Rattle.prost_reflect_tables.specs.declared.tables.EnumTable.{EnumTable}
use Rattle.prost_reflect_pool.proofs.pool.LinkedPool.new.Goals as goal

pub invariant_of-tables : goal.invariant_of-tables
invariant_of-tables c = record { linked = none_linked _ _ c.new.ensures c.new-2.ensures }

pub invariant_of-result : goal.invariant_of-result
invariant_of-result c = record {
  identified = c.of-identity.ensures;
  built = rw (c.new-files.ensures.items) (none_built c.new.result c.new-2.result c.new.ensures c.new-2.ensures);
  listed = rw (c.new-files.ensures.items) c.empty_catalog.ensures;
  names = rw (c.new-files.ensures.items) none_differ;
  ranged = ap (λ (es : List EnumTable). list_all enum_in_range (map enum_row es)) c.new-2.ensures;
}
