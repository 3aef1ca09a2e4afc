use Rattle.std.specs.Prelude.{unwrap_or}
use Rattle.std.proofs.lemmas.List.{length-set}
use Rattle.prost_reflect_lists.proofs.Common.{length, sym, ap, ◌∙◌, List, Option, extension_table_row}
use Rattle.prost_reflect_base.specs.Below.{tables_below, catalog_below}
use Rattle.prost_reflect_tables.specs.CatalogRows.{ExtensionRow}
use Rattle.prost_reflect_tables.specs.Schema.{rows_of}
use Rattle.prost_reflect_tables.specs.declared.catalog.ExtensionTable.{ExtensionTable}
use Rattle.prost_reflect_lists.specs.ExtendedRows.{again_at}
use Rattle.prost_reflect_lists.proofs.MovedExtensions.{anew_more}
use Rattle.prost_reflect_lists.proofs.extensions.move_extensions.Goals as goal

pub loop-place-preserved : goal.loop-place-preserved
loop-place-preserved c =
    let make = again_at (tables_below c.args.base) (rows_of c.args.tables.now) (catalog_below c.args.base).extensions in
    let made = c.moved_extension.result in
    record {
      long = ap (λ (l : List ExtensionTable). length l) c.in_ok-set.ensures.ok ∙ (length-set c.loop-place.extensions _ made ∙ c.loop-place.invariant.long);
      made =
          anew_more extension_table_row make c.args.places.now c.loop-place.place-index 0 c.loop-place.extensions c.set.new.self made c.loop-place-test.true c.in_ok-set.ensures.ok
          (sym (ap (λ (o : Option ExtensionRow). unwrap_or o (record { message = 0; field = 0 })) c.moved_extension.ensures))
          ∙ c.loop-place.invariant.made;
    }
