use Rattle.std.specs.Prelude.{◌++◌}
use Rattle.prost_reflect_catalog.proofs.Common.{ap, ◌∙◌, map, List, links_of, all_rows, same_catalog}
use Rattle.prost_reflect_base.specs.Below.{rows_below, tables_below, catalog_below}
use Rattle.prost_reflect_growth.specs.ExtensionsGrow.{grown_extension}
use Rattle.prost_reflect_growth.specs.RowsGrow.{grown_rows}
use Rattle.prost_reflect_tables.specs.CatalogRows.{ExtensionRow}
use Rattle.prost_reflect_tables.specs.Schema.{rows_of}
use Rattle.prost_reflect_lists.specs.ExtendedRows.{ExtendedRow, placed, extended_row}
use Rattle.prost_reflect_lists.specs.declared.extensions.Extended.{Extended}
use Rattle.prost_reflect_lists.proofs.ExtendedRows.{extensions_placed}
use Rattle.prost_reflect_catalog.proofs.catalog.linked_catalog.Goals as goal

pub returns : goal.returns
returns g c =
    let base = c.args.base in
    let old = rows_below base in
    let links = links_of (all_rows base g.new) in
    let front = map (grown_extension old g.new (tables_below base)) (catalog_below base).extensions in
    let linked = rows_of c.args.tables.now in
    same_catalog _ _ c.requires.0.files
    c.in_ok-messages.ensures
    c.requires.0.enums
    (c.in_ok-extensions.ensures
    ∙ (ap (λ (es : List Extended). front ++ map (placed linked) (map extended_row es)) c.as_slice.ensures.value
    ∙ (ap (λ (es : List ExtendedRow). front ++ map (placed linked) es) c.requires.0.extensions
    ∙ ap (λ (xs : List ExtensionRow). front ++ xs) (extensions_placed linked (grown_rows old g.new (tables_below base)) links g.new.extensions c.requires.1))))
    c.requires.0.services
    c.requires.0.by_name
