-- The catalog grows.
use Rattle.std.specs.Prelude.{◌≡◌, ◌++◌}
use Rattle.prost_reflect_growth.proofs.Common.{true, sym, ap, ap₂, ◌∙◌, CatalogRows, flattened, is_linked, linked_catalog, IsCatalogOf, linked_rows, TableRows}
use Rattle.prost_reflect_tables.proofs.CatalogParts.{same_catalog}
use Rattle.prost_reflect_growth.specs.GrownCatalog.{grown_catalog, CatalogGrows, GrownIsCatalog}
use Rattle.prost_reflect_growth.specs.Growth.{added_rows}
use Rattle.prost_reflect_growth.proofs.CatalogGrow.{files_grow, services_grow, messages_grow, enums_grow}
use Rattle.prost_reflect_growth.proofs.ExtensionsGrow.{extensions_grow}
use Rattle.prost_reflect_growth.proofs.Flats.{flat_grows}
use Rattle.prost_reflect_growth.proofs.Merging.{sorted_grows}

pub catalog_grows : CatalogGrows
catalog_grows files added checked linked =
    let o = flattened files in
    let n = added_rows files added in
    same_catalog _ _
    (files_grow files added checked)
    (messages_grow files added checked linked)
    (enums_grow files added o n)
    (extensions_grow files added o n checked linked)
    (services_grow files added checked)
    (sorted_grows files added o n)

pub grown_is_catalog : GrownIsCatalog
unfolding IsCatalogOf
grown_is_catalog files added rows catalog grown built linked listed is =
    let o = flattened files in
    let n = added_rows files added in
    let old_linked : is_linked (linked_rows o) ≡ true = ap is_linked (sym built.1) ∙ linked in
    is
    ∙ (ap₂ (λ (r : TableRows) (c : CatalogRows). grown_catalog files added o n r c) built.1 listed
    ∙ (sym (catalog_grows files added built.0 old_linked) ∙ ap (linked_catalog (files ++ added)) (sym (flat_grows files added))))
