use Rattle.std.specs.Prelude.{◌++◌}
use Rattle.prost_reflect_building.proofs.Common.{List, ap, ap₂, refl, subst, sym, ◌∙◌, map, FileDescriptorProto, FlatMessageRow, files_from, flattened, links_of, rows_from, TableRows}
use Rattle.std.proofs.lemmas.Result.{err_from_is_err_and}
use Rattle.prost_reflect_base.specs.Below.{files_below, tables_below}
use Rattle.prost_reflect_base.specs.declared.base.Base.{Base}
use Rattle.prost_reflect_building.proofs.Behind.{IsBehind, all_built, all_listed, all_refused, tables_linked}
use Rattle.prost_reflect_growth.specs.Growth.{added_rows}
use Rattle.prost_reflect_linking.specs.Meanings.{meant}
use Rattle.prost_reflect_resolving.specs.Indexed.{all_rows}
use Rattle.prost_reflect_tables.specs.Built.{AreTablesOf}
use Rattle.prost_reflect_tables.specs.Checked.{Stands}
use Rattle.prost_reflect_flat.specs.FlatViews.{file_list, flat_rows}
use Rattle.prost_reflect_tables.specs.LinkedCatalog.{IsCatalogOf}
use Rattle.prost_reflect_tables.specs.Resolved.{ResolvedRow, resolve}
use Rattle.prost_reflect_building.proofs.building.link_behind.Goals as goal

pub returns-in_err-index-clause-stands : goal.returns-in_err-index-clause-stands
returns-in_err-index-clause-stands c =
    let files = files_below c.of-base.result in
    let added = file_list c.args.files.now in
    let new = flat_rows c.in_ok-flat.flat in
    let is : IsBehind files added new = c.in_ok-flat.ensures ∙ ap₂ (files_from added) c.file_count.ensures c.message_count.ensures in
    let fault = c.in_err-index.field-0.0 in
    let p = err_from_is_err_and c.from_residual-in_err-index.result c.from_residual-in_err-index.ensures.1 in
    rw (p.1, p.2)
    (λ ne. subst (λ (fs : List FileDescriptorProto). Stands fault (fs ++ added) (flattened (fs ++ added))) c.of-base.ensures.files (all_refused files added new is c.of-base.result.pool.now.built.0 fault (c.in_err-index.ensures.stands ne)))

pub returns-in_err-fields-clause-stands : goal.returns-in_err-fields-clause-stands
returns-in_err-fields-clause-stands c =
    let p = err_from_is_err_and c.from_residual-in_err-fields.result c.from_residual-in_err-fields.ensures.1 in
    rw (p.1) (λ ne. absurd (ne p.2))

pub returns-in_err-extensions-clause-stands : goal.returns-in_err-extensions-clause-stands
returns-in_err-extensions-clause-stands c =
    let p = err_from_is_err_and c.from_residual-in_err-extensions.result c.from_residual-in_err-extensions.ensures.1 in
    rw (p.1) (λ ne. absurd (ne p.2))

pub returns-in_err-messages-clause-stands : goal.returns-in_err-messages-clause-stands
returns-in_err-messages-clause-stands c =
    let p = err_from_is_err_and c.from_residual-in_err-messages.result c.from_residual-in_err-messages.ensures.1 in
    rw (p.1) (λ ne. absurd (ne p.2))

pub linked-requires-clause-fields : goal.linked-requires-clause-fields
linked-requires-clause-fields c =
    let new = flat_rows c.in_ok-flat.flat in
    c.in_ok-fields.ensures
    ∙ ap (λ (lists : List (List ResolvedRow)). map (λ (rs : List ResolvedRow). map meant rs) lists)
    (c.in_ok-index.ensures.resolved.fields
    ∙ ap (λ (b : Base). map (λ (m : FlatMessageRow). map (resolve (links_of (all_rows b new))) m.fields) new.messages) c.in_ok-index.ensures.base)

pub invariant_of-tables : goal.invariant_of-tables
invariant_of-tables c =
    let base = c.of-base.result in
    let files = files_below base in
    let added = file_list c.args.files.now in
    let new = flat_rows c.in_ok-flat.flat in
    let is : IsBehind files added new = c.in_ok-flat.ensures ∙ ap₂ (files_from added) c.file_count.ensures c.message_count.ensures in
    let rows = rows_from c.in_ok-messages.messages c.in_ok-messages.enums in
    let built : AreTablesOf (files ++ added) rows =
    subst (λ (r : TableRows). AreTablesOf (files ++ added) r) (sym c.in_ok-messages.ensures.rows)
    (all_built files added new is (tables_below base) base.pool.now.built base.pool.now.tables.linked c.in_ok-index.ensures.ok) in
    record { linked = tables_linked (files ++ added) rows built c.in_ok-messages.ensures.range }

pub returns-clause-tables : goal.returns-clause-tables
returns-clause-tables c =
    let base = c.of-base.result in
    let files = files_below base in
    let added = file_list c.args.files.now in
    let new = flat_rows c.in_ok-flat.flat in
    let is : IsBehind files added new = c.in_ok-flat.ensures ∙ ap₂ (files_from added) c.file_count.ensures c.message_count.ensures in
    let rows = rows_from c.in_ok-messages.messages c.in_ok-messages.enums in
    subst (λ (fs : List FileDescriptorProto). AreTablesOf (fs ++ added) rows) c.of-base.ensures.files
    (subst (λ (r : TableRows). AreTablesOf (files ++ added) r) (sym c.in_ok-messages.ensures.rows)
    (all_built files added new is (tables_below base) base.pool.now.built base.pool.now.tables.linked c.in_ok-index.ensures.ok))

pub returns-clause-catalog : goal.returns-clause-catalog
returns-clause-catalog c =
    let base = c.of-base.result in
    let files = files_below base in
    let added = file_list c.args.files.now in
    subst (λ (fs : List FileDescriptorProto). IsCatalogOf (fs ++ added) c.in_ok-catalog.catalog) c.of-base.ensures.files
    (all_listed files added (added_rows files added) refl (tables_below base) base.pool.now.built base.pool.now.tables.linked base.pool.now.catalog c.in_ok-catalog.catalog base.pool.now.listed c.in_ok-catalog.ensures)
