-- The tables of all files, and why added files are refused.
use Rattle.std.specs.Prelude.{◌≡◌, ◌++◌}
use Rattle.prost_reflect_growth.proofs.Common.{sym, ap, ◌∙◌, subst, has_fault, Checked, behind, flattened, is_linked, linked_rows}
use Rattle.prost_reflect_growth.specs.Growth.{added_rows}
use Rattle.prost_reflect_growth.specs.RowsGrow.{grown_rows}
use Rattle.prost_reflect_growth.specs.TablesGrow.{TablesGrow, AddedRefuse}
use Rattle.prost_reflect_growth.proofs.ChecksGrow.{checks_grow}
use Rattle.prost_reflect_growth.proofs.Flats.{flat_grows}
use Rattle.prost_reflect_growth.proofs.RowsGrow.{rows_grow}

pub tables_grow : TablesGrow
tables_grow files added rows built linked none =
    let old = flattened files in
    let new = added_rows files added in
    let all : flattened (files ++ added) ≡ behind old new = flat_grows files added in
    let is : linked_rows old ≡ rows = sym built.1 in (
      subst (Checked (files ++ added)) (sym all) (λ e. checks_grow files added old new built.0 e ∙ none e),
      ap (grown_rows old new) built.1 ∙ (sym (rows_grow files old new built.0 (ap is_linked is ∙ linked)) ∙ ap linked_rows (sym all)),
    )

pub added_refuse : AddedRefuse
added_refuse files added rows built e stands =
    ap (has_fault e (files ++ added)) (flat_grows files added) ∙ (checks_grow files added (flattened files) (added_rows files added) built.0 e ∙ stands)
