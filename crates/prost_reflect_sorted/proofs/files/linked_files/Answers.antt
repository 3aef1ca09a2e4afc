use Rattle.std.specs.Prelude.{◌+◌, ◌++◌}
use Rattle.prost_reflect_sorted.proofs.Common.{arith, length, drop, ap, ◌∙◌, file_names, file_list, flat_rows, file_table_row}
use Rattle.prost_reflect_base.specs.Below.{files_below, rows_below}
use Rattle.prost_reflect_growth.specs.CatalogGrow.{added_file}
use Rattle.prost_reflect_tables.proofs.Pushing.{front_left}
use Rattle.prost_reflect_growth.proofs.Pushed.{pushed_each}
use Rattle.prost_reflect_sorted.proofs.files.linked_files.Goals as goal

pub loop-place-preserved : goal.loop-place-preserved
loop-place-preserved c =
    let files = c.args.files.now in
    let first = length (files_below c.args.base) in
    let place = c.loop-place.place in
    let file = c.index-files-place.result in
    pushed_each file_table_row (added_file (file_names (files_below c.args.base ++ file_list files)) (rows_below c.args.base) (flat_rows c.args.flat.now)) c.loop-place.tables _ c.in_ok-file_table.field-0 (first + place) (first + (place + 1)) file.now
    (file_list (drop place files)) (file_list (drop (place + 1) files))
    c.in_ok-push.ensures.ok (ap file_list (front_left files place file c.loop-place-test.true c.index-files-place.is)) c.in_ok-file_table.ensures (omega arith)
    ∙ c.loop-place.invariant
