use Rattle.std.specs.Prelude.{◌≡◌, [], slice_get}
use Rattle.std.proofs.Common.{Some}
use Rattle.std.proofs.lemmas.Bool.{eqb-true}
use Rattle.prost_reflect_lists.proofs.Common.{arith, rules, length, map, sym, ap, ◌∙◌, List, message_lists_row, extension_table_row}
use Rattle.prost_reflect_base.specs.Below.{rows_below, catalog_below}
use Rattle.prost_reflect_pool.specs.Pools.{pool_catalog, pool_rows}
use Rattle.prost_reflect_pool.specs.declared.pool.LinkedPool.{LinkedPool}
use Rattle.prost_reflect_tables.specs.Schema.{rows_of}
use Rattle.prost_reflect_tables.specs.declared.catalog.ExtensionTable.{ExtensionTable}
use Rattle.prost_reflect_lists.proofs.GrownLists.{further_at, rows_long, no_items}
use Rattle.prost_reflect_lists.proofs.MovedExtensions.{stage_none, stage_more, stage_kept, stage_all}
use Rattle.prost_reflect_lists.proofs.extensions.old_extensions.Goals as goal
use Rattle.prost_reflect_lists.proofs.extensions.old_extensions.Goals.{then-not-is_empty+in_ok-move_extensions, else-not-is_empty}

pub loop-place-init : goal.loop-place-init
loop-place-init g c =
    let same : map extension_table_row c.in_ok-extensions.extensions ≡ (catalog_below c.args.base).extensions = search rules in
    same ∙ sym (stage_none c.args.base g.new (rows_of c.args.tables.now) c.requires.1)

pub message_lists-requires : goal.message_lists-requires
message_lists-requires g c =
    let same = ap (λ (p : LinkedPool). length (pool_rows p).messages) c.pool-pool.ensures in
    omega (arith, same, rows_long c.args.base g.new, c.loop-place-test.true, c.requires.0.few)

pub loop-place-preserved : goal.loop-place-preserved
loop-place-preserved g c =
    let base = c.args.base in
    let after = rows_of c.args.tables.now in
    let T = c.loop-place.place in
    let v = c.index-further-place.result in
    elim c.if-not-is_empty.branch [
      | then-not-is_empty+in_ok-move_extensions w ↦
          let lists = w.message_lists.result.now in
          let stands : slice_get (pool_catalog base.pool.now).messages T ≡ Some (message_lists_row lists) =
          ap (λ (p : LinkedPool). slice_get (pool_catalog p).messages T) (sym c.pool-pool.ensures) ∙ w.message_lists.ensures.row in
          ap (λ (l : List ExtensionTable). map extension_table_row l) w.extensions-is
          ∙ (w.in_ok-move_extensions.ensures
          ∙ stage_more base g.new after c.requires.1 T (message_lists_row lists) w.as_slice-moved.result.now (map extension_table_row c.loop-place.extensions) stands w.as_slice-moved.ensures.value c.loop-place.invariant)
      | else-not-is_empty w ↦
          let own = further_at (rows_below base) g.new c.args.further.now T v c.requires.0 c.loop-place-test.true c.index-further-place.is in
          let none : v.items ≡ [] = no_items v.items (omega (arith, v.ok.0, eqb-true v.len 0 (sym c.is_empty.ensures ∙ w.if-not-is_empty.false))) in
          ap (λ (l : List ExtensionTable). map extension_table_row l) w.extensions-is ∙ (c.loop-place.invariant ∙ stage_kept base g.new after c.requires.1 T (sym own ∙ none))
    ]

pub returns : goal.returns
returns g c =
    c.loop-place.invariant ∙ stage_all c.args.base g.new (rows_of c.args.tables.now) c.requires.1 c.loop-place.place (λ T past less. c.requires.0.rest T (omega (arith, past, c.loop-place-test.false)) less)
