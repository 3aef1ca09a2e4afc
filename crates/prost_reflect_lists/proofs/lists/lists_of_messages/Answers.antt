use Rattle.std.specs.Prelude.{◌+◌, ◌++◌}
use Rattle.std.proofs.lemmas.Option.{slice_get_read}
use Rattle.prost_reflect_lists.proofs.Common.{arith, refl, length, map, drop, ap, ◌∙◌, List, TableRows, each_from, message_lists_row}
use Rattle.prost_reflect_base.specs.Below.{rows_below, tables_below, catalog_below}
use Rattle.prost_reflect_growth.specs.CatalogGrow.{added_lists, grown_lists_from}
use Rattle.prost_reflect_tables.specs.CatalogRows.{MessageListsRow}
use Rattle.prost_reflect_tables.specs.Rows.{MessageRow, message_row}
use Rattle.prost_reflect_lists.proofs.GrownLists.{tables_long, added_behind}
use Rattle.prost_reflect_growth.proofs.Pushed.{pushed_each, front_got, mapped}
use Rattle.prost_reflect_lists.proofs.lists.lists_of_messages.Goals as goal

pub loop-place-init : goal.loop-place-init
loop-place-init g c =
    let base = c.args.base in
    let old = rows_below base in
    let f = added_lists old g.new in
    let start = c.message_count-place.ensures in
    let grown = grown_lists_from old g.new 0 (tables_below base).messages (catalog_below base).messages in
    let rows = map message_row c.args.tables.now.messages in
    record {
      past = omega (arith, start);
      made =
          ap (λ (l : List MessageListsRow). l ++ each_from f c.message_count-place.result (drop c.message_count-place.result rows)) c.in_ok-lists.ensures
          ∙ (ap (λ T. grown ++ each_from f T (drop T rows)) start
          ∙ (ap (λ (r : TableRows). grown ++ each_from f (length old.messages) (drop (length old.messages) r.messages)) c.requires.1.1
          ∙ ap (λ (l : List MessageRow). grown ++ each_from f (length old.messages) l) (added_behind base g.new)));
    }

pub added_lists-requires : goal.added_lists-requires
added_lists-requires g c =
    let long = tables_long c.args.base g.new c.args.tables.now.messages (ap (λ (r : TableRows). r.messages) c.requires.1.1) in
    (c.requires.0, (c.loop-place.invariant.past, omega (arith, long, c.loop-place-test.true, c.len-place-end.ensures, c.loop-place.auto)))

pub loop-place-preserved : goal.loop-place-preserved
loop-place-preserved g c =
    let T = c.loop-place.place in
    let ms = c.args.tables.now.messages in
    let m = c.index.result.now in
    let there = slice_get_read ms (length ms) T m refl (omega (arith, c.loop-place-test.true, c.len-place-end.ensures)) c.index.ensures in
    record {
      past = omega (arith, c.loop-place.invariant.past);
      made =
          pushed_each message_lists_row (added_lists (rows_below c.args.base) g.new) c.loop-place.lists c.push.new.self c.in_ok-added_lists.field-0 T (T + 1) (message_row m) (drop T (map message_row ms)) (drop (T + 1) (map message_row ms))
          c.in_ok-push.ensures.ok (front_got (map message_row ms) T (message_row m) (mapped message_row ms T m there)) c.in_ok-added_lists.ensures refl
          ∙ c.loop-place.invariant.made;
    }
