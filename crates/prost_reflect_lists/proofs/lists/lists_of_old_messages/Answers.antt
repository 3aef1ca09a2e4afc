use Rattle.std.specs.Prelude.{◌≡◌, ◌<◌, [], slice_get}
use Rattle.std.proofs.Common.{Some}
use Rattle.std.proofs.lemmas.Bool.{eqb-true}
use Rattle.std.proofs.lemmas.List.{map-set}
use Rattle.std.proofs.lemmas.Option.{slice_get_read}
use Rattle.std.specs.Prelude.{ℕ, Vec}
use Rattle.std.specs.declared.alloc.Global.{Global}
use Rattle.prost_reflect_lists.proofs.Common.{arith, refl, length, length-map, map, sym, ap, ◌∙◌, List, TableRows, message_lists_row}
use Rattle.prost_reflect_base.specs.Below.{rows_below, tables_below}
use Rattle.prost_reflect_base.specs.declared.base.Base.{Base}
use Rattle.prost_reflect_growth.specs.RowsGrow.{grown_rows}
use Rattle.prost_reflect_lists.specs.GatheredLists.{AreFurther}
use Rattle.prost_reflect_tables.specs.Flat.{FlatRows}
use Rattle.prost_reflect_tables.specs.Schema.{rows_of}
use Rattle.prost_reflect_tables.specs.declared.tables.Tables.{Tables}
use Rattle.prost_reflect_pool.specs.Pools.{pool_catalog, pool_rows}
use Rattle.prost_reflect_pool.specs.declared.pool.LinkedPool.{LinkedPool}
use Rattle.prost_reflect_tables.specs.Rows.{message_row}
use Rattle.prost_reflect_tables.specs.declared.catalog.MessageLists.{MessageLists}
use Rattle.prost_reflect_lists.proofs.GrownLists.{further_at, message_set, message_kept, messages_done, made_long, rows_long, tables_long, row_at, no_items}
use Rattle.prost_reflect_lists.proofs.lists.lists_of_old_messages.Goals as goal
use Rattle.prost_reflect_lists.proofs.lists.lists_of_old_messages.Goals.{then-not-is_empty+in_ok-with_further+in_ok-set, else-not-is_empty}

-- The place of a list is that of a message.
is_message : (base : Base) (new : FlatRows) (tables : Tables) (lists : List (Vec ℕ Global)) (T : ℕ) →
    AreFurther lists (rows_below base) new → rows_of tables ≡ grown_rows (rows_below base) new (tables_below base) → T < length lists → T < length tables.messages
is_message base new tables lists T further grown less =
    let long = tables_long base new tables.messages (ap (λ (r : TableRows). r.messages) grown) in
    omega (arith, long, less, further.few)

pub index-message-requires : goal.index-message-requires
index-message-requires g c = is_message c.args.base g.new c.args.tables.now c.args.further.now c.loop-place.place c.requires.0 c.requires.1 c.loop-place-test.true

pub message_lists-former-requires : goal.message_lists-former-requires
message_lists-former-requires g c =
    let same = ap (λ (p : LinkedPool). length (pool_rows p).messages) c.pool-pool.ensures in
    omega (arith, same, rows_long c.args.base g.new, c.loop-place-test.true, c.requires.0.few)

pub set-requires : goal.set-requires
set-requires g c =
    let long = made_long c.args.base g.new c.loop-place.place (map message_lists_row c.loop-place.lists) c.loop-place.invariant in
    omega (arith, long, length-map c.loop-place.lists message_lists_row, c.loop-place-test.true, c.requires.0.few)

pub loop-place-preserved : goal.loop-place-preserved
loop-place-preserved g c =
    let base = c.args.base in
    let old = rows_below base in
    let T = c.loop-place.place in
    let lists = c.args.further.now in
    let v = c.index-further-place.result in
    let before = map message_lists_row c.loop-place.lists in
    let own = further_at old g.new lists T v c.requires.0 c.loop-place-test.true c.index-further-place.is in
    let less : T < length old.messages = omega (arith, c.loop-place-test.true, c.requires.0.few) in
    elim c.if-not-is_empty.branch [
      | then-not-is_empty+in_ok-with_further+in_ok-set w ↦
          let m = w.index-message.result.now in
          let ms = c.args.tables.now.messages in
          let there = slice_get_read ms (length ms) T m refl (is_message base g.new c.args.tables.now lists T c.requires.0 c.requires.1 c.loop-place-test.true) w.index-message.ensures in
          let former = w.message_lists-former.result.now in
          let made = w.in_ok-with_further.field-0 in
          let after = map message_lists_row w.set.new.self in
          let row = row_at base g.new ms T m (ap (λ (r : TableRows). r.messages) c.requires.1) there in
          let stands : slice_get (pool_catalog base.pool.now).messages T ≡ Some (message_lists_row former) =
          ap (λ (p : LinkedPool). slice_get (pool_catalog p).messages T) (sym c.pool-pool.ensures) ∙ w.message_lists-former.ensures.row in
          ap (λ (l : List MessageLists). map message_lists_row l) w.lists-is
          ∙ message_set base g.new T (message_row m) (message_lists_row former) (message_lists_row made) w.as_slice.result.now before after less row stands (w.as_slice.ensures.value ∙ own) w.in_ok-with_further.ensures c.loop-place.invariant
          (ap (λ (l : List MessageLists). map message_lists_row l) w.in_ok-set.ensures.ok ∙ map-set message_lists_row c.loop-place.lists T made)
      | else-not-is_empty w ↦
          let none : v.items ≡ [] = no_items v.items (omega (arith, v.ok.0, eqb-true v.len 0 (sym c.is_empty.ensures ∙ w.if-not-is_empty.false))) in
          ap (λ (l : List MessageLists). map message_lists_row l) w.lists-is ∙ message_kept base g.new T v.items before less own none c.loop-place.invariant
    ]

pub returns : goal.returns
returns g c = messages_done c.args.base g.new c.loop-place.place (map message_lists_row c.loop-place.lists) (λ T past less. c.requires.0.rest T (omega (arith, past, c.loop-place-test.false)) less) c.loop-place.invariant
