use Rattle.std.specs.Prelude.{◌≡◌, ◌+◌, ◌-◌, ◌<◌, Some, slice_set}
use Rattle.std.proofs.lemmas.Option.{slice_get_within}
use Rattle.prost_reflect_growth.specs.RowsGrow.{grown_message}
use Rattle.prost_reflect_linking.specs.Grown.{grown_front}
use Rattle.prost_reflect_pool.specs.Pools.{pool_rows}
use Rattle.std.proofs.lemmas.Bool.{eqb-true}
use Rattle.std.proofs.lemmas.List.{nil_from_length}
use Rattle.prost_reflect_linking.proofs.Common.{rules, List, Vec, Global, [], drop, length, map, arith, sym, ap, ◌∙◌, field_row, list_rows, length-map}
use Rattle.prost_reflect_growth.proofs.Untouched.{untouched_stays}
use Rattle.prost_reflect_base.specs.Below.{rows_below, tables_below}
use Rattle.prost_reflect_base.specs.declared.base.Base.{Base}
use Rattle.prost_reflect_linking.proofs.Listed.{Untouched, item_there, front_kept, front_set, front_start, front_there, front_whole, rows_listed}
use Rattle.prost_reflect_linking.proofs.Paired.{first_left}
use Rattle.prost_reflect_tables.specs.Rows.{MessageRow, TableRows, message_row}
use Rattle.prost_reflect_tables.specs.declared.tables.FieldTable.{FieldTable}
use Rattle.std.specs.Prelude.{slice_get}
use Rattle.prost_reflect_linking.proofs.grown.grown_messages.Goals as goal

untouched : (base : Base) → Untouched (tables_below base).messages
untouched base T m at = untouched_stays (rows_below base) T m (ap (λ (rows : TableRows). slice_get rows.messages T) (sym base.pool.now.built.1) ∙ at)

pub loop-offset-init : goal.loop-offset-init
loop-offset-init c =
    let base = c.args.base in
    let ms = (tables_below base).messages in
    let lists = list_rows c.args.lists.items in
    let first = c.len.result - c.len-2.result in
    let zeroth : c.into_iter-offset-iterator.result.count ≡ 0 = search rules in
    let same : map message_row c.in_ok-messages.messages ≡ ms =
    ap (map message_row) c.in_ok-messages.ensures.cases ∙ ap (λ (rows : TableRows). rows.messages) (c.tables.ensures ∙ ap pool_rows c.pool.ensures) in
    let start : first ≡ first + c.into_iter-offset-iterator.result.count = omega arith in
    record {
      counted = search rules;
      left = search rules;
      grown = same ∙ (sym (front_start first lists ms (untouched base)) ∙ ap (λ k. grown_front first k lists ms) start);
    }

pub grow-requires : goal.grow-requires
grow-requires c =
    let base = c.args.base in
    let ms = (tables_below base).messages in
    let s = c.loop-offset.offset-iterator in
    let steps = c.in-Some.ensures.steps in
    let before = c.loop-offset.invariant in
    let same : map message_row c.in_ok-messages.messages ≡ ms =
    ap (map message_row) c.in_ok-messages.ensures.cases ∙ ap (λ (rows : TableRows). rows.messages) (c.tables.ensures ∙ ap pool_rows c.pool.ensures) in
    let long : length c.in_ok-messages.messages ≡ length ms = sym (length-map c.in_ok-messages.messages message_row) ∙ ap (λ (l : List MessageRow). length l) same in
    let left = ap (λ (ls : List (Vec FieldTable Global)). length ls) steps.0.0 in
    let first = c.len.result - c.len-2.result in
    let within : first + s.count < length ms = omega (arith, before.counted, left, long, c.len.ensures, c.len-2.ensures, c.requires, c.args.lists.ok.0) in
    let there = item_there ms (first + s.count) within in
    let at = slice_get_within (map message_row c.loop-offset.messages) (first + s.count) there.0
    (ap (λ (l : List MessageRow). slice_get l (first + s.count)) before.grown ∙ front_there first (list_rows c.args.lists.items) ms (first + s.count) there.0 there.1) in
    omega (arith, at, steps.1, length-map c.loop-offset.messages message_row)

pub loop-offset-preserved-in-Continue-branch-2 : goal.loop-offset-preserved-in-Continue-branch-2
loop-offset-preserved-in-Continue-branch-2 c =
    let base = c.args.base in
    let ms = (tables_below base).messages in
    let lists = list_rows c.args.lists.items in
    let s = c.loop-offset.offset-iterator in
    let t = c.next.new.self in
    let steps = c.in-Some.ensures.steps in
    let before = c.loop-offset.invariant in
    let more = map field_row c.in-Some.more.items in
    let same : map message_row c.in_ok-messages.messages ≡ ms =
    ap (map message_row) c.in_ok-messages.ensures.cases ∙ ap (λ (rows : TableRows). rows.messages) (c.tables.ensures ∙ ap pool_rows c.pool.ensures) in
    let long : length c.in_ok-messages.messages ≡ length ms = sym (length-map c.in_ok-messages.messages message_row) ∙ ap (λ (l : List MessageRow). length l) same in
    let left = ap (λ (ls : List (Vec FieldTable Global)). length ls) steps.0.0 in
    let first = c.len.result - c.len-2.result in
    let listed : s.count < length c.args.lists.items = omega (arith, before.counted, left) in
    let within : first + s.count < length ms = omega (arith, before.counted, left, long, c.len.ensures, c.len-2.ensures, c.requires, c.args.lists.ok.0) in
    let there = item_there ms (first + s.count) within in
    let taken = first_left c.args.lists.items s.iter.rest.items t.iter.rest.items s.count c.in-Some.more before.left steps.0.0 listed in
    let place : first + c.in-Some.offset ≡ first + s.count = ap (λ n. first + n) steps.1 in
    let next : s.count + 1 ≡ t.count = omega (arith, steps.2) in
    let at : slice_get (map message_row c.loop-offset.messages) (first + c.in-Some.offset) ≡ Some there.0 =
    ap (λ k. slice_get (map message_row c.loop-offset.messages) k) place
    ∙ (ap (λ (l : List MessageRow). slice_get l (first + s.count)) before.grown ∙ front_there first lists ms (first + s.count) there.0 there.1) in
    record {
      counted = omega (arith, before.counted, left, steps.2);
      left = taken.1 ∙ ap (λ k. drop k c.args.lists.items) next;
      grown =
          c.in_ok-grow.ensures there.0 at
          ∙ (ap (λ k. slice_set (map message_row c.loop-offset.messages) k (grown_message more there.0)) place
          ∙ (ap (λ (l : List MessageRow). slice_set l (first + s.count) (grown_message more there.0)) before.grown
          ∙ (front_set first lists ms s.count more there.0 there.1 (rows_listed c.args.lists.items s.count c.in-Some.more listed taken.0)
          ∙ ap (λ n. grown_front first (first + n) lists ms) next)));
    }

pub loop-offset-preserved : goal.loop-offset-preserved
loop-offset-preserved c =
    let base = c.args.base in
    let ms = (tables_below base).messages in
    let lists = list_rows c.args.lists.items in
    let s = c.loop-offset.offset-iterator in
    let t = c.next.new.self in
    let steps = c.in-Some.ensures.steps in
    let before = c.loop-offset.invariant in
    let same : map message_row c.in_ok-messages.messages ≡ ms =
    ap (map message_row) c.in_ok-messages.ensures.cases ∙ ap (λ (rows : TableRows). rows.messages) (c.tables.ensures ∙ ap pool_rows c.pool.ensures) in
    let long : length c.in_ok-messages.messages ≡ length ms = sym (length-map c.in_ok-messages.messages message_row) ∙ ap (λ (l : List MessageRow). length l) same in
    let left = ap (λ (ls : List (Vec FieldTable Global)). length ls) steps.0.0 in
    let first = c.len.result - c.len-2.result in
    let listed : s.count < length c.args.lists.items = omega (arith, before.counted, left) in
    let within : first + s.count < length ms = omega (arith, before.counted, left, long, c.len.ensures, c.len-2.ensures, c.requires, c.args.lists.ok.0) in
    let there = item_there ms (first + s.count) within in
    let taken = first_left c.args.lists.items s.iter.rest.items t.iter.rest.items s.count c.in-Some.more before.left steps.0.0 listed in
    let next : s.count + 1 ≡ t.count = omega (arith, steps.2) in
    let zeroth = eqb-true _ _ (sym c.is_empty.ensures ∙ c.if-not-is_empty.false) in
    let none : c.in-Some.more.items ≡ [] = nil_from_length c.in-Some.more.items (omega (arith, zeroth, c.in-Some.more.ok.0)) in
    record {
      counted = omega (arith, before.counted, left, steps.2);
      left = taken.1 ∙ ap (λ k. drop k c.args.lists.items) next;
      grown =
          before.grown
          ∙ (front_kept first lists ms s.count there.0 there.1 (rows_listed c.args.lists.items s.count c.in-Some.more listed taken.0 ∙ ap (map field_row) none) (untouched base)
          ∙ ap (λ n. grown_front first (first + n) lists ms) next);
    }

pub returns : goal.returns
returns c =
    let base = c.args.base in
    let ms = (tables_below base).messages in
    let lists = list_rows c.args.lists.items in
    let s = c.loop-offset.offset-iterator in
    let before = c.loop-offset.invariant in
    let same : map message_row c.in_ok-messages.messages ≡ ms =
    ap (map message_row) c.in_ok-messages.ensures.cases ∙ ap (λ (rows : TableRows). rows.messages) (c.tables.ensures ∙ ap pool_rows c.pool.ensures) in
    let long : length c.in_ok-messages.messages ≡ length ms = sym (length-map c.in_ok-messages.messages message_row) ∙ ap (λ (l : List MessageRow). length l) same in
    let first = c.len.result - c.len-2.result in
    let none : length s.iter.rest.items ≡ 0 = omega (arith, c.in-None.ensures.steps.0, s.iter.rest.ok.0) in
    let counted : length lists ≡ length c.args.lists.items = length-map c.args.lists.items (λ (v : Vec FieldTable Global). map field_row v.items) in
    let whole : first + s.count ≡ length ms = omega (arith, before.counted, none, long, c.len.ensures, c.len-2.ensures, c.requires, c.args.lists.ok.0) in
    let from : first ≡ length ms - length lists = omega (arith, counted, long, c.len.ensures, c.len-2.ensures, c.args.lists.ok.0) in
    before.grown ∙ front_whole first lists ms (first + s.count) whole from
