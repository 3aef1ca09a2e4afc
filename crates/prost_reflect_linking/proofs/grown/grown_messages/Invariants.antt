use Rattle.std.specs.Prelude.{◌≡◌, ◌+◌}
use Rattle.prost_reflect_linking.proofs.Common.{drop, length, list_rows, map}
use Rattle.prost_reflect_base.specs.Below.{tables_below}
use Rattle.prost_reflect_linking.specs.Grown.{grown_front}
use Rattle.prost_reflect_shared.specs.Items.{items_of}
use Rattle.prost_reflect_tables.specs.Rows as rows
use Rattle.prost_reflect_linking.proofs.grown.grown_messages.Given as goal

-- The messages so far have their rows, and those that are left are as they were.
abbrev pub invariant-loop-offset : goal.invariant-loop-offset
invariant-loop-offset l = record {
  counted : l.offset-iterator.count + length l.offset-iterator.iter.rest.items ≡ length l.fn.lists.items;
  left : l.offset-iterator.iter.rest.items ≡ drop l.offset-iterator.count l.fn.lists.items;
  grown : map rows.message_row (items_of l.messages) ≡ grown_front l.first (l.first + l.offset-iterator.count) (list_rows l.fn.lists.items) (tables_below l.base).messages;
}
