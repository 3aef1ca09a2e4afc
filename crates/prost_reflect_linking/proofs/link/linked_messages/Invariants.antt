use Rattle.std.specs.Prelude.{◌≡◌, ◌+◌, ◌++◌}
use Rattle.prost_reflect_linking.proofs.Common.{drop, map, length, list_rows}
use Rattle.prost_reflect_linking.specs.Meanings.{meaning_lists, messages_meant}
use Rattle.prost_reflect_tables.specs.Rows as rows
use Rattle.prost_reflect_flat.specs.FlatViews as flat_views
use Rattle.prost_reflect_linking.proofs.link.linked_messages.Given as goal

abbrev pub invariant-loop-place : goal.invariant-loop-place
invariant-loop-place l = record {
  counted : l.place-iterator.count + length l.place-iterator.iter.a.a.rest.items ≡ length l.fn.messages.items;
  paired : length l.place-iterator.iter.a.b.rest.items ≡ length l.place-iterator.iter.a.a.rest.items;
  meant : length l.place-iterator.iter.b.rest.items ≡ length l.place-iterator.iter.a.a.rest.items;
  left : l.place-iterator.iter.a.a.rest.items ≡ drop l.place-iterator.count l.fn.messages.items;
  same : map rows.message_row l.tables.items ++ messages_meant (list_rows l.place-iterator.iter.a.b.rest.items) (meaning_lists l.place-iterator.iter.b.rest.items) (map flat_views.message_row l.place-iterator.iter.a.a.rest.items)
      ≡ messages_meant (list_rows l.fn.extensions.items) (meaning_lists l.fn.meanings.items) (map flat_views.message_row l.fn.messages.items);
}
