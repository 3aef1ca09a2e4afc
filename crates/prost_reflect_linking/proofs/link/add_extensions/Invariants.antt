use Rattle.std.specs.Prelude.{◌≡◌}
use Rattle.std.specs.Iterator.Adapters.{zip_first, zip_second}
use Rattle.std.specs.List.{zip}
use Rattle.std.specs.Slice.Iter.{iter_rest}
use Rattle.prost_reflect_linking.proofs.Common.{true, map, definition_row, grouped, list_rows}
use Rattle.prost_reflect_linking.specs.Meanings.{field_meant, meaning_row}
use Rattle.prost_reflect_linking.proofs.link.add_extensions.Given as goal

abbrev pub invariant-loop-definition : goal.invariant-loop-definition
invariant-loop-definition l =
    grouped (λ p. p.1.extendee) (field_meant true) (zip (map definition_row (iter_rest (zip_first l.definition-iterator))) (map meaning_row (iter_rest (zip_second l.definition-iterator)))) l.first (list_rows l.lists.items)
    ≡ grouped (λ p. p.1.extendee) (field_meant true) (zip (map definition_row l.definitions) (map meaning_row l.meanings)) l.first (list_rows l.fn.lists.items)
