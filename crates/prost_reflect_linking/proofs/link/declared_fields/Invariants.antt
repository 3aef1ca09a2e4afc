use Rattle.std.specs.Prelude.{◌≡◌, ◌++◌}
use Rattle.std.specs.Iterator.Adapters.{zip_first, zip_second}
use Rattle.std.specs.List.{zip}
use Rattle.std.specs.Slice.Iter.{iter_rest}
use Rattle.prost_reflect_linking.proofs.Common.{false, map, field_row, definition_row}
use Rattle.prost_reflect_linking.specs.Meanings.{field_meant, meaning_row}
use Rattle.prost_reflect_linking.proofs.link.declared_fields.Given as goal

abbrev pub invariant-loop-definition : goal.invariant-loop-definition
invariant-loop-definition l =
    map field_row l.fields.items ++ map (field_meant false) (zip (map definition_row (iter_rest (zip_first l.definition-iterator))) (map meaning_row (iter_rest (zip_second l.definition-iterator))))
    ≡ map (field_meant false) (zip (map definition_row l.definitions) (map meaning_row l.meanings))
