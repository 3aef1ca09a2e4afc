use Rattle.std.specs.Prelude.{◌≡◌, ◌++◌}
use Rattle.std.specs.Vec.Iter.{into_iter_items}
use Rattle.prost_reflect_linking.proofs.Common.{map, resolved_row}
use Rattle.prost_reflect_linking.specs.Meanings.{meaning_row, meant}
use Rattle.prost_reflect_linking.proofs.meaning.meanings.Given as goal

abbrev pub invariant-loop-field : goal.invariant-loop-field
invariant-loop-field l = map meaning_row l.all.items ++ map meant (map resolved_row (into_iter_items l.field-iterator)) ≡ map meant (map resolved_row l.fn.fields.items)
