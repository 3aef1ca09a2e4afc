use Rattle.std.specs.Prelude.{◌≡◌}
use Rattle.prost_reflect_linking.proofs.Common.{drop, map}
use Rattle.prost_reflect_linking.specs.Grown.{any_below}
use Rattle.prost_reflect_linking.specs.Meanings.{meaning_row}
use Rattle.prost_reflect_linking.proofs.grown.any_below.Given as goal

abbrev pub invariant-loop-meaning : goal.invariant-loop-meaning
invariant-loop-meaning l = any_below l.count (map meaning_row l.meanings) ≡ any_below l.count (map meaning_row (drop l.meaning-index l.meanings))
