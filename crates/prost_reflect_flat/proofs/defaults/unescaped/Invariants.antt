use Rattle.std.specs.Prelude.{◌≡◌, ◌++◌}
use Rattle.prost_reflect_flat.proofs.Common.{length, option_map, unescaped}
use Rattle.prost_reflect_flat.proofs.defaults.unescaped.Given as goal

abbrev pub decreases-loop-first : goal.decreases-loop-first
decreases-loop-first l = length l.rest

abbrev pub invariant-loop-first : goal.invariant-loop-first
invariant-loop-first l = option_map (λ bytes. l.bytes.items ++ bytes) (unescaped l.rest) ≡ unescaped l.fn.text
