use Rattle.std.proofs.Common.{map, drop}
use Rattle.prost_reflect_dynamic.specs.View.{content_of}
use Rattle.prototool_commands.proofs.ClearedPaths.{PathsSoFar}
use Rattle.prototool_commands.proofs.redact.clear_all.Given as goal

-- the paths in front were cleared
abbrev pub invariant-loop-path : goal.invariant-loop-path
invariant-loop-path l = PathsSoFar (map (λ path. path.items) l.paths) (map (λ path. path.items) (drop l.path-index l.paths)) (content_of l.fn.message) (content_of l.message)
