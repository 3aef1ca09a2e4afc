use Rattle.std.proofs.Common.{map, take, string_bytes}
use Rattle.prototool_commands.specs.Naming.{ArePathsTo}
use Rattle.prototool_commands.proofs.redact.all_numbers.Given as goal

-- each of the paths in front leads to its numbers
abbrev pub invariant-loop-path : goal.invariant-loop-path
invariant-loop-path l = ArePathsTo l.descriptor.pool.inner.value l.descriptor.index (map string_bytes (take l.path-index l.paths)) (map (λ numbers. numbers.items) l.all.items)
