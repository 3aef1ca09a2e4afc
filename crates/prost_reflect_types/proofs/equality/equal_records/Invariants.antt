use Rattle.std.specs.Prelude.{◌≡◌}
use Rattle.prost_reflect_types.proofs.Common.{map, take}
use Rattle.prost_reflect_types.proofs.equality.equal_records.Given as goal

-- the records so far are equal
abbrev pub invariant-loop-index : goal.invariant-loop-index
invariant-loop-index g l = map g.P.HasContent.content (take l.index l.a.items) ≡ map g.P.HasContent.content (take l.index l.b.items)
