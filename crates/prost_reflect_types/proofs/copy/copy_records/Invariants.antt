use Rattle.std.specs.Prelude.{◌≡◌}
use Rattle.prost_reflect_types.proofs.Common.{map, take}
use Rattle.prost_reflect_types.proofs.copy.copy_records.Given as goal

-- the copies so far are those of the records so far
abbrev pub invariant-loop-record : goal.invariant-loop-record
invariant-loop-record g l = map g.P.HasContent.content l.copied.items ≡ map g.P.HasContent.content (take l.record-index l.record-items)
