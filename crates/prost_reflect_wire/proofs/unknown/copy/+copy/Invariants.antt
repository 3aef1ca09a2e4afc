use Rattle.std.specs.Prelude.{◌≡◌}
use Rattle.prost_reflect_wire.proofs.Common.{take, map, unknown_record}
use Rattle.prost_reflect_wire.proofs.unknown.copy.+copy.Given as goal

-- the copies so far are those of the fields so far
abbrev pub invariant-copy_set-loop-field : goal.invariant-copy_set-loop-field
invariant-copy_set-loop-field l = map unknown_record l.fields.items ≡ map unknown_record (take l.field-index l.field-items)
