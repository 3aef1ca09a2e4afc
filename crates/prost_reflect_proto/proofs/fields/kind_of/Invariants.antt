use Rattle.std.specs.Prelude.{◌≡◌}
use Rattle.prost_reflect_proto.proofs.Common.{drop, kind_at}
use Rattle.prost_reflect_proto.proofs.fields.kind_of.Given as goal

abbrev pub invariant-loop-own : goal.invariant-loop-own
invariant-loop-own l = kind_at l.rows l.number ≡ kind_at (drop l.own-index l.rows) l.number
