use Rattle.prost_reflect_dynamic.proofs.Common.{drop, Adds, payloads_bytes}
use Rattle.prost_reflect_dynamic.proofs.message.encode.list.write_all.Given as goal

-- the scalars from the index on are written
abbrev pub invariant-loop-index : goal.invariant-loop-index
invariant-loop-index g l = Adds g.S.Sink.added l.fn.sink l.sink (payloads_bytes l.kind (drop l.index l.values))
