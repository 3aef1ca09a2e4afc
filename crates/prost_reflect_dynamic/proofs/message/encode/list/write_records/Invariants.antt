use Rattle.prost_reflect_dynamic.proofs.Common.{drop, Adds, records_bytes}
use Rattle.prost_reflect_dynamic.proofs.message.encode.list.write_records.Given as goal

-- the scalars from the index on are written
abbrev pub invariant-loop-index : goal.invariant-loop-index
invariant-loop-index g l = Adds g.S.Sink.added l.fn.sink l.sink (records_bytes l.number l.kind (drop l.index l.values))
