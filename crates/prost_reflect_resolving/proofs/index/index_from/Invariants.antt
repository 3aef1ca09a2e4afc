use Rattle.prost_reflect_resolving.proofs.Common.{take, IsIndexFrom, text_list}
use Rattle.prost_reflect_resolving.proofs.index.index_from.Given as goal

abbrev pub invariant-loop-offset : goal.invariant-loop-offset
invariant-loop-offset l = IsIndexFrom l.first l.index (text_list (take l.offset l.names))
