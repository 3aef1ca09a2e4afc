use Rattle.prost_reflect_dynamic.proofs.Common.{length, ReadsEntry, pool_rows}
use Rattle.prost_reflect_dynamic.proofs.message.decode.map.entry_at.Given as goal

abbrev pub decreases-loop-rest : goal.decreases-loop-rest
decreases-loop-rest l = length l.rest

abbrev pub invariant-loop-rest : goal.invariant-loop-rest
invariant-loop-rest l = ReadsEntry (pool_rows l.message_type.pool).enums l.levels l.key_kind l.value_kind l.key l.value l.body l.rest
