use Rattle.prost_reflect_dynamic.proofs.Common.{length, map, pool_rows, value_of}
use Rattle.prost_reflect_dynamic.proofs.PartedNumbers.{PartedSoFar}
use Rattle.prost_reflect_dynamic.proofs.message.decode.enum_list.push_numbers.Given as goal

abbrev pub decreases-loop-rest : goal.decreases-loop-rest
decreases-loop-rest l = length l.rest

abbrev pub invariant-loop-rest : goal.invariant-loop-rest
invariant-loop-rest l = PartedSoFar (pool_rows l.message_type.pool).enums l.kind (map value_of l.fn.values.items) (map value_of l.values.items) l.strays.items l.body l.rest
