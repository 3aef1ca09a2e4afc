use Rattle.prost_reflect_types.proofs.SameRecords.{decided_value}
use Rattle.prost_reflect_types.proofs.equality.DescriptorProtoPartialEq.eq.Goals as goal

pub returns-clause-value : goal.returns-clause-value
returns-clause-value c = decided_value _ _ _ c.equal_message.ensures
