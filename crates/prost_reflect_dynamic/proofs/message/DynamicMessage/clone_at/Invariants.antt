use Rattle.prost_reflect_dynamic.proofs.Common.{stored_in}
use Rattle.prost_reflect_dynamic.proofs.PartCopies.{IsCopying}
use Rattle.prost_reflect_dynamic.proofs.message.DynamicMessage.clone_at.Given as goal

abbrev pub invariant-loop-number : goal.invariant-loop-number
invariant-loop-number l = IsCopying l.numbers (stored_in l.self) l.number-iterator l.fields.0
