use Rattle.prost_reflect_dynamic.proofs.Common.{rules}
use Rattle.prost_reflect_dynamic.proofs.OwnFields.{numbers_found}
use Rattle.prost_reflect_dynamic.proofs.descriptor.message.MessageDescriptor.get_field.Goals as goal

pub returns-clause-found : goal.returns-clause-found
returns-clause-found c = search rules

pub returns-clause-number : goal.returns-clause-number
returns-clause-number c = numbers_found c.args.self.now c.args.number c.field_at.result (returns-clause-found c) c.field_at.ensures.message
