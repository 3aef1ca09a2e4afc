use Rattle.prost_reflect_dynamic.proofs.Common.{◌∙◌, descriptor_fields}
use Rattle.prost_reflect_dynamic.specs.Named.{SameMessage}
use Rattle.prost_reflect_dynamic.proofs.OwnRows.{own_declared}
use Rattle.prost_reflect_walks.proofs.Walks.{each_stands}
use Rattle.prost_reflect_dynamic.proofs.descriptor.message.MessageDescriptor.fields.Goals as goal

pub new-requires : goal.new-requires
new-requires c = own_declared (descriptor_fields c.args.self.now) c.as_slice.result.now (c.as_slice.ensures.value ∙ c.lists.ensures.fields)

pub returns-clause-own : goal.returns-clause-own
returns-clause-own c = each_stands _ c.args.self.now (λ field. SameMessage c.args.self.now field.message) (λ i field there. there.0) c.new.ensures.parent
