use Rattle.prost_reflect_dynamic.specs.Named.{SameMessage}
use Rattle.prost_reflect_walks.proofs.Walks.{each_stands}
use Rattle.prost_reflect_dynamic.proofs.descriptor.oneof.OneofDescriptor.fields.Goals as goal

pub returns-clause-own : goal.returns-clause-own
returns-clause-own c = each_stands _ c.args.self.now.message (λ field. SameMessage c.args.self.now.message field.message) (λ i field there. there.0) c.new.ensures.parent
