use Rattle.prost_reflect_dynamic.proofs.Common.{rules, length, pool_catalog, Extends}
use Rattle.prost_reflect_dynamic.proofs.OwnExtensions.{ExtendsAt, each_extends, stands_extending}
use Rattle.prost_reflect_walks.proofs.PlaceRanges.{listed_below}
use Rattle.prost_reflect_walks.proofs.Walks.{each_given}
use Rattle.prost_reflect_dynamic.proofs.descriptor.message.MessageDescriptor.extensions.Goals as goal

pub new-requires : goal.new-requires
new-requires c = listed_below (length (pool_catalog c.args.self.now.pool.inner).extensions) _ _ c.as_slice.ensures.value c.lists.ensures.extending

pub returns-clause-places : goal.returns-clause-places
returns-clause-places c = search rules

pub returns-clause-own : goal.returns-clause-own
returns-clause-own c = each_given _ c.args.self.now.pool (ExtendsAt c.args.self.now) (Extends c.args.self.now) (λ i x at s. stands_extending c.args.self.now i x at s) c.new.ensures.parent (each_extends c.args.self.now _ (returns-clause-places c))
