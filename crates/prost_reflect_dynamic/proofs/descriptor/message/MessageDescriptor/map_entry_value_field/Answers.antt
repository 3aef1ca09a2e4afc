use Rattle.prost_reflect_dynamic.proofs.Common.{Some, sym, ap, ◌∙◌, IfOk-weaker}
use Rattle.prost_reflect_dynamic.proofs.OwnRows.{entry_there}
use Rattle.prost_reflect_dynamic.proofs.descriptor.message.MessageDescriptor.map_entry_value_field.Goals as goal

pub at-requires : goal.at-requires
at-requires c = (entry_there c.args.self.now.pool.inner.value c.args.self.now.index c.requires).value_declared

pub returns-clause-place : goal.returns-clause-place
returns-clause-place c = IfOk-weaker c.at.result _ _ (λ field stands. (entry_there c.args.self.now.pool.inner.value c.args.self.now.index c.requires).value ∙ ap Some (sym stands.1)) c.at.ensures
