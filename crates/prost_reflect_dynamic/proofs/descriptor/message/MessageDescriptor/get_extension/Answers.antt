use Rattle.std.specs.Prelude.{◌==◌}
use Rattle.prost_reflect_dynamic.proofs.Common.{ap, ◌∙◌, extension_where, LinkedPool}
use Rattle.prost_reflect_dynamic.proofs.OwnExtensions.{extensions_found}
use Rattle.prost_reflect_dynamic.proofs.descriptor.message.MessageDescriptor.get_extension.Goals as goal

pub returns-clause-missing : goal.returns-clause-missing
returns-clause-missing c none = c.extension_at.ensures.missing (c.extension_place_by_number.ensures.found ∙ (ap (λ (pool : LinkedPool). extension_where pool c.args.self.now.index (λ f. f.number == c.args.number)) c.deref.ensures ∙ none))

pub returns-clause-own : goal.returns-clause-own
returns-clause-own c =
    extensions_found c.args.self.now (λ f. f.number == c.args.number) c.extension_place_by_number.result (c.extension_place_by_number.ensures.found ∙ ap (λ (pool : LinkedPool). extension_where pool c.args.self.now.index (λ f. f.number == c.args.number)) c.deref.ensures) c.extension_at.result
    c.extension_at.ensures.place c.extension_at.ensures.pool
