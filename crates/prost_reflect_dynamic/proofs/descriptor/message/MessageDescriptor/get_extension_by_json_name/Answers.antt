use Rattle.prost_reflect_dynamic.proofs.Common.{ap, ◌∙◌, bytes_eq, extension_where, LinkedPool}
use Rattle.prost_reflect_dynamic.proofs.OwnExtensions.{extensions_found}
use Rattle.prost_reflect_dynamic.proofs.descriptor.message.MessageDescriptor.get_extension_by_json_name.Goals as goal

pub returns-clause-missing : goal.returns-clause-missing
returns-clause-missing c none = c.extension_at.ensures.missing (c.extension_place_by_json_name.ensures.found ∙ (ap (λ (pool : LinkedPool). extension_where pool c.args.self.now.index (λ f. bytes_eq f.json_name c.args.name.now)) c.deref.ensures ∙ none))

pub returns-clause-own : goal.returns-clause-own
returns-clause-own c =
    extensions_found c.args.self.now (λ f. bytes_eq f.json_name c.args.name.now) c.extension_place_by_json_name.result (c.extension_place_by_json_name.ensures.found ∙ ap (λ (pool : LinkedPool). extension_where pool c.args.self.now.index (λ f. bytes_eq f.json_name c.args.name.now)) c.deref.ensures) c.extension_at.result
    c.extension_at.ensures.place c.extension_at.ensures.pool
