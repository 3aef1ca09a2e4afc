use Rattle.prost_reflect_dynamic.proofs.Common.{ap, sym, subst, ◌∙◌, Some, unwrap_or, on_ok_weaker, Sets, message_type_of}
use Rattle.prost_reflect_dynamic.proofs.OwnExtensions.{extension_known, extension_takes_found}
use Rattle.prost_reflect_dynamic.proofs.message.DynamicMessage.set_extension.Goals as goal

pub set_value-requires : goal.set_value-requires
set_value-requires c = extension_known (message_type_of c.args.self.now) c.args.extension.now c.number.result c.requires.own c.number.ensures

pub returns-clause-sets : goal.returns-clause-sets
returns-clause-sets c =
    on_ok_weaker c.set_value.result
    (λ step. subst (λ n. Sets (Some n) c.args.value c.args.self.now c.set_value.new.self) (sym (ap (λ o. unwrap_or o 0) c.number.ensures))
    (step (sym (extension_takes_found (message_type_of c.args.self.now) c.args.extension.now c.number.result c.args.value c.requires.own c.number.ensures) ∙ c.requires.valid))) c.set_value.ensures.sets
