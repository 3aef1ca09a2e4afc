use Rattle.prost_reflect_dynamic.proofs.Common.{Option, sym, ap, subst, ◌∙◌, IfSome, option_map, Extends, ExtensionDescriptor}
use Rattle.prost_reflect_dynamic.proofs.ListedNumbers.{extension_missed, extension_own}
use Rattle.prost_reflect_dynamic.proofs.message.lists.descriptors.extension_at.Goals as goal

pub unreachable-requires : goal.unreachable-requires
unreachable-requires c =
    extension_missed c.args.message_type.now c.in_ok-message.message c.args.number c.in_ok-message.ensures c.requires
    (sym c.in_ok-extension.ensures.found ∙ ap (option_map (λ (x : ExtensionDescriptor). x.index)) c.in-None.is)

pub returns-clause-own : goal.returns-clause-own
returns-clause-own c =
    (extension_own c.args.message_type.now c.in_ok-message.message c.in-Some.extension c.args.number c.in_ok-message.ensures
    (subst (λ (o : Option ExtensionDescriptor). IfSome o (Extends c.in_ok-message.message)) c.in-Some.is c.in_ok-extension.ensures.own)
    (sym c.in_ok-extension.ensures.found ∙ ap (option_map (λ (x : ExtensionDescriptor). x.index)) c.in-Some.is)).0

pub returns-clause-number : goal.returns-clause-number
returns-clause-number c =
    (extension_own c.args.message_type.now c.in_ok-message.message c.in-Some.extension c.args.number c.in_ok-message.ensures
    (subst (λ (o : Option ExtensionDescriptor). IfSome o (Extends c.in_ok-message.message)) c.in-Some.is c.in_ok-extension.ensures.own)
    (sym c.in_ok-extension.ensures.found ∙ ap (option_map (λ (x : ExtensionDescriptor). x.index)) c.in-Some.is)).1
