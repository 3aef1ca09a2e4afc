use Rattle.std.proofs.Common.{◌≡◌, Option, subst}
use Rattle.std.specs.Prelude.{IfSome}
use Rattle.prost_reflect_dynamic.specs.ExtensionAccess.{extension_number}
use Rattle.prost_reflect_dynamic.specs.declared.descriptor.extension.ExtensionDescriptor.{ExtensionDescriptor}
use Rattle.prototool_commands.proofs.ClearedCalls.{last_extension, last_field}
use Rattle.prototool_commands.proofs.redact.clearing.clear_number.Goals as goal

pub returns-in-Some : goal.returns-in-Some
returns-in-Some c =
    let n = c.args.number in
    last_extension c.args.message.now c.clear_extension.new.self n (extension_number c.in-Some.extension)
    (subst (λ (o : Option ExtensionDescriptor). IfSome o (λ x. extension_number x ≡ n)) c.in-Some.is c.in_ok-extension.ensures.number) c.clear_extension.ensures.removes

pub returns-in-None : goal.returns-in-None
returns-in-None c = last_field c.args.message.now c.clear_field_by_number.new.self c.args.number (c.in_ok-extension.ensures.missing c.in-None.is) c.clear_field_by_number.ensures.removes
