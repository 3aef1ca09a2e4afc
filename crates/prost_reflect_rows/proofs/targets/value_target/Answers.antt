use Rattle.prost_reflect_rows.proofs.Common.{sym}
use Rattle.prost_reflect_rows.proofs.FieldTargets.{scalar_target, no_message_kind}
use Rattle.prost_reflect_rows.proofs.targets.value_target.Goals as goal

pub returns-in_default : goal.returns-in_default
returns-in_default c = sym (scalar_target c.args.kind c.args.is_group c.args.oneof (no_message_kind c.args.kind c.in_default.not-Message))
