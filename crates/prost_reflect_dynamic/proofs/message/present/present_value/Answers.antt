use Rattle.prost_reflect_dynamic.proofs.Common.{sym}
use Rattle.prost_reflect_rows.proofs.Described.{found_checked}
use Rattle.prost_reflect_dynamic.proofs.message.present.present_value.Goals as goal

pub is_field_default-requires : goal.is_field_default-requires
is_field_default-requires c = found_checked c.args.message_type.now c.args.number _ (sym c.in-Some.ensures.field)
