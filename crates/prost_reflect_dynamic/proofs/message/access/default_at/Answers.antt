use Rattle.prost_reflect_dynamic.proofs.Common.{sym, field_row}
use Rattle.prost_reflect_dynamic.proofs.DefaultParts.{default_typed}
use Rattle.prost_reflect_rows.proofs.Described.{found_checked}
use Rattle.prost_reflect_dynamic.proofs.OwnFields.{and_ok}
use Rattle.prost_reflect_dynamic.proofs.message.access.default_at.Goals as goal

pub default_value-requires : goal.default_value-requires
default_value-requires c = found_checked c.args.message_type.now c.args.number _ (sym c.in-Some.ensures.field)

pub returns-clause-typed : goal.returns-clause-typed
returns-clause-typed c =
    and_ok _ _ _ (λ v default is. default_typed c.args.message_type.now c.args.number (field_row c.in-Some.field.now) v (sym c.in-Some.ensures.field) default is) c.default_value.result c.default_value.ensures.default c.default_value.ensures.value
