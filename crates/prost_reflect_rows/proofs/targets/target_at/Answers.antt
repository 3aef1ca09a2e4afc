use Rattle.prost_reflect_rows.proofs.Common.{subst, sym, ◌∙◌, field_row, IsTarget}
use Rattle.prost_reflect_rows.proofs.RepeatedRows.{repeated_is}
use Rattle.prost_reflect_rows.proofs.FieldTargets.{target_is}
use Rattle.prost_reflect_rows.proofs.targets.target_at.Goals as goal

pub returns-in-Some : goal.returns-in-Some
returns-in-Some c =
    subst (IsTarget c.args.message_type.now c.args.number) (sym c.repeated_target.ensures)
    (repeated_is c.args.message_type.now c.args.number (field_row c.in-Some.field.now) c.in-Some.ensures.field (sym c.is_repeated.ensures ∙ c.if-is_repeated.true))

pub returns-in-Some-2 : goal.returns-in-Some-2
returns-in-Some-2 c =
    subst (IsTarget c.args.message_type.now c.args.number) (sym c.value_target.ensures)
    (target_is c.args.message_type.now c.args.number (field_row c.in-Some.field.now) (sym c.is_repeated.ensures ∙ c.if-is_repeated.false) (sym c.in-Some.ensures.field))
