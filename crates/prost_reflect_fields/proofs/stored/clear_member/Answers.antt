use Rattle.prost_reflect_fields.proofs.Common.{sym, ◌∙◌, eq-eqb}
use Rattle.prost_reflect_fields.proofs.MembersCleared.{own_stays, other_stays}
use Rattle.prost_reflect_fields.proofs.stored.clear_member.Goals as goal
use Rattle.prost_reflect_fields.proofs.stored.clear_member.Goals.{else-field-number-via-then-field-number+else-is_same_oneof, else-field-number-via-else-field-number}

pub returns-else-field-number-clause-cleared : goal.returns-else-field-number-clause-cleared
returns-else-field-number-clause-cleared g c =
    let before = g.S.NumberMap.entries c.args.fields.now in
    elim c.else-field-number.branch [
      | else-field-number-via-then-field-number+else-is_same_oneof u ↦ other_stays c.args.field.now c.args.oneof c.args.number before (sym u.is_same_oneof.ensures ∙ u.if-is_same_oneof.false)
      | else-field-number-via-else-field-number u ↦ own_stays c.args.field.now c.args.oneof c.args.number before (eq-eqb c.args.field.now.number c.args.number u.if-field-number.false)
    ]
