use Rattle.prost_reflect_reduction.proofs.Common.{ap, ◌∙◌, is_none, field_row, rows_of, own_type, ReductionFaultKind}
use Rattle.prost_reflect_reduction.proofs.Explaining.{scalar_kind, keys_none, none_or}
use Rattle.prost_reflect_reduction.proofs.values.keys_match.Goals as goal

pub returns-in_ok-value_fault-in_default : goal.returns-in_ok-value_fault-in_default
returns-in_ok-value_fault-in_default c = record {
  enums = c.in_ok-value_fault-in_default.ensures.enums;
  same = none_or ReductionFaultKind c.in_ok-value_fault-in_default.field-0 c.is_none.result c.is_none.ensures ∙
      (ap is_none c.in_ok-value_fault-in_default.ensures.fault ∙
      keys_none (own_type (rows_of c.args.older.now).enums (field_row c.args.field.now)) (own_type (rows_of c.args.newer.now).enums (field_row c.args.like.now))
      (scalar_kind (rows_of c.args.older.now).enums c.args.field.now.kind c.args.field.now.is_group c.in_default.not-Message));
}
