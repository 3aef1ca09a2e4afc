use Rattle.prost_reflect_dynamic.proofs.Common.{ap, sym, ◌∙◌, is_empty_value, field_row, schema_field, LinkedPool, value_of}
use Rattle.prost_reflect_pool.specs.Pools.{pool_rows}
use Rattle.prost_reflect_dynamic.proofs.FieldDefaults.{elements_tested}
use Rattle.prost_reflect_dynamic.proofs.value.defaults.is_row_default.Goals as goal

pub returns-then-is_repeated : goal.returns-then-is_repeated
returns-then-is_repeated c =
    let shown = ap (λ (pool : LinkedPool). is_empty_value (schema_field (pool_rows pool) (field_row c.args.field.now)).form (value_of c.args.value.now)) c.deref.ensures in
    elements_tested c.args.pool.now (field_row c.args.field.now) c.args.value.now c.is_empty.result (sym c.is_repeated.ensures ∙ c.if-is_repeated.true) (c.is_empty.ensures ∙ shown)
