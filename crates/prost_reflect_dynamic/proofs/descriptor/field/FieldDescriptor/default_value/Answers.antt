use Rattle.std.specs.Prelude.{◌≡◌}
use Rattle.prost_reflect_dynamic.proofs.Common.{ap, subst, ◌∙◌, IfOk-weaker, fit_test, value_passes, schema_from, schema_field, field_row, pool_rows, row_default, IsRowDefault, row_at, field_default_fits, value_of, DescriptorPool, Value}
use Rattle.prost_reflect_dynamic.proofs.DefaultParts.{default_passes, field_whole}
use Rattle.prost_reflect_dynamic.proofs.OwnDefaults.{field_requires, default_is, is_default, default_taken}
use Rattle.prost_reflect_dynamic.proofs.descriptor.field.FieldDescriptor.default_value.Goals as goal

pub default_value-requires : goal.default_value-requires
default_value-requires c = field_requires c.args.self.now c.parent_pool.result.now (field_row c.table.result.now) c.parent_pool.ensures c.table.ensures

pub returns-clause-value : goal.returns-clause-value
returns-clause-value c =
    let row = field_row c.table.result.now in
    IfOk-weaker c.default_value.result _ _ (λ (v : Value) is. default_is c.args.self.now.message.pool row (row_at c.args.self.now) v c.table.ensures (subst (λ (pool : DescriptorPool). value_of v ≡ row_default (pool_rows pool.inner) row) c.parent_pool.ensures is)) c.default_value.ensures.value

pub returns-clause-default : goal.returns-clause-default
returns-clause-default c =
    let row = field_row c.table.result.now in
    IfOk-weaker c.default_value.result _ _ (λ (v : Value) is. is_default c.args.self.now.message.pool row (row_at c.args.self.now) v c.table.ensures (subst (λ (pool : DescriptorPool). IsRowDefault pool.inner row v) c.parent_pool.ensures is)) c.default_value.ensures.default

pub returns-clause-valid : goal.returns-clause-valid
returns-clause-valid c =
    let row = field_row c.table.result.now in
    IfOk-weaker c.default_value.result _ _ (λ (v : Value) is. default_taken c.args.self.now.message.pool row (row_at c.args.self.now) v c.table.ensures (field_default_fits c.args.self.now) (subst (λ (pool : DescriptorPool). value_of v ≡ row_default (pool_rows pool.inner) row) c.parent_pool.ensures is)) c.default_value.ensures.value

pub returns-clause-fits : goal.returns-clause-fits
returns-clause-fits c =
    let row = field_row c.table.result.now in
    let rows = pool_rows c.parent_pool.result.now.inner in
    IfOk-weaker c.default_value.result _ _ (λ (v : Value) is. ap (value_passes fit_test) is ∙ default_passes fit_test (schema_from rows) (schema_field rows row).form (schema_field rows row).value_type) c.default_value.ensures.value

pub returns-clause-whole : goal.returns-clause-whole
returns-clause-whole c =
    let row = field_row c.table.result.now in
    IfOk-weaker c.default_value.result _ _ (λ (v : Value) is. field_whole c.args.self.now row v c.table.ensures (subst (λ (pool : DescriptorPool). value_of v ≡ row_default (pool_rows pool.inner) row) c.parent_pool.ensures is)) c.default_value.ensures.value
