use Rattle.prost_reflect_dynamic.proofs.Common.{ap, ◌∙◌, IfOk-weaker, fit_test, value_passes, pool_rows, schema_from, schema_field, field_row, extension_row_named, extension_default_fits, Value}
use Rattle.prost_reflect_dynamic.proofs.DefaultParts.{default_passes, extension_whole}
use Rattle.prost_reflect_dynamic.proofs.OwnDefaults.{extension_checked, default_is, is_default, default_taken}
use Rattle.prost_reflect_dynamic.proofs.descriptor.extension.ExtensionDescriptor.default_value.Goals as goal

pub default_value-requires : goal.default_value-requires
default_value-requires c = extension_checked c.args.self.now (field_row c.table.result.now) c.table.ensures.row

pub returns-clause-value : goal.returns-clause-value
returns-clause-value c = IfOk-weaker c.default_value.result _ _ (λ (v : Value) is. default_is c.args.self.now.pool (field_row c.table.result.now) (extension_row_named c.args.self.now) v c.table.ensures.row is) c.default_value.ensures.value

pub returns-clause-default : goal.returns-clause-default
returns-clause-default c = IfOk-weaker c.default_value.result _ _ (λ (v : Value) is. is_default c.args.self.now.pool (field_row c.table.result.now) (extension_row_named c.args.self.now) v c.table.ensures.row is) c.default_value.ensures.default

pub returns-clause-valid : goal.returns-clause-valid
returns-clause-valid c = IfOk-weaker c.default_value.result _ _ (λ (v : Value) is. default_taken c.args.self.now.pool (field_row c.table.result.now) (extension_row_named c.args.self.now) v c.table.ensures.row (extension_default_fits c.args.self.now) is) c.default_value.ensures.value

pub returns-clause-fits : goal.returns-clause-fits
returns-clause-fits c =
    let row = field_row c.table.result.now in
    let rows = pool_rows c.args.self.now.pool.inner in
    IfOk-weaker c.default_value.result _ _ (λ (v : Value) is. ap (value_passes fit_test) is ∙ default_passes fit_test (schema_from rows) (schema_field rows row).form (schema_field rows row).value_type) c.default_value.ensures.value

pub returns-clause-whole : goal.returns-clause-whole
returns-clause-whole c = IfOk-weaker c.default_value.result _ _ (λ (v : Value) is. extension_whole c.args.self.now (field_row c.table.result.now) v c.table.ensures.row is) c.default_value.ensures.value
