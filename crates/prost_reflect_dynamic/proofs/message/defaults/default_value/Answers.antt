use Rattle.std.specs.Prelude.{◌≡◌}
use Rattle.prost_reflect_dynamic.proofs.Common.{true, ap, sym, ◌∙◌, subst, Global, Rc, IfOk, IfOk-weaker, IsRowDefault, field_valid, field_row, schema_from, schema_field, pool_rows, LinkedPool, row_default, Value}
use Rattle.prost_reflect_dynamic.proofs.message.defaults.default_value.Goals as goal

pub default_value-requires : goal.default_value-requires
default_value-requires c = subst (λ (pool : Rc LinkedPool Global). field_valid (schema_from (pool_rows pool)) (schema_field (pool_rows pool) (field_row c.args.field.now)) ≡ true) (sym c.pool.ensures) c.requires

pub returns-clause-default : goal.returns-clause-default
returns-clause-default c = subst (λ (pool : Rc LinkedPool Global). IfOk c.default_value.result (IsRowDefault pool (field_row c.args.field.now))) c.pool.ensures c.default_value.ensures.default

pub returns-clause-value : goal.returns-clause-value
returns-clause-value c = IfOk-weaker c.default_value.result _ _ (λ (v : Value) is. is ∙ ap (λ (pool : Rc LinkedPool Global). row_default (pool_rows pool) (field_row c.args.field.now)) c.pool.ensures) c.default_value.ensures.value
