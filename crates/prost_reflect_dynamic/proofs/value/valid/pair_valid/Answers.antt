use Rattle.std.specs.Prelude.{◌≡◌, ◌&&◌}
use Rattle.prost_reflect_dynamic.proofs.Common.{true, false, sym, ap, ◌∙◌, option_copied, element_valid, kind_takes, schema_kind, enums_in, key_of, value_of}
use Rattle.prost_reflect_dynamic.proofs.value.valid.pair_valid.Goals as goal

pub returns-then-scalar_valid : goal.returns-then-scalar_valid
returns-then-scalar_valid c =
    let taken : kind_takes (schema_kind (enums_in (option_copied c.args.pool)) c.args.key_kind false) (key_of c.args.key.now) ≡ true = sym (ap (kind_takes _) c.as_scalar.ensures) ∙ sym c.scalar_valid.ensures ∙ c.if-scalar_valid.true in
    c.element_valid.ensures ∙ sym (ap (λ b. b && element_valid (schema_kind (enums_in (option_copied c.args.pool)) c.args.kind false) (value_of c.args.value.now)) taken)

pub returns-else-scalar_valid : goal.returns-else-scalar_valid
returns-else-scalar_valid c =
    let refused : kind_takes (schema_kind (enums_in (option_copied c.args.pool)) c.args.key_kind false) (key_of c.args.key.now) ≡ false = sym (ap (kind_takes _) c.as_scalar.ensures) ∙ sym c.scalar_valid.ensures ∙ c.if-scalar_valid.false in
    c.if-scalar_valid.false ∙ sym (ap (λ b. b && element_valid (schema_kind (enums_in (option_copied c.args.pool)) c.args.kind false) (value_of c.args.value.now)) refused)
