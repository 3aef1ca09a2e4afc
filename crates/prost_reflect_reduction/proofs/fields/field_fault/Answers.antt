use Rattle.std.specs.Prelude.{◌≡◌}
use Rattle.prost_reflect_reduction.proofs.Common.{true, cond, Some, ap₂, sym, ◌∙◌, subst, IfOk, beq, not-false, field_row, rows_of, own_type, schema_field, values_fault, forms_fault, fields_fault, forms_alike, Extension}
use Rattle.prost_reflect_reduction.proofs.fields.field_fault.Goals as goal

pub returns-clause-fault : goal.returns-clause-fault
returns-clause-fault c =
    let f = schema_field (rows_of c.args.older.now) (field_row c.args.field.now) in
    let g = schema_field (rows_of c.args.newer.now) (field_row c.args.like.now) in
    let one : own_type (rows_of c.args.older.now).enums (field_row c.value_field.result.now) ≡ f.value_type = c.value_field.ensures in
    let two : own_type (rows_of c.args.newer.now).enums (field_row c.value_field-2.result.now) ≡ g.value_type = c.value_field-2.ensures in
    let forms : forms_alike f.form g.form ≡ true = sym c.in_ok-forms_alike.ensures.alike ∙ c.if-not-branch.false in
    let is : fields_fault f g ≡ values_fault f.value_type g.value_type = ap₂ (λ a b. cond a (cond b (values_fault f.value_type g.value_type) (Some (forms_fault f.form g.form))) (Some Extension)) (not-false (beq f.is_extension g.is_extension) c.if-field-like.false) forms in
    subst (λ b. IfOk c.value_fault.result (λ fault. fault ≡ b)) (ap₂ values_fault one two ∙ sym is) c.value_fault.ensures.fault
