use Rattle.prost_reflect_pool.proofs.Common.{rules, refl, ◌∙◌, FieldRow, field_row, text_there, no_text}
use Rattle.prost_reflect_pool.proofs.lookup.json_name.Goals as goal

pub returns-in-Some : goal.returns-in-Some
returns-in-Some c =
    let h = c.in-Some.ensures.lookup.3 in
    c.json_name.ensures ∙ text_there field_row (λ (f : FieldRow). f.json_name) c.args.fields.now _ c.args.place c.in-Some.field.now refl h.0 (h.1 c.in-Some.field.now)

pub returns-in-None : goal.returns-in-None
returns-in-None c = no_text field_row (λ (f : FieldRow). f.json_name) c.args.fields.now c.args.fields.now c.args.place refl (let h = c.in-None.ensures.lookup in search rules)
