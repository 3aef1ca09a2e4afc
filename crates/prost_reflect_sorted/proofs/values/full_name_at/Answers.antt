use Rattle.prost_reflect_sorted.proofs.Common.{rules, refl, ◌∙◌, DefinitionRow, definition_row, text_there, no_text}
use Rattle.prost_reflect_types.specs.declared.EnumValueDescriptorProto.{EnumValueDescriptorProto}
use Rattle.prost_reflect_sorted.proofs.values.full_name_at.Goals as goal

pub returns-in-Some : goal.returns-in-Some
returns-in-Some c =
    let h = c.in-Some.ensures.lookup.3 in
    c.as_str.ensures.value ∙ text_there definition_row (λ (d : DefinitionRow EnumValueDescriptorProto). d.full_name) c.args.values.now _ c.args.place c.in-Some.value.now refl h.0 (h.1 c.in-Some.value.now)

pub returns-in-None : goal.returns-in-None
returns-in-None c = no_text definition_row (λ (d : DefinitionRow EnumValueDescriptorProto). d.full_name) c.args.values.now c.args.values.now c.args.place refl (let h = c.in-None.ensures.lookup in search rules)
