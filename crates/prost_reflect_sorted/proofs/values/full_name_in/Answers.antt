use Rattle.prost_reflect_sorted.proofs.Common.{List, map, rules, refl, ap, ◌∙◌, FlatEnumRow, definition_row, enum_row, names_of, text_at, texts_there, no_texts}
use Rattle.prost_reflect_types.specs.declared.EnumValueDescriptorProto.{EnumValueDescriptorProto}
use Rattle.prost_reflect_flat.specs.declared.definitions.Definition.{Definition}
use Rattle.prost_reflect_sorted.proofs.values.full_name_in.Goals as goal

pub returns-in-Some : goal.returns-in-Some
returns-in-Some c =
    let h = c.in-Some.ensures.lookup.3 in
    c.full_name_at.ensures
    ∙ (ap (λ (values : List (Definition EnumValueDescriptorProto)). text_at (names_of (map definition_row values)) c.args.pair.1) c.as_slice.ensures.value
    ∙ texts_there enum_row (λ (e : FlatEnumRow). names_of e.values) c.args.enums.now _ c.args.pair c.in-Some.declared.now refl h.0 (h.1 c.in-Some.declared.now))

pub returns-in-None : goal.returns-in-None
returns-in-None c = no_texts enum_row (λ (e : FlatEnumRow). names_of e.values) c.args.enums.now c.args.enums.now c.args.pair refl (let h = c.in-None.ensures.lookup in search rules)
