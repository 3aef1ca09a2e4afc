use Rattle.prost_reflect_lists.proofs.Common.{rules, arith, map, length, length-map, message_row, definition_row, DefinitionRow}
use Rattle.prost_reflect_types.specs.declared.FieldDescriptorProto.{FieldDescriptorProto}
use Rattle.prost_reflect_growth.proofs.GatheredFrom.{shown_from}
use Rattle.prost_reflect_lists.proofs.lists.inner_extensions.Goals as goal

pub returns : goal.returns
returns c =
    let flat = c.args.flat.now in
    let owner = λ (d : DefinitionRow FieldDescriptorProto). d.parent in
    shown_from definition_row owner flat.extensions.items _ _ _ _ _ _ (length (map message_row flat.messages.items)) _ c.as_slice.ensures.value c.extension_count.ensures c.message_count.ensures
    (omega (arith, c.len.ensures, flat.messages.ok.0, length-map flat.messages.items message_row))
    (c.in_ok-gathered.ensures (λ x. owner (definition_row x)) (λ x r h. search rules))
