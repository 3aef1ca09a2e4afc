use Rattle.std.specs.Prelude.{◌++◌}
use Rattle.std.proofs.Common.{append-nil}
use Rattle.std.proofs.lemmas.Slice.Zip.{either_empty_from_Zip}
use Rattle.prost_reflect_linking.proofs.Common.{false, List, map, sym, ap, ◌∙◌, DefinitionRow, definition_row, field_row}
use Rattle.prost_reflect_types.specs.declared.FieldDescriptorProto.{FieldDescriptorProto}
use Rattle.prost_reflect_linking.specs.Meanings.{MeaningRow, field_meant, meaning_row}
use Rattle.prost_reflect_linking.proofs.Paired.{both_done}
use Rattle.prost_reflect_linking.proofs.link.declared_fields.Goals as goal

pub returns : goal.returns
returns c =
    let made = map field_row c.loop-definition.fields.items in
    let done = both_done definition_row meaning_row _ _ (either_empty_from_Zip c.loop-definition.definition-iterator c.next.new.self c.next.result c.in-None.is c.next.ensures.steps) in
    sym (append-nil made)
    ∙ (ap (λ (ps : List (DefinitionRow FieldDescriptorProto × MeaningRow)). made ++ map (field_meant false) ps) (sym done) ∙ c.loop-definition.invariant)
