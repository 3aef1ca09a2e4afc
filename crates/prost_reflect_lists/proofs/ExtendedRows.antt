-- What extensions extend, and where their rows stand.
use Rattle.std.specs.Prelude.{◌≡◌, ◌∷◌}
use Rattle.prost_reflect_lists.proofs.Common.{List, [], map, refl, ap, ◌∙◌, linked_extension, DefinitionRow, TableRows}
use Rattle.prost_reflect_types.specs.declared.FieldDescriptorProto.{FieldDescriptorProto}
use Rattle.prost_reflect_tables.specs.Linking.{Links}
use Rattle.prost_reflect_tables.specs.Resolved.{resolve}
use Rattle.prost_reflect_lists.specs.ExtendedRows.{ExtendedRow, extended, found_extended, placed}

found_is : (links : Links) (d : DefinitionRow FieldDescriptorProto) → found_extended (resolve links d) ≡ extended links d
unfolding resolve
found_is links d = refl

pub extended_are : (links : Links) (ds : List (DefinitionRow FieldDescriptorProto)) → map found_extended (map (resolve links) ds) ≡ map (extended links) ds
extended_are links [] = refl
extended_are links (d ∷ ds) = ap (λ (e : ExtendedRow). e ∷ map found_extended (map (resolve links) ds)) (found_is links d) ∙ ap (λ (es : List ExtendedRow). extended links d ∷ es) (extended_are links ds)

all_placed : (linked : TableRows) (links : Links) (ds : List (DefinitionRow FieldDescriptorProto)) → map (placed linked) (map (extended links) ds) ≡ map (linked_extension links linked) ds
all_placed linked links [] = refl
all_placed linked links (d ∷ ds) = ap (λ es. linked_extension links linked d ∷ es) (all_placed linked links ds)

pub extensions_placed : (linked grown : TableRows) (links : Links) (ds : List (DefinitionRow FieldDescriptorProto)) → linked ≡ grown → map (placed linked) (map (extended links) ds) ≡ map (linked_extension links grown) ds
extensions_placed linked grown links ds is = all_placed linked links ds ∙ ap (λ (r : TableRows). map (linked_extension links r) ds) is
