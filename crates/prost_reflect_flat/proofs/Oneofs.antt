-- The oneofs of a message, one more than were linked.
use Rattle.std.specs.Prelude.{◌≡◌, ◌+◌, ◌<◌, ◌∷◌, ◌++◌}
use Rattle.prost_reflect_flat.proofs.Common.{ℕ, suc, List, [], map, length, sym, ap, ◌∙◌, append_assoc, get_or, drop, drop-cons, add-one, map-append, belonging, linked_oneof, oneof_place, oneofs_from, FieldRow, OneofRow, oneof_row, FieldDescriptorProto, OneofDescriptorProto, definition_row, DefinitionRow}
use Rattle.prost_reflect_flat.specs.declared.definitions.Definition.{Definition}
use Rattle.prost_reflect_tables.specs.declared.tables.OneofTable.{OneofTable}

pub oneof_more : (fields : List FieldRow) (declared : List (DefinitionRow FieldDescriptorProto)) (tables : List OneofTable) (t : OneofTable) (ds : List (Definition OneofDescriptorProto)) (k : ℕ) (d : Definition OneofDescriptorProto) →
    k < length ds → d ≡ get_or ds k d → oneof_row t ≡ linked_oneof fields (belonging oneof_place declared k) (definition_row d) →
    map oneof_row (tables ++ t ∷ []) ++ oneofs_from fields declared (k + 1) (map definition_row (drop (k + 1) ds)) ≡ map oneof_row tables ++ oneofs_from fields declared k (map definition_row (drop k ds))
oneof_more fields declared tables t ds k d h is e =
    let front : drop k ds ≡ d ∷ drop (k + 1) ds = drop-cons ds k d h ∙ (ap (λ (x : Definition OneofDescriptorProto). x ∷ drop (suc k) ds) (sym is) ∙ ap (λ j. d ∷ drop j ds) (sym (add-one k))) in
    let rest : List OneofRow = oneofs_from fields declared (k + 1) (map definition_row (drop (k + 1) ds)) in
    ap (λ l. l ++ rest) (map-append oneof_row tables (t ∷ []))
    ∙ (append_assoc (map oneof_row tables) (oneof_row t ∷ []) rest
    ∙ (ap (λ (r : OneofRow). map oneof_row tables ++ r ∷ rest) e ∙ ap (λ (xs : List (Definition OneofDescriptorProto)). map oneof_row tables ++ oneofs_from fields declared k (map definition_row xs)) (sym front)))
