use Rattle.std.specs.Prelude.{◌≡◌, ◌+◌, ◌<◌, ◌++◌}
use Rattle.prost_reflect_sorted.proofs.Common.{ℕ, List, length, map, drop, get_or, sym, ap, ◌∙◌, append_assoc, FlatEnumRow, definition_row, enum_row, pairs_at, pairs_from, all_shown, front_left}
use Rattle.prost_reflect_types.specs.declared.EnumValueDescriptorProto.{EnumValueDescriptorProto}
use Rattle.prost_reflect_flat.specs.declared.definitions.Definition.{Definition}
use Rattle.prost_reflect_flat.specs.declared.definitions.FlatEnum.{FlatEnum}
use Rattle.prost_reflect_sorted.proofs.values.value_places.Goals as goal

abbrev left : ℕ → List FlatEnum → List (ℕ × ℕ)
left i enums = pairs_from i (map (λ (e : FlatEnumRow). e.values) (map enum_row enums))

-- The values of one enum more.
enum_more : (pairs new : List (ℕ × ℕ)) (enums : List FlatEnum) (i : ℕ) (e : FlatEnum) (values : List (Definition EnumValueDescriptorProto)) → i < length enums → e ≡ get_or enums i e → values ≡ e.values.items → new ≡ pairs ++ pairs_at i values →
    new ++ left (i + 1) (drop (i + 1) enums) ≡ pairs ++ left i (drop i enums)
enum_more pairs new enums i e values h is same more =
    let rest : List (ℕ × ℕ) = left (i + 1) (drop (i + 1) enums) in
    ap (λ (ps : List (ℕ × ℕ)). ps ++ rest) (more ∙ ap (λ (vs : List (Definition EnumValueDescriptorProto)). pairs ++ pairs_at i vs) same)
    ∙ (ap (λ (ps : List ℕ). (pairs ++ map (λ (place : ℕ). (i, place)) ps) ++ rest) (all_shown definition_row e.values.items)
    ∙ (append_assoc pairs (pairs_at i (map definition_row e.values.items)) rest
    ∙ sym (ap (λ (es : List FlatEnum). pairs ++ left i es) (front_left enums i e h is))))

pub loop-list-preserved : goal.loop-list-preserved
loop-list-preserved c =
    enum_more c.loop-list.pairs.items _ c.args.enums.now c.loop-list.list c.index-enums-list.result _ c.loop-list-test.true c.index-enums-list.is c.as_slice.ensures.value c.in_ok-add_pairs.ensures
    ∙ c.loop-list.invariant
