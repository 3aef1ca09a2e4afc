-- How maps from the names of enum values to their numbers grow, and what is read of them.
use Rattle.std.specs.Prelude.{◌≡◌, ◌+◌, ◌<◌, ◌≤◌, ◌∷◌, ◌++◌}
use Rattle.prost_reflect_resolving.proofs.Common.{ℕ, zero, suc, ℤ, pos, Bool, cond, true, false, List, [], length, take, get_or, map, String, Option, Some, None, unwrap_or, slice_get, refl, sym, ap, ◌∙◌, arith, bytes_eq, find, option_map, Global, take_more, map-append, EnumValueDescriptorProto, text_or_empty, EnumValueRow, FlatEnumRow, definition_row, enum_row, number_named, linked_value, IsNumbersOf, AreNumbersOf}
use Rattle.prost_reflect_resolving.proofs.Common.{BTreeMap, get_by_text}
use Rattle.prost_reflect_flat.specs.declared.definitions.Definition.{Definition}
use Rattle.prost_reflect_flat.specs.declared.definitions.FlatEnum.{FlatEnum}
use Rattle.prost_reflect_resolving.proofs.NamePlaces.{or_else}

-- ONE ENUM

abbrev is_named : List ℕ → EnumValueRow → Bool
is_named name v = bytes_eq v.id.name name

abbrev number_of : Option EnumValueRow → Option ℤ
number_of v = option_map (λ v. v.number) v

number_push : (name : List ℕ) (vs : List EnumValueRow) (v : EnumValueRow) → number_named (vs ++ v ∷ []) name ≡ or_else (number_named vs name) (cond (bytes_eq v.id.name name) (Some v.number) None)
number_push name [] v = elim (bytes_eq v.id.name name) as (λ b. number_of (cond b (Some v) None) ≡ cond b (Some v.number) None) [ true ↦ refl | false ↦ refl ]
number_push name (w ∷ vs) v =
    elim (bytes_eq w.id.name name)
    as (λ b. number_of (cond b (Some w) (find (is_named name) (vs ++ v ∷ []))) ≡ or_else (number_of (cond b (Some w) (find (is_named name) vs))) (cond (bytes_eq v.id.name name) (Some v.number) None))
    [ true ↦ refl | false ↦ number_push name vs v ]

rows_more : (ds : List (Definition EnumValueDescriptorProto)) (i : ℕ) (d : Definition EnumValueDescriptorProto) → i < length ds → d ≡ get_or ds i d →
    map linked_value (map definition_row (take (i + 1) ds)) ≡ map linked_value (map definition_row (take i ds)) ++ linked_value (definition_row d) ∷ []
rows_more ds i d h e =
    ap (λ (xs : List (Definition EnumValueDescriptorProto)). map linked_value (map definition_row xs)) (take_more ds i d h)
    ∙ (ap (map linked_value) (map-append definition_row (take i ds) (get_or ds i d ∷ []))
    ∙ (map-append linked_value (map definition_row (take i ds)) (definition_row (get_or ds i d) ∷ [])
    ∙ ap (λ (x : Definition EnumValueDescriptorProto). map linked_value (map definition_row (take i ds)) ++ linked_value (definition_row x) ∷ []) (sym e)))

-- The number of a name among one value more.
pub number_more : (name : List ℕ) (ds : List (Definition EnumValueDescriptorProto)) (i : ℕ) (d : Definition EnumValueDescriptorProto) → i < length ds → d ≡ get_or ds i d →
    number_named (map linked_value (map definition_row (take (i + 1) ds))) name
    ≡ or_else (number_named (map linked_value (map definition_row (take i ds))) name) (cond (bytes_eq (text_or_empty d.proto.now.name) name) (Some (unwrap_or d.proto.now.number (pos 0))) None)
number_more name ds i d h e = ap (λ vs. number_named vs name) (rows_more ds i d h e) ∙ number_push name (map linked_value (map definition_row (take i ds))) (linked_value (definition_row d))

-- ALL ENUMS

numbers_push : (ms : List (BTreeMap (String Global) ℤ)) (vss : List (List EnumValueRow)) (m : BTreeMap (String Global) ℤ) (vs : List EnumValueRow) → AreNumbersOf ms vss → IsNumbersOf m vs → AreNumbersOf (ms ++ m ∷ []) (vss ++ vs ∷ [])
numbers_push [] [] m vs all is = (is, tt)
numbers_push (n ∷ ms) (ws ∷ vss) m vs all is = (all.0, numbers_push ms vss m vs all.1 is)
numbers_push _ _ m vs all is = absurd all

abbrev values_of : FlatEnumRow → List EnumValueRow
values_of e = map linked_value e.values

-- The numbers of one enum more.
pub numbers_more : (ms : List (BTreeMap (String Global) ℤ)) (m : BTreeMap (String Global) ℤ) (es : List FlatEnum) (i : ℕ) (e : FlatEnum) → i < length es → e ≡ get_or es i e →
    AreNumbersOf ms (map values_of (map enum_row (take i es))) → IsNumbersOf m (values_of (enum_row e)) → AreNumbersOf (ms ++ m ∷ []) (map values_of (map enum_row (take (i + 1) es)))
numbers_more ms m es i e h same all is = rw more (numbers_push ms (map values_of (map enum_row (take i es))) m (values_of (enum_row e)) all is)
  where
    more : map values_of (map enum_row (take (i + 1) es)) ≡ map values_of (map enum_row (take i es)) ++ values_of (enum_row e) ∷ []
    more = ap (λ (xs : List FlatEnum). map values_of (map enum_row xs)) (take_more es i e h)
        ∙ (ap (map values_of) (map-append enum_row (take i es) (get_or es i e ∷ []))
        ∙ (map-append values_of (map enum_row (take i es)) (enum_row (get_or es i e) ∷ [])
        ∙ ap (λ (x : FlatEnum). map values_of (map enum_row (take i es)) ++ values_of (enum_row x) ∷ []) (sym same)))

-- A name is looked up in the map of its enum.
number_at : (ms : List (BTreeMap (String Global) ℤ)) (vss : List (List EnumValueRow)) → AreNumbersOf ms vss → (E : ℕ) (m : BTreeMap (String Global) ℤ) (name : List ℕ) → E < length ms →
    get_by_text (get_or ms E m) name ≡ number_named (unwrap_or (slice_get vss E) []) name
number_at (n ∷ ms) (vs ∷ vss) all zero m name h = all.0 name
number_at (n ∷ ms) (vs ∷ vss) all (suc E) m name h = number_at ms vss all.1 E m name (omega (arith, h))
number_at [] [] all E m name h = absurd (omega (arith, h))
number_at _ _ all E m name h = absurd all

pub number_read : (ms : List (BTreeMap (String Global) ℤ)) (vss : List (List EnumValueRow)) (E : ℕ) (m : BTreeMap (String Global) ℤ) (name : List ℕ) → AreNumbersOf ms vss → E < length ms → m ≡ get_or ms E m →
    get_by_text m name ≡ number_named (unwrap_or (slice_get vss E) []) name
number_read ms vss E m name all h e = ap (λ n. get_by_text n name) e ∙ number_at ms vss all E m name h

-- Past the last enum there is no value.
pub no_number : (ms : List (BTreeMap (String Global) ℤ)) (vss : List (List EnumValueRow)) (E : ℕ) (name : List ℕ) → AreNumbersOf ms vss → length ms ≤ E → None ≡ number_named (unwrap_or (slice_get vss E) []) name
no_number [] [] E name all h = refl
no_number (m ∷ ms) (vs ∷ vss) (suc E) name all h = no_number ms vss E name all.1 (omega (arith, h))
no_number (m ∷ ms) (vs ∷ vss) zero name all h = absurd (omega (arith, h))
no_number _ _ E name all h = absurd all
