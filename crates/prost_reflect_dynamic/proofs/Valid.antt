-- Which values a field takes, by its row.
use Rattle.std.specs.Prelude.{◌≡◌, ◌&&◌, ◌∷◌}
use Rattle.prost_reflect_dynamic.proofs.Common.{Bool, true, false, List, [], map, Option, Some, None, refl, ap, ap₂, sym, ◌∙◌, true≢false, list_all, Scalar, Kind, ValueType, FieldForm, MapFrom, ScalarValue, MessageValue, ListValue, MapValue, Values, NoValues, Item, Pairs, NoPairs, Pair, values_from, element_valid, elements_valid, kind_takes, pairs_valid, value_valid, Cardinality, TableKind, is_linked, is_repeated, FieldRow, EnumRow, MessageRow, TableRows, own_type, schema_kind, value_type_of, form_of, schema_field, map_parts, value_of, key_of, pairs_from, MapKey, Value}
use Rattle.prost_reflect_wire.specs.Content as content
use Rattle.prost_reflect_tables.specs.declared.tables.Cardinality.TheVariants.{Optional, Required, Repeated as RepeatedLabel}
use Rattle.prost_reflect_tables.specs.declared.tables.TableKind.TheVariants.{Message}
use Rattle.prost_reflect_dynamic.specs.Valid.{list_fits, map_fits, entries_fit, pair_fits}
use Rattle.prost_reflect_rows.proofs.RowKinds.{no_map}
use Rattle.prost_reflect_rows.proofs.MapRows.{shown_map}

-- LISTS AND MAPS

pub elements_are : (kind : Kind) (vs : List Value) → list_all (λ v. element_valid kind (value_of v)) vs ≡ elements_valid kind (values_from (map value_of vs))
elements_are kind [] = refl
elements_are kind (v ∷ vs) = ap (λ b. element_valid kind (value_of v) && b) (elements_are kind vs)

pub pairs_are : (key kind : Kind) (es : List (MapKey × Value)) → list_all (pair_fits key kind) es ≡ entries_fit key kind (pairs_from (map (λ (e : MapKey × Value). (e.0, value_of e.1)) es))
pairs_are key kind [] = refl
pairs_are key kind (e ∷ es) = ap (λ b. (kind_takes key (key_of e.0) && element_valid kind (value_of e.1)) && b) (pairs_are key kind es)

-- GROUPS

-- a kind takes the same where its messages are groups
pub same_takes : (enums : List EnumRow) (kind : TableKind) (g : Bool) (s : Scalar) → kind_takes (schema_kind enums kind false) s ≡ kind_takes (schema_kind enums kind g) s
same_takes enums (Message T) true s = refl
same_takes enums (Message T) false s = refl
same_takes enums kind g s = refl

pub same_element : (enums : List EnumRow) (kind : TableKind) (g : Bool) (v : content.Value) → element_valid (schema_kind enums kind false) v ≡ element_valid (schema_kind enums kind g) v
same_element enums (Message T) true (ScalarValue s) = refl
same_element enums (Message T) true (MessageValue c) = refl
same_element enums (Message T) true (ListValue vs) = refl
same_element enums (Message T) true (MapValue ps) = refl
same_element enums (Message T) false v = refl
same_element enums kind g v = refl

same_elements : (enums : List EnumRow) (kind : TableKind) (g : Bool) (vs : Values) → elements_valid (schema_kind enums kind false) vs ≡ elements_valid (schema_kind enums kind g) vs
same_elements enums kind g NoValues = refl
same_elements enums kind g (Item v vs) = ap₂ (λ a b. a && b) (same_element enums kind g v) (same_elements enums kind g vs)

same_pairs : (enums : List EnumRow) (key value : FieldRow) (ps : Pairs) → entries_fit (schema_kind enums key.kind false) (schema_kind enums value.kind false) ps ≡ pairs_valid (MapFrom (own_type enums key)) (own_type enums value).kind ps
same_pairs enums key value NoPairs = refl
same_pairs enums key value (Pair k v ps) = ap₂ (λ a b. a && b) (ap₂ (λ a b. a && b) (same_takes enums key.kind key.is_group k) (same_element enums value.kind value.is_group v)) (same_pairs enums key value ps)

-- FORMS

abbrev shaped : TableRows → FieldRow → Cardinality → Option MessageRow → content.Value → Bool
shaped rows row c o v = value_valid (record (schema_field rows row) { form = form_of rows.enums row c o; value_type = value_type_of rows.enums row o }) v

-- a list
pub list_valid : (rows : TableRows) (row : FieldRow) (v : content.Value) → is_linked rows ≡ true → is_repeated row.cardinality ≡ true → None ≡ map_parts rows row → list_fits (schema_kind rows.enums row.kind false) v ≡ value_valid (schema_field rows row) v
list_valid rows row v linked many none =
    by v ∙ go row.cardinality many v ∙ ap (λ o. shaped rows row row.cardinality o v) (sym (no_map rows row linked (sym none)))
  where
    by : (v : content.Value) → list_fits (schema_kind rows.enums row.kind false) v ≡ list_fits (own_type rows.enums row).kind v
    by (ScalarValue s) = refl
    by (MessageValue m) = refl
    by (ListValue vs) = same_elements rows.enums row.kind row.is_group vs
    by (MapValue ps) = refl

    go : (c : Cardinality) → is_repeated c ≡ true → (v : content.Value) → list_fits (own_type rows.enums row).kind v ≡ shaped rows row c None v
    go RepeatedLabel m (ScalarValue s) = refl
    go RepeatedLabel m (MessageValue c) = refl
    go RepeatedLabel m (ListValue vs) = refl
    go RepeatedLabel m (MapValue ps) = refl
    go Optional m v = absurd (true≢false (sym m))
    go Required m v = absurd (true≢false (sym m))

-- a map
pub map_valid : (rows : TableRows) (row key value : FieldRow) (v : content.Value) → map_parts rows row ≡ Some (key, value) → map_fits (schema_kind rows.enums key.kind false) (schema_kind rows.enums value.kind false) v ≡ value_valid (schema_field rows row) v
map_valid rows row key value v parts =
    let shown = shown_map rows row key value parts in
    by v ∙ sym (ap₂ (λ (form : FieldForm) (type : ValueType). value_valid (record (schema_field rows row) { form = form; value_type = type }) v) shown.form shown.type)
  where
    by : (v : content.Value) → map_fits (schema_kind rows.enums key.kind false) (schema_kind rows.enums value.kind false) v ≡ value_valid (record (schema_field rows row) { form = MapFrom (own_type rows.enums key); value_type = own_type rows.enums value }) v
    by (ScalarValue s) = refl
    by (MessageValue c) = refl
    by (ListValue vs) = refl
    by (MapValue ps) = same_pairs rows.enums key value ps
