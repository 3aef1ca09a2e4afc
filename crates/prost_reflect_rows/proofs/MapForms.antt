-- The forms of fields, by their rows.
use Rattle.std.specs.Prelude.{◌≡◌}
use Rattle.prost_reflect_rows.proofs.Common.{true, false, Option, Some, None, refl, ap, ◌∙◌, is_some, option_map, is_map, Cardinality, FieldRow, TableRows, is_linked, form_of, schema_field, map_parts}
use Rattle.prost_reflect_tables.specs.declared.tables.Cardinality.TheVariants.{Optional, Required, Repeated as RepeatedLabel}
use Rattle.prost_reflect_rows.proofs.RowKinds.{no_map}
use Rattle.prost_reflect_rows.proofs.MapRows.{shown_map}

-- in linked rows a field is a map where it has parts
pub map_is : (rows : TableRows) (row : FieldRow) → is_linked rows ≡ true → is_map (schema_field rows row).form ≡ is_some (map_parts rows row)
map_is rows row linked = go (map_parts rows row) refl
  where
    bare : (c : Cardinality) → is_map (form_of rows.enums row c None) ≡ false
    bare Optional = refl
    bare Required = refl
    bare RepeatedLabel = refl

    go : (o : Option (FieldRow × FieldRow)) → map_parts rows row ≡ o → is_map (schema_field rows row).form ≡ is_some o
    go None e = ap (λ entry. is_map (form_of rows.enums row row.cardinality entry)) (no_map rows row linked e) ∙ bare row.cardinality
    go (Some (key, value)) e = ap is_map (shown_map rows row key value e).form

pub some_mapped : {A B : Type 0} (f : A → B) (o : Option A) → is_some o ≡ is_some (option_map f o)
some_mapped f None = refl
some_mapped f (Some x) = refl
