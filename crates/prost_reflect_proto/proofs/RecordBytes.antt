-- The bytes that are written of a descriptor record, from those of its fields.
use Rattle.std.specs.Prelude.{◌≡◌, ◌∷◌, ◌++◌}
use Rattle.prost_reflect_proto.proofs.Common.{ℕ, List, [], map, Option, Some, None, refl, sym, ap, ◌∙◌, subst, append_assoc, record_at, spelled, Field, field_of, known, Value, then_value, encoded, entries_records, field_payloads, rows, type_place, field_of_row, record_schema, entries_from, record_content, field_bytes, Adds, FieldKind, RecordType}
use Rattle.prost_reflect_types.specs.declared.table.RecordType.TheVariants as types
use Rattle.prost_reflect_types.proofs.RecordSlots.{Slots}
use Rattle.prost_reflect_laws.proofs.WrittenEntries.{spelled_append}

-- The fields in front of what is there.
abbrev pub fields_before : List (ℕ × FieldKind) → Slots → List ℕ → List ℕ
fields_before [] slots done = done
fields_before (row ∷ rows) [] done = done
fields_before (row ∷ rows) (slot ∷ slots) done = field_bytes row.0 row.1 slot.1 ++ fields_before rows slots done

abbrev pub AllFound : List Field → List (ℕ × FieldKind) → Type 0
AllFound fields [] = Unit {0}
AllFound fields (row ∷ rows) = (field_of fields row.0 ≡ Some (field_of_row row)) × AllFound fields rows

abbrev pub SameNumbers : List (ℕ × FieldKind) → Slots → Type 0
SameNumbers [] [] = Unit {0}
SameNumbers [] (slot ∷ slots) = ⊥
SameNumbers (row ∷ rows) [] = ⊥
SameNumbers (row ∷ rows) (slot ∷ slots) = (row.0 ≡ slot.0) × SameNumbers rows slots

-- each row of a type is a field of it
pub rows_found : (t : RecordType) → AllFound (known record_schema (type_place t)) (rows t)
unfolding record_schema
rows_found types.ExtensionRange = (refl, (refl, (refl, tt)))
rows_found types.ReservedRange = (refl, (refl, tt))
rows_found types.Field = (refl, (refl, (refl, (refl, (refl, (refl, (refl, (refl, (refl, (refl, (refl, tt)))))))))))
rows_found types.Oneof = (refl, (refl, tt))
rows_found types.EnumReservedRange = (refl, (refl, tt))
rows_found types.EnumValue = (refl, (refl, (refl, tt)))
rows_found types.Enum = (refl, (refl, (refl, (refl, (refl, tt)))))
rows_found types.Method = (refl, (refl, (refl, (refl, (refl, (refl, tt))))))
rows_found types.Service = (refl, (refl, (refl, tt)))
rows_found types.Message = (refl, (refl, (refl, (refl, (refl, (refl, (refl, (refl, (refl, (refl, tt))))))))))
rows_found types.File = (refl, (refl, (refl, (refl, (refl, (refl, (refl, (refl, (refl, (refl, (refl, (refl, tt))))))))))))
rows_found types.FileSet = (refl, tt)

first_field : (fields : List Field) (row : ℕ × FieldKind) (n : ℕ) (o : Option Value) (more done : List ℕ) (slots : Slots) → field_of fields row.0 ≡ Some (field_of_row row) → row.0 ≡ n → more ≡ spelled (entries_records fields (entries_from slots)) ++ done →
    field_bytes row.0 row.1 o ++ more ≡ spelled (entries_records fields (then_value n o (entries_from slots))) ++ done
unfolding field_bytes
first_field fields row n None more done slots found same rest = rest
first_field fields row n (Some v) more done slots found same rest =
    ap (λ (l : List ℕ). spelled (map (record_at row.0) (field_payloads (Some (field_of_row row)) v)) ++ l) rest
    ∙ ap (λ o. spelled (map (record_at row.0) (field_payloads o v)) ++ (spelled (entries_records fields (entries_from slots)) ++ done)) (sym found)
    ∙ ap (λ n. spelled (map (record_at n) (field_payloads (field_of fields n) v)) ++ (spelled (entries_records fields (entries_from slots)) ++ done)) same
    ∙ sym (append_assoc (spelled (map (record_at n) (field_payloads (field_of fields n) v))) (spelled (entries_records fields (entries_from slots))) done)
    ∙ ap (λ (l : List ℕ). l ++ done) (sym (spelled_append (map (record_at n) (field_payloads (field_of fields n) v)) (entries_records fields (entries_from slots))))

all_fields : (fields : List Field) (rows : List (ℕ × FieldKind)) (slots : Slots) (done : List ℕ) → AllFound fields rows → SameNumbers rows slots → fields_before rows slots done ≡ spelled (entries_records fields (entries_from slots)) ++ done
all_fields fields [] [] done found same = refl
all_fields fields [] (slot ∷ slots) done found same = absurd same
all_fields fields (row ∷ rows) [] done found same = absurd same
all_fields fields (row ∷ rows) (slot ∷ slots) done found same = first_field fields row slot.0 slot.1 (fields_before rows slots done) done slots found.0 same.0 (all_fields fields rows slots done found.1 same.1)

-- fields that are written one in front of another are the record
pub record_adds : {A : Type 0} (added : A → A → List ℕ → Type 0) (old new : A) (t : RecordType) (slots : Slots) → SameNumbers (rows t) slots →
    ((start : A) (done : List ℕ) → added start old done → added start new (fields_before (rows t) slots done)) → Adds added old new (encoded (record_content t slots))
record_adds added old new t slots same steps = λ start done h. subst (λ (l : List ℕ). added start new l) (all_fields (known record_schema (type_place t)) (rows t) slots done (rows_found t) same) (steps start done h)
