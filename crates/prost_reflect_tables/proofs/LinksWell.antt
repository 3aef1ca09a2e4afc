-- Files that pass the checks link well.
use Rattle.std.specs.Prelude.{◌≡◌, ◌+◌, ◌&&◌, ◌||◌}
use Rattle.prost_reflect_tables.proofs.Common.{ℕ, ℤ, is_some, Bool, true, false, not, List, map, length, Option, Some, None, refl, ap, ◌∙◌, arith, slice_get, nat_eq, list_all, and_from, lt-ltb, eqb-false, length-map, list_all-map, schema_valid, FieldDescriptorProto, FileDescriptorProto, schema_from, kind_in_range, oneof_in_range, field_linked, has_entry_numbers, message_linked, enum_linked, is_linked, DefinitionRow, FlatMessageRow, FlatEnumRow, FlatRows, oneof_outside, all_numbered, is_entry, links_of, place_in, linked_field, linked_message, linked_enum, linked_rows, linked_value, in_order, oneofs_from, fields_of_message}
use Rattle.prost_reflect_tables.proofs.Linkwell.Items.{none_at, all_from, messages_all}
use Rattle.prost_reflect_tables.proofs.Linkwell.Numbers.{counted_once}
use Rattle.prost_reflect_tables.proofs.Linkwell.Premises.{Sound, FieldChecked, numbers_differ, field_checked, extension_checked, message_checked, enum_checked}
use Rattle.prost_reflect_tables.proofs.Linkwell.Kinds.{field_kind}
use Rattle.prost_reflect_tables.proofs.Linkwell.Fields.{kind_row, oneof_row, kind_there, oneof_there}
use Rattle.prost_reflect_tables.proofs.Linkwell.Messages.{fields_all, NumbersSound, numbers_ascend, oneofs_linked, oneofs_length}
use Rattle.prost_reflect_tables.proofs.Linkwell.Entries.{entry_fields, entry_numbers}
use Rattle.prost_reflect_tables.proofs.Linkwell.Schemas.{schema_shown_valid}

numbers_sound : {files : List FileDescriptorProto} (rows : FlatRows) → Sound files rows → NumbersSound rows
numbers_sound rows s = record {
  own = λ T i m d at there. (field_checked rows T i m d s at there).number;
  extensions = λ i d at. (extension_checked rows i d s at).field.number;
  once = λ n. counted_once n (all_numbered rows) (numbers_differ rows s);
}

-- The place of a kind and that of a oneof are there.
field_there : (rows : FlatRows) (oneofs : ℕ) (x : Bool) (d : DefinitionRow FieldDescriptorProto) → FieldChecked rows d → oneof_in_range oneofs (place_in d.proto.oneof_index) ≡ true → field_linked (length (linked_rows rows).messages) (length (linked_rows rows).enums) oneofs (linked_field (links_of rows) x d) ≡ true
field_there rows oneofs x d h oneof =
    let f = linked_field (links_of rows) x d in
    and_from (kind_in_range (length (linked_rows rows).messages) (length (linked_rows rows).enums) f.kind) (oneof_in_range oneofs f.oneof)
    (ap (kind_in_range (length (linked_rows rows).messages) (length (linked_rows rows).enums)) (kind_row (links_of rows) x d) ∙ kind_there rows d (field_kind rows d h.type_there h.type_found))
    (ap (oneof_in_range oneofs) (oneof_row (links_of rows) x d) ∙ oneof)

no_oneof : (count : ℕ) (o : Option ℤ) → is_some o ≡ false → oneof_in_range count (place_in o) ≡ true
no_oneof count None h = refl
no_oneof count (Some z) h = absurd cc

fields_there : {files : List FileDescriptorProto} (rows : FlatRows) (T : ℕ) (m : FlatMessageRow) → Sound files rows → slice_get rows.messages T ≡ Some m →
    list_all (field_linked (length (linked_rows rows).messages) (length (linked_rows rows).enums) (length m.oneofs)) (in_order (fields_of_message (links_of rows) rows.extensions (0 + T) m)) ≡ true
fields_there rows T m s at =
    fields_all (field_linked (length (linked_rows rows).messages) (length (linked_rows rows).enums) (length m.oneofs)) (links_of rows) rows.extensions (0 + T) m
    (λ i d there. field_there rows (length m.oneofs) false d (field_checked rows T i m d s at there)
    (oneof_there (length m.oneofs) d.proto.oneof_index (none_at (λ (f : DefinitionRow FieldDescriptorProto). oneof_outside (length m.oneofs) f.proto.oneof_index) m.fields i d (message_checked rows T m s at).oneofs there)))
    (λ i d there is. let e = extension_checked rows i d s there in field_there rows (length m.oneofs) true d e.field (no_oneof (length m.oneofs) d.proto.oneof_index e.alone))

-- An entry has its numbers.
entry_there : {files : List FileDescriptorProto} (rows : FlatRows) (T : ℕ) (m : FlatMessageRow) → Sound files rows → slice_get rows.messages T ≡ Some m → (not (is_entry m) || has_entry_numbers (in_order (fields_of_message (links_of rows) rows.extensions (0 + T) m))) ≡ true
entry_there rows T m s at = go (is_entry m) refl
  where
    go : (b : Bool) → is_entry m ≡ b → (not b || has_entry_numbers (in_order (fields_of_message (links_of rows) rows.extensions (0 + T) m))) ≡ true
    go true is = entry_numbers rows T m (entry_fields rows T m at (message_checked rows T m s at).entry is (λ i d there. (extension_checked rows i d s there).inside))
    go false is = refl

message_there : {files : List FileDescriptorProto} (rows : FlatRows) (T : ℕ) (m : FlatMessageRow) → Sound files rows → slice_get rows.messages T ≡ Some m →
    message_linked (length (linked_rows rows).messages) (length (linked_rows rows).enums) (linked_message (fields_of_message (links_of rows) rows.extensions (0 + T) m) m) ≡ true
unfolding linked_message
message_there rows T m s at =
    let fields = in_order (fields_of_message (links_of rows) rows.extensions (0 + T) m) in
    let oneofs : length (oneofs_from fields m.fields 0 m.oneofs) ≡ length m.oneofs = oneofs_length fields m.fields 0 m.oneofs in
    let places : list_all (field_linked (length (linked_rows rows).messages) (length (linked_rows rows).enums) (length (oneofs_from fields m.fields 0 m.oneofs))) fields ≡ true =
    ap (λ (n : ℕ). list_all (field_linked (length (linked_rows rows).messages) (length (linked_rows rows).enums) n) fields) oneofs ∙ fields_there rows T m s at in
    rw (numbers_ascend rows T m (numbers_sound rows s) at, places, oneofs_linked (links_of rows) rows.extensions (0 + T) m) (entry_there rows T m s at)

enums_there : {files : List FileDescriptorProto} (rows : FlatRows) → Sound files rows → list_all enum_linked (linked_rows rows).enums ≡ true
enums_there rows s = list_all-map enum_linked linked_enum rows.enums ∙ all_from (λ (e : FlatEnumRow). enum_linked (linked_enum e)) rows.enums (λ E e at. some e (enum_checked rows E e s at).some)
  where
    some : (e : FlatEnumRow) → nat_eq (length e.values) 0 ≡ false → enum_linked (linked_enum e) ≡ true
    some e h = lt-ltb 0 (length (map linked_value e.values)) (omega (arith, eqb-false (length e.values) 0 h, length-map e.values linked_value))

pub links_well : {files : List FileDescriptorProto} (rows : FlatRows) → Sound files rows → is_linked (linked_rows rows) ≡ true
links_well rows s =
    and_from (list_all (message_linked (length (linked_rows rows).messages) (length (linked_rows rows).enums)) (linked_rows rows).messages && list_all enum_linked (linked_rows rows).enums) (schema_valid (schema_from (linked_rows rows)))
    (and_from (list_all (message_linked (length (linked_rows rows).messages) (length (linked_rows rows).enums)) (linked_rows rows).messages) (list_all enum_linked (linked_rows rows).enums)
    (messages_all (message_linked (length (linked_rows rows).messages) (length (linked_rows rows).enums)) (links_of rows) rows.extensions 0 rows.messages (λ T m at. message_there rows T m s at)) (enums_there rows s))
    (schema_shown_valid rows s (numbers_sound rows s))
