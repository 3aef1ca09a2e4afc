-- What the checks say of each message, enum, field and extension.
use Rattle.std.specs.Prelude.{◌≡◌, ◌||◌}
use Rattle.prost_reflect_tables.proofs.Common.{ℕ, Bool, true, false, List, map, Some, refl, sym, ◌∙◌, slice_get, list_any, list_all, or_parts, list_all-map, in_i32, FileDescriptorProto, FieldDescriptorProto, PoolError, DefinitionRow, FlatMessageRow, FlatEnumRow, FlatServiceRow, FlatRows, any_field, number_bad, type_missing, type_unknown, extendee_missing, extendee_unknown, repeated_member, is_member, has_oneof_outside, import_outside, enum_empty, extension_outside, duplicate_number, bad_map_entry, entry_bad, wrongly_of_entry, is_of_entry, method_of_entry, default_bad, default_misplaced, Links, links_of, value_number, linked_value, linked_enum, linked_rows, has_fault, Checked, EnumValueRow}
use Rattle.prost_reflect_tables.specs.declared.error.PoolError.TheVariants as errors
use Rattle.prost_reflect_tables.specs.InRange.{enum_in_range, in_range}
use Rattle.prost_reflect_tables.proofs.Keeping.{passes_at}
use Rattle.prost_reflect_tables.proofs.Linkwell.Items.{none_at}

-- Files that pass the checks, of which the code's types say what they do.
pub record Sound (files : List FileDescriptorProto) (rows : FlatRows) : Type 0 where
  pub checked : Checked files rows
  pub range : in_range (linked_rows rows) ≡ true

no_fault : {files : List FileDescriptorProto} {rows : FlatRows} → Sound files rows → (e : PoolError) → has_fault e files rows ≡ false
no_fault s e = s.checked e

pub record FieldChecked (rows : FlatRows) (d : DefinitionRow FieldDescriptorProto) : Type 0 where
  pub number : number_bad d ≡ false
  pub type_there : type_missing d ≡ false
  pub type_found : type_unknown rows d ≡ false
  pub member : repeated_member d ≡ false
  pub entry : wrongly_of_entry rows d ≡ false
  pub default : default_misplaced d ≡ false

pub record ExtensionChecked (rows : FlatRows) (d : DefinitionRow FieldDescriptorProto) : Type 0 where
  pub field : FieldChecked rows d
  pub extendee : extendee_missing d ≡ false
  pub extendee_found : extendee_unknown rows d ≡ false
  pub alone : is_member d ≡ false
  pub no_entry : is_of_entry rows d ≡ false
  pub inside : extension_outside rows d ≡ false

pub record MessageChecked (m : FlatMessageRow) : Type 0 where
  pub oneofs : has_oneof_outside m ≡ false
  pub entry : entry_bad m ≡ false

pub record EnumChecked (e : FlatEnumRow) : Type 0 where
  pub some : enum_empty e ≡ false
  pub range : list_all (λ v. in_i32 (value_number v)) e.values ≡ true

pub numbers_differ : {files : List FileDescriptorProto} (rows : FlatRows) → Sound files rows → duplicate_number rows ≡ false
numbers_differ rows s = no_fault s errors.DuplicateNumber

-- A test of all fields, at a field of a message and at an extension.
field_at : (t : DefinitionRow FieldDescriptorProto → Bool) (rows : FlatRows) (T i : ℕ) (m : FlatMessageRow) (d : DefinitionRow FieldDescriptorProto) → any_field t rows ≡ false → slice_get rows.messages T ≡ Some m → slice_get m.fields i ≡ Some d → t d ≡ false
field_at t rows T i m d h at there = none_at t m.fields i d (none_at (λ (m : FlatMessageRow). list_any t m.fields) rows.messages T m (or_parts (list_any (λ (m : FlatMessageRow). list_any t m.fields) rows.messages) (list_any t rows.extensions) h).0 at) there

extension_at : (t : DefinitionRow FieldDescriptorProto → Bool) (rows : FlatRows) (i : ℕ) (d : DefinitionRow FieldDescriptorProto) → any_field t rows ≡ false → slice_get rows.extensions i ≡ Some d → t d ≡ false
extension_at t rows i d h at = none_at t rows.extensions i d (or_parts (list_any (λ (m : FlatMessageRow). list_any t m.fields) rows.messages) (list_any t rows.extensions) h).1 at

well_placed : (links : Links) (d : DefinitionRow FieldDescriptorProto) → default_bad links d ≡ false → default_misplaced d ≡ false
unfolding default_bad
well_placed links d h = (or_parts (default_misplaced d) _ h).0

wrong_needs_entry : (rows : FlatRows) (d : DefinitionRow FieldDescriptorProto) → is_of_entry rows d ≡ false → wrongly_of_entry rows d ≡ false
wrong_needs_entry rows d h = rw h refl

-- The parts of tests that are joined by `||`.
pub three : (a b c : Bool) → (a || b || c) ≡ false → (a ≡ false) × (b ≡ false) × (c ≡ false)
three false false c h = (refl, refl, h)
three _ _ c h = absurd cc

four : (a b c d : Bool) → (a || b || c || d) ≡ false → (a ≡ false) × (b ≡ false) × (c ≡ false) × (d ≡ false)
four false false false d h = (refl, refl, refl, h)
four _ _ _ d h = absurd cc

entry_parts : (rows : FlatRows) → bad_map_entry rows ≡ false → (list_any entry_bad rows.messages ≡ false) × (list_any (λ (m : FlatMessageRow). list_any (wrongly_of_entry rows) m.fields) rows.messages ≡ false) × (list_any (is_of_entry rows) rows.extensions ≡ false)
entry_parts rows h =
    let parts = four (list_any entry_bad rows.messages) (list_any (λ (m : FlatMessageRow). list_any (wrongly_of_entry rows) m.fields) rows.messages) (list_any (is_of_entry rows) rows.extensions) (list_any (λ (s : FlatServiceRow). list_any (method_of_entry rows) s.methods) rows.services) h in
    (parts.0, parts.1, parts.2)

pub entry_checked : {files : List FileDescriptorProto} (rows : FlatRows) (T : ℕ) (m : FlatMessageRow) → Checked files rows → slice_get rows.messages T ≡ Some m → entry_bad m ≡ false
entry_checked rows T m checked at = none_at entry_bad rows.messages T m (entry_parts rows (checked errors.BadMapEntry)).0 at

pub message_checked : {files : List FileDescriptorProto} (rows : FlatRows) (T : ℕ) (m : FlatMessageRow) → Sound files rows → slice_get rows.messages T ≡ Some m → MessageChecked m
message_checked {files} rows T m s at = record {
  oneofs = none_at has_oneof_outside rows.messages T m (or_parts (list_any import_outside files) _ (no_fault s errors.BadIndex)).1 at;
  entry = entry_checked rows T m s.checked at;
}

pub enum_checked : {files : List FileDescriptorProto} (rows : FlatRows) (E : ℕ) (e : FlatEnumRow) → Sound files rows → slice_get rows.enums E ≡ Some e → EnumChecked e
enum_checked rows E e s at = record {
  some = none_at enum_empty rows.enums E e (no_fault s errors.EmptyEnum) at;
  range = sym (list_all-map in_i32 (λ (v : EnumValueRow). v.number) (map linked_value e.values) ∙ list_all-map (λ (v : EnumValueRow). in_i32 v.number) linked_value e.values) ∙ passes_at (λ (x : FlatEnumRow). enum_in_range (linked_enum x)) rows.enums E e (sym (list_all-map enum_in_range linked_enum rows.enums) ∙ s.range) at;
}

pub field_checked : {files : List FileDescriptorProto} (rows : FlatRows) (T i : ℕ) (m : FlatMessageRow) (d : DefinitionRow FieldDescriptorProto) → Sound files rows → slice_get rows.messages T ≡ Some m → slice_get m.fields i ≡ Some d → FieldChecked rows d
field_checked rows T i m d s at there = record {
  number = field_at number_bad rows T i m d (no_fault s errors.BadNumber) at there;
  type_there = field_at type_missing rows T i m d (three _ _ _ (no_fault s errors.MissingType)).0 at there;
  type_found = field_at (type_unknown rows) rows T i m d (three _ _ _ (no_fault s errors.UnknownType)).0 at there;
  member = field_at repeated_member rows T i m d (or_parts _ _ (no_fault s errors.BadOneof)).0 at there;
  entry = none_at (wrongly_of_entry rows) m.fields i d (none_at (λ (m : FlatMessageRow). list_any (wrongly_of_entry rows) m.fields) rows.messages T m (entry_parts rows (no_fault s errors.BadMapEntry)).1 at) there;
  default = well_placed (links_of rows) d (field_at (default_bad (links_of rows)) rows T i m d (no_fault s errors.BadDefault) at there);
}

pub extension_inside : {files : List FileDescriptorProto} (rows : FlatRows) (i : ℕ) (d : DefinitionRow FieldDescriptorProto) → Checked files rows → slice_get rows.extensions i ≡ Some d → extension_outside rows d ≡ false
extension_inside rows i d checked at = none_at (extension_outside rows) rows.extensions i d (checked errors.OutsideRange) at

pub extension_checked : {files : List FileDescriptorProto} (rows : FlatRows) (i : ℕ) (d : DefinitionRow FieldDescriptorProto) → Sound files rows → slice_get rows.extensions i ≡ Some d → ExtensionChecked rows d
extension_checked rows i d s at =
    let no_entry : is_of_entry rows d ≡ false = none_at (is_of_entry rows) rows.extensions i d (entry_parts rows (no_fault s errors.BadMapEntry)).2 at in
    record {
      field = record {
        number = extension_at number_bad rows i d (no_fault s errors.BadNumber) at;
        type_there = extension_at type_missing rows i d (three _ _ _ (no_fault s errors.MissingType)).0 at;
        type_found = extension_at (type_unknown rows) rows i d (three _ _ _ (no_fault s errors.UnknownType)).0 at;
        member = extension_at repeated_member rows i d (or_parts _ _ (no_fault s errors.BadOneof)).0 at;
        entry = wrong_needs_entry rows d no_entry;
        default = well_placed (links_of rows) d (extension_at (default_bad (links_of rows)) rows i d (no_fault s errors.BadDefault) at);
      };
      extendee = none_at extendee_missing rows.extensions i d (three _ _ _ (no_fault s errors.MissingType)).1 at;
      extendee_found = none_at (extendee_unknown rows) rows.extensions i d (three _ _ _ (no_fault s errors.UnknownType)).1 at;
      alone = none_at is_member rows.extensions i d (or_parts _ _ (no_fault s errors.BadOneof)).1 at;
      no_entry = no_entry;
      inside = extension_inside rows i d s.checked at;
    }
