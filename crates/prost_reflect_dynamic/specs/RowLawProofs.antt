-- The rows of fields and of extensions keep their laws. Proofs that an impl cites.
use Rattle.std.proofs.Common.{◌≡◌, ℕ, zero, suc, ◌+◌, ◌<◌, ◌^◌, Bool, true, false, not, cond, ◌&&◌, List, [], ◌∷◌, length, map, get_or, Option, Some, None, refl, ap, sym, ◌∙◌, subst, arith, true≢false}
use Rattle.std.specs.Prelude.{IsSomeAnd, is_some, option_and_then, slice_get}
use Rattle.std.specs.List.{All}
use Rattle.std.proofs.lemmas.Bool.{ltb-true, and_parts}
use Rattle.std.proofs.lemmas.List.Elements.{All-append, All-map}
use Rattle.std.proofs.lemmas.Option.{none-some, same_Some}
use Rattle.prost_reflect_types.specs.DescriptorViews.{shared_files}
use Rattle.prost_reflect_types.specs.declared.FieldDescriptorProto.{FieldDescriptorProto}
use Rattle.prost_reflect_types.specs.declared.FileDescriptorProto.{FileDescriptorProto}
use Rattle.prost_reflect_wire.specs.Schema.{Kind, ScalarOf, MessageOf, GroupOf, FieldForm, Singular, Repeated, MapFrom, Field, Schema, known, is_list, is_singular, field_valid, default_valid}
use Rattle.prost_reflect_wire.specs.Edit.{default_value}
use Rattle.prost_reflect_wire.specs.Typing.{value_valid}
use Rattle.prost_reflect_laws.proofs.Checked.{CheckedField, checked_field, checked_list, checked_map, found_valid, known_valid}
use Rattle.prost_reflect_tables.specs.Built.{AreTablesOf}
use Rattle.prost_reflect_tables.specs.CatalogRows.{ExtensionRow}
use Rattle.prost_reflect_tables.specs.declared.tables.Cardinality.{Cardinality}
use Rattle.prost_reflect_tables.specs.declared.tables.Cardinality.TheVariants.{Optional, Required, Repeated as RepeatedLabel}
use Rattle.prost_reflect_tables.specs.declared.tables.TableKind.{TableKind}
use Rattle.prost_reflect_tables.specs.declared.tables.TableKind.TheVariants as kinds
use Rattle.prost_reflect_tables.specs.Flat.{DefinitionRow, FlatMessageRow, flattened}
use Rattle.prost_reflect_tables.specs.Linked.{is_linked}
use Rattle.prost_reflect_tables.specs.Linking.{Links, links_of, is_packable, is_repeated, belonging, extended_place, linked_field, declared_fields, fields_of_message, linked_message, messages_from}
use Rattle.prost_reflect_tables.specs.Places.{fields_at, fields_or_none, is_declared}
use Rattle.prost_reflect_tables.specs.Rows.{FieldRow, MessageRow, TableRows}
use Rattle.prost_reflect_tables.specs.Shown.{schema_from, schema_field, entry_at, form_of, map_entry, value_type_of}
use Rattle.prost_reflect_tables.proofs.Built.{linked_of}
use Rattle.prost_reflect_tables.proofs.CatalogLinks.{fields_shown}
use Rattle.prost_reflect_tables.proofs.CatalogRanges.{holds_at, in_order_all}
use Rattle.prost_reflect_tables.proofs.Fields.{known_row}
use Rattle.prost_reflect_tables.proofs.Keeping.{schema_is_valid}
use Rattle.prost_reflect_pool.specs.SharedPools.{pool_catalog, pool_rows}
use Rattle.prost_reflect_pool.proofs.PoolLinks.{extension_of}
use Rattle.prost_reflect_dynamic.specs.NamedExtensions.{extension_named, extension_row_named}
use Rattle.prost_reflect_dynamic.specs.NamedField.{row_at}
use Rattle.prost_reflect_dynamic.specs.RowLaws.{DefaultFits, MemberWithPresence, NumberInRange, PackedAsList, RepeatedWithoutPresence, row_form}
use Rattle.prost_reflect_dynamic.specs.declared.descriptor.extension.ExtensionDescriptor.{ExtensionDescriptor}
use Rattle.prost_reflect_dynamic.specs.declared.descriptor.field.FieldDescriptor.{FieldDescriptor}
use Rattle.prost_reflect_dynamic.specs.declared.descriptor.pool.DescriptorPool.{DescriptorPool}

-- LABELS

-- What is repeated has no presence, and only what is repeated, and of a packable kind, is packed.
pub record LabelKept (f : FieldRow) : Type 0 where
  pub presence : is_repeated f.cardinality ≡ true → f.supports_presence ≡ false
  pub packed : f.is_packed ≡ true → (is_repeated f.cardinality ≡ true) × (is_packable f.kind ≡ true)

no_presence : (many rest : Bool) → many ≡ true → (not many && rest) ≡ false
no_presence true rest h = refl
no_presence false rest h = absurd (true≢false (sym h))

linked_kept : (links : Links) (is_extension : Bool) (d : DefinitionRow FieldDescriptorProto) → LabelKept (linked_field links is_extension d)
unfolding linked_field
linked_kept links is_extension d = record { presence = λ many. no_presence _ _ many; packed = λ is. and_parts _ _ (and_parts _ _ is).0 }

mapped_kept : (links : Links) (is_extension : Bool) (ds : List (DefinitionRow FieldDescriptorProto))
    → All LabelKept (map (linked_field links is_extension) ds)
mapped_kept links is_extension ds = All-map LabelKept (linked_field links is_extension) ds (λ k d within. linked_kept links is_extension (get_or ds k d))

message_kept : (links : Links) (extensions : List (DefinitionRow FieldDescriptorProto)) (T : ℕ) (m : FlatMessageRow)
    → All LabelKept (linked_message (fields_of_message links extensions T m) m).fields
message_kept links extensions T m =
    subst (All LabelKept) (sym (fields_shown (fields_of_message links extensions T m) m))
    (in_order_all LabelKept (fields_of_message links extensions T m) (All-append LabelKept (declared_fields links m.fields) (map (linked_field links true) (belonging (extended_place links) extensions T)) (mapped_kept links false m.fields) (mapped_kept links true (belonging (extended_place links) extensions T))))

messages_kept : (links : Links) (extensions : List (DefinitionRow FieldDescriptorProto)) (T : ℕ)
    (ms : List FlatMessageRow) (i : ℕ) (m : MessageRow)
    → slice_get (messages_from links extensions T ms) i ≡ Some m
    → All LabelKept m.fields
messages_kept links extensions T [] i m e = absurd (none-some m e)
messages_kept links extensions T (x ∷ ms) zero m e = subst (λ (r : MessageRow). All LabelKept r.fields) (same_Some (linked_message (fields_of_message links extensions T x) x) m e) (message_kept links extensions T x)
messages_kept links extensions T (x ∷ ms) (suc i) m e = messages_kept links extensions (T + 1) ms i m e

label_at : (files : List FileDescriptorProto) (rows : TableRows) (T i : ℕ) (f : FieldRow) → AreTablesOf files rows
    → slice_get (fields_at rows T) i ≡ Some f
    → LabelKept f
label_at files rows T i f built at = of (slice_get rows.messages T) refl at
  where
    of : (o : Option MessageRow) → slice_get rows.messages T ≡ o → slice_get (fields_or_none o) i ≡ Some f → LabelKept f
    of None there e = absurd (none-some f e)
    of (Some m) there e =
        holds_at LabelKept m.fields i f (messages_kept (links_of (flattened files)) (flattened files).extensions 0 (flattened files).messages T m (ap (λ (r : TableRows). slice_get r.messages T) (sym (linked_of files rows built)) ∙ there)) e

-- FORMS

repeated_label : (rows : TableRows) (row : FieldRow) → is_singular (schema_field rows row).form ≡ false → is_repeated row.cardinality ≡ true
repeated_label rows row many = go row.cardinality (map_entry rows.messages row row.cardinality) many
  where
    go : (c : Cardinality) (entry : Option MessageRow) → is_singular (form_of rows.enums row c entry) ≡ false → is_repeated c ≡ true
    go Optional entry h = absurd (true≢false h)
    go Required entry h = absurd (true≢false h)
    go RepeatedLabel entry h = refl

own_presence : (rows : TableRows) (row : FieldRow) → is_singular (schema_field rows row).form ≡ true
    → (schema_field rows row).value_type.presence ≡ row.supports_presence
own_presence rows row single = go row.cardinality single
  where
    listed : (entry : Option MessageRow) → is_singular (form_of rows.enums row RepeatedLabel entry) ≡ true → ⊥
    listed None h = true≢false (sym h)
    listed (Some m) h = true≢false (sym h)

    go : (c : Cardinality) → is_singular (form_of rows.enums row c (map_entry rows.messages row c)) ≡ true
        → (value_type_of rows.enums row (map_entry rows.messages row c)).presence ≡ row.supports_presence
    go Optional h = refl
    go Required h = refl
    go RepeatedLabel h = absurd (listed (map_entry rows.messages row RepeatedLabel) h)

packable_list : (rows : TableRows) (row : FieldRow) → is_repeated row.cardinality ≡ true → is_packable row.kind ≡ true
    → is_list (schema_field rows row).form ≡ true
packable_list rows row many packable = go row.cardinality many
  where
    bare : (g : Bool) (kind : TableKind) → is_packable kind ≡ true → cond g None (entry_at rows.messages kind) ≡ None
    bare true kind h = refl
    bare false (kinds.Message T) h = absurd (true≢false (sym h))
    bare false kind h = refl

    go : (c : Cardinality) → is_repeated c ≡ true → is_list (form_of rows.enums row c (map_entry rows.messages row c)) ≡ true
    go Optional h = absurd (true≢false (sym h))
    go Required h = absurd (true≢false (sym h))
    go RepeatedLabel h = ap (λ (entry : Option MessageRow). is_list (form_of rows.enums row RepeatedLabel entry)) (bare row.is_group row.kind packable)

-- ROWS

pub row_checked : (rows : TableRows) (T i : ℕ) (row : FieldRow) → is_linked rows ≡ true
    → slice_get (fields_at rows T) i ≡ Some row
    → field_valid (schema_from rows) (schema_field rows row) ≡ true
row_checked rows T i row linked at = found_valid (schema_from rows) (known (schema_from rows) T) row.number (schema_field rows row) (known_valid (schema_from rows) T (schema_is_valid rows linked)) (known_row rows T i row linked at)

-- a default fits its field
pub default_fits : (schema : Schema) (f : Field) → field_valid schema f ≡ true
    → value_valid f (default_value schema f.form f.value_type) ≡ true
default_fits schema f valid = go f.form f.value_type.kind refl refl
  where
    go : (form : FieldForm) (kind : Kind) → f.form ≡ form → f.value_type.kind ≡ kind
        → value_valid f (default_value schema f.form f.value_type) ≡ true
    go Singular (ScalarOf k) e h = rw (e, h) (ap (λ kind. default_valid kind f.value_type.default) (sym h) ∙ (checked_field schema f valid).default)
    go Singular (MessageOf T) e h = rw (e, h) refl
    go Singular (GroupOf T) e h = rw (e, h) refl
    go (Repeated packed) kind e h = rw e refl
    go (MapFrom key) kind e h = rw e refl

module _ (pool : DescriptorPool) (T i : ℕ) (row : FieldRow) (at : slice_get (fields_at (pool_rows pool.inner) T) i ≡ Some row) where
  checked : CheckedField (schema_from (pool_rows pool.inner)) (schema_field (pool_rows pool.inner) row)
  checked = checked_field (schema_from (pool_rows pool.inner)) (schema_field (pool_rows pool.inner) row) (row_checked (pool_rows pool.inner) T i row pool.inner.value.tables.linked at)

  labels : LabelKept row
  labels = label_at (shared_files pool.inner.value.files.items) (pool_rows pool.inner) T i row pool.inner.value.built at

  row_in_range : NumberInRange row
  row_in_range = (ltb-true 0 row.number (and_parts _ _ checked.number).0, ltb-true row.number (2 ^ 29) (and_parts _ _ checked.number).1)

  row_default_fits : DefaultFits pool row
  row_default_fits = default_fits (schema_from (pool_rows pool.inner)) (schema_field (pool_rows pool.inner) row) (row_checked (pool_rows pool.inner) T i row pool.inner.value.tables.linked at)

  row_without_presence : RepeatedWithoutPresence pool row
  row_without_presence many = labels.presence (repeated_label (pool_rows pool.inner) row many)

  row_packed : PackedAsList pool row
  row_packed is = ((labels.packed is).1, packable_list (pool_rows pool.inner) row (labels.packed is).0 (labels.packed is).1)

  member_single : is_some row.oneof ≡ true → is_singular (row_form pool row) ≡ true
  member_single some = go (row_form pool row) refl
    where
      go : (form : FieldForm) → row_form pool row ≡ form → is_singular (row_form pool row) ≡ true
      go Singular e = ap is_singular e
      go (Repeated packed) e = absurd (true≢false (sym (checked_list (schema_from (pool_rows pool.inner)) (schema_field (pool_rows pool.inner) row) packed checked e).alone ∙ ap not some))
      go (MapFrom key) e = absurd (true≢false (sym (checked_map (schema_from (pool_rows pool.inner)) (schema_field (pool_rows pool.inner) row) key checked e).alone ∙ ap not some))

  row_member : MemberWithPresence pool row
  row_member some = (sym (own_presence (pool_rows pool.inner) row (member_single some)) ∙ present row.oneof some checked.oneof, member_single some)
    where
      present : (o : Option ℕ) → is_some o ≡ true → elim o [ None ↦ true | Some n ↦ (schema_field (pool_rows pool.inner) row).value_type.presence && not row.is_extension ] ≡ true → (schema_field (pool_rows pool.inner) row).value_type.presence ≡ true
      present None h valid = absurd (true≢false (sym h))
      present (Some n) h valid = (and_parts _ _ valid).0

-- FIELDS

field_keeps : (x : FieldDescriptor) (P : FieldRow → Type 0) → ((row : FieldRow) → row_at x ≡ Some row → P row) → IsSomeAnd (row_at x) P
field_keeps x P h = go (row_at x) refl x.declared
  where
    go : (o : Option FieldRow) → row_at x ≡ o → is_declared o ≡ true → IsSomeAnd o P
    go None e is = absurd (true≢false (sym is))
    go (Some row) e is = h row e

pub field_in_range : (x : FieldDescriptor) → IsSomeAnd (row_at x) NumberInRange
field_in_range x = field_keeps x NumberInRange (λ row at. row_in_range x.message.pool x.message.index x.index row at)

pub field_default_fits : (x : FieldDescriptor) → IsSomeAnd (row_at x) (DefaultFits x.message.pool)
field_default_fits x = field_keeps x (DefaultFits x.message.pool) (λ row at. row_default_fits x.message.pool x.message.index x.index row at)

pub field_without_presence : (x : FieldDescriptor) → IsSomeAnd (row_at x) (RepeatedWithoutPresence x.message.pool)
field_without_presence x = field_keeps x (RepeatedWithoutPresence x.message.pool) (λ row at. row_without_presence x.message.pool x.message.index x.index row at)

pub field_packed : (x : FieldDescriptor) → IsSomeAnd (row_at x) (PackedAsList x.message.pool)
field_packed x = field_keeps x (PackedAsList x.message.pool) (λ row at. row_packed x.message.pool x.message.index x.index row at)

pub field_member : (x : FieldDescriptor) → IsSomeAnd (row_at x) (MemberWithPresence x.message.pool)
field_member x = field_keeps x (MemberWithPresence x.message.pool) (λ row at. row_member x.message.pool x.message.index x.index row at)

-- EXTENSIONS

pub some_there : {X : Type 0} (xs : List X) (i : ℕ) → i < length xs → slice_get xs i ≡ None → ⊥
some_there [] i less none = omega arith
some_there (x ∷ xs) zero less none = cc
some_there (x ∷ xs) (suc i) less none = some_there xs i (omega arith) none

pub extension_keeps : (x : ExtensionDescriptor) (P : FieldRow → Type 0)
    → ((e : ExtensionRow) (row : FieldRow) → extension_named x ≡ Some e
    → slice_get (fields_at (pool_rows x.pool.inner) e.message) e.field ≡ Some row
    → P row)
    → IsSomeAnd (extension_row_named x) P
extension_keeps x P h = go (extension_named x) refl
  where
    go : (o : Option ExtensionRow) → extension_named x ≡ o
        → IsSomeAnd (option_and_then (λ e. slice_get (fields_at (pool_rows x.pool.inner) e.message) e.field) o) P
    go None e = absurd (some_there (pool_catalog x.pool.inner).extensions x.index x.in_range e)
    go (Some r) e = subst (λ (o : Option FieldRow). IsSomeAnd o P) (sym (extension_of x.pool.inner.value x.index r e).at) (h r _ e (extension_of x.pool.inner.value x.index r e).at)

pub extension_in_range : (x : ExtensionDescriptor) → IsSomeAnd (extension_row_named x) NumberInRange
extension_in_range x = extension_keeps x NumberInRange (λ e row is at. row_in_range x.pool e.message e.field row at)

pub extension_default_fits : (x : ExtensionDescriptor) → IsSomeAnd (extension_row_named x) (DefaultFits x.pool)
extension_default_fits x = extension_keeps x (DefaultFits x.pool) (λ e row is at. row_default_fits x.pool e.message e.field row at)

pub extension_without_presence : (x : ExtensionDescriptor) → IsSomeAnd (extension_row_named x) (RepeatedWithoutPresence x.pool)
extension_without_presence x = extension_keeps x (RepeatedWithoutPresence x.pool) (λ e row is at. row_without_presence x.pool e.message e.field row at)

pub extension_packed : (x : ExtensionDescriptor) → IsSomeAnd (extension_row_named x) (PackedAsList x.pool)
extension_packed x = extension_keeps x (PackedAsList x.pool) (λ e row is at. row_packed x.pool e.message e.field row at)

pub extension_member : (x : ExtensionDescriptor) → IsSomeAnd (extension_row_named x) (MemberWithPresence x.pool)
extension_member x = extension_keeps x (MemberWithPresence x.pool) (λ e row is at. row_member x.pool e.message e.field row at)
