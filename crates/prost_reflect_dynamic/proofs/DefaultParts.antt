-- The defaults of fields keep whatever a message has: they fit, and a message in one is empty and of its field's type.
use Rattle.std.specs.Prelude.{◌≡◌}
use Rattle.prost_reflect_dynamic.proofs.Common.{ℕ, Bool, true, false, Option, Some, None, refl, ap, sym, ◌∙◌, subst, true≢false, eq-eqb, Kind, ScalarOf, MessageOf, GroupOf, ValueType, FieldForm, Singular, Repeated, MapFrom, Field, Schema, known, field_of, passes, ValueTyped, kind_for, own_kind, fit_test, alone_test, value_passes, value_valid, default_of, default_value, is_singular, cond, IsSome, plain_kind, place_named, Global, Rc, LinkedPool, pool_contents, pool_rows, rows_same, schema_from, TableKind, FieldRow, schema_field, schema_kind, own_type, is_repeated, row_default, IsRowDefault, IsEmptyOf, IsDefaultBy, known_of, schema_at, PooledType, IsOwnField, IsOwnExtension, number_of, extension_number, row_at, extension_row_named, FieldDescriptor, ExtensionDescriptor, is_known, is_some, IfSome, unwrap_or, option_map, value_at, entries_of, stored_at, IsAscending, IsDefaultAt, IsPart, IsWhole, content_of, message_type_of, stored_in, value_of, DynamicMessage, kind_place, place_for, message_in, out-Value, typed_at, typed_as, value_stored, message_stored, StoredInside}
use Rattle.prost_reflect_wire.specs.Content.{value_ordered}
use Rattle.prost_reflect_wire.specs.Typing.{EntryTest}
use Rattle.prost_reflect_tables.specs.declared.tables.TableKind.TheVariants as kinds
use Rattle.prost_reflect_dynamic.specs.RowLawProofs.{default_fits}
use Rattle.prost_reflect_dynamic.specs.declared.value.Value as values
use Rattle.prost_reflect_rows.proofs.Described.{found_checked}
use Rattle.prost_reflect_dynamic.proofs.FieldDefaults.{scalar_default, many_form}
use Rattle.prost_reflect_dynamic.proofs.OwnExtensions.{extension_found}
use Rattle.prost_reflect_dynamic.proofs.OwnFields.{own_found}
use Rattle.prost_reflect_dynamic.proofs.Parts.{stored_part}
use Rattle.prost_reflect_rows.proofs.PlainKinds.{single_row, own_of}
use Rattle.prost_reflect_dynamic.proofs.Stored.{value_of_message}
use Rattle.prost_reflect_dynamic.proofs.TypedValues.{scalar_there, empty_list_there, empty_map_there, message_held, own_place, empty_there}

-- WHAT A DEFAULT PASSES

pub default_passes : (test : EntryTest) (schema : Schema) (form : FieldForm) (t : ValueType) → value_passes test (default_value schema form t) ≡ true
default_passes test schema Singular t = go t.kind
  where
    go : (kind : Kind) → value_passes test (default_of schema t kind) ≡ true
    go (ScalarOf k) = refl
    go (MessageOf T) = refl
    go (GroupOf T) = refl
default_passes test schema (Repeated packed) t = refl
default_passes test schema (MapFrom key) t = refl

default_ordered : (schema : Schema) (form : FieldForm) (t : ValueType) → value_ordered (default_value schema form t) ≡ true
default_ordered schema Singular t = go t.kind
  where
    go : (kind : Kind) → value_ordered (default_of schema t kind) ≡ true
    go (ScalarOf k) = refl
    go (MessageOf T) = refl
    go (GroupOf T) = refl
default_ordered schema (Repeated packed) t = refl
default_ordered schema (MapFrom key) t = refl

default_types : (schema : Schema) (f : Field) → ValueTyped schema (kind_for (Some f) (default_value schema f.form f.value_type)) (default_value schema f.form f.value_type)
default_types schema f = go f.form f.value_type.kind refl refl
  where
    go : (form : FieldForm) (kind : Kind) → f.form ≡ form → f.value_type.kind ≡ kind → ValueTyped schema (kind_for (Some f) (default_value schema f.form f.value_type)) (default_value schema f.form f.value_type)
    go Singular (ScalarOf k) e h = rw (e, h) tt
    go Singular (MessageOf T) e h = rw (e, h) ((refl, eq-eqb T T refl), tt)
    go Singular (GroupOf T) e h = rw (e, h) ((refl, eq-eqb T T refl), tt)
    go (Repeated packed) kind e h = rw e tt
    go (MapFrom key) kind e h = rw e tt

-- at a number of a message type
pub default_whole : (t : PooledType) (n : ℕ) (f : Field) (v : values.Value) → field_of (known_of t) n ≡ Some f → value_of v ≡ default_value (schema_at t) f.form f.value_type → IsWhole t n v
default_whole t n f v found is = record {
  fits = ap (value_passes fit_test) is ∙ default_passes fit_test (schema_at t) f.form f.value_type;
  types = subst (λ (o : Option Field). ValueTyped (schema_at t) (kind_for o (value_of v)) (value_of v)) (sym found) (subst (λ w. ValueTyped (schema_at t) (kind_for (Some f) w) w) (sym is) (default_types (schema_at t) f));
  order = ap value_ordered is ∙ default_ordered (schema_at t) f.form f.value_type;
  members = ap (value_passes alone_test) is ∙ default_passes alone_test (schema_at t) f.form f.value_type;
}

pub default_part : (m : DynamicMessage) (n : ℕ) (f : Field) (v : values.Value) → field_of (known_of (message_type_of m)) n ≡ Some f → value_of v ≡ default_value (schema_at (message_type_of m)) f.form f.value_type
    → typed_at (message_type_of m) n (value_stored v) ≡ true → IsPart m n v
default_part m n f v found is types =
    let t = message_type_of m in
    let whole = default_whole t n f v found is in
    record {
      valid = λ h. ap (λ (o : Option Field). passes o (λ f. value_valid f (value_of v))) found ∙ ap (value_valid f) is ∙ default_fits (schema_at t) f (found_checked t n f found);
      encodable = λ h. whole.fits;
      sound = λ w. whole;
      typed = λ h. types;
    }

-- of a known number
pub default_at_part : (m : DynamicMessage) (n : ℕ) (v : values.Value) → is_known (known_of (message_type_of m)) n ≡ true → IsDefaultAt (message_type_of m) n v → typed_at (message_type_of m) n (value_stored v) ≡ true → IsPart m n v
default_at_part m n v known is types = go (field_of (known_of (message_type_of m)) n) refl known is
  where
    go : (o : Option Field) → field_of (known_of (message_type_of m)) n ≡ o → is_some o ≡ true → IfSome o (λ f. value_of v ≡ default_value (schema_at (message_type_of m)) f.form f.value_type) → IsPart m n v
    go None found known is = absurd (true≢false (sym known))
    go (Some f) found known is = default_part m n f v found is types

-- of what is lent: the value that is stored, or else a default
pub lent_part : (m : DynamicMessage) (n : ℕ) (default v : values.Value) → IsAscending (stored_in m) → is_known (known_of (message_type_of m)) n ≡ true → v ≡ unwrap_or (stored_at (stored_in m) n) default
    → (value_at n (entries_of (content_of m)) ≡ None → IsDefaultAt (message_type_of m) n default) → (value_at n (entries_of (content_of m)) ≡ None → typed_at (message_type_of m) n (value_stored default) ≡ true) → IsPart m n v
lent_part m n default v s known lent is types = go (stored_at (stored_in m) n) refl lent
  where
    go : (o : Option values.Value) → stored_at (stored_in m) n ≡ o → v ≡ unwrap_or o default → IsPart m n v
    go None at l =
        let none : value_at n (entries_of (content_of m)) ≡ None = sym (value_of_message m n s) ∙ ap (option_map value_of) at in
        subst (IsPart m n) (sym l) (default_at_part m n default known (is none) (types none))
    go (Some w) at l = subst (IsPart m n) (sym l) (stored_part m s n w at)

-- of a row that a message type knows by a number
row_whole : (t : PooledType) (pool : Rc LinkedPool Global) (n : ℕ) (o : Option FieldRow) (row : FieldRow) (v : values.Value) → pool_contents pool ≡ pool_contents t.pool → o ≡ Some row
    → field_of (known_of t) n ≡ option_map (schema_field (pool_rows pool)) o → value_of v ≡ row_default (pool_rows pool) row → IsWhole t n v
row_whole t pool n o row v same at found is =
    let f : Field = schema_field (pool_rows pool) row in
    default_whole t n f v (found ∙ ap (option_map (schema_field (pool_rows pool))) at) (is ∙ ap (λ rows. default_value (schema_from rows) f.form f.value_type) (rows_same pool t.pool same))

numbered_row : (o : Option FieldRow) (row : FieldRow) → o ≡ Some row → option_map (λ (f : FieldRow). f.number) o ≡ Some (unwrap_or (option_map (λ (f : FieldRow). f.number) o) 0)
numbered_row o row at = subst (λ (o : Option FieldRow). option_map (λ (f : FieldRow). f.number) o ≡ Some (unwrap_or (option_map (λ (f : FieldRow). f.number) o) 0)) (sym at) refl

pub field_whole : (field : FieldDescriptor) (row : FieldRow) (v : values.Value) → row_at field ≡ Some row → value_of v ≡ row_default (pool_rows field.message.pool.inner) row → (t : PooledType) → IsOwnField t field → IsWhole t (number_of field) v
field_whole field row v at is t own = row_whole t field.message.pool.inner (number_of field) (row_at field) row v own.0 at (own_found t field (number_of field) own (numbered_row (row_at field) row at)) is

pub extension_whole : (x : ExtensionDescriptor) (row : FieldRow) (v : values.Value) → extension_row_named x ≡ Some row → value_of v ≡ row_default (pool_rows x.pool.inner) row → (t : PooledType) → IsOwnExtension t x → IsWhole t (extension_number x) v
extension_whole x row v at is t own = row_whole t x.pool.inner (extension_number x) (extension_row_named x) row v own.0 at (extension_found t x (extension_number x) own (numbered_row (extension_row_named x) row at)) is

-- OF WHICH TYPE THE MESSAGE IN A DEFAULT IS

module _ (t : PooledType) (n : ℕ) (row : FieldRow) (v : values.Value) (found : field_of (known_of t) n ≡ Some (schema_field (pool_rows t.pool) row)) where
  message_there : (T : ℕ) → is_repeated row.cardinality ≡ false → row.kind ≡ kinds.Message T → IsEmptyOf t.pool T (message_in (out-Value v)) → typed_at t n (value_stored v) ≡ true
  message_there T single kind empty = go (message_in (out-Value v)) refl empty
    where
      f : Field
      f = schema_field (pool_rows t.pool) row

      placed : (g : Bool) → kind_place (schema_kind (pool_rows t.pool).enums (kinds.Message T) g) ≡ Some T
      placed true = refl
      placed false = refl

      go : (o : Option DynamicMessage) → message_in (out-Value v) ≡ o → IsEmptyOf t.pool T o → typed_at t n (value_stored v) ≡ true
      go None at e = absurd e
      go (Some m) at e =
          let s = StoredInside (message_stored m) in
          let form = single_row (pool_rows t.pool) row single in
          ap (typed_at t n) (message_held v m at)
          ∙ ap (λ (p : Option ℕ). typed_as t p s)
          (ap (λ (o : Option Field). place_for o s) found ∙ own_place f s (ap (λ (c : FieldForm). own_kind c f.value_type.kind) form)
          ∙ ap (λ (w : ValueType). kind_place w.kind) (own_of (pool_rows t.pool) row form) ∙ ap (λ k. kind_place (schema_kind (pool_rows t.pool).enums k row.is_group)) kind ∙ placed row.is_group)
          ∙ empty_there t T m e.0 (sym e.1) e.2

  pub default_typed : IsRowDefault t.pool row v → value_of v ≡ row_default (pool_rows t.pool) row → typed_at t n (value_stored v) ≡ true
  default_typed default is = go (is_repeated row.cardinality) refl
    where
      by_form : (form : FieldForm) → (schema_field (pool_rows t.pool) row).form ≡ form → is_singular form ≡ false → typed_at t n (value_stored v) ≡ true
      by_form Singular e many = absurd (true≢false many)
      by_form (Repeated packed) e many = empty_list_there t n v (is ∙ ap (λ (c : FieldForm). default_value (schema_at t) c (schema_field (pool_rows t.pool) row).value_type) e)
      by_form (MapFrom key) e many = empty_map_there t n v (is ∙ ap (λ (c : FieldForm). default_value (schema_at t) c (schema_field (pool_rows t.pool) row).value_type) e)

      by_kind : (kind : TableKind) → is_repeated row.cardinality ≡ false → row.kind ≡ kind → typed_at t n (value_stored v) ≡ true
      by_kind (kinds.Message T) single e = message_there T single e (subst (λ o. IsDefaultBy t.pool o (row_default (pool_rows t.pool) row) v) (ap (λ b. cond b None (place_named row.kind)) single ∙ ap place_named e) default)
      by_kind kind single e = scalar_there t n v (own_type (pool_rows t.pool).enums row).default (is ∙ scalar_default (schema_at t) (pool_rows t.pool) row single (subst (λ k. IsSome (plain_kind k)) (sym e) refl))

      go : (b : Bool) → is_repeated row.cardinality ≡ b → typed_at t n (value_stored v) ≡ true
      go true many = let form = (schema_field (pool_rows t.pool) row).form in by_form form refl (many_form (pool_rows t.pool) row many)
      go false single = by_kind row.kind single refl
