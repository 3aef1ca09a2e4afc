-- What a record is read as, by the row of its number's field.
use Rattle.std.specs.Prelude.{◌≡◌}
use Rattle.prost_reflect_rows.proofs.Common.{ℕ, Bool, Option, Some, None, refl, sym, ap, ap₂, ◌∙◌, subst, true, false, true≢false, option_and_then, ScalarOf, ValueType, Singular, Field, field_of, is_message, message_of_kind, TableKind, FieldRow, schema_kind, schema_field, is_repeated, PooledType, pool_rows, known_of, oneof_of, PlainField, nested_kind, NestedField, IsTarget, target_of, names_message, Repeated, is_list, is_plain_kind, schema_at, ListField, NumberList, NestedList, element_target_of, not, is_some, checked_field, checked_list, slice_get, Enum, EnumRow, enum_kind, first_of, numbers_or_none}
use Rattle.prost_reflect_tables.specs.declared.tables.TableKind.TheVariants as kinds
use Rattle.prost_reflect_rows.specs.declared.targets.Target.TheVariants as targets
use Rattle.prost_reflect_rows.proofs.Described.{named_in_range, found_checked}
use Rattle.prost_reflect_rows.proofs.PlainKinds.{scalar_row, single_row, own_of, list_kind, plain_row, list_row, scalars_row}
use Rattle.prost_reflect_rows.proofs.RowKinds.{message_kind, message_named}

-- LISTS

-- a checked list is no member of a oneof
pub list_alone : (d : PooledType) (n : ℕ) (f : Field) (packed : Bool) → field_of (known_of d) n ≡ Some f → f.form ≡ Repeated packed → f.oneof ≡ None
list_alone d n f packed found form = let checked = checked_list (schema_at d) f packed (checked_field (schema_at d) f (found_checked d n f found)) form in none f.oneof checked.alone
  where
    none : (o : Option ℕ) → not (is_some o) ≡ true → o ≡ None
    none None e = refl
    none (Some o) e = cc

-- a repeated row of a plain kind is a list
pub list_field : (d : PooledType) (n : ℕ) (row : FieldRow) → field_of (known_of d) n ≡ Some (schema_field (pool_rows d.pool) row) → is_repeated row.cardinality ≡ true → is_plain_kind row.kind ≡ true → ListField (known_of d) n row.kind
list_field d n row found many plain =
    let kind = plain_row (pool_rows d.pool) row plain in
    let form : (schema_field (pool_rows d.pool) row).form ≡ Repeated row.is_packed = list_row (pool_rows d.pool) row many plain in
    record {
      field = schema_field (pool_rows d.pool) row;
      scalar_kind = kind.scalar;
      packed = row.is_packed;
      found = found;
      plain = kind.named;
      form = form;
      kind_is = kind.is;
      alone = list_alone d n (schema_field (pool_rows d.pool) row) row.is_packed found form;
      whole = kind.whole;
    }

enum_is : (o : Option EnumRow) → enum_kind o ≡ Enum (first_of o) (numbers_or_none o)
enum_is None = refl
enum_is (Some e) = refl

-- a repeated row of an enum is a list of its numbers
pub number_list : (d : PooledType) (n : ℕ) (row : FieldRow) (E : ℕ) → field_of (known_of d) n ≡ Some (schema_field (pool_rows d.pool) row) → is_repeated row.cardinality ≡ true → row.kind ≡ kinds.Enum E → NumberList d n row.kind
number_list d n row E found many is =
    let form : (schema_field (pool_rows d.pool) row).form ≡ Repeated row.is_packed = scalars_row (pool_rows d.pool) row many (ap names_message is) in
    record {
      field = schema_field (pool_rows d.pool) row;
      first = first_of (slice_get (pool_rows d.pool).enums E);
      numbers = numbers_or_none (slice_get (pool_rows d.pool).enums E);
      packed = row.is_packed;
      found = found;
      form = form;
      kind_is = list_kind (pool_rows d.pool) row many (ap is_list form) ∙ ap (λ kind. schema_kind (pool_rows d.pool).enums kind row.is_group) is ∙ ap ScalarOf (enum_is (slice_get (pool_rows d.pool).enums E));
      named = ap (λ kind. schema_kind (pool_rows d.pool).enums kind false) is ∙ ap ScalarOf (enum_is (slice_get (pool_rows d.pool).enums E));
      alone = list_alone d n (schema_field (pool_rows d.pool) row) row.is_packed found form;
    }

-- WHAT A RECORD IS READ AS

pub scalar_target : (kind : TableKind) (g : Bool) (o : Option ℕ) → names_message kind ≡ false → target_of kind g o ≡ targets.Scalar kind o
scalar_target (kinds.Message T) g o e = absurd (true≢false e)
scalar_target kind g o e = refl

pub no_message_kind : (kind : TableKind) → ((T : ℕ) → kind ≡ kinds.Message T → ⊥) → names_message kind ≡ false
no_message_kind (kinds.Message T) h = absurd (h T refl)
no_message_kind kind h = refl

module _ (d : PooledType) (n : ℕ) (row : FieldRow) (one : is_repeated row.cardinality ≡ false) (found : field_of (known_of d) n ≡ Some (schema_field (pool_rows d.pool) row)) where
  single : (schema_field (pool_rows d.pool) row).form ≡ Singular
  single = single_row (pool_rows d.pool) row one

  own_kind : (schema_field (pool_rows d.pool) row).value_type.kind ≡ schema_kind (pool_rows d.pool).enums row.kind row.is_group
  own_kind = ap (λ (t : ValueType). t.kind) (own_of (pool_rows d.pool) row single)

  plain_field : names_message row.kind ≡ false → PlainField d n row.kind
  plain_field apart =
      let kind = scalar_row (pool_rows d.pool) row single (ap is_message own_kind ∙ message_kind (pool_rows d.pool).enums row.kind row.is_group ∙ apart) in
      record { field = schema_field (pool_rows d.pool) row; scalar_kind = kind.scalar; found = found; form = single; kind_is = kind.is; named = kind.named }

  nested_field : (T : ℕ) (g : Bool) → row.kind ≡ kinds.Message T → row.is_group ≡ g → NestedField d n T g
  nested_field T g k i =
      let is : (schema_field (pool_rows d.pool) row).value_type.kind ≡ nested_kind g T = own_kind ∙ ap₂ (schema_kind (pool_rows d.pool).enums) k i in
      record { field = schema_field (pool_rows d.pool) row; found = found; form = single; kind_is = is; in_range = named_in_range d n (schema_field (pool_rows d.pool) row) T found (ap message_of_kind is ∙ message_named g T) }

  own_oneof : row.oneof ≡ oneof_of (known_of d) n
  own_oneof = ap (option_and_then (λ (f : Field). f.oneof)) (sym found)

  pub target_is : IsTarget d n (target_of row.kind row.is_group row.oneof)
  target_is = go row.kind row.is_group refl refl
    where
      go : (kind : TableKind) (g : Bool) → row.kind ≡ kind → row.is_group ≡ g → IsTarget d n (target_of kind g row.oneof)
      go (kinds.Message T) g k i = (nested_field T g k i, own_oneof)
      go kind g k i = (subst (PlainField d n) k (plain_field (ap names_message k)), own_oneof)

pub list_target : (kind : TableKind) (g : Bool) → names_message kind ≡ false → ((E : ℕ) → kind ≡ kinds.Enum E → ⊥) → element_target_of kind g ≡ targets.List kind
list_target (kinds.Message T) g e none = absurd (true≢false e)
list_target (kinds.Enum E) g e none = absurd (none E refl)
list_target kind g e none = refl

module _ (d : PooledType) (n : ℕ) (row : FieldRow) (found : field_of (known_of d) n ≡ Some (schema_field (pool_rows d.pool) row)) (many : is_repeated row.cardinality ≡ true) (form : (schema_field (pool_rows d.pool) row).form ≡ Repeated row.is_packed) where
  nested_list : (T : ℕ) (g : Bool) → row.kind ≡ kinds.Message T → row.is_group ≡ g → NestedList d n T g
  nested_list T g k i =
      let own : (schema_field (pool_rows d.pool) row).value_type.kind ≡ nested_kind g T = list_kind (pool_rows d.pool) row many (ap is_list form) ∙ ap₂ (schema_kind (pool_rows d.pool).enums) k i in
      record {
        field = schema_field (pool_rows d.pool) row;
        packed = row.is_packed;
        found = found;
        form = form;
        kind_is = own;
        in_range = named_in_range d n (schema_field (pool_rows d.pool) row) T found (ap message_of_kind own ∙ message_named g T);
      }

  pub element_target_is : IsTarget d n (element_target_of row.kind row.is_group)
  element_target_is = go row.kind row.is_group refl refl
    where
      go : (kind : TableKind) (g : Bool) → row.kind ≡ kind → row.is_group ≡ g → IsTarget d n (element_target_of kind g)
      go (kinds.Message T) g k i = nested_list T g k i
      go (kinds.Enum E) g k i = subst (NumberList d n) k (number_list d n row E found many k)
      go kind g k i = subst (ListField (known_of d) n) k (list_field d n row found many (ap is_plain_kind k))
