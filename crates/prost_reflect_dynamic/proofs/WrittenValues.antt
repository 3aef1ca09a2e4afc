-- What is written of the value of a field of one scalar.
use Rattle.std.specs.Prelude.{◌≡◌, ◌++◌}
use Rattle.prost_reflect_dynamic.proofs.Common.{ℕ, Bool, true, false, cond, List, [], Option, Some, refl, sym, ap, ap₂, ◌∙◌, true≢false, and_parts, short_key, short_plain, Scalar, ScalarKind, kind_wire, scalar_valid, written, Kind, ScalarOf, MessageOf, GroupOf, ValueType, Singular, Field, field_of, is_message, passes, is_list, ScalarValue, MessageValue, ListValue, MapValue, is_default_of, value_valid, kind_takes, pairs_valid, value_bytes, scalar_written, FieldRow, EnumRow, TableRows, own_type, schema_field, is_repeated, PooledType, pool_rows, known_of, TakesScalar, scalar_record_bytes, kept_scalar_bytes}
use Rattle.prost_reflect_wire.specs.Content as contents
use Rattle.prost_reflect_rows.proofs.PlainKinds.{NamedKind, scalar_row, single_row, own_of, plain_of, plain_payloads}

-- a field of one scalar
pub record OneScalar (f : Field) : Type 0 where
  pub single : f.form ≡ Singular
  pub scalar : is_message f.value_type.kind ≡ false

-- a value of such a field is a scalar of its kind
pub record PlainValue (kind : ScalarKind) (v : contents.Value) : Type 0 where
  pub scalar : Scalar
  pub is : v ≡ ScalarValue scalar
  pub fits : scalar_valid kind scalar ≡ true

valid_scalar : (f : Field) (kind : ScalarKind) (v : contents.Value) → f.form ≡ Singular → f.value_type.kind ≡ ScalarOf kind → value_valid f v ≡ true → PlainValue kind v
valid_scalar f kind (ScalarValue s) form is h = record { scalar = s; is = refl; fits = ap (λ k. kind_takes k s) (sym is) ∙ (and_parts _ _ h).1 }
valid_scalar f kind (MessageValue c) form is h = absurd (true≢false (sym (and_parts _ _ h).1 ∙ ap is_message is))
valid_scalar f kind (ListValue vs) form is h = absurd (true≢false (sym (and_parts _ _ h).0 ∙ ap is_list form))
valid_scalar f kind (MapValue ps) form is h = absurd (true≢false (sym h ∙ ap (λ form. pairs_valid form f.value_type.kind ps) form))

-- a value that is no message is of no message field
abbrev pub is_message_value : contents.Value → Bool
is_message_value (MessageValue c) = true
is_message_value v = false

no_message : (f : Field) (v : contents.Value) → f.form ≡ Singular → value_valid f v ≡ true → is_message_value v ≡ false → is_message f.value_type.kind ≡ false
no_message f (ScalarValue s) form h e = scalar_kind f.value_type.kind (and_parts _ _ h).1
  where
    scalar_kind : (kind : Kind) → kind_takes kind s ≡ true → is_message kind ≡ false
    scalar_kind (ScalarOf kind) h = refl
    scalar_kind (MessageOf T) h = absurd (true≢false (sym h))
    scalar_kind (GroupOf T) h = absurd (true≢false (sym h))
no_message f (MessageValue c) form h e = absurd (true≢false e)
no_message f (ListValue vs) form h e = absurd (true≢false (sym (and_parts _ _ h).0 ∙ ap is_list form))
no_message f (MapValue ps) form h e = absurd (true≢false (sym h ∙ ap (λ form. pairs_valid form f.value_type.kind ps) form))

-- what the writer of a value needs to know, and what it has to write
pub record PlainWritten (fields : List Field) (n : ℕ) (enums : List EnumRow) (row : FieldRow) (v : contents.Value) : Type 0 where
  pub takes : TakesScalar row.kind v
  pub bytes : value_bytes fields n v ≡ kept_scalar_bytes n enums row v

written_by : (fields : List Field) (n : ℕ) (rows : TableRows) (row : FieldRow) (v : contents.Value) → OneScalar (schema_field rows row) → field_of fields n ≡ Some (schema_field rows row) → value_valid (schema_field rows row) v ≡ true → PlainWritten fields n rows.enums row v
written_by fields n rows row v one found valid =
    let (plain, named) = plain_of rows.enums row.kind kind.scalar kind.named in
    let alike = plain_payloads rows.enums row.kind plain kind.scalar named kind.named in
    record {
      takes = rw (named, value.is) (alike.takes value.scalar value.fits);
      bytes = ap (value_bytes fields n) value.is
          ∙ scalar_written fields n (schema_field rows row) kind.scalar value.scalar found one.single kind.is value.fits
          ∙ ap (λ (t : ValueType). cond (is_default_of t (ScalarValue value.scalar)) [] (short_key n (kind_wire kind.scalar) ++ short_plain (written kind.scalar value.scalar))) (own_of rows row one.single)
          ∙ ap₂ (λ w p. cond (is_default_of (own_type rows.enums row) (ScalarValue value.scalar)) [] (short_key n w ++ short_plain p)) (sym alike.wire) (sym (alike.write value.scalar))
          ∙ ap (λ o. cond (is_default_of (own_type rows.enums row) (ScalarValue value.scalar)) [] (scalar_record_bytes n o (ScalarValue value.scalar))) (sym named)
          ∙ ap (kept_scalar_bytes n rows.enums row) (sym value.is);
    }
  where
    kind : NamedKind rows.enums row.kind (schema_field rows row).value_type.kind
    kind = scalar_row rows row one.single one.scalar

    value : PlainValue kind.scalar v
    value = valid_scalar (schema_field rows row) kind.scalar v one.single kind.is valid

pub value_written : (d : PooledType) (n : ℕ) (row : FieldRow) (v : contents.Value) → is_repeated row.cardinality ≡ false → field_of (known_of d) n ≡ Some (schema_field (pool_rows d.pool) row) → value_valid (schema_field (pool_rows d.pool) row) v ≡ true →
    is_message_value v ≡ false → PlainWritten (known_of d) n (pool_rows d.pool).enums row v
value_written d n row v one found valid apart =
    let single = single_row (pool_rows d.pool) row one in
    written_by (known_of d) n (pool_rows d.pool) row v (record { single = single; scalar = no_message (schema_field (pool_rows d.pool) row) v single valid apart }) found valid

-- the valid value of a number is that of its field
pub passing : {A : Type 0} (o : Option A) (x : A) (test : A → Bool) → o ≡ Some x → passes o test ≡ true → test x ≡ true
passing o x test e h = ap (λ o. passes o test) (sym e) ∙ h

pub row_written : (d : PooledType) (n : ℕ) (row : FieldRow) (v : contents.Value) → is_repeated row.cardinality ≡ false → Some (schema_field (pool_rows d.pool) row) ≡ field_of (known_of d) n → passes (field_of (known_of d) n) (λ f. value_valid f v) ≡ true →
    is_message_value v ≡ false → PlainWritten (known_of d) n (pool_rows d.pool).enums row v
row_written d n row v one found valid apart = value_written d n row v one (sym found) (passing (field_of (known_of d) n) (schema_field (pool_rows d.pool) row) (λ f. value_valid f v) (sym found) valid) apart
