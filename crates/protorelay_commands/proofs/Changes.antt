-- What is set of a text at a path: nothing keeps it from being set.
use Rattle.std.proofs.Common.{◌≡◌, ℕ, Bool, true, false, cond, List, Option, Some, None, option_map, refl, ap, sym, ◌∙◌}
use Rattle.prost_reflect_wire.specs.Varint.{◌>>=◌}
use Rattle.prost_reflect_wire.specs.Scalar.{Scalar}
use Rattle.prost_reflect_wire.specs.Schema.{Field}
use Rattle.prost_reflect_wire.specs.Content.{Value, ScalarValue}
use Rattle.prost_reflect_wire.specs.Typing.{value_valid}
use Rattle.prost_reflect_wire.specs.Edit.{holds_message}
use Rattle.prost_reflect_tables.specs.Rows.{FieldRow, TableRows}
use Rattle.prost_reflect_tables.specs.Shown.{schema_from, schema_field}
use Rattle.prost_reflect_tables.specs.WrittenDefaults.{field_default}
use Rattle.prost_reflect.specs.Edits.{value_refusal}
use Rattle.prost_reflect.specs.Edits as edits
use Rattle.prost_reflect_rows.specs.Paths.{row_led}
use Rattle.prost_reflect.specs.declared.relaying.edit.RelayWithError.TheVariants.{InvalidType, HoldsMessage}
use Rattle.prost_reflect_rows.proofs.PathPlaces.{row_shown}
use Rattle.protorelay_commands.specs.Editing.{path_spelled, values_in, text_value, IsChange}

-- the row of the field, and its value
record Led (rows : TableRows) (T : ℕ) (text numbers : List ℕ) (value : Value) : Type 0 where
  field : FieldRow
  leads : row_led rows T numbers ≡ Some field
  reads : text_value rows field text ≡ Some value

led : (rows : TableRows) (T : ℕ) (path text numbers : List ℕ) (value : Value) → IsChange rows T path text numbers value → Led rows T text numbers value
led rows T path text numbers value change = go (row_led rows T numbers) refl (ap (λ s. s >>= λ numbers. row_led rows T numbers >>= λ f. text_value rows f text) (sym change.spelled) ∙ assoc (path_spelled path) ∙ change.found)
  where
    assoc : (s : Option (List ℕ)) → (s >>= λ numbers. row_led rows T numbers >>= λ f. text_value rows f text) ≡ ((s >>= λ numbers. row_led rows T numbers) >>= λ f. text_value rows f text)
    assoc None = refl
    assoc (Some numbers) = refl

    go : (o : Option FieldRow) → row_led rows T numbers ≡ o → (o >>= λ f. text_value rows f text) ≡ Some value → Led rows T text numbers value
    go None leads e = absurd cc
    go (Some f) leads e = record { field = f; leads = leads; reads = e }

-- the field takes it, and it holds no message
record Taken (rows : TableRows) (f : FieldRow) (value : Value) : Type 0 where
  valid : value_valid (schema_field rows f) value ≡ true
  plain : holds_message value ≡ false

taken : (rows : TableRows) (f : FieldRow) (text : List ℕ) (value : Value) → text_value rows f text ≡ Some value → Taken rows f value
taken rows f text value e = go (field_default f.kind (values_in rows f.kind) text) e
  where
    test : (s : Scalar) (b : Bool) → value_valid (schema_field rows f) (ScalarValue s) ≡ b → cond b (Some (ScalarValue s)) None ≡ Some value → Taken rows f value
    test s true valid e = let same : ScalarValue s ≡ value = cc in record { valid = ap (value_valid (schema_field rows f)) (sym same) ∙ valid; plain = ap holds_message (sym same) }
    test s false valid e = absurd cc

    go : (o : Option Scalar) → (option_map ScalarValue o >>= λ v. cond (value_valid (schema_field rows f) v) (Some v) None) ≡ Some value → Taken rows f value
    go None e = absurd cc
    go (Some s) e = test s (value_valid (schema_field rows f) (ScalarValue s)) refl e

-- so nothing keeps it from being set
pub not_refused : (rows : TableRows) (T : ℕ) (path text numbers : List ℕ) (value : Value) → IsChange rows T path text numbers value → edits.edit_refusal (schema_from rows) T numbers value ≡ None
not_refused rows T path text numbers value change =
    let at = led rows T path text numbers value change in
    let fits = taken rows at.field text value at.reads in
    ap (λ (o : Option Field). value_refusal o value) (row_shown rows T numbers ∙ ap (option_map (schema_field rows)) at.leads)
    ∙ ap (λ b. cond b (cond (holds_message value) (Some HoldsMessage) None) (Some InvalidType)) fits.valid
    ∙ ap (λ b. cond b (Some HoldsMessage) None) fits.plain
