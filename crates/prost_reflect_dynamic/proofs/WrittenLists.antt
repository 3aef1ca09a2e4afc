-- What is written of a list of scalars.
use Rattle.std.specs.Prelude.{◌≡◌, ◌<◌, ◌∷◌, ◌++◌}
use Rattle.prost_reflect_dynamic.proofs.Common.{ℕ, zero, suc, slice_index_or, Bool, true, false, List, [], map, flat_map, length, Some, refl, sym, ap, ap₂, ◌∙◌, subst, append_assoc, append-nil, true≢false, arith, IsSomeAnd, Vec, AllByRecursion, Global, and_parts, Len, record_at, short_key, short_plain, spelled, ScalarKind, kind_wire, written, ScalarOf, Repeated, Field, field_of, is_singular, passes, ScalarValue, MessageValue, ListValue, MapValue, values_from, end_to_end, list_payloads, element_payloads, element_valid, elements_valid, value_valid, pairs_valid, value_bytes, written_wire, TableKind, FieldRow, schema_field, is_repeated, PooledType, Value, names_message, known_of, pool_rows, value_of, plain_kind, scalar_bytes, scalar_record_bytes, IsList, TakesScalars, list_bytes}
use Rattle.prost_reflect_wire.specs.declared.key.WireType.TheVariants as wires
use Rattle.prost_reflect_wire.specs.Content as contents
use Rattle.prost_reflect_laws.proofs.ListWritten.{list_written}
use Rattle.prost_reflect_dynamic.specs.declared.value.Value as values
use Rattle.prost_reflect_rows.proofs.PlainKinds.{SamePayloads, scalars_row, scalars_kind, plain_of, plain_payloads}
use Rattle.prost_reflect_dynamic.proofs.Views.{value_of_list}
use Rattle.prost_reflect_dynamic.proofs.WrittenValues.{passing}

-- what holds of each holds of one
pub holds_at : {A : Type 0} (P : A → Type 0) (xs : List A) (i : ℕ) (x : A) → i < length xs → x ≡ slice_index_or xs i x → AllByRecursion P xs → P x
holds_at P [] i x b e h = absurd (omega (arith, b))
holds_at P (y ∷ xs) zero x b e (one, more) = subst P (sym e) one
holds_at P (y ∷ xs) (suc i) x b e (one, more) = holds_at P xs i x (omega (arith, b)) e more

-- SCALARS

-- what is written by the plain kind is what the field's own has
module _ (n : ℕ) (plain own : ScalarKind) (same : SamePayloads plain own) where
  payloads_spelled : (vs : List Value) → elements_valid (ScalarOf own) (values_from (map value_of vs)) ≡ true → end_to_end (element_payloads (ScalarOf own) (values_from (map value_of vs))) ≡ flat_map (λ v. scalar_bytes (Some plain) (value_of v)) vs
  payloads_spelled [] h = refl
  payloads_spelled (v ∷ vs) h =
      let (one, more) = and_parts (element_valid (ScalarOf own) (value_of v)) (elements_valid (ScalarOf own) (values_from (map value_of vs))) h in
      go (value_of v) one (payloads_spelled vs more)
    where
      go : (c : contents.Value) → element_valid (ScalarOf own) c ≡ true → end_to_end (element_payloads (ScalarOf own) (values_from (map value_of vs))) ≡ flat_map (λ v. scalar_bytes (Some plain) (value_of v)) vs →
          end_to_end (element_payloads (ScalarOf own) (values_from (c ∷ map value_of vs))) ≡ scalar_bytes (Some plain) c ++ flat_map (λ v. scalar_bytes (Some plain) (value_of v)) vs
      go (ScalarValue s) one more = ap₂ (λ p l. short_plain p ++ l) (sym (same.write s)) more
      go (MessageValue m) one more = absurd (true≢false (sym one))
      go (ListValue vs) one more = absurd (true≢false (sym one))
      go (MapValue ps) one more = absurd (true≢false (sym one))

  records_spelled : (vs : List Value) → elements_valid (ScalarOf own) (values_from (map value_of vs)) ≡ true →
      spelled (map (record_at n) (element_payloads (ScalarOf own) (values_from (map value_of vs)))) ≡ flat_map (λ v. scalar_record_bytes n (Some plain) (value_of v)) vs
  records_spelled [] h = refl
  records_spelled (v ∷ vs) h =
      let (one, more) = and_parts (element_valid (ScalarOf own) (value_of v)) (elements_valid (ScalarOf own) (values_from (map value_of vs))) h in
      go (value_of v) one (records_spelled vs more)
    where
      go : (c : contents.Value) → element_valid (ScalarOf own) c ≡ true → spelled (map (record_at n) (element_payloads (ScalarOf own) (values_from (map value_of vs)))) ≡ flat_map (λ v. scalar_record_bytes n (Some plain) (value_of v)) vs →
          spelled (map (record_at n) (element_payloads (ScalarOf own) (values_from (c ∷ map value_of vs)))) ≡ scalar_record_bytes n (Some plain) c ++ flat_map (λ v. scalar_record_bytes n (Some plain) (value_of v)) vs
      go (ScalarValue s) one more =
          ap (λ w. short_key n w ++ (short_plain (written own s) ++ spelled (map (record_at n) (element_payloads (ScalarOf own) (values_from (map value_of vs)))))) (written_wire own s one)
          ∙ sym (append_assoc (short_key n (kind_wire own)) (short_plain (written own s)) (spelled (map (record_at n) (element_payloads (ScalarOf own) (values_from (map value_of vs))))))
          ∙ ap (λ l. (short_key n (kind_wire own) ++ short_plain (written own s)) ++ l) more
          ∙ ap₂ (λ w p. (short_key n w ++ short_plain p) ++ flat_map (λ v. scalar_record_bytes n (Some plain) (value_of v)) vs) (sym same.wire) (sym (same.write s))
      go (MessageValue m) one more = absurd (true≢false (sym one))
      go (ListValue vs) one more = absurd (true≢false (sym one))
      go (MapValue ps) one more = absurd (true≢false (sym one))

  list_spelled : (kind : TableKind) (packed : Bool) (vs : List Value) → plain_kind kind ≡ Some plain → elements_valid (ScalarOf own) (values_from (map value_of vs)) ≡ true →
      spelled (map (record_at n) (list_payloads (Repeated packed) (element_payloads (ScalarOf own) (values_from (map value_of vs))))) ≡ list_bytes n packed kind vs
  list_spelled kind true [] e h = refl
  list_spelled kind false [] e h = refl
  list_spelled kind true (v ∷ vs) e h =
      append-nil-behind (end_to_end (element_payloads (ScalarOf own) (values_from (map value_of (v ∷ vs)))))
      ∙ ap (λ body. short_key n wires.LengthDelimited ++ short_plain (Len body)) (payloads_spelled (v ∷ vs) h ∙ ap (λ o. flat_map (λ v. scalar_bytes o (value_of v)) (v ∷ vs)) (sym e))
    where
      append-nil-behind : (body : List ℕ) → short_key n wires.LengthDelimited ++ (short_plain (Len body) ++ []) ≡ short_key n wires.LengthDelimited ++ short_plain (Len body)
      append-nil-behind body = ap (λ l. short_key n wires.LengthDelimited ++ l) (append-nil (short_plain (Len body)))
  list_spelled kind false (v ∷ vs) e h = records_spelled (v ∷ vs) h ∙ ap (λ o. flat_map (λ v. scalar_record_bytes n o (value_of v)) (v ∷ vs)) (sym e)

-- what the own kind takes, the plain one does
element_taken : (plain own : ScalarKind) (c : contents.Value) → SamePayloads plain own → element_valid (ScalarOf own) c ≡ true → element_valid (ScalarOf plain) c ≡ true
element_taken plain own (ScalarValue s) same h = same.takes s h
element_taken plain own (MessageValue m) same h = absurd (true≢false (sym h))
element_taken plain own (ListValue vs) same h = absurd (true≢false (sym h))
element_taken plain own (MapValue ps) same h = absurd (true≢false (sym h))

takes_all : (kind : TableKind) (plain own : ScalarKind) (vs : List Value) → SamePayloads plain own → plain_kind kind ≡ Some plain → elements_valid (ScalarOf own) (values_from (map value_of vs)) ≡ true → TakesScalars kind vs
takes_all kind plain own [] same e h = tt
takes_all kind plain own (v ∷ vs) same e h =
    let (one, more) = and_parts (element_valid (ScalarOf own) (value_of v)) (elements_valid (ScalarOf own) (values_from (map value_of vs))) h in
    (subst (λ o. IsSomeAnd o (λ k. element_valid (ScalarOf k) (value_of v) ≡ true)) (sym e) (element_taken plain own (value_of v) same one), takes_all kind plain own vs same e more)

-- what the writer of a list needs to know, and what it has to write
pub record ListWritten (fields : List Field) (n : ℕ) (kind : TableKind) (packed : Bool) (vs : List Value) : Type 0 where
  pub takes : TakesScalars kind vs
  pub bytes : value_bytes fields n (ListValue (values_from (map value_of vs))) ≡ list_bytes n packed kind vs

list_of_kind : (fields : List Field) (n : ℕ) (f : Field) (packed : Bool) (kind : TableKind) (plain own : ScalarKind) (vs : List Value) → SamePayloads plain own → field_of fields n ≡ Some f → f.form ≡ Repeated packed → f.value_type.kind ≡ ScalarOf own → plain_kind kind ≡ Some plain →
    value_valid f (ListValue (values_from (map value_of vs))) ≡ true → ListWritten fields n kind packed vs
list_of_kind fields n f packed kind plain own vs same found form is e h =
    let valid : elements_valid (ScalarOf own) (values_from (map value_of vs)) ≡ true = ap (λ kind. elements_valid kind (values_from (map value_of vs))) (sym is) ∙ (and_parts _ _ h).1 in
    record { takes = takes_all kind plain own vs same e valid; bytes = list_written fields n f packed own (values_from (map value_of vs)) found form is valid ∙ list_spelled n plain own same kind packed vs e valid }

-- ROWS

-- the list of a row that names no message
pub row_list_written : (d : PooledType) (n : ℕ) (row : FieldRow) (v : Value) (vs : Vec Value Global) → names_message row.kind ≡ false → Some (schema_field (pool_rows d.pool) row) ≡ field_of (known_of d) n → is_repeated row.cardinality ≡ true →
    passes (field_of (known_of d) n) (λ f. value_valid f (value_of v)) ≡ true → v ≡ values.List vs → ListWritten (known_of d) n row.kind row.is_packed vs.items
row_list_written d n row v vs scalar found many valid is =
    let kind = scalars_kind (pool_rows d.pool) row scalar in
    let (plain, named) = plain_of (pool_rows d.pool).enums row.kind kind.scalar kind.named in
    list_of_kind (known_of d) n (schema_field (pool_rows d.pool) row) row.is_packed row.kind plain kind.scalar vs.items (plain_payloads (pool_rows d.pool).enums row.kind plain kind.scalar named kind.named)
    (sym found) (scalars_row (pool_rows d.pool) row many scalar) kind.is named
    (passing (field_of (known_of d) n) (schema_field (pool_rows d.pool) row) (λ f. value_valid f (ListValue (values_from (map value_of vs.items)))) (sym found)
    (subst (λ c. passes (field_of (known_of d) n) (λ f. value_valid f c) ≡ true) (ap value_of is ∙ value_of_list vs) valid))

pub takes_same : (fields : List Field) (n : ℕ) (kind : TableKind) (packed : Bool) (vs ws : List Value) → ws ≡ vs → ListWritten fields n kind packed vs → TakesScalars kind ws
takes_same fields n kind packed vs ws same w = subst (TakesScalars kind) (sym same) w.takes

pub list_value_bytes : (fields : List Field) (n : ℕ) (kind : TableKind) (packed : Bool) (v : Value) (vs : Vec Value Global) (ws : List Value) → v ≡ values.List vs → ws ≡ vs.items → ListWritten fields n kind packed vs.items →
    value_bytes fields n (value_of v) ≡ list_bytes n packed kind ws
list_value_bytes fields n kind packed v vs ws is same w = ap (value_bytes fields n) (ap value_of is ∙ value_of_list vs) ∙ w.bytes ∙ ap (list_bytes n packed kind) (sym same)

-- a value of a field of lists is a list
pub valid_list_value : (d : PooledType) (n : ℕ) (row : FieldRow) (c : contents.Value) → (schema_field (pool_rows d.pool) row).form ≡ Repeated row.is_packed → Some (schema_field (pool_rows d.pool) row) ≡ field_of (known_of d) n →
    passes (field_of (known_of d) n) (λ f. value_valid f c) ≡ true → IsList c
valid_list_value d n row c form found valid =
    go (schema_field (pool_rows d.pool) row) row.is_packed c form (passing (field_of (known_of d) n) (schema_field (pool_rows d.pool) row) (λ f. value_valid f c) (sym found) valid)
  where
    go : (f : Field) (packed : Bool) (c : contents.Value) → f.form ≡ Repeated packed → value_valid f c ≡ true → IsList c
    go f packed (ScalarValue s) form h = absurd (true≢false (sym (and_parts _ _ h).0 ∙ ap is_singular form))
    go f packed (MessageValue m) form h = absurd (true≢false (sym (and_parts _ _ h).0 ∙ ap is_singular form))
    go f packed (ListValue vs) form h = tt
    go f packed (MapValue ps) form h = absurd (true≢false (sym h ∙ ap (λ form. pairs_valid form f.value_type.kind ps) form))
