-- What is written of a map of messages.
use Rattle.std.specs.Prelude.{◌≡◌, ◌≤◌, ◌&&◌, ◌∷◌, ◌++◌}
use Rattle.prost_reflect_dynamic.proofs.Common.{ℕ, true, false, List, [], map, Some, refl, sym, ap, ap₂, ◌∙◌, subst, append-nil, true≢false, arith, BTreeMap, and_parts, Len, record_at, short_key, short_plain, spelled, Scalar, scalar_valid, MessageOf, ValueType, MapFrom, Field, field_of, passes, Content, ScalarValue, MessageValue, ListValue, MapValue, Pair, message_payload, records, entry_record, pair_payloads, fit_test, kind_takes, element_valid, pairs_valid, value_valid, value_passes, pairs_pass, kept, kept_pairs, value_bytes, TableKind, FieldRow, EnumRow, own_type, schema_field, PooledType, MapKey, Value, pairs_shown, names_message, ValueWritable, nested_bytes, known_of, ElementWritable, map_parts, AreEntries, nested_entry_bytes, nested_pairs_bytes, NestedMapOfRows, pool_rows, TakesScalar, key_of, value_of}
use denote.Param.Weighed.{most}
use Rattle.prost_reflect_wire.specs.declared.key.WireType.TheVariants as wires
use Rattle.prost_reflect_wire.specs.Content as contents
use Rattle.prost_reflect_laws.proofs.MapWritten.{part_written, pair_front, map_kept_written}
use Rattle.prost_reflect_tables.specs.declared.tables.TableKind.TheVariants as kinds
use Rattle.prost_reflect_dynamic.specs.declared.value.Value as values
use Rattle.prost_reflect_rows.proofs.MapRows.{shown_map}
use Rattle.prost_reflect_dynamic.proofs.MapRows.{key_row}
use Rattle.prost_reflect_dynamic.proofs.NestedWrites.{kind_bytes_before}
use Rattle.prost_reflect_rows.proofs.RepeatedRows.{map_message}
use Rattle.prost_reflect_dynamic.proofs.Views.{value_of_map}
use Rattle.prost_reflect_dynamic.proofs.WrittenMaps.{KeyRow, part_written_as, part_takes}
use Rattle.prost_reflect_dynamic.proofs.WrittenValues.{passing}

-- what the writer of a map of messages needs to know, and what it has to write
pub record NestedPairsWritten (fields : List Field) (n : ℕ) (enums : List EnumRow) (key : FieldRow) (es : List (MapKey × Value)) : Type 0 where
  pub takes : AreEntries key.kind es
  pub bytes : value_bytes fields n (MapValue (pairs_shown es)) ≡ nested_pairs_bytes n enums key es

module _ (n : ℕ) (enums : List EnumRow) (key : FieldRow) (key_type value_type : ValueType) (T : ℕ) (row : KeyRow enums key key_type) (message : value_type.kind ≡ MessageOf T) where
  key_fits : (k : Scalar) → kind_takes key_type.kind k ≡ true → scalar_valid row.kind k ≡ true
  key_fits k h = ap (λ kind. kind_takes kind k) (sym row.part.is) ∙ h

  message_takes : (c : contents.Value) → element_valid (MessageOf T) c ≡ true → value_passes fit_test c ≡ true → ElementWritable c
  message_takes (MessageValue c) h f = f
  message_takes (ScalarValue s) h f = absurd (true≢false (sym h))
  message_takes (ListValue vs) h f = absurd (true≢false (sym h))
  message_takes (MapValue ps) h f = absurd (true≢false (sym h))

  entries_taken : (es : List (MapKey × Value)) → pairs_valid (MapFrom key_type) (MessageOf T) (pairs_shown es) ≡ true → pairs_pass fit_test (pairs_shown es) ≡ true → AreEntries key.kind es
  entries_taken [] h f = tt
  entries_taken (e ∷ es) h f =
      let (one, more) = and_parts (kind_takes key_type.kind (key_of e.0) && element_valid (MessageOf T) (value_of e.1)) (pairs_valid (MapFrom key_type) (MessageOf T) (pairs_shown es)) h in
      let (a, b) = and_parts (kind_takes key_type.kind (key_of e.0)) (element_valid (MessageOf T) (value_of e.1)) one in
      let (fit, fits) = and_parts (value_passes fit_test (value_of e.1)) (pairs_pass fit_test (pairs_shown es)) f in
      ((part_takes enums key key_type row.kind row.part (ScalarValue (key_of e.0)) (key_fits (key_of e.0) a), message_takes (value_of e.1) b fit), entries_taken es more fits)

  message_part : (c : Content) → spelled (entry_record value_type 2 (MessageValue (kept c)) (message_payload value_type.kind (records (kept c)))) ≡ nested_bytes 2 false c
  message_part c =
      ap (λ kind. spelled (record_at 2 (message_payload kind (records (kept c))) ∷ [])) message
      ∙ kind_bytes_before 2 (MessageOf T) false c [] refl (λ U e. refl) (λ U e. cc) ∙ append-nil (nested_bytes 2 false c)

  entries_spelled : (es : List (MapKey × Value)) → pairs_valid (MapFrom key_type) (MessageOf T) (pairs_shown es) ≡ true → spelled (map (record_at n) (pair_payloads key_type value_type (kept_pairs (pairs_shown es)))) ≡ nested_pairs_bytes n enums key es
  entries_spelled [] h = refl
  entries_spelled (e ∷ es) h =
      let (one, more) = and_parts (kind_takes key_type.kind (key_of e.0) && element_valid (MessageOf T) (value_of e.1)) (pairs_valid (MapFrom key_type) (MessageOf T) (pairs_shown es)) h in
      let (a, b) = and_parts (kind_takes key_type.kind (key_of e.0)) (element_valid (MessageOf T) (value_of e.1)) one in
      go (value_of e.1) (key_fits (key_of e.0) a) b (entries_spelled es more)
    where
      go : (c : contents.Value) → scalar_valid row.kind (key_of e.0) ≡ true → element_valid (MessageOf T) c ≡ true →
          spelled (map (record_at n) (pair_payloads key_type value_type (kept_pairs (pairs_shown es)))) ≡ nested_pairs_bytes n enums key es →
          spelled (map (record_at n) (pair_payloads key_type value_type (kept_pairs (Pair (key_of e.0) c (pairs_shown es))))) ≡ nested_entry_bytes n enums key (key_of e.0) c ++ nested_pairs_bytes n enums key es
      go (MessageValue c) a b more =
          pair_front n key_type value_type (key_of e.0) (MessageValue (kept c)) (message_payload value_type.kind (records (kept c))) (map (record_at n) (pair_payloads key_type value_type (kept_pairs (pairs_shown es))))
          ∙ ap₂ (λ (body : List ℕ) (rest : List ℕ). (short_key n wires.LengthDelimited ++ short_plain (Len body)) ++ rest)
          (ap₂ ◌++◌ (part_written key_type 1 row.kind (key_of e.0) row.part.is a ∙ sym (part_written_as enums key key_type row.kind row.part 1 (key_of e.0))) (message_part c)) more
      go (ScalarValue s) a b more = absurd (true≢false (sym b))
      go (ListValue vs) a b more = absurd (true≢false (sym b))
      go (MapValue ps) a b more = absurd (true≢false (sym b))

  pairs_of_messages : (fields : List Field) (f : Field) (es : List (MapKey × Value)) → field_of fields n ≡ Some f → f.form ≡ MapFrom key_type → f.value_type ≡ value_type → value_valid f (MapValue (pairs_shown es)) ≡ true → pairs_pass fit_test (pairs_shown es) ≡ true →
      NestedPairsWritten fields n enums key es
  pairs_of_messages fields f es found form type h fits =
      let valid : pairs_valid (MapFrom key_type) (MessageOf T) (pairs_shown es) ≡ true = ap₂ (λ form kind. pairs_valid form kind (pairs_shown es)) (sym form) (sym (ap (λ (t : ValueType). t.kind) type ∙ message)) ∙ h in
      record {
        takes = entries_taken es valid fits;
        bytes = map_kept_written fields n f key_type (pairs_shown es) found form ∙ ap (λ t. spelled (map (record_at n) (pair_payloads key_type t (kept_pairs (pairs_shown es))))) type ∙ entries_spelled es valid;
      }

-- ROWS

message_place : (kind : TableKind) → names_message kind ≡ true → (T : ℕ) × (kind ≡ kinds.Message T)
message_place (kinds.Message T) h = (T, refl)
message_place kind h = absurd (true≢false (sym h))

pub nested_rows : (d : PooledType) (n : ℕ) (row key value : FieldRow) → Some (schema_field (pool_rows d.pool) row) ≡ field_of (known_of d) n → Some (key, value) ≡ map_parts (pool_rows d.pool) row → names_message value.kind ≡ true → NestedMapOfRows d n key value
nested_rows d n row key value found parts message = record { row = row; found = found; parts = sym parts; message = message }

module _ (d : PooledType) (n : ℕ) (key value : FieldRow) (v : Value) (m : NestedMapOfRows d n key value) (writable : ValueWritable (known_of d) n (value_of v)) where
  pub nested_rows_written : (pairs : BTreeMap MapKey Value) → v ≡ values.Map pairs → NestedPairsWritten (known_of d) n (pool_rows d.pool).enums key pairs.entries
  nested_rows_written pairs is =
      let seen : value_of v ≡ MapValue (pairs_shown pairs.entries) = ap value_of is ∙ value_of_map pairs in
      let shown = shown_map (pool_rows d.pool) m.row key value m.parts in
      let (T, at) = message_place value.kind m.message in
      pairs_of_messages n (pool_rows d.pool).enums key (own_type (pool_rows d.pool).enums key) (own_type (pool_rows d.pool).enums value) T (key_row d n m.row key value m.found m.parts)
      (ap (λ (t : ValueType). t.kind) (sym shown.type) ∙ map_message d n m.row m.found key value T m.parts at) (known_of d) (schema_field (pool_rows d.pool) m.row) pairs.entries (sym m.found) shown.form shown.type
      (passing (field_of (known_of d) n) (schema_field (pool_rows d.pool) m.row) (λ f. value_valid f (MapValue (pairs_shown pairs.entries))) (sym m.found) (subst (λ c. passes (field_of (known_of d) n) (λ f. value_valid f c) ≡ true) seen writable.valid))
      (subst (λ c. value_passes fit_test c ≡ true) seen writable.fits)

  pub nested_value_bytes : (pairs : BTreeMap MapKey Value) → v ≡ values.Map pairs → value_bytes (known_of d) n (value_of v) ≡ nested_pairs_bytes n (pool_rows d.pool).enums key pairs.entries
  nested_value_bytes pairs is = ap (value_bytes (known_of d) n) (ap value_of is ∙ value_of_map pairs) ∙ (nested_rows_written pairs is).bytes

-- ENTRIES FROM THE LAST ON

-- no item weighs more than the list
most_among : {A B : Type 0} (f : A → B) (weight : B → ℕ) (left done : List A) (x : A) → weight (f x) ≤ most weight (map f (left ++ x ∷ done))
most_among f weight [] done x = omega arith
most_among f weight (y ∷ left) done x = let h : weight (f x) ≤ most weight (map f (left ++ x ∷ done)) = most_among f weight left done x in omega (arith, h)

pub most_in : {A B : Type 0} (f : A → B) (weight : B → ℕ) (items left done : List A) (x : A) → items ≡ left ++ x ∷ done → weight (f x) ≤ most weight (map f items)
most_in f weight items left done x cut = subst (λ l. weight (f x) ≤ most weight (map f l)) (sym cut) (most_among f weight left done x)

-- each entry is taken
pub entry_at : (key : TableKind) (left done : List (MapKey × Value)) (e : MapKey × Value) → AreEntries key (left ++ e ∷ done) → TakesScalar key (ScalarValue (key_of e.0)) × ElementWritable (value_of e.1)
entry_at key [] done e h = h.0
entry_at key (x ∷ left) done e h = entry_at key left done e h.1
