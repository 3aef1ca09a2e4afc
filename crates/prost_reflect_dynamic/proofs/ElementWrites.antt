-- What is written of a list of messages or groups.
use Rattle.std.specs.Prelude.{◌≡◌, ◌||◌, ◌∷◌, ◌++◌}
use Rattle.prost_reflect_dynamic.proofs.Common.{ℕ, Bool, true, false, not, List, [], map, Some, refl, sym, ap, ◌∙◌, subst, true≢false, Vec, Global, and_parts, record_at, spelled, Scalar, Kind, ScalarOf, MessageOf, GroupOf, Repeated, field_of, is_message, is_packable_kind, passes, is_list, MessageValue, ListValue, values_from, element_payloads, encodable, kind_takes, element_valid, elements_valid, value_valid, value_passes, values_pass, fit_test, kept_values, value_bytes, checked_field, checked_list, FieldRow, schema_kind, schema_field, is_repeated, PooledType, DynamicMessage, Value, names_message, schema_at, ValueWritable, nested_bytes, known_of, ElementWritable, AreElements, element_bytes, elements_bytes, pool_rows, value_of, content_of}
use Rattle.prost_reflect_wire.specs.Content as contents
use Rattle.prost_reflect_laws.proofs.ListWritten.{messages_written}
use Rattle.prost_reflect_dynamic.specs.declared.value.Value as values
use Rattle.prost_reflect_rows.proofs.RowKinds.{message_kind}
use Rattle.prost_reflect_rows.proofs.Described.{found_checked}
use Rattle.prost_reflect_dynamic.proofs.NestedWrites.{no_message_value, kind_bytes_before, shown_plain, shown_group}
use Rattle.prost_reflect_rows.proofs.PlainKinds.{list_kind}
use Rattle.prost_reflect_dynamic.proofs.Views.{value_of_list, value_of_message}
use Rattle.prost_reflect_dynamic.proofs.WrittenValues.{passing, is_message_value}

-- ELEMENTS

pub element_is_message : (c : contents.Value) → ElementWritable c → is_message_value c ≡ true
element_is_message (MessageValue c) w = refl
element_is_message (contents.ScalarValue s) w = absurd w
element_is_message (ListValue vs) w = absurd w
element_is_message (contents.MapValue ps) w = absurd w

pub element_encodable : (m : DynamicMessage) (v : Value) → v ≡ values.Message m → ElementWritable (value_of v) → encodable (content_of m) ≡ true
element_encodable m v is w = go (subst ElementWritable (ap value_of is ∙ value_of_message m) w)
  where
    go : ElementWritable (MessageValue (content_of m)) → encodable (content_of m) ≡ true
    go w = w

pub no_element : (v : Value) → ElementWritable (value_of v) → ((m : DynamicMessage) → v ≡ values.Message m → ⊥) → ⊥
no_element v w none = true≢false (sym (element_is_message (value_of v) w) ∙ no_message_value v none)

-- THE WHOLE LIST

module _ (n : ℕ) (kind : Kind) (g : Bool) (message : is_message kind ≡ true) (plain : (T : ℕ) → kind ≡ MessageOf T → g ≡ false) (group : (T : ℕ) → kind ≡ GroupOf T → g ≡ true) where
  elements_spelled : (vs : List Value) → AreElements vs → spelled (map (record_at n) (element_payloads kind (kept_values (values_from (map value_of vs))))) ≡ elements_bytes n g vs
  elements_spelled [] w = refl
  elements_spelled (v ∷ vs) (one, more) = go (value_of v) one (elements_spelled vs more)
    where
      go : (c : contents.Value) → ElementWritable c → spelled (map (record_at n) (element_payloads kind (kept_values (values_from (map value_of vs))))) ≡ elements_bytes n g vs →
          spelled (map (record_at n) (element_payloads kind (kept_values (values_from (c ∷ map value_of vs))))) ≡ element_bytes n g c ++ elements_bytes n g vs
      go (MessageValue c) one more =
          kind_bytes_before n kind g c (map (record_at n) (element_payloads kind (kept_values (values_from (map value_of vs))))) message plain group ∙ ap (λ l. nested_bytes n g c ++ l) more
      go (contents.ScalarValue s) one more = absurd one
      go (ListValue ws) one more = absurd one
      go (contents.MapValue ps) one more = absurd one

-- elements that fit the list can be written
module _ (kind : Kind) (message : is_message kind ≡ true) where
  each_writable : (vs : List Value) → elements_valid kind (values_from (map value_of vs)) ≡ true → values_pass fit_test (values_from (map value_of vs)) ≡ true → AreElements vs
  each_writable [] h f = tt
  each_writable (v ∷ vs) h f =
      let valid = and_parts (element_valid kind (value_of v)) (elements_valid kind (values_from (map value_of vs))) h in
      let fits = and_parts (value_passes fit_test (value_of v)) (values_pass fit_test (values_from (map value_of vs))) f in
      (go (value_of v) valid.0 fits.0, each_writable vs valid.1 fits.1)
    where
      scalar : (kind : Kind) (s : Scalar) → is_message kind ≡ true → kind_takes kind s ≡ true → ⊥
      scalar (ScalarOf k) s m h = true≢false (sym m)
      scalar (MessageOf T) s m h = true≢false (sym h)
      scalar (GroupOf T) s m h = true≢false (sym h)

      go : (c : contents.Value) → element_valid kind c ≡ true → value_passes fit_test c ≡ true → ElementWritable c
      go (MessageValue c) h f = f
      go (contents.ScalarValue s) h f = absurd (scalar kind s message h)
      go (ListValue ws) h f = absurd (true≢false (sym h))
      go (contents.MapValue ps) h f = absurd (true≢false (sym h))

-- what the writer of a list of messages needs to know, and what it has to write
pub record MessagesWritten (d : PooledType) (n : ℕ) (g : Bool) (v : contents.Value) (vs : List Value) : Type 0 where
  pub takes : AreElements vs
  pub bytes : value_bytes (known_of d) n v ≡ elements_bytes n g vs

not_packed : (packed : Bool) (kind : Kind) → is_message kind ≡ true → (not packed || is_packable_kind kind) ≡ true → packed ≡ false
not_packed true (ScalarOf kind) m h = absurd (true≢false (sym m))
not_packed true (MessageOf T) m h = absurd (true≢false (sym h))
not_packed true (GroupOf T) m h = absurd (true≢false (sym h))
not_packed false kind m h = refl

pub row_messages_written : (d : PooledType) (n : ℕ) (row : FieldRow) (v : Value) (vs : Vec Value Global) → Some (schema_field (pool_rows d.pool) row) ≡ field_of (known_of d) n → is_repeated row.cardinality ≡ true →
    (schema_field (pool_rows d.pool) row).form ≡ Repeated row.is_packed → names_message row.kind ≡ true → ValueWritable (known_of d) n (value_of v) → v ≡ values.List vs → MessagesWritten d n row.is_group (value_of v) vs.items
row_messages_written d n row v vs found many form names w is =
    let seen : value_of v ≡ ListValue (values_from (map value_of vs.items)) = ap value_of is ∙ value_of_list vs in
    let own : (schema_field (pool_rows d.pool) row).value_type.kind ≡ schema_kind (pool_rows d.pool).enums row.kind row.is_group = list_kind (pool_rows d.pool) row many (ap is_list form) in
    let message : is_message (schema_field (pool_rows d.pool) row).value_type.kind ≡ true = ap is_message own ∙ message_kind (pool_rows d.pool).enums row.kind row.is_group ∙ names in
    let checked = checked_list (schema_at d) (schema_field (pool_rows d.pool) row) row.is_packed (checked_field (schema_at d) (schema_field (pool_rows d.pool) row) (found_checked d n (schema_field (pool_rows d.pool) row) (sym found))) form in
    let single : (schema_field (pool_rows d.pool) row).form ≡ Repeated false = form ∙ ap Repeated (not_packed row.is_packed (schema_field (pool_rows d.pool) row).value_type.kind message checked.packable) in
    let valid : value_valid (schema_field (pool_rows d.pool) row) (ListValue (values_from (map value_of vs.items))) ≡ true = passing (field_of (known_of d) n) (schema_field (pool_rows d.pool) row) (λ f. value_valid f (ListValue (values_from (map value_of vs.items)))) (sym found)
    (ap (λ v. passes (field_of (known_of d) n) (λ f. value_valid f v)) (sym seen) ∙ w.valid) in
    let takes : AreElements vs.items = each_writable (schema_field (pool_rows d.pool) row).value_type.kind message vs.items (and_parts _ _ valid).1 (ap (value_passes fit_test) (sym seen) ∙ w.fits) in
    record {
      takes = takes;
      bytes = ap (value_bytes (known_of d) n) seen
          ∙ messages_written (known_of d) n (schema_field (pool_rows d.pool) row) (values_from (map value_of vs.items)) (sym found) single
          ∙ elements_spelled n (schema_field (pool_rows d.pool) row).value_type.kind row.is_group message
          (λ T e. shown_plain (pool_rows d.pool).enums row.kind row.is_group T (sym own ∙ e)) (λ T e. shown_group (pool_rows d.pool).enums row.kind row.is_group T (sym own ∙ e)) vs.items takes;
    }
