-- What is written of a message or a group in the place of its field.
use Rattle.std.specs.Prelude.{◌≡◌, ◌∷◌, ◌++◌, ◌⊎◌}
use Rattle.prost_reflect_dynamic.proofs.Common.{ℕ, Bool, true, false, List, [], inl, inr, Some, refl, sym, ap, ◌∙◌, append-nil, append_assoc, true≢false, and_parts, Len, Record, short_key, short_plain, record_at, spelled, Kind, ScalarOf, MessageOf, GroupOf, ValueType, Field, is_message, is_singular, field_of, passes, Content, MessageValue, records, message_payload, kept, encodable, value_valid, value_passes, fit_test, value_bytes, message_written, TableKind, FieldRow, EnumRow, schema_kind, schema_field, is_repeated, PooledType, DynamicMessage, Value, Value-F, roll-Value, fold-roll-Value, ind-Value, pool_rows, known_of, ValueWritable, nested_bytes, value_step, message_step, value_of, content_of}
use denote.Hole.Carrier as Carrier
use Rattle.prost_reflect_wire.specs.declared.key.WireType.TheVariants as wires
use Rattle.prost_reflect_wire.specs.Content as contents
use Rattle.prost_reflect_tables.specs.declared.tables.TableKind.TheVariants as kinds
use Rattle.prost_reflect_dynamic.specs.declared.value.Value as values
use Rattle.prost_reflect_rows.proofs.PlainKinds.{single_row, own_of}
use Rattle.prost_reflect_dynamic.proofs.Views.{value_of_message}
use Rattle.prost_reflect_dynamic.proofs.WrittenValues.{is_message_value, passing}

-- A MESSAGE OR NOT

abbrev MessageOrNot : Value → Type 0
MessageOrNot v = (is_message_value (value_of v) ≡ false) ⊎ ((m : DynamicMessage) × (v ≡ values.Message m))

message_or_not : (v : Value) → MessageOrNot v
unfolding roll-Value Carrier.roll
message_or_not = ind-Value MessageOrNot (λ m. Unit {0}) (λ x y is. go x) (λ x y is. tt)
  where
    go : (x : Value-F Value DynamicMessage) → MessageOrNot (roll-Value x)
    go (Value-F.Bool b) = inl (ap is_message_value (fold-roll-Value contents.Value Content value_step message_step (Value-F.Bool b)))
    go (Value-F.I32 z) = inl (ap is_message_value (fold-roll-Value contents.Value Content value_step message_step (Value-F.I32 z)))
    go (Value-F.I64 z) = inl (ap is_message_value (fold-roll-Value contents.Value Content value_step message_step (Value-F.I64 z)))
    go (Value-F.U32 n) = inl (ap is_message_value (fold-roll-Value contents.Value Content value_step message_step (Value-F.U32 n)))
    go (Value-F.U64 n) = inl (ap is_message_value (fold-roll-Value contents.Value Content value_step message_step (Value-F.U64 n)))
    go (Value-F.F32 n) = inl (ap is_message_value (fold-roll-Value contents.Value Content value_step message_step (Value-F.F32 n)))
    go (Value-F.F64 n) = inl (ap is_message_value (fold-roll-Value contents.Value Content value_step message_step (Value-F.F64 n)))
    go (Value-F.String text) = inl (ap is_message_value (fold-roll-Value contents.Value Content value_step message_step (Value-F.String text)))
    go (Value-F.Bytes bytes) = inl (ap is_message_value (fold-roll-Value contents.Value Content value_step message_step (Value-F.Bytes bytes)))
    go (Value-F.EnumNumber z) = inl (ap is_message_value (fold-roll-Value contents.Value Content value_step message_step (Value-F.EnumNumber z)))
    go (Value-F.Message m) = inr (m, refl)
    go (Value-F.List vs) = inl (ap is_message_value (fold-roll-Value contents.Value Content value_step message_step (Value-F.List vs)))
    go (Value-F.Map m) = inl (ap is_message_value (fold-roll-Value contents.Value Content value_step message_step (Value-F.Map m)))

pub no_message_value : (v : Value) → ((m : DynamicMessage) → v ≡ values.Message m → ⊥) → is_message_value (value_of v) ≡ false
no_message_value v none = go (message_or_not v)
  where
    go : MessageOrNot v → is_message_value (value_of v) ≡ false
    go (inl e) = e
    go (inr found) = absurd (none found.0 found.1)

-- ITS RECORD

kind_bytes : (n : ℕ) (kind : Kind) (g : Bool) (c : Content) → is_message kind ≡ true → ((T : ℕ) → kind ≡ MessageOf T → g ≡ false) → ((T : ℕ) → kind ≡ GroupOf T → g ≡ true) → spelled (record_at n (message_payload kind (records (kept c))) ∷ []) ≡ nested_bytes n g c
kind_bytes n (ScalarOf kind) g c h plain group = absurd (true≢false (sym h))
kind_bytes n (MessageOf T) g c h plain group = ap (λ l. short_key n wires.LengthDelimited ++ l) (append-nil (short_plain (Len (spelled (records (kept c)))))) ∙ ap (λ g. nested_bytes n g c) (sym (plain T refl))
kind_bytes n (GroupOf T) g c h plain group = ap (λ l. short_key n wires.StartGroup ++ (spelled (records (kept c)) ++ l)) (append-nil (short_key n wires.EndGroup)) ∙ ap (λ g. nested_bytes n g c) (sym (group T refl))

-- and in front of further records
pub kind_bytes_before : (n : ℕ) (kind : Kind) (g : Bool) (c : Content) (rs : List Record) → is_message kind ≡ true → ((T : ℕ) → kind ≡ MessageOf T → g ≡ false) → ((T : ℕ) → kind ≡ GroupOf T → g ≡ true) →
    spelled (record_at n (message_payload kind (records (kept c))) ∷ rs) ≡ nested_bytes n g c ++ spelled rs
kind_bytes_before n (ScalarOf kind) g c rs h plain group = absurd (true≢false (sym h))
kind_bytes_before n (MessageOf T) g c rs h plain group =
    sym (append_assoc (short_key n wires.LengthDelimited) (short_plain (Len (spelled (records (kept c))))) (spelled rs)) ∙ ap (λ g. nested_bytes n g c ++ spelled rs) (sym (plain T refl))
kind_bytes_before n (GroupOf T) g c rs h plain group =
    ap (λ l. short_key n wires.StartGroup ++ l) (sym (append_assoc (spelled (records (kept c))) (short_key n wires.EndGroup) (spelled rs)))
    ∙ sym (append_assoc (short_key n wires.StartGroup) (spelled (records (kept c)) ++ short_key n wires.EndGroup) (spelled rs)) ∙ ap (λ g. nested_bytes n g c ++ spelled rs) (sym (group T refl))

pub shown_plain : (enums : List EnumRow) (kind : TableKind) (g : Bool) (T : ℕ) → schema_kind enums kind g ≡ MessageOf T → g ≡ false
shown_plain enums (kinds.Message U) true T e = cc
shown_plain enums (kinds.Message U) false T e = refl
shown_plain enums kind g T e = cc

pub shown_group : (enums : List EnumRow) (kind : TableKind) (g : Bool) (T : ℕ) → schema_kind enums kind g ≡ GroupOf T → g ≡ true
shown_group enums (kinds.Message U) true T e = refl
shown_group enums (kinds.Message U) false T e = cc
shown_group enums kind g T e = cc

-- what the writer of a message's value needs to know, and what it has to write
pub record NestedWritten (d : PooledType) (n : ℕ) (g : Bool) (m : DynamicMessage) (v : contents.Value) : Type 0 where
  pub fits : encodable (content_of m) ≡ true
  pub bytes : value_bytes (known_of d) n v ≡ nested_bytes n g (content_of m)

pub nested_written : (d : PooledType) (n : ℕ) (row : FieldRow) (v : Value) (m : DynamicMessage) → is_repeated row.cardinality ≡ false → Some (schema_field (pool_rows d.pool) row) ≡ field_of (known_of d) n → ValueWritable (known_of d) n (value_of v) →
    v ≡ values.Message m → NestedWritten d n row.is_group m (value_of v)
nested_written d n row v m one found writable is =
    let shown : Field = schema_field (pool_rows d.pool) row in
    let seen : value_of v ≡ MessageValue (content_of m) = ap value_of is ∙ value_of_message m in
    let single = single_row (pool_rows d.pool) row one in
    let valid : value_valid (schema_field (pool_rows d.pool) row) (MessageValue (content_of m)) ≡ true = passing (field_of (known_of d) n) (schema_field (pool_rows d.pool) row) (λ f. value_valid f (MessageValue (content_of m))) (sym found)
    (ap (λ v. passes (field_of (known_of d) n) (λ f. value_valid f v)) (sym seen) ∙ writable.valid) in
    let own : (schema_field (pool_rows d.pool) row).value_type.kind ≡ schema_kind (pool_rows d.pool).enums row.kind row.is_group = ap (λ (t : ValueType). t.kind) (own_of (pool_rows d.pool) row single) in
    record {
      fits = ap (value_passes fit_test) (sym seen) ∙ writable.fits;
      bytes = ap (value_bytes (known_of d) n) seen
          ∙ message_written (known_of d) n (schema_field (pool_rows d.pool) row) (content_of m) (sym found) single
          ∙ kind_bytes n (schema_field (pool_rows d.pool) row).value_type.kind row.is_group (content_of m) (and_parts (is_singular (schema_field (pool_rows d.pool) row).form) _ valid).1
          (λ T e. shown_plain (pool_rows d.pool).enums row.kind row.is_group T (sym own ∙ e)) (λ T e. shown_group (pool_rows d.pool).enums row.kind row.is_group T (sym own ∙ e));
    }
