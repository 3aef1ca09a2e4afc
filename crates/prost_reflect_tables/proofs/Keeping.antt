-- What linked rows keep, place by place.
use Rattle.std.specs.Prelude.{◌≡◌, ◌||◌, ◌∷◌}
use Rattle.prost_reflect_tables.proofs.Common.{ℕ, zero, suc, Bool, true, not, List, [], length, Option, Some, None, refl, sym, ap, ◌∙◌, arith, slice_get, list_all, and_parts, schema_valid, FieldRow, MessageRow, TableRows, fields_at, fields_or_none, schema_from, is_linked, message_linked, field_linked, ascending_from, has_entry_numbers, kind_in_range}

pub passes_at : {X : Type 0} (p : X → Bool) (xs : List X) (i : ℕ) (x : X) → list_all p xs ≡ true → slice_get xs i ≡ Some x → p x ≡ true
passes_at p [] i x h e = cc
passes_at p (y ∷ ys) zero x h e = grind (arith, (and_parts (p y) (list_all p ys) h).0)
passes_at p (y ∷ ys) (suc i) x h e = passes_at p ys i x (and_parts (p y) (list_all p ys) h).1 e

pub schema_is_valid : (rows : TableRows) → is_linked rows ≡ true → schema_valid (schema_from rows) ≡ true
schema_is_valid rows linked = (and_parts _ _ linked).1

message_keeps : (rows : TableRows) (T : ℕ) (m : MessageRow) → is_linked rows ≡ true → slice_get rows.messages T ≡ Some m → message_linked (length rows.messages) (length rows.enums) m ≡ true
message_keeps rows T m linked at = passes_at _ rows.messages T m (and_parts _ _ (and_parts _ _ linked).0).0 at

pub fields_ascend : (rows : TableRows) (T : ℕ) → is_linked rows ≡ true → ascending_from 0 (fields_at rows T) ≡ true
fields_ascend rows T linked = of (slice_get rows.messages T) refl
  where
    of : (o : Option MessageRow) → slice_get rows.messages T ≡ o → ascending_from 0 (fields_or_none o) ≡ true
    of None at = refl
    of (Some m) at = (and_parts _ _ (and_parts _ _ (and_parts _ _ (message_keeps rows T m linked at)).0).0).0

message_of_field : (rows : TableRows) (T i : ℕ) (f : FieldRow) (o : Option MessageRow) → slice_get rows.messages T ≡ o → slice_get (fields_or_none o) i ≡ Some f → (m : MessageRow) × ((slice_get rows.messages T ≡ Some m) × (slice_get m.fields i ≡ Some f))
message_of_field rows T i f None at e = cc
message_of_field rows T i f (Some m) at e = (m, (at, e))

pub field_keeps : (rows : TableRows) (T i : ℕ) (f : FieldRow) → is_linked rows ≡ true → slice_get (fields_at rows T) i ≡ Some f → kind_in_range (length rows.messages) (length rows.enums) f.kind ≡ true
field_keeps rows T i f linked e =
    let found = message_of_field rows T i f (slice_get rows.messages T) refl e in
    let keeps = message_keeps rows T found.0 linked found.1.0 in
    let field = passes_at (field_linked (length rows.messages) (length rows.enums) (length found.0.oneofs)) found.0.fields i f (and_parts _ _ (and_parts _ _ (and_parts _ _ keeps).0).0).1 found.1.1 in
    (and_parts _ _ field).0

-- the entries of a map have a key and a value
pub entry_keeps : (rows : TableRows) (T : ℕ) (m : MessageRow) → is_linked rows ≡ true → slice_get rows.messages T ≡ Some m → m.is_map_entry ≡ true → has_entry_numbers m.fields ≡ true
entry_keeps rows T m linked at entry = ap (λ b. not b || has_entry_numbers m.fields) (sym entry) ∙ (and_parts _ _ (message_keeps rows T m linked at)).1
