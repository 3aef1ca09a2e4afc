-- The fields of the schema that rows give, and the one of a number.
use Rattle.std.specs.Prelude.{◌≡◌, ◌∷◌, ◌==◌}
use Rattle.prost_reflect_tables.proofs.Common.{ℕ, zero, suc, Bool, true, false, cond, List, [], length, get_or, map, Option, Some, None, refl, sym, ap, ◌∙◌, slice_get, option_map, nat_lt, position_or_len, eqb-true, ltb-false, find_at, length-map, get_or_from_slice_get, slice_get_read, slice_get-map, slice_get_past, Field, known, field_of, FieldTable, field_row, FieldRow, MessageRow, TableRows, fields_at, fields_or_none, row_of, place_of, is_linked, ascending_from, schema_from, schema_message, schema_field}
use Rattle.std.proofs.lemmas.List.Quantifiers.{position-Some}
use Rattle.prost_reflect_tables.proofs.Ascending.{place_found}
use Rattle.prost_reflect_tables.proofs.Keeping.{fields_ascend}

known_among : (rows : TableRows) (messages : List MessageRow) (T : ℕ) → known (map (schema_message rows) messages) T ≡ map (schema_field rows) (fields_or_none (slice_get messages T))
known_among rows [] T = refl
known_among rows (m ∷ messages) zero = refl
known_among rows (m ∷ messages) (suc T) = known_among rows messages T

-- The known fields of a message type are the rows of its fields, shown.
pub known_rows : (rows : TableRows) (T : ℕ) → known (schema_from rows) T ≡ map (schema_field rows) (fields_at rows T)
unfolding schema_from
known_rows rows T = known_among rows rows.messages T

field_among : (rows : TableRows) (fields : List FieldRow) (n : ℕ) → field_of (map (schema_field rows) fields) n ≡ option_map (schema_field rows) (row_of fields n)
field_among rows [] n = refl
field_among rows (f ∷ fields) n = choice (f.number == n) (field_of (map (schema_field rows) fields) n) (row_of fields n) (field_among rows fields n)
  where
    choice : (b : Bool) (o : Option Field) (p : Option FieldRow) → o ≡ option_map (schema_field rows) p → cond b (Some (schema_field rows f)) o ≡ option_map (schema_field rows) (cond b (Some f) p)
    choice true o p e = refl
    choice false o p e = e

-- The field of a number is the row of that number, shown.
pub field_of_number : (rows : TableRows) (T n : ℕ) → field_of (known (schema_from rows) T) n ≡ option_map (schema_field rows) (row_of (fields_at rows T) n)
field_of_number rows T n = ap (λ fields. field_of fields n) (known_rows rows T) ∙ field_among rows (fields_at rows T) n

chosen : (b : Bool) (x i : ℕ) → cond b (Some x) None ≡ Some i → x ≡ i
chosen true x i e = cc
chosen false x i e = cc

refused : (b : Bool) (x : ℕ) → cond b (Some x) None ≡ None → b ≡ false
refused true x e = cc
refused false x e = refl

-- The row of a number stands at its place.
pub row_at_place : (fields : List FieldRow) (n i : ℕ) → place_of fields n ≡ Some i → slice_get fields i ≡ row_of fields n
row_at_place fields n i e =
    let test : FieldRow → Bool = λ (f : FieldRow). f.number == n in
    let place : position_or_len test fields ≡ i = chosen (nat_lt (position_or_len test fields) (length fields)) _ i e in
    ap (slice_get fields) (sym place) ∙ sym (find_at test fields)

pub row_of_number : (fields : List FieldRow) (n i : ℕ) (f : FieldRow) → place_of fields n ≡ Some i → slice_get fields i ≡ Some f → f.number ≡ n
row_of_number fields n i f e at =
    let test : FieldRow → Bool = λ (f : FieldRow). f.number == n in
    let passes = position-Some test fields i f e in
    eqb-true f.number n (rw (get_or_from_slice_get fields i f f at) at passes.1)

pub no_row : (fields : List FieldRow) (n : ℕ) → place_of fields n ≡ None → row_of fields n ≡ None
no_row fields n e =
    let test : FieldRow → Bool = λ (f : FieldRow). f.number == n in
    let place = refused (nat_lt (position_or_len test fields) (length fields)) (position_or_len test fields) e in
    find_at test fields ∙ slice_get_past fields (position_or_len test fields) (ltb-false _ _ place)

-- The row at a place is the row of its number, where numbers ascend.
pub row_at_number : (fields : List FieldRow) (i : ℕ) (f : FieldRow) → ascending_from 0 fields ≡ true → slice_get fields i ≡ Some f → row_of fields f.number ≡ Some f
row_at_number fields i f ascend at = sym (row_at_place fields f.number i (place_found f.number fields i f ascend at refl)) ∙ at

-- What is known under the number of a row is that row, shown.
pub known_row : (rows : TableRows) (T i : ℕ) (f : FieldRow) → is_linked rows ≡ true → slice_get (fields_at rows T) i ≡ Some f → field_of (known (schema_from rows) T) f.number ≡ Some (schema_field rows f)
known_row rows T i f linked at = field_of_number rows T f.number ∙ ap (option_map (schema_field rows)) (row_at_number (fields_at rows T) i f (fields_ascend rows T linked) at)

-- AT THE TABLES

found_row : (fields : List FieldTable) (n i : ℕ) (f : FieldTable) → f ≡ get_or fields i f → place_of (map field_row fields) n ≡ Some i → Some (field_row f) ≡ row_of (map field_row fields) n
found_row fields n i f read e =
    let within = position-Some (λ (r : FieldRow). r.number == n) (map field_row fields) i (field_row f) e in
    let at : slice_get fields i ≡ Some f = slice_get_read fields (length fields) i f refl (rw length-map at within.0) read in
    sym (slice_get-map field_row fields i ∙ ap (option_map field_row) at) ∙ row_at_place (map field_row fields) n i e

shown : (rows : TableRows) (T n : ℕ) (o : Option FieldRow) → o ≡ row_of (fields_at rows T) n → option_map (schema_field rows) o ≡ field_of (known (schema_from rows) T) n
shown rows T n o e = ap (option_map (schema_field rows)) e ∙ sym (field_of_number rows T n)

-- What stands at the place of a number is its row, and shows its field.
pub record Found (rows : TableRows) (T n : ℕ) (o : Option FieldRow) : Type 0 where
  pub row : o ≡ row_of (fields_at rows T) n
  pub field : option_map (schema_field rows) o ≡ field_of (known (schema_from rows) T) n

pub found : (rows : TableRows) (T n i : ℕ) (fields : List FieldTable) (f : FieldTable) → map field_row fields ≡ fields_at rows T → f ≡ get_or fields i f → Some i ≡ place_of (map field_row fields) n → Found rows T n (Some (field_row f))
found rows T n i fields f all read e =
    let here : Some (field_row f) ≡ row_of (fields_at rows T) n = found_row fields n i f read (sym e) ∙ ap (λ fs. row_of fs n) all in
    record { row = here; field = shown rows T n _ here }

pub missing : (rows : TableRows) (T n : ℕ) (fields : List FieldTable) → map field_row fields ≡ fields_at rows T → None ≡ place_of (map field_row fields) n → Found rows T n None
missing rows T n fields all e =
    let here : None ≡ row_of (fields_at rows T) n = sym (no_row (map field_row fields) n (sym e)) ∙ ap (λ fs. row_of fs n) all in
    record { row = here; field = shown rows T n _ here }
