-- A value set at a path of what is stored.
use Rattle.std.specs.Prelude.{◌≡◌, ◌∷◌}
use Rattle.prost_reflect_dynamic.proofs.Common.{ℕ, true, List, [], Option, Some, None, ap, sym, ◌∙◌, subst, unwrap_or, and_from, ValueType, Kind, ScalarOf, MessageOf, GroupOf, Singular, Field, Schema, known, field_of, is_singular, schema_valid, Content, ContentOf, Entries, MessageValue, empty, schema_of, type_of, entries_of, value_at, kept, kept_inside, kept_value, value_valid, ValueStored, WellStored, with_field_value, set_field, default_of, default_value, value_or_default, in_message, set_at, message_of_kind, Holds, field_number, known_differ, known_valid, found_valid, kept_well, kept_content, message_kind, is_its_type, value_set, IsSetAt}
use Rattle.prost_reflect_wire.specs.Content.{Value}
use Rattle.prost_reflect_laws.proofs.FieldTypes.{typed_field}
use Rattle.prost_reflect_laws.proofs.JoinedSteps.{value_sound}
use Rattle.prost_reflect_laws.proofs.Rebuilt.{rebuilt}
use Rattle.prost_reflect_dynamic.proofs.KeptSlots.{kept_after_set, kept_after_writing}

own_number : (fields : List Field) (n : ℕ) (f : Field) → field_of fields n ≡ Some f → field_of fields f.number ≡ Some f
own_number fields n f found = ap (field_of fields) (field_number fields n f found) ∙ found

set_is : (schema : Schema) (T n : ℕ) (es : Entries) (f : Field) (v : Value) → field_of (known schema T) n ≡ Some f → value_set n v (ContentOf schema T es) ≡ ContentOf schema T (with_field_value (known schema T) f (Some v) es)
set_is schema T n es f v found = ap (λ (o : Option Field). ContentOf schema T (elim o [ None ↦ es | Some f ↦ with_field_value (known schema T) f (Some v) es ])) found

-- a value that fits its field keeps what is stored
pub set_holds : (c : Content) (n : ℕ) (f : Field) (v : Value) → schema_valid (schema_of c) ≡ true → WellStored c → field_of (known (schema_of c) (type_of c)) n ≡ Some f → ValueStored (schema_of c) f v → Holds c (value_set n v c)
set_holds (ContentOf schema T es) n f v checked w found s =
    let is = set_is schema T n es f v found in
    record {
      schema = ap schema_of is;
      type = ap type_of is;
      sound = subst WellStored (sym is) (value_sound schema T es w (known_differ schema T checked) f (own_number (known schema T) n f found) v s);
    }

-- at one number
pub set_one : (c : Content) (n : ℕ) (f : Field) (v : Value) → schema_valid (schema_of c) ≡ true → WellStored c → field_of (known (schema_of c) (type_of c)) n ≡ Some f → ValueStored (schema_of c) f v → IsSetAt (n ∷ []) v c (value_set n v c)
set_one (ContentOf schema T es) n f v checked w found s = record {
  set = kept_after_set (ContentOf schema T es) n v f (rebuilt es w.order) found;
  holds = set_holds (ContentOf schema T es) n f v checked w found s;
}

-- MESSAGES ON THE WAY

pub default_message : (schema : Schema) (t : ValueType) (kind : Kind) (U : ℕ) → message_of_kind kind ≡ Some U → default_of schema t kind ≡ MessageValue (empty schema U)
default_message schema t (ScalarOf kind) U e = absurd cc
default_message schema t (MessageOf V) U e = let same : V ≡ U = cc in ap (λ (x : ℕ). MessageValue (empty schema x)) same
default_message schema t (GroupOf V) U e = let same : V ≡ U = cc in ap (λ (x : ℕ). MessageValue (empty schema x)) same

stored_message : (schema : Schema) (f : Field) (U : ℕ) (d : Content) → f.form ≡ Singular → message_of_kind f.value_type.kind ≡ Some U → schema_of d ≡ schema → type_of d ≡ U → WellStored d → ValueStored schema f (MessageValue d)
stored_message schema f U d single names schema_is type_is w =
    let valid : value_valid f (MessageValue d) ≡ true = and_from _ _ (ap is_singular single) (message_kind f.value_type.kind U names) in
    record {
      valid = valid;
      fits = w.fits;
      types = typed_field schema f (MessageValue d) valid ((schema_is, is_its_type f.value_type.kind U (type_of d) names type_is), w.types);
      order = w.order;
      members = w.members;
    }

-- what is kept of the message that is stored, or else made, and the field's own
lent_kept : (schema : Schema) (T n : ℕ) (es : Entries) (f : Field) (U : ℕ) (before : Content) → schema_valid schema ≡ true → WellStored (ContentOf schema T es) → field_of (known schema T) n ≡ Some f → f.form ≡ Singular → message_of_kind f.value_type.kind ≡ Some U →
    unwrap_or (value_at n es) (MessageValue (empty schema U)) ≡ MessageValue before → MessageValue (kept before) ≡ value_or_default schema f (entries_of (kept (ContentOf schema T es)))
lent_kept schema T n es f U before checked w found single names lent =
    let default : MessageValue (empty schema U) ≡ default_value schema f.form f.value_type = sym (ap (λ form. default_value schema form f.value_type) single ∙ default_message schema f.value_type f.value_type.kind U names) in
    let access = kept_after_writing (ContentOf schema T es) n (MessageValue (empty schema U)) (MessageValue before) f (rebuilt es w.order) found default (found_valid schema (known schema T) n f (known_valid schema T checked) found) in
    ap kept_inside (sym lent) ∙ access.found

-- at more numbers, through the message of the first
pub set_more : (c before after : Content) (n m U : ℕ) (path : List ℕ) (f : Field) (v : Value) → schema_valid (schema_of c) ≡ true → WellStored c → field_of (known (schema_of c) (type_of c)) n ≡ Some f → f.form ≡ Singular → message_of_kind f.value_type.kind ≡ Some U →
    unwrap_or (value_at n (entries_of c)) (MessageValue (empty (schema_of c) U)) ≡ MessageValue before → schema_of before ≡ schema_of c → type_of before ≡ U → IsSetAt (m ∷ path) v before after → IsSetAt (n ∷ m ∷ path) v c (value_set n (MessageValue after) c)
set_more (ContentOf schema T es) before after n m U path f v checked w found single names lent schema_is type_is done =
    let inside = done.holds in
    let stored = stored_message schema f U after single names (inside.schema ∙ schema_is) (inside.type ∙ type_is) inside.sound in
    let again : kept (kept after) ≡ kept after = kept_content (kept after) (kept_well after inside.sound) in
    let lent_is = lent_kept schema T n es f U before checked w found single names lent in
    let change : Value = in_message (value_or_default schema f (entries_of (kept (ContentOf schema T es)))) (set_at (m ∷ path) v) in
    let same : kept_inside (MessageValue after) ≡ kept_inside change =
    ap MessageValue (sym again ∙ ap kept done.set) ∙ ap (λ x. kept_inside (in_message x (set_at (m ∷ path) v))) lent_is in
    record {
      set = kept_after_set (ContentOf schema T es) n (MessageValue after) f (rebuilt es w.order) found
          ∙ ap (λ (o : Option Field). ContentOf schema T (elim o [ None ↦ entries_of (kept (ContentOf schema T es)) | Some f ↦ set_field (known schema T) f (MessageValue after) (entries_of (kept (ContentOf schema T es))) ])) found
          ∙ ap (λ x. ContentOf schema T (with_field_value (known schema T) f (kept_value (Some f) x) (entries_of (kept (ContentOf schema T es))))) same
          ∙ sym (ap (λ (o : Option Field). ContentOf schema T (elim o [ None ↦ entries_of (kept (ContentOf schema T es)) | Some f ↦ set_field (known schema T) f (in_message (value_or_default schema f (entries_of (kept (ContentOf schema T es)))) (set_at (m ∷ path) v)) (entries_of (kept (ContentOf schema T es))) ])) found);
      holds = set_holds (ContentOf schema T es) n f (MessageValue after) checked w found stored;
    }
