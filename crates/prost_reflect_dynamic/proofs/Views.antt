-- The equations of the views, one for each variant.
use Rattle.std.specs.Prelude.{◌≡◌, ◌∷◌, String as Text}
use Rattle.prost_reflect_dynamic.proofs.Common.{ℕ, ℤ, Bool, List, [], map, Option, Some, unwrap_or, refl, ap, ◌∙◌, string_bytes, Global, Vec, BTreeMap, Content, ContentOf, ScalarValue, MessageValue, ListValue, MapValue, values_from, schema_at, type_at, FieldSlot, MapKey, Value, out-Value, Value-F, DynamicMessage-F, roll-Value, roll-DynamicMessage, fold-roll-Value, fold-roll-DynamicMessage, fold_out-Value, fold_out-DynamicMessage, map-Value, DynamicMessage, slot_former, ValueViews, list_in, value_step, message_step, value_of, content_of, entries_from, pairs_from}
use mathlib.Core.Former.{this}
use denote.Hole.Carrier as Carrier
use Rattle.prost_reflect_wire.specs.Scalar as scalars
use Rattle.prost_reflect_wire.specs.Content as contents
use Rattle.prost_reflect_fields.specs.declared.slot.FieldSlot.TheVariants as entries
use Rattle.prost_reflect_dynamic.specs.declared.value.Value as values

-- A MESSAGE

-- an entry with its value shown
abbrev pub shown_entry : FieldSlot Value → FieldSlot contents.Value
shown_entry (entries.Value v) = entries.Value (value_of v)
shown_entry (entries.Unknown u) = entries.Unknown u
shown_entry (entries.Both v u) = entries.Both (value_of v) u

abbrev pub shown : List (ℕ × FieldSlot Value) → List (ℕ × FieldSlot contents.Value)
shown es = map (λ e. (e.0, shown_entry e.1)) es

abbrev over : FieldSlot Value → FieldSlot contents.Value
over = (slot_former this).map Value contents.Value value_of

over_same : (e : FieldSlot Value) → over e ≡ shown_entry e
over_same (entries.Value v) = refl
over_same (entries.Unknown u) = refl
over_same (entries.Both v u) = refl

all_over : (es : List (ℕ × FieldSlot Value)) → map (λ e. (e.0, over e.1)) es ≡ shown es
all_over [] = refl
all_over (e ∷ es) = λ i. (e.0, over_same e.1 i) ∷ all_over es i

pub content_of_message : (m : DynamicMessage) → content_of m ≡ ContentOf (schema_at m.fields.0) (type_at m.fields.0) (entries_from (shown m.fields.1))
content_of_message m = fold_out-DynamicMessage contents.Value Content value_step message_step m ∙ ap (λ es. ContentOf (schema_at m.fields.0) (type_at m.fields.0) (entries_from es)) (all_over m.fields.1)

pub content_of_roll : (m : DynamicMessage-F Value DynamicMessage) → content_of (roll-DynamicMessage m) ≡ ContentOf (schema_at m.fields.0) (type_at m.fields.0) (entries_from (shown m.fields.1))
content_of_roll m = fold-roll-DynamicMessage contents.Value Content value_step message_step m ∙ ap (λ es. ContentOf (schema_at m.fields.0) (type_at m.fields.0) (entries_from es)) (all_over m.fields.1)

-- VALUES

pub value_of_bool : (b : Bool) → value_of (values.Bool b) ≡ ScalarValue (scalars.Boolean b)
unfolding roll-Value Carrier.roll
value_of_bool b = fold-roll-Value contents.Value Content value_step message_step (Value-F.Bool b)

pub value_of_i32 : (z : ℤ) → value_of (values.I32 z) ≡ ScalarValue (scalars.I32 z)
unfolding roll-Value Carrier.roll
value_of_i32 z = fold-roll-Value contents.Value Content value_step message_step (Value-F.I32 z)

pub value_of_i64 : (z : ℤ) → value_of (values.I64 z) ≡ ScalarValue (scalars.I64 z)
unfolding roll-Value Carrier.roll
value_of_i64 z = fold-roll-Value contents.Value Content value_step message_step (Value-F.I64 z)

pub value_of_u32 : (n : ℕ) → value_of (values.U32 n) ≡ ScalarValue (scalars.U32 n)
unfolding roll-Value Carrier.roll
value_of_u32 n = fold-roll-Value contents.Value Content value_step message_step (Value-F.U32 n)

pub value_of_u64 : (n : ℕ) → value_of (values.U64 n) ≡ ScalarValue (scalars.U64 n)
unfolding roll-Value Carrier.roll
value_of_u64 n = fold-roll-Value contents.Value Content value_step message_step (Value-F.U64 n)

pub value_of_f32 : (n : ℕ) → value_of (values.F32 n) ≡ ScalarValue (scalars.F32 n)
unfolding roll-Value Carrier.roll
value_of_f32 n = fold-roll-Value contents.Value Content value_step message_step (Value-F.F32 n)

pub value_of_f64 : (n : ℕ) → value_of (values.F64 n) ≡ ScalarValue (scalars.F64 n)
unfolding roll-Value Carrier.roll
value_of_f64 n = fold-roll-Value contents.Value Content value_step message_step (Value-F.F64 n)

pub value_of_enum_number : (z : ℤ) → value_of (values.EnumNumber z) ≡ ScalarValue (scalars.EnumNumber z)
unfolding roll-Value Carrier.roll
value_of_enum_number z = fold-roll-Value contents.Value Content value_step message_step (Value-F.EnumNumber z)

pub value_of_string : (text : Text Global) → value_of (values.String text) ≡ ScalarValue (scalars.Text (string_bytes text))
unfolding roll-Value Carrier.roll
value_of_string text = fold-roll-Value contents.Value Content value_step message_step (Value-F.String text)

pub value_of_bytes : (bytes : Vec ℕ Global) → value_of (values.Bytes bytes) ≡ ScalarValue (scalars.Bytes bytes.items)
unfolding roll-Value Carrier.roll
value_of_bytes bytes = fold-roll-Value contents.Value Content value_step message_step (Value-F.Bytes bytes)

pub value_of_message : (m : DynamicMessage) → value_of (values.Message m) ≡ MessageValue (content_of m)
unfolding roll-Value Carrier.roll
value_of_message m = fold-roll-Value contents.Value Content value_step message_step (Value-F.Message m)

pub value_of_list : (vs : Vec Value Global) → value_of (values.List vs) ≡ ListValue (values_from (map value_of vs.items))
unfolding roll-Value Carrier.roll
value_of_list vs = fold-roll-Value contents.Value Content value_step message_step (Value-F.List vs)

pub value_of_map : (m : BTreeMap MapKey Value) → value_of (values.Map m) ≡ MapValue (pairs_from (map (λ (e : MapKey × Value). (e.0, value_of e.1)) m.entries))
unfolding roll-Value Carrier.roll
value_of_map m = fold-roll-Value contents.Value Content value_step message_step (Value-F.Map m)

pub value_views : ValueViews
value_views = record {
  bool = value_of_bool;
  i32 = value_of_i32;
  i64 = value_of_i64;
  u32 = value_of_u32;
  u64 = value_of_u64;
  f32 = value_of_f32;
  f64 = value_of_f64;
  text = value_of_string;
  bytes = value_of_bytes;
  enum_number = value_of_enum_number;
  message = value_of_message;
  list = value_of_list;
  pairs = value_of_map;
}

-- what holds these elements is their list
pub list_viewed : (v : Value) (es : List Value) → list_in (out-Value v) ≡ Some es → value_of v ≡ ListValue (values_from (map value_of es))
list_viewed v es h = fold_out-Value contents.Value Content value_step message_step v ∙ go (out-Value v) h
  where
    go : (x : Value-F Value DynamicMessage) → list_in x ≡ Some es → value_step (map-Value Value DynamicMessage contents.Value Content value_of content_of x) ≡ ListValue (values_from (map value_of es))
    go (Value-F.List vs) h = ap (λ (o : Option (List Value)). ListValue (values_from (map value_of (unwrap_or o [])))) h
    go (Value-F.Bool b) h = cc
    go (Value-F.I32 z) h = cc
    go (Value-F.I64 z) h = cc
    go (Value-F.U32 n) h = cc
    go (Value-F.U64 n) h = cc
    go (Value-F.F32 n) h = cc
    go (Value-F.F64 n) h = cc
    go (Value-F.String text) h = cc
    go (Value-F.Bytes bytes) h = cc
    go (Value-F.EnumNumber z) h = cc
    go (Value-F.Message m) h = cc
    go (Value-F.Map m) h = cc
