-- What is known of a field from a value that fits it.
use Rattle.std.specs.Prelude.{◌≡◌}
use Rattle.prost_reflect_laws.proofs.Common.{Bool, true, Option, Some, None, refl, sym, subst, true≢false, and_parts, Kind, FieldForm, Singular, Repeated, Field, Schema, is_message, is_singular, passes, is_list, Value, ScalarValue, MessageValue, ListValue, MapValue, elements_valid, value_valid, own_kind, kind_for, ValueTyped}

pub singular : (c : FieldForm) → is_singular c ≡ true → c ≡ Singular
singular Singular h = refl
singular _ h = absurd (true≢false (sym h))

pub repeated : (c : FieldForm) → is_list c ≡ true → (packed : Bool) × (c ≡ Repeated packed)
repeated (Repeated packed) h = (packed, refl)
repeated _ h = absurd (true≢false (sym h))

abbrev pub kind_at : Option Field → Option Kind
kind_at None = None
kind_at (Some f) = Some f.value_type.kind

-- the kind of its messages is its own
pub field_typed : (schema : Schema) (f : Field) (v : Value) → value_valid f v ≡ true → ValueTyped schema (kind_for (Some f) v) v → ValueTyped schema (Some f.value_type.kind) v
field_typed schema f (ScalarValue v) h t = tt
field_typed schema f (MessageValue c) h t = subst (λ (x : FieldForm). ValueTyped schema (own_kind x f.value_type.kind) (MessageValue c)) (singular f.form (and_parts (is_singular f.form) (is_message f.value_type.kind) h).0) t
field_typed schema f (ListValue vs) h t = subst (λ (x : FieldForm). ValueTyped schema (own_kind x f.value_type.kind) (ListValue vs)) (repeated f.form (and_parts (is_list f.form) (elements_valid f.value_type.kind vs) h).0).1 t
field_typed schema f (MapValue ps) h t = t

pub option_typed : (schema : Schema) (o : Option Field) (v : Value) → passes o (λ f. value_valid f v) ≡ true → ValueTyped schema (kind_for o v) v → ValueTyped schema (kind_at o) v
option_typed schema None v h t = absurd (true≢false (sym h))
option_typed schema (Some f) v h t = field_typed schema f v h t

-- and back
pub typed_field : (schema : Schema) (f : Field) (v : Value) → value_valid f v ≡ true → ValueTyped schema (Some f.value_type.kind) v → ValueTyped schema (kind_for (Some f) v) v
typed_field schema f (ScalarValue v) h t = tt
typed_field schema f (MessageValue c) h t = subst (λ (x : FieldForm). ValueTyped schema (own_kind x f.value_type.kind) (MessageValue c)) (sym (singular f.form (and_parts (is_singular f.form) (is_message f.value_type.kind) h).0)) t
typed_field schema f (ListValue vs) h t = subst (λ (x : FieldForm). ValueTyped schema (own_kind x f.value_type.kind) (ListValue vs)) (sym (repeated f.form (and_parts (is_list f.form) (elements_valid f.value_type.kind vs) h).0).1) t
typed_field schema f (MapValue ps) h t = t
