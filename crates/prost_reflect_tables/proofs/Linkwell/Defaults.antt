-- The default of a field is a value of its kind.
use Rattle.std.specs.Prelude.{◌≡◌, ◌-◌, ◌^◌, ◌∷◌}
use Rattle.prost_reflect_tables.proofs.Common.{ℕ, ℤ, Bool, true, false, cond, not, List, [], map, length, Option, Some, None, option_map, refl, sym, ap, ◌∙◌, subst, arith, slice_get, string_bytes, String, nat_eq, nat_lt, is_utf8, chars, list_any, list_all, int_eq, and_from, and_parts, or_left, lt-ltb, Decides-int_eq, slice_get-map, Scalar, Boolean, I32, I64, U32, U64, F32, F64, Text, Bytes, EnumNumber, ScalarKind, Open, Closed, in_i32, scalar_valid, ScalarOf, Schema, kind_valid, default_valid, FieldDescriptorProto, EnumValueDescriptorProto, TableKind, EnumValueRow, EnumRow, first_number, enum_kind, schema_kind, schema_default, signed, up_to, whole_number, float_bits, binary32, binary64, boolean, unescaped, number_named, written_default, field_default, DefinitionRow, FlatEnumRow, FlatRows, links_of, linked_kind, linked_default, linked_value, linked_enum, linked_rows, value_number, values_of_kind}
use Rattle.std.proofs.Common.{Global}
use Rattle.prost_reflect_laws.proofs.Spelt.{text_bytes}
use Rattle.std.proofs.lemmas.Str.{IsUtf8-string_bytes, is_utf8-from_IsUtf8}
use Rattle.prost_reflect_wire.specs.Scalar as scalars
use Rattle.prost_reflect_tables.specs.declared.tables.TableKind.TheVariants as kinds
use Rattle.prost_reflect_tables.proofs.Linkwell.Premises.{EnumChecked}
use Rattle.prost_reflect_tables.proofs.Linkwell.Kinds.{is_scalar, FieldKind, NamesMessage, NamesEnum, IsScalar}
use Rattle.prost_reflect_tables.proofs.Linkwell.WrittenValues.{numbers_of, up_to_limit, signed_i32, signed_i64, float_32, float_64, unescaped_are_bytes, named_number}

-- SCALARS

given : {A : Type 0} (k : ScalarKind) (f : A → Scalar) (o : Option A) (v : Scalar) → option_map f o ≡ Some v → ((x : A) → o ≡ Some x → scalar_valid k (f x) ≡ true) → scalar_valid k v ≡ true
given k f None v e h = cc
given k f (Some x) v e h = let same : f x ≡ v = cc in subst (λ (s : Scalar). scalar_valid k s ≡ true) same (h x refl)

fits_32 : (o : Option ℕ) (n : ℕ) → up_to (2 ^ 32 - 1) o ≡ Some n → nat_lt n (2 ^ 32) ≡ true
fits_32 o n is = lt-ltb n (2 ^ 32) (omega (arith, up_to_limit (2 ^ 32 - 1) o n is))

fits_64 : (o : Option ℕ) (n : ℕ) → up_to (2 ^ 64 - 1) o ≡ Some n → nat_lt n (2 ^ 64) ≡ true
fits_64 o n is = lt-ltb n (2 ^ 64) (omega (arith, up_to_limit (2 ^ 64 - 1) o n is))

text_valid : (t : String Global) → is_utf8 (string_bytes t) ≡ true
text_valid t = is_utf8-from_IsUtf8 (string_bytes t) (IsUtf8-string_bytes t)

text_is : (text : List ℕ) (v : Scalar) → is_utf8 text ≡ true → Some (Text text) ≡ Some v → scalar_valid scalars.StringKind v ≡ true
text_is text v utf8 e = let same : Text text ≡ v = cc in subst (λ (s : Scalar). scalar_valid scalars.StringKind s ≡ true) same utf8

-- The value of a text, of a kind that is neither a message nor an enum.
text_gives : (es : List EnumRow) (k : TableKind) (g : Bool) (values : List EnumValueRow) (text : List ℕ) (v : Scalar) → is_utf8 text ≡ true → is_scalar k ≡ true → field_default k values text ≡ Some v → default_valid (schema_kind es k g) v ≡ true
unfolding written_default
text_gives es kinds.Double g values text v utf8 is e = given scalars.Double F64 (float_bits binary64 text) v e (λ n at. float_64 text n at)
text_gives es kinds.Float g values text v utf8 is e = given scalars.Float F32 (float_bits binary32 text) v e (λ n at. float_32 text n at)
text_gives es kinds.Int32 g values text v utf8 is e = given scalars.Int32 I32 (signed (2 ^ 31) text) v e (λ z at. signed_i32 text z at)
text_gives es kinds.Int64 g values text v utf8 is e = given scalars.Int64 I64 (signed (2 ^ 63) text) v e (λ z at. signed_i64 text z at)
text_gives es kinds.Uint32 g values text v utf8 is e = given scalars.Uint32 U32 (up_to (2 ^ 32 - 1) (whole_number text)) v e (λ n at. fits_32 (whole_number text) n at)
text_gives es kinds.Uint64 g values text v utf8 is e = given scalars.Uint64 U64 (up_to (2 ^ 64 - 1) (whole_number text)) v e (λ n at. fits_64 (whole_number text) n at)
text_gives es kinds.Sint32 g values text v utf8 is e = given scalars.Sint32 I32 (signed (2 ^ 31) text) v e (λ z at. signed_i32 text z at)
text_gives es kinds.Sint64 g values text v utf8 is e = given scalars.Sint64 I64 (signed (2 ^ 63) text) v e (λ z at. signed_i64 text z at)
text_gives es kinds.Fixed32 g values text v utf8 is e = given scalars.Fixed32 U32 (up_to (2 ^ 32 - 1) (whole_number text)) v e (λ n at. fits_32 (whole_number text) n at)
text_gives es kinds.Fixed64 g values text v utf8 is e = given scalars.Fixed64 U64 (up_to (2 ^ 64 - 1) (whole_number text)) v e (λ n at. fits_64 (whole_number text) n at)
text_gives es kinds.Sfixed32 g values text v utf8 is e = given scalars.Sfixed32 I32 (signed (2 ^ 31) text) v e (λ z at. signed_i32 text z at)
text_gives es kinds.Sfixed64 g values text v utf8 is e = given scalars.Sfixed64 I64 (signed (2 ^ 63) text) v e (λ z at. signed_i64 text z at)
text_gives es kinds.Bool g values text v utf8 is e = given scalars.BoolKind Boolean (boolean text) v e (λ b at. refl)
text_gives es kinds.String g values text v utf8 is e = text_is text v utf8 e
text_gives es kinds.Bytes g values text v utf8 is e = given scalars.BytesKind Bytes (unescaped text) v e (λ bytes at. unescaped_are_bytes text bytes (text_bytes text utf8) at)
text_gives es _ g values text v utf8 is e = absurd cc

zero_valid : (es : List EnumRow) (k : TableKind) (g : Bool) → is_scalar k ≡ true → default_valid (schema_kind es k g) (schema_default None (schema_kind es k g)) ≡ true
unfolding is_utf8 chars
zero_valid es kinds.Double g is = refl
zero_valid es kinds.Float g is = refl
zero_valid es kinds.Int32 g is = refl
zero_valid es kinds.Int64 g is = refl
zero_valid es kinds.Uint32 g is = refl
zero_valid es kinds.Uint64 g is = refl
zero_valid es kinds.Sint32 g is = refl
zero_valid es kinds.Sint64 g is = refl
zero_valid es kinds.Fixed32 g is = refl
zero_valid es kinds.Fixed64 g is = refl
zero_valid es kinds.Sfixed32 g is = refl
zero_valid es kinds.Sfixed64 g is = refl
zero_valid es kinds.Bool g is = refl
zero_valid es kinds.String g is = refl
zero_valid es kinds.Bytes g is = refl
zero_valid es _ g is = absurd cc

-- ENUMS

-- An enum's first number, and each of its numbers.
pub record DeclaredBy (e : FlatEnumRow) (z : ℤ) : Type 0 where
  pub range : in_i32 z ≡ true
  pub declared : list_any (int_eq z) (numbers_of e.values) ≡ true

first_declared : (e : FlatEnumRow) → EnumChecked e → DeclaredBy e (first_number (numbers_of e.values))
first_declared e h = record { range = (go e.values h.some h.range).0; declared = (go e.values h.some h.range).1 }
  where
    go : (vs : List (DefinitionRow EnumValueDescriptorProto)) → nat_eq (length vs) 0 ≡ false → list_all (λ v. in_i32 (value_number v)) vs ≡ true →
        (in_i32 (first_number (numbers_of vs)) ≡ true) × (list_any (int_eq (first_number (numbers_of vs))) (numbers_of vs) ≡ true)
    go [] some range = absurd cc
    go (v ∷ vs) some range = (
      (and_parts (in_i32 (value_number v)) (list_all (λ v. in_i32 (value_number v)) vs) range).0,
      or_left (int_eq (value_number v) (value_number v)) (list_any (int_eq (value_number v)) (numbers_of vs)) (grind (arith, Decides-int_eq (value_number v) (value_number v))),
    )

abbrev pub enum_scalar : FlatEnumRow → ScalarKind
enum_scalar e = enum_kind (Some (linked_enum e))

abbrev with_numbers : ℤ → Bool → List ℤ → ScalarKind
with_numbers first closed numbers = scalars.Enum first (cond closed (Closed numbers) Open)

number_valid : (e : FlatEnumRow) (z : ℤ) → DeclaredBy e z → scalar_valid (enum_scalar e) (EnumNumber z) ≡ true
number_valid e z h = go (not e.definition.is_proto3)
  where
    go : (b : Bool) → scalar_valid (with_numbers (first_number (numbers_of e.values)) b (numbers_of e.values)) (EnumNumber z) ≡ true
    go true = and_from (in_i32 z) (list_any (int_eq z) (numbers_of e.values)) h.range h.declared
    go false = and_from (in_i32 z) true h.range refl

pub enum_kind_valid : (schema : Schema) (e : FlatEnumRow) → EnumChecked e → kind_valid schema (ScalarOf (enum_scalar e)) ≡ true
enum_kind_valid schema e h = go (not e.definition.is_proto3)
  where
    go : (b : Bool) → kind_valid schema (ScalarOf (with_numbers (first_number (numbers_of e.values)) b (numbers_of e.values))) ≡ true
    go true = (first_declared e h).declared
    go false = refl

pub enum_shown : (rows : FlatRows) (E : ℕ) (e : FlatEnumRow) → slice_get rows.enums E ≡ Some e → slice_get (linked_rows rows).enums E ≡ Some (linked_enum e)
enum_shown rows E e at = slice_get-map linked_enum rows.enums E ∙ ap (option_map linked_enum) at

values_shown : (rows : FlatRows) (E : ℕ) (e : FlatEnumRow) → slice_get rows.enums E ≡ Some e → values_of_kind (links_of rows) (kinds.Enum E) ≡ map linked_value e.values
values_shown rows E e at = rw (slice_get-map (λ (x : FlatEnumRow). map linked_value x.values) rows.enums E, at) refl

-- ALL KINDS

-- The default of a kind, written as a text or not.
abbrev DefaultValid : FlatRows → Option (String Global) → Bool → TableKind → Type 0
DefaultValid rows text g k = default_valid (schema_kind (linked_rows rows).enums k g) (schema_default (linked_default (links_of rows) k text) (schema_kind (linked_rows rows).enums k g)) ≡ true

of_message : (rows : FlatRows) (text : Option (String Global)) (g : Bool) (T : ℕ) → DefaultValid rows text g (kinds.Message T)
of_message rows text true T = refl
of_message rows text false T = refl

of_enum : (rows : FlatRows) (text : Option (String Global)) (g : Bool) (E : ℕ) (e : FlatEnumRow) → slice_get rows.enums E ≡ Some e → EnumChecked e → DefaultValid rows text g (kinds.Enum E)
unfolding written_default
of_enum rows text g E e at h =
    subst (λ (o : Option EnumRow). default_valid (ScalarOf (enum_kind o)) (schema_default (linked_default (links_of rows) (kinds.Enum E) text) (ScalarOf (enum_kind o))) ≡ true) (sym (enum_shown rows E e at)) (by_text text)
  where
    first : scalar_valid (enum_scalar e) (EnumNumber (first_number (numbers_of e.values))) ≡ true
    first = number_valid e (first_number (numbers_of e.values)) (first_declared e h)

    by_number : (name : List ℕ) (o : Option ℤ) → number_named (map linked_value e.values) name ≡ o → default_valid (ScalarOf (enum_scalar e)) (schema_default (option_map EnumNumber o) (ScalarOf (enum_scalar e))) ≡ true
    by_number name None is = first
    by_number name (Some z) is = let named = named_number name e.values z h.range is in number_valid e z (record { range = named.0; declared = named.1 })

    by_text : (text : Option (String Global)) → default_valid (ScalarOf (enum_scalar e)) (schema_default (linked_default (links_of rows) (kinds.Enum E) text) (ScalarOf (enum_scalar e))) ≡ true
    by_text None = first
    by_text (Some t) =
        subst (λ (values : List EnumValueRow). default_valid (ScalarOf (enum_scalar e)) (schema_default (option_map EnumNumber (number_named values (string_bytes t))) (ScalarOf (enum_scalar e))) ≡ true)
        (sym (values_shown rows E e at)) (by_number (string_bytes t) (number_named (map linked_value e.values) (string_bytes t)) refl)

of_scalar : (rows : FlatRows) (text : Option (String Global)) (g : Bool) (k : TableKind) → is_scalar k ≡ true → DefaultValid rows text g k
of_scalar rows None g k is = zero_valid (linked_rows rows).enums k g is
of_scalar rows (Some t) g k is = go (field_default k (values_of_kind (links_of rows) k) (string_bytes t)) refl
  where
    go : (o : Option Scalar) → field_default k (values_of_kind (links_of rows) k) (string_bytes t) ≡ o → default_valid (schema_kind (linked_rows rows).enums k g) (schema_default o (schema_kind (linked_rows rows).enums k g)) ≡ true
    go None e = zero_valid (linked_rows rows).enums k g is
    go (Some v) e = text_gives (linked_rows rows).enums k g (values_of_kind (links_of rows) k) (string_bytes t) v (text_valid t) is e

pub default_shown : (rows : FlatRows) (d : DefinitionRow FieldDescriptorProto) (g : Bool) → FieldKind rows d → ((E : ℕ) (e : FlatEnumRow) → slice_get rows.enums E ≡ Some e → EnumChecked e) → DefaultValid rows d.proto.default_value g (linked_kind (links_of rows) d.proto)
default_shown rows d g (NamesMessage T m kind at named is) enums = subst (DefaultValid rows d.proto.default_value g) (sym kind) (of_message rows d.proto.default_value g T)
default_shown rows d g (NamesEnum E e kind at) enums = subst (DefaultValid rows d.proto.default_value g) (sym kind) (of_enum rows d.proto.default_value g E e at (enums E e at))
default_shown rows d g (IsScalar is) enums = of_scalar rows d.proto.default_value g (linked_kind (links_of rows) d.proto) is
