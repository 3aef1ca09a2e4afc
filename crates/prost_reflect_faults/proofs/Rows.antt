-- What the rows say of the fields of a number, and of their kinds.
use Rattle.std.specs.Prelude.{◌≡◌, ◌≢◌, ◌<◌, if◌then◌else◌}
use Rattle.std.proofs.Common.{ℕ, Bool, true, false, List, length, Option, Some, None, inl, inr, refl, sym, ap, subst, ◌∙◌, true≢false}
use Rattle.std.specs.Prelude.{slice_get}
use Rattle.std.specs.Option.{is_some}
use Rattle.std.specs.Str.{is_utf8, IsUtf8}
use Rattle.std.proofs.lemmas.Str.{IsUtf8-from_is_utf8, is_utf8-from_IsUtf8}
use Rattle.std.proofs.lemmas.Bool.{ltb-true, and_parts, false_from_ne_true}
use Rattle.std.proofs.lemmas.List.{length-map}
use Rattle.prost_reflect_wire.specs.Record.{Len, Flat}
use Rattle.prost_reflect_wire.specs.Scalar as scalars
use Rattle.prost_reflect_wire.specs.Scalar.{ScalarKind, StringKind, kind_wire}
use Rattle.prost_reflect_wire.specs.Schema.{Kind, ScalarOf, MessageOf, GroupOf, ValueType, Repeated, Field, known, field_of, kind_valid, is_key_kind, is_packable}
use Rattle.prost_reflect_wire.specs.Edit.{message_of_kind}
use Rattle.prost_reflect_wire.specs.Grammar.{fits}
use Rattle.prost_reflect_wire.specs.declared.key.WireType.{WireType}
use Rattle.prost_reflect_wire.specs.declared.key.WireType.TheVariants as wires
use Rattle.prost_reflect_laws.proofs.Checked.{known_valid, found_valid, CheckedField, checked_field, checked_map}
use Rattle.prost_reflect_laws.proofs.KindsAllowed.{wire_fits}
use Rattle.prost_reflect_tables.specs.Rows.{TableRows, EnumRow, FieldRow}
use Rattle.prost_reflect_tables.specs.Linked.{is_linked}
use Rattle.prost_reflect_tables.specs.Linking as linking
use Rattle.prost_reflect_tables.specs.Shown.{schema_kind, enum_kind, own_type, map_entry, form_of, value_type_of, schema_field, schema_from}
use Rattle.prost_reflect_tables.specs.declared.tables.Cardinality.TheVariants.{Repeated as RepeatedLabel}
use Rattle.prost_reflect_tables.specs.declared.tables.TableKind.{TableKind}
use Rattle.prost_reflect_tables.specs.declared.tables.TableKind.TheVariants as kinds
use Rattle.prost_reflect_tables.specs.declared.tables.TableKind.TheVariants.{Double, Float, Int32, Int64, Uint32, Uint64, Sint32, Sint64, Fixed32, Fixed64, Sfixed32, Sfixed64, Bool as BoolKind, String, Bytes, Message, Enum}
use Rattle.prost_reflect_tables.proofs.Keeping.{schema_is_valid}
use Rattle.prost_reflect_faults.specs.Searching.{MessageThere, KnownThere, IsField, KnownAt, TakesScalar, type_of_row, wire_of_kind}
use Rattle.prost_reflect_faults.specs.declared.inside.Inside.TheVariants.{Message as OfMessage}
use Rattle.prost_reflect_faults.specs.declared.inside.Known.{Known}
use Rattle.prost_reflect_faults.specs.declared.inside.Known.TheVariants.{One, List as Elements, Map}

-- MESSAGE TYPES

module _ (rows : TableRows) (linked : is_linked rows ≡ true) where
  named_there : (kind : Kind) → kind_valid (schema_from rows) kind ≡ true → (T : ℕ) → message_of_kind kind ≡ Some T → T < length rows.messages
  unfolding schema_from
  named_there (ScalarOf kind) h T e = cc
  named_there (MessageOf U) h T e = let same : U ≡ T = cc in let within : U < length (schema_from rows) = ltb-true U (length (schema_from rows)) (and_parts _ _ h).0 in subst (λ (x : ℕ). x < length rows.messages) same (rw length-map at within)
  named_there (GroupOf U) h T e = let same : U ≡ T = cc in let within : U < length (schema_from rows) = ltb-true U (length (schema_from rows)) (and_parts _ _ h).0 in subst (λ (x : ℕ). x < length rows.messages) same (rw length-map at within)

  key_names_none : (kind : Kind) → is_key_kind kind ≡ true → (T : ℕ) → message_of_kind kind ≡ Some T → T < length rows.messages
  key_names_none (ScalarOf kind) h T e = cc
  key_names_none (MessageOf U) h T e = absurd (true≢false (sym h))
  key_names_none (GroupOf U) h T e = absurd (true≢false (sym h))

  -- What a known field names is there.
  pub known_there : (S n : ℕ) (f : Field) (known_as : Known) → field_of (known (schema_from rows) S) n ≡ Some f → IsField rows known_as f → KnownThere rows known_as
  known_there S n f known_as found is = go known_as is
    where
      checked : CheckedField (schema_from rows) f
      checked = checked_field (schema_from rows) f (found_valid (schema_from rows) (known (schema_from rows) S) n f (known_valid (schema_from rows) S (schema_is_valid rows linked)) found)

      value : (v : ValueType) → f.value_type ≡ v → MessageThere rows v
      value v same T e = named_there f.value_type.kind checked.kind T (ap (λ (t : ValueType). message_of_kind t.kind) same ∙ e)

      go : (k : Known) → IsField rows k f → KnownThere rows k
      go (One row) (form, same) = value (type_of_row rows row.now) same
      go (Elements row) (form, same) = value (type_of_row rows row.now) same
      go (Map key item) (form, same) = (key_names_none (type_of_row rows key.now).kind (checked_map (schema_from rows) f (type_of_row rows key.now) checked form).keyed, value (type_of_row rows item.now) same)

-- KINDS OF ROWS

enum_wire : (o : Option EnumRow) → kind_wire (enum_kind o) ≡ wires.Varint
enum_wire None = refl
enum_wire (Some e) = refl

scalar_inside : (k other : ScalarKind) → ◌≡◌ {A = Kind} (ScalarOf k) (ScalarOf other) → k ≡ other
scalar_inside k other e = cc

-- The wire type of a scalar kind is that of the kind that it is shown as.
pub wire_is : (enums : List EnumRow) (kind : TableKind) (g : Bool) (k : ScalarKind) → schema_kind enums kind g ≡ ScalarOf k → kind_wire k ≡ wire_of_kind kind
wire_is enums Double g k e = ap kind_wire (sym (scalar_inside _ k e))
wire_is enums Float g k e = ap kind_wire (sym (scalar_inside _ k e))
wire_is enums Int32 g k e = ap kind_wire (sym (scalar_inside _ k e))
wire_is enums Int64 g k e = ap kind_wire (sym (scalar_inside _ k e))
wire_is enums Uint32 g k e = ap kind_wire (sym (scalar_inside _ k e))
wire_is enums Uint64 g k e = ap kind_wire (sym (scalar_inside _ k e))
wire_is enums Sint32 g k e = ap kind_wire (sym (scalar_inside _ k e))
wire_is enums Sint64 g k e = ap kind_wire (sym (scalar_inside _ k e))
wire_is enums Fixed32 g k e = ap kind_wire (sym (scalar_inside _ k e))
wire_is enums Fixed64 g k e = ap kind_wire (sym (scalar_inside _ k e))
wire_is enums Sfixed32 g k e = ap kind_wire (sym (scalar_inside _ k e))
wire_is enums Sfixed64 g k e = ap kind_wire (sym (scalar_inside _ k e))
wire_is enums BoolKind g k e = ap kind_wire (sym (scalar_inside _ k e))
wire_is enums String g k e = ap kind_wire (sym (scalar_inside _ k e))
wire_is enums Bytes g k e = ap kind_wire (sym (scalar_inside _ k e))
wire_is enums (Enum E) g k e = ap kind_wire (sym (scalar_inside _ k e)) ∙ enum_wire (slice_get enums E)
wire_is enums (Message T) true k e = cc
wire_is enums (Message T) false k e = cc

enum_no_text : (o : Option EnumRow) → enum_kind o ≢ StringKind
enum_no_text None e = cc
enum_no_text (Some row) e = cc

-- Text is shown of strings alone.
pub string_is : (enums : List EnumRow) (kind : TableKind) (g : Bool) → schema_kind enums kind g ≡ ScalarOf StringKind → kind ≡ kinds.String
string_is enums String g e = refl
string_is enums (Enum E) g e = absurd (enum_no_text (slice_get enums E) (scalar_inside _ StringKind e))
string_is enums (Message T) true e = cc
string_is enums (Message T) false e = cc
string_is enums kind g e = cc

-- A kind that is no message's is shown as a scalar.
pub shown_scalar : (enums : List EnumRow) (kind : TableKind) (g : Bool) → ((T : ℕ) → kind ≢ kinds.Message T) → (k : ScalarKind) × (schema_kind enums kind g ≡ ScalarOf k)
shown_scalar enums Double g other = (scalars.Double, refl)
shown_scalar enums Float g other = (scalars.Float, refl)
shown_scalar enums Int32 g other = (scalars.Int32, refl)
shown_scalar enums Int64 g other = (scalars.Int64, refl)
shown_scalar enums Uint32 g other = (scalars.Uint32, refl)
shown_scalar enums Uint64 g other = (scalars.Uint64, refl)
shown_scalar enums Sint32 g other = (scalars.Sint32, refl)
shown_scalar enums Sint64 g other = (scalars.Sint64, refl)
shown_scalar enums Fixed32 g other = (scalars.Fixed32, refl)
shown_scalar enums Fixed64 g other = (scalars.Fixed64, refl)
shown_scalar enums Sfixed32 g other = (scalars.Sfixed32, refl)
shown_scalar enums Sfixed64 g other = (scalars.Sfixed64, refl)
shown_scalar enums BoolKind g other = (scalars.BoolKind, refl)
shown_scalar enums String g other = (scalars.StringKind, refl)
shown_scalar enums Bytes g other = (scalars.BytesKind, refl)
shown_scalar enums (Enum E) g other = (enum_kind (slice_get enums E), refl)
shown_scalar enums (Message T) g other = absurd (other T refl)

enum_packable : (o : Option EnumRow) → is_packable (enum_kind o) ≡ true
enum_packable None = refl
enum_packable (Some e) = refl

-- A packable kind is shown as a packable scalar.
pub record ShownPackable (enums : List EnumRow) (kind : TableKind) (g : Bool) : Type 0 where
  pub scalar : ScalarKind
  pub shown : schema_kind enums kind g ≡ ScalarOf scalar
  pub packable : is_packable scalar ≡ true

pub shown_packable : (enums : List EnumRow) (kind : TableKind) (g : Bool) → linking.is_packable kind ≡ true → ShownPackable enums kind g
shown_packable enums Double g h = record { scalar = scalars.Double; shown = refl; packable = refl }
shown_packable enums Float g h = record { scalar = scalars.Float; shown = refl; packable = refl }
shown_packable enums Int32 g h = record { scalar = scalars.Int32; shown = refl; packable = refl }
shown_packable enums Int64 g h = record { scalar = scalars.Int64; shown = refl; packable = refl }
shown_packable enums Uint32 g h = record { scalar = scalars.Uint32; shown = refl; packable = refl }
shown_packable enums Uint64 g h = record { scalar = scalars.Uint64; shown = refl; packable = refl }
shown_packable enums Sint32 g h = record { scalar = scalars.Sint32; shown = refl; packable = refl }
shown_packable enums Sint64 g h = record { scalar = scalars.Sint64; shown = refl; packable = refl }
shown_packable enums Fixed32 g h = record { scalar = scalars.Fixed32; shown = refl; packable = refl }
shown_packable enums Fixed64 g h = record { scalar = scalars.Fixed64; shown = refl; packable = refl }
shown_packable enums Sfixed32 g h = record { scalar = scalars.Sfixed32; shown = refl; packable = refl }
shown_packable enums Sfixed64 g h = record { scalar = scalars.Sfixed64; shown = refl; packable = refl }
shown_packable enums BoolKind g h = record { scalar = scalars.BoolKind; shown = refl; packable = refl }
shown_packable enums (Enum E) g h = record { scalar = enum_kind (slice_get enums E); shown = refl; packable = enum_packable (slice_get enums E) }
shown_packable enums kind g h = absurd (true≢false (sym h))

-- A scalar of the kind is one of the kind that it is shown as.
pub scalar_fits : (enums : List EnumRow) (kind : TableKind) (g : Bool) (k : ScalarKind) (w : WireType) (bytes rest : List ℕ) → schema_kind enums kind g ≡ ScalarOf k → (x : TakesScalar kind w bytes rest) → fits k (Flat x.plain) ≡ true
scalar_fits enums kind g k w bytes rest e x = elim (wire_fits k x.plain (x.wire ∙ x.named ∙ sym (wire_is enums kind g k e))) [
  | inl fit ↦ fit
  | inr bad ↦
      let text : fits StringKind (Flat x.plain) ≡ true = x.text (string_is enums kind g (e ∙ ap ScalarOf bad.text)) in
      ap (λ (s : ScalarKind). fits s (Flat x.plain)) bad.text ∙ text
]

-- FIELDS THAT ARE ROWS

module _ (rows : TableRows) (row : FieldRow) where
  pub list_is : row.cardinality ≡ RepeatedLabel → map_entry rows.messages row RepeatedLabel ≡ None → ((packed : Bool) × ((schema_field rows row).form ≡ Repeated packed)) × ((schema_field rows row).value_type ≡ own_type rows.enums row)
  list_is repeated none = (
    (row.is_packed, ap (λ c. form_of rows.enums row c (map_entry rows.messages row c)) repeated ∙ ap (form_of rows.enums row RepeatedLabel) none),
    ap (λ c. value_type_of rows.enums row (map_entry rows.messages row c)) repeated ∙ ap (value_type_of rows.enums row) none,
  )

-- The field of a message type's number.
pub field_known : (rows : TableRows) → is_linked rows ≡ true → (T n : ℕ) (f : Field) (known_as : Known) → field_of (known (schema_from rows) T) n ≡ Some f → IsField rows known_as f → KnownAt rows (OfMessage T) n known_as
field_known rows linked T n f known_as found is = record { field = f; found = found; is = is; there = known_there rows linked T n f known_as found is }

-- WIRE TYPES OF KINDS

-- TEXT

pub text_fits : (bytes : List ℕ) → IsUtf8 bytes → fits StringKind (Flat (Len bytes)) ≡ true
text_fits bytes utf8 = ap (λ (b : Bool). is_some (if b then Some (scalars.Text bytes) else None)) (is_utf8-from_IsUtf8 bytes utf8)

pub not_text : (bytes : List ℕ) → ¬ (IsUtf8 bytes) → is_utf8 bytes ≡ false
not_text bytes none = false_from_ne_true _ (λ e. none (IsUtf8-from_is_utf8 bytes e))
