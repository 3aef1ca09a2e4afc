-- The kind of a field of one scalar, as the tables name it and as the definitions do. What an enum declares makes no difference to its payloads.
use Rattle.std.specs.Prelude.{◌≡◌}
use Rattle.prost_reflect_rows.proofs.Common.{ℕ, ℤ, pos, Bool, true, false, not, List, Option, Some, None, refl, sym, ap, subst, ◌∙◌, true≢false, slice_get, and_parts, and_from, Payload, Plain, Var, Fix64, Len, Fix32, Flat, Group, Scalar, ScalarKind, EnumNumbers, low_i32, kind_wire, elem, written, scalar_valid, is_undeclared, in_i32, Kind, ScalarOf, Singular, Repeated, is_message, is_list, ScalarValue, is_stray, Cardinality, TableKind, FieldRow, MessageRow, EnumRow, TableRows, value_numbers, first_number, enum_numbers, schema_kind, enum_kind, own_type, map_entry, value_type_of, form_of, schema_field, is_repeated, is_plain, is_plain_kind, names_message, numbers_or_none, plain_kind, is_stray_number}
use Rattle.prost_reflect_wire.specs.Scalar as scalars
use Rattle.prost_reflect_wire.specs.Scalar.{is_declared}
use Rattle.prost_reflect_laws.proofs.EntryDefaults.{is_undeclared_value}
use Rattle.prost_reflect_tables.specs.declared.tables.Cardinality.TheVariants.{Optional, Required, Repeated as RepeatedLabel}
use Rattle.prost_reflect_tables.specs.declared.tables.TableKind.TheVariants as kinds
use Rattle.prost_reflect_rows.proofs.RowKinds as row_kinds
use Rattle.prost_reflect_rows.proofs.RowKinds.{no_entry, no_message_entry}

-- THE ROW OF A FIELD

-- a scalar kind, as both name it
pub record NamedKind (enums : List EnumRow) (table : TableKind) (kind : Kind) : Type 0 where
  pub scalar : ScalarKind
  pub named : schema_kind enums table false ≡ ScalarOf scalar
  pub is : kind ≡ ScalarOf scalar

pub kind_named : (enums : List EnumRow) (g : Bool) (table : TableKind) → is_message (schema_kind enums table g) ≡ false → NamedKind enums table (schema_kind enums table g)
kind_named enums true (kinds.Message T) h = absurd (true≢false h)
kind_named enums false (kinds.Message T) h = absurd (true≢false h)
kind_named enums g table h = record { scalar = _; named = refl; is = refl }

-- the row of a field of one scalar
pub scalar_row : (rows : TableRows) (row : FieldRow) → (schema_field rows row).form ≡ Singular → is_message (schema_field rows row).value_type.kind ≡ false → NamedKind rows.enums row.kind (schema_field rows row).value_type.kind
scalar_row rows row form scalar = go row.cardinality form scalar
  where
    listed : (entry : Option MessageRow) → form_of rows.enums row RepeatedLabel entry ≡ Singular → ⊥
    listed None e = cc
    listed (Some m) e = cc

    go : (c : Cardinality) → form_of rows.enums row c (map_entry rows.messages row c) ≡ Singular → is_message (value_type_of rows.enums row (map_entry rows.messages row c)).kind ≡ false →
        NamedKind rows.enums row.kind (value_type_of rows.enums row (map_entry rows.messages row c)).kind
    go Optional f p = kind_named rows.enums row.is_group row.kind p
    go Required f p = kind_named rows.enums row.is_group row.kind p
    go RepeatedLabel f p = absurd (listed (map_entry rows.messages row RepeatedLabel) f)

-- a field of one value has its row's own type
pub own_of : (rows : TableRows) (row : FieldRow) → (schema_field rows row).form ≡ Singular → (schema_field rows row).value_type ≡ own_type rows.enums row
own_of rows row form = go row.cardinality form
  where
    listed : (entry : Option MessageRow) → form_of rows.enums row RepeatedLabel entry ≡ Singular → ⊥
    listed None e = cc
    listed (Some m) e = cc

    go : (c : Cardinality) → form_of rows.enums row c (map_entry rows.messages row c) ≡ Singular → value_type_of rows.enums row (map_entry rows.messages row c) ≡ own_type rows.enums row
    go Optional f = refl
    go Required f = refl
    go RepeatedLabel f = absurd (listed (map_entry rows.messages row RepeatedLabel) f)

-- its form, by its label
pub single_row : (rows : TableRows) (row : FieldRow) → is_repeated row.cardinality ≡ false → (schema_field rows row).form ≡ Singular
single_row rows row h = go row.cardinality h
  where
    go : (c : Cardinality) → is_repeated c ≡ false → form_of rows.enums row c (map_entry rows.messages row c) ≡ Singular
    go Optional h = refl
    go Required h = refl
    go RepeatedLabel h = absurd (true≢false h)

-- a repeated field that is no map is a list
pub bare_row : (rows : TableRows) (row : FieldRow) → is_repeated row.cardinality ≡ true → map_entry rows.messages row row.cardinality ≡ None → (schema_field rows row).form ≡ Repeated row.is_packed
bare_row rows row h none = ap (form_of rows.enums row row.cardinality) none ∙ go row.cardinality h
  where
    go : (c : Cardinality) → is_repeated c ≡ true → form_of rows.enums row c None ≡ Repeated row.is_packed
    go Optional h = absurd (true≢false (sym h))
    go Required h = absurd (true≢false (sym h))
    go RepeatedLabel h = refl

-- so is one of scalars
pub scalars_row : (rows : TableRows) (row : FieldRow) → is_repeated row.cardinality ≡ true → names_message row.kind ≡ false → (schema_field rows row).form ≡ Repeated row.is_packed
scalars_row rows row h scalar = bare_row rows row h (no_message_entry rows.messages row row.cardinality scalar)

pub list_row : (rows : TableRows) (row : FieldRow) → is_repeated row.cardinality ≡ true → is_plain_kind row.kind ≡ true → (schema_field rows row).form ≡ Repeated row.is_packed
list_row rows row h plain = scalars_row rows row h (row_kinds.plain_apart row.kind plain)

-- the row of a list of scalars
pub scalars_kind : (rows : TableRows) (row : FieldRow) → names_message row.kind ≡ false → NamedKind rows.enums row.kind (schema_field rows row).value_type.kind
scalars_kind rows row scalar =
    subst (λ o. NamedKind rows.enums row.kind (value_type_of rows.enums row o).kind) (sym (no_message_entry rows.messages row row.cardinality scalar))
    (kind_named rows.enums row.is_group row.kind (row_kinds.message_kind rows.enums row.kind row.is_group ∙ scalar))

-- a scalar kind that is no enum, as both name it
pub record PlainKind (table : TableKind) (kind : Kind) : Type 0 where
  pub scalar : ScalarKind
  pub named : plain_kind table ≡ Some scalar
  pub is : kind ≡ ScalarOf scalar
  pub whole : (p : Payload) → is_undeclared scalar p ≡ false

pub kind_plain : (enums : List EnumRow) (g : Bool) (table : TableKind) → is_plain (schema_kind enums table g) ≡ true → PlainKind table (schema_kind enums table g)
kind_plain enums g kinds.Double h = record { scalar = scalars.Double; named = refl; is = refl; whole = λ p. refl }
kind_plain enums g kinds.Float h = record { scalar = scalars.Float; named = refl; is = refl; whole = λ p. refl }
kind_plain enums g kinds.Int32 h = record { scalar = scalars.Int32; named = refl; is = refl; whole = λ p. refl }
kind_plain enums g kinds.Int64 h = record { scalar = scalars.Int64; named = refl; is = refl; whole = λ p. refl }
kind_plain enums g kinds.Uint32 h = record { scalar = scalars.Uint32; named = refl; is = refl; whole = λ p. refl }
kind_plain enums g kinds.Uint64 h = record { scalar = scalars.Uint64; named = refl; is = refl; whole = λ p. refl }
kind_plain enums g kinds.Sint32 h = record { scalar = scalars.Sint32; named = refl; is = refl; whole = λ p. refl }
kind_plain enums g kinds.Sint64 h = record { scalar = scalars.Sint64; named = refl; is = refl; whole = λ p. refl }
kind_plain enums g kinds.Fixed32 h = record { scalar = scalars.Fixed32; named = refl; is = refl; whole = λ p. refl }
kind_plain enums g kinds.Fixed64 h = record { scalar = scalars.Fixed64; named = refl; is = refl; whole = λ p. refl }
kind_plain enums g kinds.Sfixed32 h = record { scalar = scalars.Sfixed32; named = refl; is = refl; whole = λ p. refl }
kind_plain enums g kinds.Sfixed64 h = record { scalar = scalars.Sfixed64; named = refl; is = refl; whole = λ p. refl }
kind_plain enums g kinds.Bool h = record { scalar = scalars.BoolKind; named = refl; is = refl; whole = λ p. refl }
kind_plain enums g kinds.String h = record { scalar = scalars.StringKind; named = refl; is = refl; whole = λ p. refl }
kind_plain enums g kinds.Bytes h = record { scalar = scalars.BytesKind; named = refl; is = refl; whole = λ p. refl }
kind_plain enums true (kinds.Message T) h = absurd (true≢false (sym h))
kind_plain enums false (kinds.Message T) h = absurd (true≢false (sym h))
kind_plain enums g (kinds.Enum E) h = no_enum (slice_get enums E) h
  where
    no_enum : (o : Option EnumRow) → is_plain (ScalarOf (enum_kind o)) ≡ true → PlainKind (kinds.Enum E) (ScalarOf (enum_kind (slice_get enums E)))
    no_enum None h = absurd (true≢false (sym h))
    no_enum (Some e) h = absurd (true≢false (sym h))

-- the row of a list of plain scalars
pub plain_row : (rows : TableRows) (row : FieldRow) → is_plain_kind row.kind ≡ true → PlainKind row.kind (schema_field rows row).value_type.kind
plain_row rows row plain =
    subst (λ o. PlainKind row.kind (value_type_of rows.enums row o).kind) (sym (no_entry rows.messages row row.cardinality plain))
    (kind_plain rows.enums row.is_group row.kind (row_kinds.plain_kind rows.enums row.kind row.is_group ∙ plain))

-- the row of a list
pub list_kind : (rows : TableRows) (row : FieldRow) → is_repeated row.cardinality ≡ true → is_list (schema_field rows row).form ≡ true → (schema_field rows row).value_type.kind ≡ schema_kind rows.enums row.kind row.is_group
list_kind rows row many form = go row.cardinality many form
  where
    listed : (entry : Option MessageRow) → is_list (form_of rows.enums row RepeatedLabel entry) ≡ true → (value_type_of rows.enums row entry).kind ≡ schema_kind rows.enums row.kind row.is_group
    listed None f = refl
    listed (Some m) f = absurd (true≢false (sym f))

    go : (c : Cardinality) → is_repeated c ≡ true → is_list (form_of rows.enums row c (map_entry rows.messages row c)) ≡ true → (value_type_of rows.enums row (map_entry rows.messages row c)).kind ≡ schema_kind rows.enums row.kind row.is_group
    go Optional m f = absurd (true≢false (sym m))
    go Required m f = absurd (true≢false (sym m))
    go RepeatedLabel m f = listed (map_entry rows.messages row RepeatedLabel) f

-- PLAIN KINDS

-- kinds of the same payloads; the first takes whatever the second does
pub record SamePayloads (plain own : ScalarKind) : Type 0 where
  pub wire : kind_wire plain ≡ kind_wire own
  pub text : plain ≡ scalars.StringKind → own ≡ scalars.StringKind
  pub read : (p : Payload) → elem plain p ≡ elem own p
  pub write : (v : Scalar) → written plain v ≡ written own v
  pub takes : (v : Scalar) → scalar_valid own v ≡ true → scalar_valid plain v ≡ true

same_payloads : (plain own : ScalarKind) → Some plain ≡ Some own → SamePayloads plain own
same_payloads plain own e = let same : plain ≡ own = cc in subst (SamePayloads plain) same (record { wire = refl; text = λ t. t; read = λ p. refl; write = λ v. refl; takes = λ v h. h })

abbrev open_kind : ScalarKind
open_kind = scalars.Enum (pos 0) scalars.Open

pub enum_payloads : (first : ℤ) (numbers : EnumNumbers) → SamePayloads open_kind (scalars.Enum first numbers)
enum_payloads first numbers = record { wire = refl; text = λ t. cc; read = read; write = write; takes = takes }
  where
    read : (p : Payload) → elem open_kind p ≡ elem (scalars.Enum first numbers) p
    read (Flat (Var v)) = refl
    read (Flat (Fix64 bytes)) = refl
    read (Flat (Len bytes)) = refl
    read (Flat (Fix32 bytes)) = refl
    read (Group inside) = refl

    write : (v : Scalar) → written open_kind v ≡ written (scalars.Enum first numbers) v
    write (scalars.EnumNumber z) = refl
    write v = refl

    takes : (v : Scalar) → scalar_valid (scalars.Enum first numbers) v ≡ true → scalar_valid open_kind v ≡ true
    takes (scalars.EnumNumber z) h = and_from _ _ (and_parts (in_i32 z) (is_declared numbers z) h).0 refl
    takes v h = h

abbrev scalar_of : Kind → Option ScalarKind
scalar_of (ScalarOf kind) = Some kind
scalar_of kind = None

pub plain_payloads : (enums : List EnumRow) (table : TableKind) (plain own : ScalarKind) → plain_kind table ≡ Some plain → schema_kind enums table false ≡ ScalarOf own → SamePayloads plain own
plain_payloads enums (kinds.Enum E) plain own e f = go (slice_get enums E) e f
  where
    go : (o : Option EnumRow) → Some open_kind ≡ Some plain → ScalarOf (enum_kind o) ≡ ScalarOf own → SamePayloads plain own
    go None e f = same_payloads plain own (sym e ∙ ap scalar_of f)
    go (Some row) e f =
        let its : open_kind ≡ plain = cc in
        let whole : enum_kind (Some row) ≡ own = cc in
        subst (λ (k : ScalarKind). SamePayloads k own) its (subst (SamePayloads open_kind) whole (enum_payloads _ _))
plain_payloads enums table plain own e f = same_payloads plain own (sym e ∙ ap scalar_of f)

-- each scalar kind has a plain one
pub plain_of : (enums : List EnumRow) (table : TableKind) (own : ScalarKind) → schema_kind enums table false ≡ ScalarOf own → (plain : ScalarKind) × (plain_kind table ≡ Some plain)
plain_of enums (kinds.Message T) own e = cc
plain_of enums table own e = (_, refl)

-- STRAYS

abbrev stray_of : EnumNumbers → Scalar → Bool
stray_of numbers (scalars.EnumNumber z) = not (is_declared numbers z)
stray_of numbers v = false

number_stray : (first : ℤ) (numbers : EnumNumbers) (plain : Plain) (v : Scalar) → elem (scalars.Enum first numbers) (Flat plain) ≡ Some v → is_undeclared (scalars.Enum first numbers) (Flat plain) ≡ stray_of numbers v
number_stray first numbers (Var x) v r = let is : scalars.EnumNumber (low_i32 x) ≡ v = cc in ap (stray_of numbers) is
number_stray first numbers (Fix64 bytes) v r = cc
number_stray first numbers (Len bytes) v r = cc
number_stray first numbers (Fix32 bytes) v r = cc

enum_stray : (o : Option EnumRow) (plain : Plain) (v : Scalar) → elem (enum_kind o) (Flat plain) ≡ Some v → is_undeclared (enum_kind o) (Flat plain) ≡ stray_of (numbers_or_none o) v
enum_stray None plain v r = number_stray (pos 0) scalars.Open plain v r
enum_stray (Some row) plain v r = number_stray (first_number (value_numbers row)) (enum_numbers row) plain v r

stray_shown : (enums : List EnumRow) (E : ℕ) (v : Scalar) → stray_of (numbers_or_none (slice_get enums E)) v ≡ is_stray_number enums (kinds.Enum E) (ScalarValue v)
stray_shown enums E (scalars.EnumNumber z) = refl
stray_shown enums E v = refl

-- the payload of a value is a stray where the value is a number that its enum does not declare
pub stray_payload : (enums : List EnumRow) (table : TableKind) (own : ScalarKind) (plain : Plain) (v : Scalar) → schema_kind enums table false ≡ ScalarOf own → elem own (Flat plain) ≡ Some v → is_undeclared own (Flat plain) ≡ is_stray_number enums table (ScalarValue v)
stray_payload enums (kinds.Enum E) own plain v e read =
    let is : enum_kind (slice_get enums E) ≡ own = cc in
    ap (λ k. is_undeclared k (Flat plain)) (sym is) ∙ enum_stray (slice_get enums E) plain v (ap (λ k. elem k (Flat plain)) is ∙ read) ∙ stray_shown enums E v
stray_payload enums (kinds.Message T) own plain v e read = cc
stray_payload enums table own plain v e read = sym (ap (λ k. is_stray k (Flat plain)) e)

-- the same of the value alone
pub stray_value : (enums : List EnumRow) (table : TableKind) (own : ScalarKind) (v : Scalar) → schema_kind enums table false ≡ ScalarOf own → is_undeclared_value own v ≡ is_stray_number enums table (ScalarValue v)
stray_value enums (kinds.Enum E) own v e =
    let is : enum_kind (slice_get enums E) ≡ own = cc in
    ap (λ k. is_undeclared_value k v) (sym is) ∙ of (slice_get enums E) v ∙ stray_shown enums E v
  where
    of : (o : Option EnumRow) (v : Scalar) → is_undeclared_value (enum_kind o) v ≡ stray_of (numbers_or_none o) v
    of None (scalars.EnumNumber z) = refl
    of None v = refl
    of (Some row) (scalars.EnumNumber z) = refl
    of (Some row) v = refl
stray_value enums (kinds.Message T) own v e = cc
stray_value enums table own v e = sym (ap (λ k. elim k [ ScalarOf kind ↦ is_undeclared_value kind v | _ ↦ false ]) e)
