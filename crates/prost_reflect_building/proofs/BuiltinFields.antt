-- The fields of the built-in files, and what the checks ask of each.
use Rattle.std.specs.Prelude.{◌≡◌, ◌+◌, ◌&&◌, ◌||◌, ◌∷◌}
use Rattle.prost_reflect_building.proofs.Common.{ℕ, pos, nat_eq, Bool, true, false, not, length, List, [], map, Option, Some, None, String, string_bytes, Vec, refl, ap, option_map, AllZip, Global, and_right, or_from, FieldDescriptorProto, text_or_empty, joined, ScopeRow, DefinitionRow, FlatRows, defined_from, field_name, Links, is_unnamed, is_field_number, number_bad, is_type, is_code, is_message_type, is_enum_type, has_repeated_label, type_missing, label_bad, repeated_member, type_unknown, option_bad, names_entry, is_of_entry, wrongly_of_entry, FieldView, field_view, scalar_view}
use Rattle.prost_reflect_tables.specs.DefaultFaults.{is_float_type, default_bad, float_default_bad}

-- TEXTS AND BYTES

text_some : (o : Option (String Global)) (text : List ℕ) → option_map string_bytes o ≡ Some text → text_or_empty o ≡ text
text_some None text e = cc
text_some (Some s) text e = cc

text_none : (o : Option (String Global)) → option_map string_bytes o ≡ None → o ≡ None
text_none None e = refl
text_none (Some s) e = cc

bytes_none : (o : Option (Vec ℕ Global)) → option_map (λ b. b.items) o ≡ None → o ≡ None
bytes_none None e = refl
bytes_none (Some b) e = cc

-- FIELDS

-- What the record of a field of this number and name says, which says no more.
pub record IsScalar (x : ℕ × List ℕ) (f : FieldDescriptorProto) : Type 0 where
  pub named : text_or_empty f.name ≡ x.1
  pub number : f.number ≡ Some (pos x.0)
  pub label : f.label ≡ Some (pos 1)
  pub type_ : f.type_ ≡ Some (pos x.0)
  pub no_type_name : f.type_name ≡ None
  pub no_default : f.default_value ≡ None
  pub no_options : f.options ≡ None
  pub no_oneof : f.oneof_index ≡ None
  pub no_json_name : f.json_name ≡ None
  pub unmarked : f.proto3_optional ≡ None

pub is_scalar : (f : FieldDescriptorProto) (x : ℕ × List ℕ) → field_view f ≡ scalar_view (pos x.0) x.1 → IsScalar x f
is_scalar f x e = record {
  named = text_some f.name x.1 (ap (λ (v : FieldView). v.name) e);
  number = ap (λ (v : FieldView). v.number) e;
  label = ap (λ (v : FieldView). v.label) e;
  type_ = ap (λ (v : FieldView). v.type_) e;
  no_type_name = text_none f.type_name (ap (λ (v : FieldView). v.type_name) e);
  no_default = text_none f.default_value (ap (λ (v : FieldView). v.default_value) e);
  no_options = bytes_none f.options (ap (λ (v : FieldView). v.options) e);
  no_oneof = ap (λ (v : FieldView). v.oneof_index) e;
  no_json_name = text_none f.json_name (ap (λ (v : FieldView). v.json_name) e);
  unmarked = ap (λ (v : FieldView). v.proto3_optional) e;
}

-- The definition of such a field in a scope of this name.
pub record IsScalarIn (scope : List ℕ) (d : DefinitionRow FieldDescriptorProto) (x : ℕ × List ℕ) : Type 0 where
  pub full_name : d.full_name ≡ joined scope x.1
  pub proto : IsScalar x d.proto

pub all_scalar : (scope : ScopeRow) (i : ℕ) (fs : List FieldDescriptorProto) (xs : List (ℕ × List ℕ)) → map field_view fs ≡ map (λ (x : ℕ × List ℕ). scalar_view (pos x.0) x.1) xs → AllZip (IsScalarIn scope.name) (defined_from field_name scope 2 i fs) xs
all_scalar scope i [] [] e = tt
all_scalar scope i [] (x ∷ xs) e = cc
all_scalar scope i (f ∷ fs) [] e = cc
all_scalar scope i (f ∷ fs) (x ∷ xs) e =
    let head : field_view f ≡ scalar_view (pos x.0) x.1 = cc in
    let tail : map field_view fs ≡ map (λ (x : ℕ × List ℕ). scalar_view (pos x.0) x.1) xs = cc in
    let is = is_scalar f x head in
    (record { full_name = ap (joined scope.name) is.named; proto = is }, all_scalar scope (i + 1) fs xs tail)

-- TESTS

-- Where a test of a field gives what another one gives of its number and name.
abbrev pub Gives : (DefinitionRow FieldDescriptorProto → Bool) → (ℕ × List ℕ → Bool) → Type 0
Gives test given = (d : DefinitionRow FieldDescriptorProto) (x : ℕ × List ℕ) → IsScalar x d.proto → test d ≡ given x

pub unnamed_given : Gives (λ d. is_unnamed d.proto.name) (λ x. nat_eq (length x.1) 0)
unnamed_given d x is = ap (λ (name : List ℕ). nat_eq (length name) 0) is.named

pub number_given : Gives number_bad (λ x. not (is_field_number (pos x.0)))
number_given d x is = let number = is.number in rw number refl

pub type_given : Gives type_missing (λ x. not (is_type (pos x.0)) || ((is_message_type (Some (pos x.0)) || is_enum_type (Some (pos x.0))) && true))
type_given d x is = let code = is.type_ in let name = is.no_type_name in rw (code, name) refl

pub label_given : Gives label_bad (λ x. false)
label_given d x is = let label = is.label in rw label refl

pub member_given : Gives repeated_member (λ x. false)
member_given d x is = let oneof = is.no_oneof in rw oneof refl

pub options_given : Gives (λ d. option_bad 2 d.proto.options) (λ x. false)
options_given d x is = ap (option_bad 2) is.no_options

pub unknown_given : (rows : FlatRows) → Gives (type_unknown rows) (λ x. false)
unknown_given rows d x is =
    let name = is.no_type_name in
    rw name (or_from _ _ (and_right (is_message_type d.proto.type_) false refl) (and_right (is_enum_type d.proto.type_) false refl))

pub entry_given : (rows : FlatRows) → Gives (wrongly_of_entry rows) (λ x. false)
entry_given rows d x is =
    let none : is_of_entry rows d ≡ false = and_right (is_message_type d.proto.type_) _ (ap (names_entry rows) is.no_type_name) in
    ap (λ entry. entry && not (has_repeated_label d && is_code 11 d.proto.type_)) none

pub default_given : (links : Links) → Gives (default_bad links) (λ x. false)
unfolding default_bad
default_given links d x is = let none = is.no_default in rw none (and_right (not (is_float_type d.proto.type_)) false refl)

pub float_given : (links : Links) → Gives (float_default_bad links) (λ x. false)
unfolding float_default_bad
float_given links d x is = let none = is.no_default in rw none (and_right (is_float_type d.proto.type_) false refl)
