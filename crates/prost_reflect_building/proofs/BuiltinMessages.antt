-- The messages of the built-in files, and what the checks ask of each.
use Rattle.std.specs.Prelude.{◌≡◌, ◌&&◌, ◌||◌}
use Rattle.prost_reflect_building.proofs.Common.{ℕ, pos, nat_eq, Bool, false, not, length, List, [], map, None, refl, ap, ◌∙◌, subst, unwrap_or, codes, AllZip, list_any, FieldDescriptorProto, DescriptorProto, out-DescriptorProto, text_or_empty, joined, ScopeRow, DefinitionRow, FlatMessageRow, inside, defined_from, oneof_name, is_unnamed, message_unnamed, oneof_outside, has_oneof_outside, range_bad, message_range_bad, numbered_fields, names_of, option_bad, is_entry, is_key_and_value, entry_bad, scalar_names, IsScalarMessage}
use Rattle.prost_reflect_tables.specs.Options.{bool_option}
use Rattle.prost_reflect_tables.proofs.SameRows.{zip_any, zip_maps}
use Rattle.prost_reflect_building.proofs.BuiltinFields.{IsScalarIn, all_scalar, Gives, unnamed_given}
use Rattle.prost_reflect_building.proofs.BuiltinLinks.{own}

-- The row of a message of this name in the package `builtin`, with the scalar fields alone.
pub record IsScalarRow (name : List ℕ) (m : FlatMessageRow) : Type 0 where
  pub named : text_or_empty m.definition.proto.name ≡ name
  pub full_name : m.definition.full_name ≡ joined (codes "builtin") name
  pub fields : AllZip (IsScalarIn (joined (codes "builtin") name)) m.fields scalar_names
  pub no_oneofs : m.oneofs ≡ []
  pub no_extension_ranges : m.definition.proto.extension_range ≡ []
  pub no_reserved_ranges : m.definition.proto.reserved_range ≡ []
  pub no_options : m.definition.proto.options ≡ None

pub own_scalar : (name : List ℕ) (m : DescriptorProto) (scope : ScopeRow) (n : ℕ) → IsScalarMessage name m → scope.name ≡ codes "builtin" → IsScalarRow name (own m scope n)
own_scalar name m scope n is within =
    let o = own m scope n in
    let full : o.definition.full_name ≡ joined (codes "builtin") name = ap (λ (s : List ℕ). joined s (text_or_empty (out-DescriptorProto m).name)) within ∙ ap (joined (codes "builtin")) is.named in
    record {
      named = is.named;
      full_name = full;
      fields = subst (λ (s : List ℕ). AllZip (IsScalarIn s) o.fields scalar_names) full (all_scalar (inside o.definition n) 0 (out-DescriptorProto m).field.items scalar_names is.fields);
      no_oneofs = ap (defined_from oneof_name (inside o.definition n) 8 0) is.no_oneofs;
      no_extension_ranges = is.no_extension_ranges;
      no_reserved_ranges = is.no_reserved_ranges;
      no_options = is.no_options;
    }

-- TESTS

module _ (name : List ℕ) (m : FlatMessageRow) (is : IsScalarRow name m) where
  pub fields_given : (test : DefinitionRow FieldDescriptorProto → Bool) (given : ℕ × List ℕ → Bool) → Gives test given → list_any test m.fields ≡ list_any given scalar_names
  fields_given test given gives = zip_any (IsScalarIn (joined (codes "builtin") name)) test given (λ d x row. gives d x row.proto) m.fields scalar_names is.fields

  pub message_named : nat_eq (length name) 0 ≡ false → message_unnamed m ≡ false
  unfolding scalar_names
  message_named some =
      let own = ap (λ (text : List ℕ). nat_eq (length text) 0) is.named ∙ some in
      let fields = fields_given (λ d. is_unnamed d.proto.name) (λ x. nat_eq (length x.1) 0) unnamed_given in
      let oneofs = ap (list_any (λ o. is_unnamed o.proto.name)) is.no_oneofs in
      λ i. own i || fields i || oneofs i

  pub no_oneof_outside : has_oneof_outside m ≡ false
  unfolding scalar_names
  no_oneof_outside = fields_given (λ f. oneof_outside (length m.oneofs) f.proto.oneof_index) (λ x. false) (λ d x row. ap (oneof_outside (length m.oneofs)) row.no_oneof)

  pub no_range_bad : message_range_bad m ≡ false
  no_range_bad =
      let extensions = ap (list_any (λ r. range_bad r.start r.end)) is.no_extension_ranges in
      let reserved = ap (list_any (λ r. range_bad r.start r.end)) is.no_reserved_ranges in
      λ i. extensions i || reserved i

  pub no_option_bad : option_bad 7 m.definition.proto.options ≡ false
  no_option_bad = ap (option_bad 7) is.no_options

  pub no_entry_bad : entry_bad m ≡ false
  no_entry_bad =
      let entry : is_entry m ≡ false = ap (λ options. unwrap_or (bool_option 7 options) false) is.no_options in
      ap (λ e. e && not (is_key_and_value m.fields && nat_eq (length m.definition.proto.extension_range) 0)) entry

  -- NAMES AND NUMBERS

  pub names_given : names_of m.fields ≡ map (λ x. joined (joined (codes "builtin") name) x.1) scalar_names
  names_given = zip_maps (IsScalarIn (joined (codes "builtin") name)) (λ d. d.full_name) (λ x. joined (joined (codes "builtin") name) x.1) (λ d x row. row.full_name) m.fields scalar_names is.fields

  pub numbers_given : (place : ℕ) → numbered_fields place m.fields ≡ map (λ x. record { message = place; number = pos x.0 }) scalar_names
  numbers_given place =
      zip_maps (IsScalarIn (joined (codes "builtin") name)) _ (λ (x : ℕ × List ℕ). record { message = place; number = pos x.0 }) (λ d x row. let number = row.proto.number in rw number refl) m.fields scalar_names is.fields
