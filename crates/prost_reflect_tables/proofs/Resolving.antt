-- What is found of resolved fields is found of their definitions.
use Rattle.prost_reflect_tables.proofs.Common.{Bool, List, [], map, Option, Some, None, refl, sym, ap, ap₂, ◌∙◌, String, list_any, ℕ, FieldDescriptorProto, DefinitionRow, FlatMessageRow, FlatRows, message_names, enum_names, names_nothing, place_named, type_unknown, extendee_unknown, extension_outside, is_message_type, is_enum_type, Numbered, number_or_zero, numbered_at, numbered_extensions, is_of_entry, wrongly_of_entry, default_bad, float_default_bad, gathered, Links, links_of, extended_place, kind_of_code, linked_default, linked_kind, natural_or_zero, ResolvedRow, resolve}
use Rattle.std.proofs.Common.{Global}
use Rattle.std.specs.Prelude.{unwrap_or, ◌≡◌, ◌||◌, ◌++◌, ◌∷◌, ◌&&◌}
use Rattle.prost_reflect_tables.proofs.Gathering.{rows_gathered}
use Rattle.prost_reflect_tables.specs.ResolvedFaults.{unfound, type_unfound, extendee_unfound, found_outside, numbered_found, found_of_entry, wrongly_found, bad_read, bad_float}

-- A FIELD

-- a row with the places that its texts name, and with what these give, is the one that is meant
pub resolved_is : (links : Links) (d : DefinitionRow FieldDescriptorProto) (r : ResolvedRow) → r.definition ≡ d → r.extendee ≡ extended_place links d
    → r.message ≡ place_named links.messages d.proto.type_name → r.enumeration ≡ place_named links.enums d.proto.type_name
    → r.kind ≡ kind_of_code (unwrap_or r.message 0) (unwrap_or r.enumeration 0) (natural_or_zero d.proto.type_) → r.default ≡ linked_default links r.kind d.proto.default_value → r ≡ resolve links d
unfolding resolve
resolved_is links d r definition extendee message enumeration kind default =
    let own : r.kind ≡ linked_kind links d.proto = kind ∙ ap₂ (λ m e. kind_of_code (unwrap_or m 0) (unwrap_or e 0) (natural_or_zero d.proto.type_)) message enumeration in
    let given : r.default ≡ linked_default links (linked_kind links d.proto) d.proto.default_value = default ∙ ap (λ k. linked_default links k d.proto.default_value) own in
    λ i. record { definition = definition i; extendee = extendee i; message = message i; enumeration = enumeration i; kind = own i; default = given i }

-- LISTS

module _ (links : Links) (q : ResolvedRow → Bool) (p : DefinitionRow FieldDescriptorProto → Bool) (same : (d : DefinitionRow FieldDescriptorProto) → q (resolve links d) ≡ p d) where
  pub any_of : (ds : List (DefinitionRow FieldDescriptorProto)) → list_any q (map (resolve links) ds) ≡ list_any p ds
  any_of [] = refl
  any_of (d ∷ ds) = ap (λ b. b || list_any q (map (resolve links) ds)) (same d) ∙ ap (λ b. p d || b) (any_of ds)

  pub any_of_messages : (ms : List FlatMessageRow) → list_any (λ fs. list_any q fs) (map (λ (m : FlatMessageRow). map (resolve links) m.fields) ms) ≡ list_any (λ (m : FlatMessageRow). list_any p m.fields) ms
  any_of_messages [] = refl
  any_of_messages (m ∷ ms) = ap (λ b. b || list_any (λ fs. list_any q fs) (map (λ (m : FlatMessageRow). map (resolve links) m.fields) ms)) (any_of m.fields) ∙ ap (λ b. list_any p m.fields || b) (any_of_messages ms)

-- FAULTS

unfound_is : (names : List (List ℕ)) (text : Option (String Global)) → unfound text (place_named names text) ≡ names_nothing names text
unfound_is names None = refl
unfound_is names (Some text) = refl

module _ (rows : FlatRows) (d : DefinitionRow FieldDescriptorProto) where
  pub type_is : type_unfound (resolve (links_of rows) d) ≡ type_unknown rows d
  unfolding resolve
  type_is =
      ap (λ b. (is_message_type d.proto.type_ && b) || (is_enum_type d.proto.type_ && unfound d.proto.type_name (place_named (enum_names rows) d.proto.type_name))) (unfound_is (message_names rows) d.proto.type_name)
      ∙ ap (λ b. (is_message_type d.proto.type_ && names_nothing (message_names rows) d.proto.type_name) || (is_enum_type d.proto.type_ && b)) (unfound_is (enum_names rows) d.proto.type_name)

  pub extendee_is : extendee_unfound (resolve (links_of rows) d) ≡ extendee_unknown rows d
  unfolding resolve
  extendee_is = unfound_is (message_names rows) d.proto.extendee

  pub outside_same : found_outside rows (resolve (links_of rows) d) ≡ extension_outside rows d
  unfolding resolve
  outside_same = refl

  pub of_entry_is : found_of_entry rows (resolve (links_of rows) d) ≡ is_of_entry rows d
  unfolding resolve
  of_entry_is = refl

  pub wrongly_is : wrongly_found rows (resolve (links_of rows) d) ≡ wrongly_of_entry rows d
  unfolding resolve
  wrongly_is = refl

  pub bad_is : bad_read (resolve (links_of rows) d) ≡ default_bad (links_of rows) d
  unfolding resolve default_bad
  bad_is = refl

  pub float_is : bad_float (resolve (links_of rows) d) ≡ float_default_bad (links_of rows) d
  unfolding resolve float_default_bad
  float_is = refl

  -- NUMBERS

  numbered_one : (rest : List Numbered) → numbered_at (number_or_zero (resolve (links_of rows) d).definition.proto.number) (resolve (links_of rows) d).extendee ++ rest ≡ numbered_at (number_or_zero d.proto.number) (place_named (message_names rows) d.proto.extendee) ++ rest
  unfolding resolve
  numbered_one rest = refl

pub numbered_is : (rows : FlatRows) (ds : List (DefinitionRow FieldDescriptorProto)) → numbered_found (map (resolve (links_of rows)) ds) ≡ numbered_extensions rows ds
numbered_is rows [] = refl
numbered_is rows (d ∷ ds) =
    numbered_one rows d (numbered_found (map (resolve (links_of rows)) ds))
    ∙ ap (λ ns. numbered_at (number_or_zero d.proto.number) (place_named (message_names rows) d.proto.extendee) ++ ns) (numbered_is rows ds)

-- LINKING

module _ (links : Links) where
  -- THE CATALOG

  pub extending_are : (ds : List (DefinitionRow FieldDescriptorProto)) (n : ℕ) → gathered (λ (r : ResolvedRow). r.extendee) (map (resolve links) ds) 0 n ≡ gathered (extended_place links) ds 0 n
  unfolding resolve
  extending_are ds n = sym (rows_gathered (resolve links) (λ (r : ResolvedRow). r.extendee) ds 0 n)
