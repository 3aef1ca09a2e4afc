-- The built-in files pass all checks.
use Rattle.std.specs.Prelude.{◌≡◌, ◌||◌, ◌∷◌, ◌++◌}
use Rattle.prost_reflect_building.proofs.Common.{ℕ, nat_eq, Bool, false, not, length, List, [], is_none, string_bytes, refl, sym, ap, ◌∙◌, subst, bytes_eq, codes, list_any, FileDescriptorProto, FieldDescriptorProto, PoolError, DefinitionRow, FlatMessageRow, file_scope, flattened, links_of, any_field, is_unnamed, message_unnamed, syntax_unknown, unknown_syntax, is_outside, import_outside, has_oneof_outside, number_bad, bad_number, message_range_bad, type_missing, missing_type, label_bad, bad_label, repeated_member, bad_oneof, names_of, repeats, duplicate_name, name_place, file_names, dependency_missing, missing_dependency, type_unknown, unknown_type, number_repeats, duplicate_number, option_bad, bad_options, entry_bad, wrongly_of_entry, bad_map_entry, has_fault, Checked, added, IsPoolOf, RefusesFiles, files_of, LinkedPool, scalar_names, IsScalarFile, AreBuiltin}
use Rattle.prost_reflect_tables.specs.declared.error.PoolError.TheVariants as pool_errors
use Rattle.prost_reflect_tables.specs.DefaultFaults.{default_bad, bad_default, float_default_bad, float_default}
use Rattle.prost_reflect_building.proofs.BuiltinFields.{Gives, number_given, type_given, label_given, member_given, options_given, unknown_given, entry_given, default_given, float_given}
use Rattle.prost_reflect_building.proofs.BuiltinMessages.{IsScalarRow, own_scalar, fields_given, message_named, no_oneof_outside, no_range_bad, no_option_bad, no_entry_bad, names_given, numbers_given}
use Rattle.prost_reflect_building.proofs.BuiltinLinks.{two, both_added, both_given}

-- FILES

no_import_outside : (name message syntax : List ℕ) (f : FileDescriptorProto) → IsScalarFile name message syntax f → import_outside f ≡ false
no_import_outside name message syntax f is =
    let publics = ap (list_any (is_outside (length f.dependency.items))) is.no_public in
    let weak = ap (list_any (is_outside (length f.dependency.items))) is.no_weak in
    λ i. publics i || weak i

module _ (files : List FileDescriptorProto) (are : AreBuiltin files) where
  no_file : (test : FileDescriptorProto → Bool) → test are.plain ≡ false → test are.kept ≡ false → list_any test files ≡ false
  no_file test plain kept = ap (list_any test) are.both ∙ (λ i. plain i || (kept i || false))

  files_named : list_any (λ f. is_unnamed f.name) files ≡ false
  files_named = no_file (λ f. is_unnamed f.name) (ap (λ (n : List ℕ). nat_eq (length n) 0) are.is_plain.named) (ap (λ (n : List ℕ). nat_eq (length n) 0) are.is_kept.named)

  syntaxes_known : unknown_syntax files ≡ false
  syntaxes_known =
      let unknown : List ℕ → Bool = λ s. not (nat_eq (length s) 0 || bytes_eq s (codes "proto2") || bytes_eq s (codes "proto3")) in
      no_file syntax_unknown (ap unknown are.is_plain.of_syntax) (ap unknown are.is_kept.of_syntax)

  imports_inside : list_any import_outside files ≡ false
  imports_inside = no_file import_outside (no_import_outside _ _ _ are.plain are.is_plain) (no_import_outside _ _ _ are.kept are.is_kept)

  dependencies_there : missing_dependency files ≡ false
  dependencies_there =
      let missing = list_any (λ d. is_none (name_place (file_names files) (string_bytes d))) in
      no_file (dependency_missing (file_names files)) (ap missing are.is_plain.no_dependencies) (ap missing are.is_kept.no_dependencies)

-- MESSAGES AND FIELDS

module _ (o q : FlatMessageRow) (plain : IsScalarRow (codes "Plain") o) (kept : IsScalarRow (codes "Kept") q) where
  no_message : (test : FlatMessageRow → Bool) → test o ≡ false → test q ≡ false → list_any test (o ∷ q ∷ []) ≡ false
  no_message test plain kept = λ i. plain i || (kept i || false)

  in_messages : (test : DefinitionRow FieldDescriptorProto → Bool) (given : ℕ × List ℕ → Bool) → Gives test given → list_any given scalar_names ≡ false → list_any (λ m. list_any test m.fields) (o ∷ q ∷ []) ≡ false
  in_messages test given gives none = no_message (λ m. list_any test m.fields) (fields_given _ o plain test given gives ∙ none) (fields_given _ q kept test given gives ∙ none)

  no_field : (test : DefinitionRow FieldDescriptorProto → Bool) (given : ℕ × List ℕ → Bool) → Gives test given → list_any given scalar_names ≡ false → any_field test (two o q) ≡ false
  no_field test given gives none = let fields = in_messages test given gives none in λ i. fields i || false

  numbers_good : bad_number (two o q) ≡ false
  unfolding scalar_names
  numbers_good = no_field number_bad _ number_given refl

  types_there : missing_type (two o q) ≡ false
  unfolding scalar_names
  types_there = let fields = no_field type_missing _ type_given refl in λ i. fields i || false || false

  labels_good : bad_label (two o q) ≡ false
  unfolding scalar_names
  labels_good = no_field label_bad _ label_given refl

  oneofs_good : bad_oneof (two o q) ≡ false
  unfolding scalar_names
  oneofs_good = let fields = no_field repeated_member _ member_given refl in λ i. fields i || false

  options_good : bad_options (two o q) ≡ false
  unfolding scalar_names
  options_good =
      let messages = no_message (λ m. option_bad 7 m.definition.proto.options) (no_option_bad _ o plain) (no_option_bad _ q kept) in
      let fields = no_field (λ d. option_bad 2 d.proto.options) _ options_given refl in
      λ i. messages i || fields i

  types_known : unknown_type (two o q) ≡ false
  unfolding scalar_names
  types_known = let fields = no_field (type_unknown (two o q)) _ (unknown_given (two o q)) refl in λ i. fields i || false || false

  entries_good : bad_map_entry (two o q) ≡ false
  unfolding scalar_names
  entries_good =
      let entries = no_message entry_bad (no_entry_bad _ o plain) (no_entry_bad _ q kept) in
      let fields = in_messages (wrongly_of_entry (two o q)) _ (entry_given (two o q)) refl in
      λ i. entries i || fields i || false || false

  defaults_good : bad_default (two o q) ≡ false
  unfolding scalar_names
  defaults_good = no_field (default_bad (links_of (two o q))) _ (default_given (links_of (two o q))) refl

  float_defaults_good : float_default (two o q) ≡ false
  unfolding scalar_names
  float_defaults_good = no_field (float_default_bad (links_of (two o q))) _ (float_given (links_of (two o q))) refl

  -- NAMES AND NUMBERS DIFFER

  names_differ : duplicate_name (two o q) ≡ false
  unfolding scalar_names
  names_differ =
      let first = names_given _ o plain in
      let second = names_given _ q kept in
      λ i. repeats [] (((plain.full_name i ∷ []) ++ first i ++ names_of (plain.no_oneofs i) ++ ((kept.full_name i ∷ []) ++ second i ++ names_of (kept.no_oneofs i) ++ [])) ++ [] ++ [] ++ [])

  numbers_differ : duplicate_number (two o q) ≡ false
  unfolding scalar_names
  numbers_differ =
      let first = numbers_given _ o plain 0 in
      let second = numbers_given _ q kept 1 in
      λ i. number_repeats [] ((first i ++ (second i ++ [])) ++ [])

-- ALL

rows_checked : (files : List FileDescriptorProto) → AreBuiltin files → (o q : FlatMessageRow) → IsScalarRow (codes "Plain") o → IsScalarRow (codes "Kept") q → Checked files (two o q)
rows_checked files are o q plain kept e = go e
  where
    go : (e : PoolError) → has_fault e files (two o q) ≡ false
    go pool_errors.MissingName = let named = files_named files are in let messages_named = no_message o q plain kept message_unnamed (message_named _ o plain refl) (message_named _ q kept refl) in λ i. named i || messages_named i || false || false || false
    go pool_errors.UnknownSyntax = syntaxes_known files are
    go pool_errors.BadIndex = let imports = imports_inside files are in let oneofs = no_message o q plain kept has_oneof_outside (no_oneof_outside _ o plain) (no_oneof_outside _ q kept) in λ i. imports i || oneofs i
    go pool_errors.BadNumber = numbers_good o q plain kept
    go pool_errors.BadRange = let ranges = no_message o q plain kept message_range_bad (no_range_bad _ o plain) (no_range_bad _ q kept) in λ i. ranges i || false
    go pool_errors.MissingType = types_there o q plain kept
    go pool_errors.BadLabel = labels_good o q plain kept
    go pool_errors.BadOneof = oneofs_good o q plain kept
    go pool_errors.EmptyEnum = refl
    go pool_errors.BadOptions = options_good o q plain kept
    go pool_errors.MissingDependency = dependencies_there files are
    go pool_errors.DuplicateName = names_differ o q plain kept
    go pool_errors.UnknownType = types_known o q plain kept
    go pool_errors.DuplicateNumber = numbers_differ o q plain kept
    go pool_errors.OutsideRange = refl
    go pool_errors.BadMapEntry = entries_good o q plain kept
    go pool_errors.BadDefault = defaults_good o q plain kept
    go pool_errors.FloatDefault = float_defaults_good o q plain kept
    go (pool_errors.Decode d) = refl
    go pool_errors.OutOfMemory = refl

builtin_checked : (files : List FileDescriptorProto) → AreBuiltin files → Checked files (flattened files)
builtin_checked files are =
    let plain = own_scalar (codes "Plain") are.is_plain.proto (file_scope are.plain 0) 0 are.is_plain.is_message are.is_plain.in_package in
    let kept = own_scalar (codes "Kept") are.is_kept.proto (file_scope are.kept 1) 1 are.is_kept.is_message are.is_kept.in_package in
    subst (Checked files) (sym (both_given files are)) (rows_checked files are _ _ plain kept)

-- So they are refused for want of memory alone.
pub refused_for_memory : (old : LinkedPool) (files : List FileDescriptorProto) (e : PoolError) → IsPoolOf [] old → AreBuiltin files → RefusesFiles (added (files_of old) files) e → e ≡ pool_errors.OutOfMemory
refused_for_memory old files e none are refuses =
    let all : added (files_of old) files ≡ files = ap (λ (there : List FileDescriptorProto). added there files) none.holds ∙ both_added files are in
    refuses.unchecked (subst (λ (fs : List FileDescriptorProto). Checked fs (flattened fs)) (sym all) (builtin_checked files are))
