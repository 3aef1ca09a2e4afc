-- The faults of files that are added to files that have none: each is a test of the added definitions alone, over the names of all.
use Rattle.std.specs.Prelude.{◌≡◌, Bool, false, ◌||◌, List, [], ◌++◌, length}
use Rattle.std.specs.List.{list_any}
use Rattle.std.specs.Str.{bytes_eq}
use Rattle.prost_reflect_types.specs.declared.FileDescriptorProto.{FileDescriptorProto}
use Rattle.prost_reflect_tables.specs.declared.error.PoolError.{PoolError}
use Rattle.prost_reflect_tables.specs.declared.error.PoolError.TheVariants.{MissingName, UnknownSyntax, MissingDependency, BadIndex, BadNumber, BadRange, MissingType, BadLabel, BadOneof, EmptyEnum, DuplicateName, UnknownType, DuplicateNumber, OutsideRange, BadMapEntry, BadDefault, FloatDefault, BadOptions}
use Rattle.prost_reflect_tables.specs.Flat.{FlatRows, behind}
use Rattle.prost_reflect_tables.specs.Faults.{any_field, missing_name, unknown_syntax, bad_index, bad_number, bad_range, missing_type, bad_label, bad_oneof, empty_enum, dependency_missing, file_names, full_names, repeats, type_unknown, extendee_unknown, method_type_unknown, Numbered, numbered_in, numbered_extensions, all_numbered, number_repeats, same_numbered, extension_outside}
use Rattle.prost_reflect_tables.specs.EntryFaults.{entry_bad, wrongly_of_entry, is_of_entry, method_of_entry}
use Rattle.prost_reflect_tables.specs.OptionFaults.{bad_options}
use Rattle.prost_reflect_tables.specs.DefaultFaults.{default_bad, float_default_bad}
use Rattle.prost_reflect_tables.specs.Linking.{links_of}
use Rattle.prost_reflect_tables.specs.Checked.{has_fault, Checked}

-- One of the items is among those, or stands twice.
abbrev pub added_names_repeat : (old new : FlatRows) → Bool
added_names_repeat old new = list_any (λ n. list_any (bytes_eq n) (full_names old)) (full_names new) || repeats [] (full_names new)

-- The fields of the added messages, and the added extensions, of whichever message.
abbrev pub added_numbered : (old new : FlatRows) → List Numbered
added_numbered old new = numbered_in (length old.messages) new.messages ++ numbered_extensions (behind old new) new.extensions

abbrev pub added_numbers_repeat : (old new : FlatRows) → Bool
added_numbers_repeat old new =
    list_any (λ n. list_any (same_numbered n) (all_numbered old)) (added_numbered old new) || number_repeats [] (added_numbered old new)

abbrev pub added_fault : PoolError → (files added : List FileDescriptorProto) → (old new : FlatRows) → Bool
added_fault MissingName files added old new = missing_name added new
added_fault UnknownSyntax files added old new = unknown_syntax added
added_fault MissingDependency files added old new = list_any (dependency_missing (file_names (files ++ added))) added
added_fault BadIndex files added old new = bad_index added new
added_fault BadNumber files added old new = bad_number new
added_fault BadRange files added old new = bad_range new
added_fault MissingType files added old new = missing_type new
added_fault BadLabel files added old new = bad_label new
added_fault BadOneof files added old new = bad_oneof new
added_fault EmptyEnum files added old new = empty_enum new
added_fault DuplicateName files added old new = added_names_repeat old new
added_fault UnknownType files added old new =
    any_field (type_unknown (behind old new)) new
    || list_any (extendee_unknown (behind old new)) new.extensions
    || list_any (λ s. list_any (method_type_unknown (behind old new)) s.methods) new.services
added_fault DuplicateNumber files added old new = added_numbers_repeat old new
added_fault OutsideRange files added old new = list_any (extension_outside (behind old new)) new.extensions
added_fault BadMapEntry files added old new =
    list_any entry_bad new.messages
    || list_any (λ m. list_any (wrongly_of_entry (behind old new)) m.fields) new.messages
    || list_any (is_of_entry (behind old new)) new.extensions
    || list_any (λ s. list_any (method_of_entry (behind old new)) s.methods) new.services
added_fault BadOptions files added old new = bad_options new
added_fault BadDefault files added old new = any_field (default_bad (links_of (behind old new))) new
added_fault FloatDefault files added old new = any_field (float_default_bad (links_of (behind old new))) new
added_fault e files added old new = false

abbrev pub ChecksGrow : Type 0
ChecksGrow =
    (files added : List FileDescriptorProto) (old new : FlatRows) → Checked files old → (e : PoolError) →
    has_fault e (files ++ added) (behind old new) ≡ added_fault e files added old new
