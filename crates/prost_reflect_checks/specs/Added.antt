-- What is at fault in added definitions, where the pool that they are added to has no fault: tests of the added ones, over the definitions of all. For private contracts alone.
use Rattle.std.specs.Prelude.{Bool, ◌||◌}
use Rattle.std.specs.List.{list_any}
use Rattle.prost_reflect_tables.specs.Flat.{FlatRows}
use Rattle.prost_reflect_tables.specs.Faults.{any_field, type_unknown, extendee_unknown, method_type_unknown}
use Rattle.prost_reflect_tables.specs.EntryFaults.{entry_bad, wrongly_of_entry, is_of_entry, method_of_entry}
use Rattle.prost_reflect_tables.specs.DefaultFaults.{default_bad, float_default_bad}
use Rattle.prost_reflect_tables.specs.Linking.{links_of}

abbrev pub added_unknown_type : (all new : FlatRows) → Bool
added_unknown_type all new = any_field (type_unknown all) new || list_any (extendee_unknown all) new.extensions
    || list_any (λ s. list_any (method_type_unknown all) s.methods) new.services

abbrev pub added_map_entry : (all new : FlatRows) → Bool
added_map_entry all new =
    list_any entry_bad new.messages
    || list_any (λ m. list_any (wrongly_of_entry all) m.fields) new.messages
    || list_any (is_of_entry all) new.extensions
    || list_any (λ s. list_any (method_of_entry all) s.methods) new.services

abbrev pub added_bad_default : (all new : FlatRows) → Bool
added_bad_default all new = any_field (default_bad (links_of all)) new

abbrev pub added_float_default : (all new : FlatRows) → Bool
added_float_default all new = any_field (float_default_bad (links_of all)) new
