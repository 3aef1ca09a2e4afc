-- The faults of files: when files make a pool, and why they make none.
use Rattle.std.specs.Prelude.{◌≡◌, Bool, true, false, List}
use Rattle.prost_reflect_types.specs.declared.FileDescriptorProto.{FileDescriptorProto}
use Rattle.prost_reflect_tables.specs.declared.error.PoolError.{PoolError}
use Rattle.prost_reflect_tables.specs.declared.error.PoolError.TheVariants.{MissingName, UnknownSyntax, MissingDependency, BadIndex, BadNumber, BadRange, MissingType, BadLabel, BadOneof, EmptyEnum, DuplicateName, UnknownType, DuplicateNumber, OutsideRange, BadMapEntry, BadDefault, FloatDefault, BadOptions}
use Rattle.prost_reflect_tables.specs.Flat.{FlatRows}
use Rattle.prost_reflect_tables.specs.Faults.{missing_name, unknown_syntax, bad_index, bad_number, bad_range, missing_type, bad_label, bad_oneof, empty_enum, missing_dependency, duplicate_name, unknown_type, duplicate_number, outside_range}
use Rattle.prost_reflect_tables.specs.EntryFaults.{bad_map_entry}
use Rattle.prost_reflect_tables.specs.OptionFaults.{bad_options}
use Rattle.prost_reflect_tables.specs.DefaultFaults.{bad_default, float_default}

-- Whether files have a fault, by the name of the refusal. A refusal that says nothing of the definitions names none.
abbrev pub has_fault : PoolError → List FileDescriptorProto → FlatRows → Bool
has_fault MissingName files rows = missing_name files rows
has_fault UnknownSyntax files rows = unknown_syntax files
has_fault MissingDependency files rows = missing_dependency files
has_fault BadIndex files rows = bad_index files rows
has_fault BadNumber files rows = bad_number rows
has_fault BadRange files rows = bad_range rows
has_fault MissingType files rows = missing_type rows
has_fault BadLabel files rows = bad_label rows
has_fault BadOneof files rows = bad_oneof rows
has_fault EmptyEnum files rows = empty_enum rows
has_fault DuplicateName files rows = duplicate_name rows
has_fault UnknownType files rows = unknown_type rows
has_fault DuplicateNumber files rows = duplicate_number rows
has_fault OutsideRange files rows = outside_range rows
has_fault BadMapEntry files rows = bad_map_entry rows
has_fault BadOptions files rows = bad_options rows
has_fault BadDefault files rows = bad_default rows
has_fault FloatDefault files rows = float_default rows
has_fault e files rows = false

-- The files have none of the faults.
abbrev pub Checked : List FileDescriptorProto → FlatRows → Type 0
Checked files rows = (e : PoolError) → has_fault e files rows ≡ false

-- Why files are refused: they have the fault of that name.
abbrev pub Stands : PoolError → List FileDescriptorProto → FlatRows → Type 0
Stands e files rows = has_fault e files rows ≡ true
