-- What files of equal contents have in common: their tables, and why they are refused.
use Rattle.std.specs.Prelude.{◌≡◌, ◌↔◌, List, map}
use Rattle.prost_reflect_types.specs.declared.FileDescriptorProto.{FileDescriptorProto}
use Rattle.prost_reflect_types.specs.DescriptorViews.{of_file}
use Rattle.prost_reflect_tables.specs.declared.error.PoolError.{PoolError}
use Rattle.prost_reflect_tables.specs.Flat.{flattened}
use Rattle.prost_reflect_tables.specs.Linking.{linked_rows}
use Rattle.prost_reflect_tables.specs.Checked.{Checked, Stands}

-- As many files, with equal contents one by one, wherever they lie in memory.
abbrev pub SameContents : List FileDescriptorProto → List FileDescriptorProto → Type 0
SameContents a b = map of_file a ≡ map of_file b

-- Equal rows, so that a type has one place in both.
abbrev pub SameTables : List FileDescriptorProto → List FileDescriptorProto → Type 0
SameTables a b = linked_rows (flattened a) ≡ linked_rows (flattened b)

-- THE LAWS

abbrev pub EqualTables : Type 0
EqualTables = (a b : List FileDescriptorProto) → SameContents a b → SameTables a b

abbrev pub EqualChecks : Type 0
EqualChecks = (a b : List FileDescriptorProto) → SameContents a b → Checked a (flattened a) ↔ Checked b (flattened b)

abbrev pub EqualRefusals : Type 0
EqualRefusals = (e : PoolError) (a b : List FileDescriptorProto) → SameContents a b → Stands e a (flattened a) ↔ Stands e b (flattened b)
