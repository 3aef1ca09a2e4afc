-- What shows that rows are the tables of files.
use Rattle.std.specs.Prelude.{◌≡◌}
use Rattle.prost_reflect_tables.proofs.Common.{List, [], refl, FileDescriptorProto, MessageTable, EnumTable, TableRows, rows_from, flattened, Checked, linked_rows, AreTablesOf}
use Rattle.prost_reflect_tables.specs.declared.error.PoolError.TheVariants as errors

pub checked_of : (files : List FileDescriptorProto) (rows : TableRows) → AreTablesOf files rows → Checked files (flattened files)
checked_of files rows built = built.0

pub linked_of : (files : List FileDescriptorProto) (rows : TableRows) → AreTablesOf files rows → rows ≡ linked_rows (flattened files)
linked_of files rows built = built.1

-- No file has a fault where there is none.
none_checked : Checked [] (flattened [])
none_checked errors.MissingName = refl
none_checked errors.UnknownSyntax = refl
none_checked errors.MissingDependency = refl
none_checked errors.BadIndex = refl
none_checked errors.BadNumber = refl
none_checked errors.BadRange = refl
none_checked errors.MissingType = refl
none_checked errors.BadLabel = refl
none_checked errors.BadOneof = refl
none_checked errors.EmptyEnum = refl
none_checked errors.DuplicateName = refl
none_checked errors.UnknownType = refl
none_checked errors.DuplicateNumber = refl
none_checked errors.OutsideRange = refl
none_checked errors.BadMapEntry = refl
none_checked errors.BadOptions = refl
none_checked errors.BadDefault = refl
none_checked errors.FloatDefault = refl
none_checked (errors.Decode d) = refl
none_checked errors.OutOfMemory = refl

-- No file gives no rows.
pub none_built : (messages : List MessageTable) (enums : List EnumTable) → messages ≡ [] → enums ≡ [] → AreTablesOf [] (rows_from messages enums)
none_built messages enums m e = rw (m, e) (none_checked, refl)
