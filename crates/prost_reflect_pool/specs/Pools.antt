-- What a pool holds, and what its calls make of it.
use Rattle.std.specs.Prelude.{◌≡◌, ◌≢◌, ℕ, ⊤, List, [], ◌∷◌, Some, map}
use Rattle.prost_reflect_wire.specs.Varint.{AreBytes}
use Rattle.prost_reflect_wire.specs.Content.{Content}
use Rattle.prost_reflect_wire.specs.Grammar.{LEVEL_LIMIT, Accepts}
use Rattle.prost_reflect_wire.specs.Fault.{StandsInMessage}
use Rattle.prost_reflect_types.specs.DescriptorTable.{type_place, record_schema}
use Rattle.prost_reflect_types.specs.DescriptorMeaning.{record_decoded}
use Rattle.prost_reflect_types.specs.DescriptorViews.{of_file, of_files, shared_files}
use Rattle.prost_reflect_wire.specs.declared.error.DecodeError.{DecodeError}
use Rattle.prost_reflect_types.specs.declared.FileDescriptorProto.{FileDescriptorProto}
use Rattle.prost_reflect_types.specs.declared.table.RecordType.{RecordType}
use Rattle.prost_reflect_types.specs.declared.table.RecordType.TheVariants as types
use Rattle.prost_reflect_tables.specs.CatalogRows.{CatalogRows, catalog_row}
use Rattle.prost_reflect_tables.specs.Rows.{TableRows}
use Rattle.prost_reflect_tables.specs.Schema.{rows_of}
use Rattle.prost_reflect_tables.specs.Flat.{flattened}
use Rattle.prost_reflect_tables.specs.Checked.{Checked, Stands}
use Rattle.prost_reflect_tables.specs.Built.{AreTablesOf}
use Rattle.prost_reflect_tables.specs.LinkedCatalog.{IsCatalogOf}
use Rattle.prost_reflect_tables.specs.Adding.{added}
use Rattle.prost_reflect_tables.specs.declared.error.PoolError.{PoolError}
use Rattle.prost_reflect_tables.specs.declared.error.PoolError.TheVariants.{Decode, OutOfMemory}
use Rattle.prost_reflect_pool.specs.declared.pool.LinkedPool.{LinkedPool}

-- The rows of the pool's message types and enums.
abbrev pub pool_rows : LinkedPool → TableRows
pool_rows pool = rows_of pool.tables

-- What each definition of the pool encloses, its services, and places in the order of names.
abbrev pub pool_catalog : LinkedPool → CatalogRows
pool_catalog pool = catalog_row pool.catalog

-- The records of the pool's files, in the order in which they were added.
abbrev pub files_of : LinkedPool → List FileDescriptorProto
files_of pool = shared_files pool.files.items

-- What file records hold, wherever they lie in memory.
unfoldable pub contents_of : List FileDescriptorProto → List Content
contents_of files = map of_file files

abbrev pub pool_contents : LinkedPool → List Content
pool_contents pool = contents_of (files_of pool)

-- The pool has these files, and its tables and its catalog are theirs.
pub record IsPoolOf (files : List FileDescriptorProto) (pool : LinkedPool) : Type 0 where
  pub holds : files_of pool ≡ files
  pub built : AreTablesOf files (pool_rows pool)
  pub listed : IsCatalogOf files pool.catalog

-- The files make no pool: they have the fault, and so do not pass all checks. Being out of memory may come anywhere.
pub record RefusesFiles (files : List FileDescriptorProto) (e : PoolError) : Type 0 where
  pub stands : e ≢ OutOfMemory → Stands e files (flattened files)
  pub unchecked : Checked files (flattened files) → e ≡ OutOfMemory

-- BYTES

-- The bytes of a set, or of one file, mean these files.
abbrev pub Reads : RecordType → List ℕ → List FileDescriptorProto → Type 0
Reads types.FileSet bytes files = record_decoded LEVEL_LIMIT types.FileSet bytes ≡ Some (of_files files)
Reads types.File bytes (f ∷ []) = record_decoded LEVEL_LIMIT types.File bytes ≡ Some (of_file f)
Reads t bytes files = ⊥

-- The pool has the files that were there, and those that the bytes add.
pub record IsPoolOfBytes (t : RecordType) (bytes : List ℕ) (files : List FileDescriptorProto) (pool : LinkedPool) : Type 0 where
  pub batch : List FileDescriptorProto
  pub reads : Reads t bytes batch
  pub is_pool : IsPoolOf (added files batch) pool

-- The bytes are read, and their files are refused.
pub record RefusesRead (t : RecordType) (bytes : List ℕ) (files : List FileDescriptorProto) (e : PoolError) : Type 0 where
  pub batch : List FileDescriptorProto
  pub reads : Reads t bytes batch
  pub refuses : RefusesFiles (added files batch) e

-- The bytes have the fault, and are no such record.
pub record RefusesBytes (t : RecordType) (bytes : List ℕ) (e : DecodeError) : Type 0 where
  pub stands : StandsInMessage record_schema (type_place t) LEVEL_LIMIT e bytes
  pub unread : Accepts record_schema LEVEL_LIMIT (type_place t) bytes → ⊥

-- Why the bytes add nothing to files that are there.
abbrev pub Refuses : RecordType → List ℕ → List FileDescriptorProto → PoolError → Type 0
Refuses t bytes files OutOfMemory = ⊤
Refuses t bytes files (Decode e) = RefusesBytes t bytes e
Refuses t bytes files e = RefusesRead t bytes files e

-- Of these bytes a pool is made that is equal to the one at hand; they are refused only out of memory.
pub record MakesAgain (bytes : List ℕ) (pool : LinkedPool) : Type 0 where
  pub equal : (again : LinkedPool) → IsPoolOfBytes types.FileSet bytes [] again → pool_contents again ≡ pool_contents pool
  pub unrefused : AreBytes bytes → (e : PoolError) → Refuses types.FileSet bytes [] e → e ≡ OutOfMemory
