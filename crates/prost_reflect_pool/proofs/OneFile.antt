-- What the bytes of one file add, and why they add nothing.
use Rattle.std.specs.Prelude.{◌≡◌, ◌∷◌}
use Rattle.prost_reflect_pool.proofs.Common.{ℕ, List, [], Some, sym, true≢false, of_file, FileDescriptorProto, added, PoolError, IsPoolOf, IsPoolOfBytes, RefusesFiles, Refuses, LinkedPool}
use Rattle.prost_reflect_wire.specs.Grammar.{LEVEL_LIMIT}
use Rattle.prost_reflect_types.specs.DescriptorMeaning.{record_decoded}
use Rattle.prost_reflect_types.specs.declared.table.RecordType.TheVariants as types
use Rattle.prost_reflect_tables.specs.declared.error.PoolError.TheVariants as errors

abbrev IsRead : List ℕ → FileDescriptorProto → Type 0
IsRead bytes f = record_decoded LEVEL_LIMIT types.File bytes ≡ Some (of_file f)

pub one_added : (bytes : List ℕ) (f : FileDescriptorProto) (files : List FileDescriptorProto) (pool : LinkedPool) → IsRead bytes f → IsPoolOf (added files (f ∷ [])) pool → IsPoolOfBytes types.File bytes files pool
one_added bytes f files pool read is = record { batch = f ∷ []; reads = read; is_pool = is }

pub one_refused : (bytes : List ℕ) (f : FileDescriptorProto) (files : List FileDescriptorProto) → IsRead bytes f → (e : PoolError) → RefusesFiles (added files (f ∷ [])) e → Refuses types.File bytes files e
one_refused bytes f files read errors.OutOfMemory r = tt
one_refused bytes f files read (errors.Decode d) r = absurd (true≢false (sym (r.stands (λ x. cc))))
one_refused bytes f files read errors.MissingName r = record { batch = f ∷ []; reads = read; refuses = r }
one_refused bytes f files read errors.DuplicateName r = record { batch = f ∷ []; reads = read; refuses = r }
one_refused bytes f files read errors.UnknownSyntax r = record { batch = f ∷ []; reads = read; refuses = r }
one_refused bytes f files read errors.MissingDependency r = record { batch = f ∷ []; reads = read; refuses = r }
one_refused bytes f files read errors.BadIndex r = record { batch = f ∷ []; reads = read; refuses = r }
one_refused bytes f files read errors.BadNumber r = record { batch = f ∷ []; reads = read; refuses = r }
one_refused bytes f files read errors.DuplicateNumber r = record { batch = f ∷ []; reads = read; refuses = r }
one_refused bytes f files read errors.BadRange r = record { batch = f ∷ []; reads = read; refuses = r }
one_refused bytes f files read errors.OutsideRange r = record { batch = f ∷ []; reads = read; refuses = r }
one_refused bytes f files read errors.UnknownType r = record { batch = f ∷ []; reads = read; refuses = r }
one_refused bytes f files read errors.MissingType r = record { batch = f ∷ []; reads = read; refuses = r }
one_refused bytes f files read errors.BadLabel r = record { batch = f ∷ []; reads = read; refuses = r }
one_refused bytes f files read errors.BadOneof r = record { batch = f ∷ []; reads = read; refuses = r }
one_refused bytes f files read errors.BadMapEntry r = record { batch = f ∷ []; reads = read; refuses = r }
one_refused bytes f files read errors.EmptyEnum r = record { batch = f ∷ []; reads = read; refuses = r }
one_refused bytes f files read errors.BadDefault r = record { batch = f ∷ []; reads = read; refuses = r }
one_refused bytes f files read errors.FloatDefault r = record { batch = f ∷ []; reads = read; refuses = r }
one_refused bytes f files read errors.BadOptions r = record { batch = f ∷ []; reads = read; refuses = r }
