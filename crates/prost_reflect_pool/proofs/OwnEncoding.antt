-- Of bytes that mean a pool's files an equal pool is made, unless memory runs out.
use Rattle.std.specs.Prelude.{◌≡◌, ◌≤◌, ◌∷◌}
use Rattle.prost_reflect_pool.proofs.Common.{ℕ, List, [], map, Some, refl, sym, ap, subst, ◌∙◌, AllZip, of_file, of_files, of_records, FileDescriptorProto, added, Checked, flattened, PoolError, checked_of, files_of, pool_rows, contents_of, pool_contents, Reads, IsPoolOfBytes, RefusesRead, Refuses, MakesAgain, LinkedPool}
use Rattle.std.specs.Bool.{⊤}
use Rattle.prost_reflect_wire.specs.Varint.{AreBytes}
use Rattle.prost_reflect_wire.specs.Grammar.{LEVEL_LIMIT}
use Rattle.prost_reflect_wire.specs.Content.{entries_of}
use Rattle.prost_reflect_wire.specs.Levels.{levels}
use Rattle.prost_reflect_wire.specs.Writing.{encoded}
use Rattle.prost_reflect_types.specs.declared.table.RecordType.TheVariants as types
use Rattle.prost_reflect_types.proofs.EqualContents.{SameFile, file_same, zip_same}
use Rattle.prost_reflect_types.proofs.DecodedRecords.{decoded_accepts}
use Rattle.prost_reflect_types.proofs.SameFields.{records_same}
use Rattle.prost_reflect_types.proofs.SameRecords.{each_same}
use Rattle.prost_reflect_tables.specs.FileLaws.{SameContents}
use Rattle.prost_reflect_tables.specs.declared.error.PoolError.TheVariants as errors
use Rattle.prost_reflect_tables.proofs.EqualFiles.{equal_checks}
use Rattle.prost_reflect_pool.proofs.FileNames.{all_taken, differ_same}

-- THE FILES THAT BYTES MEAN

read_same : (bytes : List ℕ) (a b : List FileDescriptorProto) → Reads types.FileSet bytes a → Reads types.FileSet bytes b → SameContents a b
read_same bytes a b read_a read_b =
    let e : Some (of_files a) ≡ Some (of_files b) = sym read_a ∙ read_b in
    let same : of_files a ≡ of_files b = cc in
    let p = each_same ((1, of_records (map of_file a)) ∷ []) ((1, of_records (map of_file b)) ∷ []) ⊤ refl (ap entries_of same) tt in
    records_same (map of_file a) (map of_file b) p.1

-- all of them are taken, as those of the pool
batch_taken : (pool : LinkedPool) (batch : List FileDescriptorProto) → SameContents batch (files_of pool) → added [] batch ≡ batch
batch_taken pool batch same =
    let files : AllZip SameFile batch (files_of pool) = zip_same of_file SameFile file_same batch (files_of pool) same in
    all_taken batch (differ_same batch (files_of pool) files ∙ pool.names)

equal_again : (bytes : List ℕ) (pool again : LinkedPool) → Reads types.FileSet bytes (files_of pool) → IsPoolOfBytes types.FileSet bytes [] again → pool_contents again ≡ pool_contents pool
unfolding contents_of
equal_again bytes pool again reads made =
    let same = read_same bytes made.batch (files_of pool) made.reads reads in
    ap contents_of (made.is_pool.holds ∙ batch_taken pool made.batch same) ∙ same

-- WHY NONE IS REFUSED

pub own_checked : (pool : LinkedPool) → Checked (files_of pool) (flattened (files_of pool))
own_checked pool = checked_of (files_of pool) (pool_rows pool) pool.built

batch_unrefused : (bytes : List ℕ) (pool : LinkedPool) (e : PoolError) → Reads types.FileSet bytes (files_of pool) → RefusesRead types.FileSet bytes [] e → e ≡ errors.OutOfMemory
batch_unrefused bytes pool e reads r =
    let same = read_same bytes r.batch (files_of pool) r.reads reads in
    let all : Checked r.batch (flattened r.batch) = (equal_checks r.batch (files_of pool) same).1 (own_checked pool) in
    r.refuses.unchecked (subst (λ (files : List FileDescriptorProto). Checked files (flattened files)) (sym (batch_taken pool r.batch same)) all)

unrefused : (bytes : List ℕ) (pool : LinkedPool) → Reads types.FileSet bytes (files_of pool) → AreBytes bytes → (e : PoolError) → Refuses types.FileSet bytes [] e → e ≡ errors.OutOfMemory
unrefused bytes pool reads small errors.OutOfMemory r = refl
unrefused bytes pool reads small (errors.Decode d) r = absurd (r.unread (decoded_accepts LEVEL_LIMIT types.FileSet bytes (of_files (files_of pool)) small reads))
unrefused bytes pool reads small errors.MissingName r = batch_unrefused bytes pool errors.MissingName reads r
unrefused bytes pool reads small errors.DuplicateName r = batch_unrefused bytes pool errors.DuplicateName reads r
unrefused bytes pool reads small errors.UnknownSyntax r = batch_unrefused bytes pool errors.UnknownSyntax reads r
unrefused bytes pool reads small errors.MissingDependency r = batch_unrefused bytes pool errors.MissingDependency reads r
unrefused bytes pool reads small errors.BadIndex r = batch_unrefused bytes pool errors.BadIndex reads r
unrefused bytes pool reads small errors.BadNumber r = batch_unrefused bytes pool errors.BadNumber reads r
unrefused bytes pool reads small errors.DuplicateNumber r = batch_unrefused bytes pool errors.DuplicateNumber reads r
unrefused bytes pool reads small errors.BadRange r = batch_unrefused bytes pool errors.BadRange reads r
unrefused bytes pool reads small errors.OutsideRange r = batch_unrefused bytes pool errors.OutsideRange reads r
unrefused bytes pool reads small errors.UnknownType r = batch_unrefused bytes pool errors.UnknownType reads r
unrefused bytes pool reads small errors.MissingType r = batch_unrefused bytes pool errors.MissingType reads r
unrefused bytes pool reads small errors.BadLabel r = batch_unrefused bytes pool errors.BadLabel reads r
unrefused bytes pool reads small errors.BadOneof r = batch_unrefused bytes pool errors.BadOneof reads r
unrefused bytes pool reads small errors.BadMapEntry r = batch_unrefused bytes pool errors.BadMapEntry reads r
unrefused bytes pool reads small errors.EmptyEnum r = batch_unrefused bytes pool errors.EmptyEnum reads r
unrefused bytes pool reads small errors.BadDefault r = batch_unrefused bytes pool errors.BadDefault reads r
unrefused bytes pool reads small errors.FloatDefault r = batch_unrefused bytes pool errors.FloatDefault reads r
unrefused bytes pool reads small errors.BadOptions r = batch_unrefused bytes pool errors.BadOptions reads r

pub makes_again : (bytes : List ℕ) (pool : LinkedPool) → Reads types.FileSet bytes (files_of pool) → MakesAgain bytes pool
makes_again bytes pool reads = record { equal = λ again made. equal_again bytes pool again reads made; unrefused = unrefused bytes pool reads }

-- as it is written, where its records do not nest too deep
pub written_again : (files : List FileDescriptorProto) (pool : LinkedPool) → files ≡ files_of pool →
    (levels (of_files files) ≤ LEVEL_LIMIT → Reads types.FileSet (encoded (of_files files)) files) → levels (of_files (files_of pool)) ≤ LEVEL_LIMIT → MakesAgain (encoded (of_files (files_of pool))) pool
written_again files pool same reads low =
    makes_again (encoded (of_files (files_of pool))) pool (subst (λ (fs : List FileDescriptorProto). levels (of_files fs) ≤ LEVEL_LIMIT → Reads types.FileSet (encoded (of_files fs)) fs) same reads low)
