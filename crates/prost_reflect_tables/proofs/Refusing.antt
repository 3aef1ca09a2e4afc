-- Files that have none of the faults pass the checks, and no fault stands in files that do.
use Rattle.std.specs.Prelude.{◌≡◌, ◌∷◌}
use Rattle.prost_reflect_tables.proofs.Common.{ℕ, Bool, false, List, [], Some, slice_get, refl, list_any, PoolError}
use Rattle.prost_reflect_wire.specs.declared.error.DecodeError.{DecodeError}
use Rattle.prost_reflect_tables.specs.declared.error.PoolError.TheVariants as errors
use Rattle.prost_reflect_tables.proofs.Linkwell.Items.{none_at}

-- The faults in the order in which they are looked for.
abbrev faults : List PoolError
faults = errors.MissingName ∷ errors.UnknownSyntax ∷ errors.BadIndex ∷ errors.BadNumber ∷ errors.BadRange ∷ errors.MissingType ∷ errors.BadLabel ∷ errors.BadOneof ∷ errors.EmptyEnum ∷ errors.BadOptions ∷ errors.MissingDependency ∷ errors.DuplicateName ∷ errors.UnknownType ∷ errors.DuplicateNumber ∷ errors.OutsideRange ∷ errors.BadMapEntry ∷ errors.BadDefault ∷ errors.FloatDefault ∷ []

-- Where none of them stands, and a refusal that says nothing of the definitions never does, nothing stands.
pub none_found : (fault : PoolError → Bool) → ((d : DecodeError) → fault (errors.Decode d) ≡ false) → fault errors.OutOfMemory ≡ false → list_any fault faults ≡ false → (e : PoolError) → fault e ≡ false
none_found fault unread full none e = go e
  where
    at : (i : ℕ) (e : PoolError) → slice_get faults i ≡ Some e → fault e ≡ false
    at i e there = none_at fault faults i e none there

    go : (e : PoolError) → fault e ≡ false
    go errors.MissingName = at 0 errors.MissingName refl
    go errors.UnknownSyntax = at 1 errors.UnknownSyntax refl
    go errors.BadIndex = at 2 errors.BadIndex refl
    go errors.BadNumber = at 3 errors.BadNumber refl
    go errors.BadRange = at 4 errors.BadRange refl
    go errors.MissingType = at 5 errors.MissingType refl
    go errors.BadLabel = at 6 errors.BadLabel refl
    go errors.BadOneof = at 7 errors.BadOneof refl
    go errors.EmptyEnum = at 8 errors.EmptyEnum refl
    go errors.BadOptions = at 9 errors.BadOptions refl
    go errors.MissingDependency = at 10 errors.MissingDependency refl
    go errors.DuplicateName = at 11 errors.DuplicateName refl
    go errors.UnknownType = at 12 errors.UnknownType refl
    go errors.DuplicateNumber = at 13 errors.DuplicateNumber refl
    go errors.OutsideRange = at 14 errors.OutsideRange refl
    go errors.BadMapEntry = at 15 errors.BadMapEntry refl
    go errors.BadDefault = at 16 errors.BadDefault refl
    go errors.FloatDefault = at 17 errors.FloatDefault refl
    go (errors.Decode d) = unread d
    go errors.OutOfMemory = full
