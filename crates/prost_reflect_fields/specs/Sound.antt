-- What a message's slots keep at their own level.
use Rattle.std.specs.Prelude.{◌≡◌, ℕ, Bool, true, false, ◌&&◌, List, Option, None, Some, if◌then◌else◌}
use Rattle.prost_reflect_wire.specs.Record.{Record}
use Rattle.prost_reflect_wire.specs.Schema.{Field}
use Rattle.prost_reflect_fields.specs.Known.{known_of, is_known, are_siblings, all_kept, are_records_of}
use Rattle.prost_reflect_fields.specs.FieldSlots.{has_value, records_at, put_value, without_values}
use Rattle.prost_reflect_pool.specs.declared.pooled_type.PooledType.{PooledType}
use Rattle.prost_reflect_fields.specs.declared.slot.FieldSlot.{FieldSlot}

-- Unknown fields where they may stand, each at its own number.
abbrev pub unknown_kept : List Field → ℕ → Option (List Record) → Bool
unknown_kept fields n None = true
unknown_kept fields n (Some rs) = all_kept fields n rs && are_records_of n rs

module _ {V : Type 0} where
  abbrev pub ValuesKnown : List Field → List (ℕ × FieldSlot V) → Type 0
  ValuesKnown fields es = (n : ℕ) → has_value es n ≡ true → is_known fields n ≡ true

  abbrev pub UnknownKept : List Field → List (ℕ × FieldSlot V) → Type 0
  UnknownKept fields es = (n : ℕ) → unknown_kept fields n (records_at es n) ≡ true

  -- At most one member of each oneof.
  abbrev pub OneofsSingle : List Field → List (ℕ × FieldSlot V) → Type 0
  OneofsSingle fields es = (m n : ℕ) → has_value es m ≡ true → are_siblings fields m n ≡ true → has_value es n ≡ false

  -- So it is of the new slots, if it was so of the old ones.
  abbrev pub KeepsOneofs : List Field → List (ℕ × FieldSlot V) → List (ℕ × FieldSlot V) → Type 0
  KeepsOneofs fields old new = OneofsSingle fields old → OneofsSingle fields new

  abbrev pub Sound : List Field → List (ℕ × FieldSlot V) → Type 0
  Sound fields es = ValuesKnown fields es × UnknownKept fields es × OneofsSingle fields es

  abbrev pub IsSound : PooledType → List (ℕ × FieldSlot V) → Type 0
  IsSound d es = Sound (known_of d) es

-- v as the value at n, and no value at the other members of its oneof.
abbrev pub set_value_at : {V : Type 0} → List Field → List (ℕ × FieldSlot V) → ℕ → V → List (ℕ × FieldSlot V)
set_value_at fields es n v = without_values (are_siblings fields n) (put_value es n v)

-- The slots, with a value at n in any case.
abbrev pub prepared : {V : Type 0} → List Field → List (ℕ × FieldSlot V) → ℕ → V → List (ℕ × FieldSlot V)
prepared fields es n v = if has_value es n then es else set_value_at fields es n v
