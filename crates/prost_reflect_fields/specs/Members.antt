-- The members of a oneof among the rows of a message type. For private contracts alone.
use Rattle.std.specs.Prelude.{◌≡◌, ℕ, Bool, true, false, not, ◌&&◌, ◌||◌, nat_eq, List, [], ◌∷◌, ◌++◌, Option, Some, option_to_list, slice_get}
use Rattle.std.specs.List.{list_any}
use Rattle.prost_reflect_wire.specs.Schema.{Field, same_oneof}
use Rattle.prost_reflect_fields.specs.FieldSlots.{has_value}
use Rattle.prost_reflect_fields.specs.Known.{are_siblings}
use Rattle.prost_reflect_fields.specs.declared.slot.FieldSlot.{FieldSlot}
use Rattle.prost_reflect_tables.specs.Rows.{FieldRow}
use Rattle.prost_reflect_tables.specs.declared.tables.FieldTable.{FieldTable}

-- The number of a member of the oneof, but not n.
abbrev pub is_member : List FieldTable → Option ℕ → ℕ → ℕ → Bool
is_member table oneof n k = not (nat_eq k n) && list_any (λ f. nat_eq f.number k && same_oneof f.oneof oneof) table

-- Each member of the oneof stands at one of the places.
abbrev pub HasMembers : List FieldRow → Option ℕ → List ℕ → Type 0
HasMembers fields oneof places = (i : ℕ) (f : FieldRow) → slice_get fields i ≡ Some f → same_oneof f.oneof oneof ≡ true
    → list_any (nat_eq i) places ≡ true

-- The rows at places.
abbrev pub rows_at : List FieldTable → List ℕ → List FieldTable
rows_at table [] = []
rows_at table (i ∷ places) = option_to_list (slice_get table i) ++ rows_at table places

-- k is the number of a member of the oneof of n's field, which may be n, and no further one has a value.
pub record OnlyMember {V : Type 0} (fields : List Field) (es : List (ℕ × FieldSlot V)) (n k : ℕ) : Type 0 where
  pub member : nat_eq k n || are_siblings fields n k ≡ true
  pub others : (j : ℕ) → are_siblings fields n j ≡ true → nat_eq k j ≡ false → has_value es j ≡ false
