-- Sets of numbers that have each oneof whole, or not at all.
use Rattle.std.specs.Prelude.{◌≡◌, ℕ, Bool, true, ◌&&◌, nat_eq, List, Option}
use Rattle.std.specs.List.{list_any}
use Rattle.std.specs.BTreeSet.{BTreeSet}
use Rattle.prost_reflect_wire.specs.Schema.{Field, same_oneof}
use Rattle.prost_reflect_tables.specs.declared.tables.FieldTable.{FieldTable}
use Rattle.prost_reflect_maps.specs.NumberSets.{has}
use Rattle.prost_reflect_fields.specs.Known.{are_siblings}

-- With a number the set has the other members of its field's oneof.
abbrev pub HasWholeOneofs : List Field → BTreeSet ℕ → Type 0
HasWholeOneofs fields numbers = (n k : ℕ) → has numbers n ≡ true → are_siblings fields n k ≡ true → has numbers k ≡ true

-- The number of a member of the oneof.
abbrev pub is_in_oneof : List FieldTable → Option ℕ → ℕ → Bool
is_in_oneof table oneof k = list_any (λ f. nat_eq f.number k && same_oneof f.oneof oneof) table
