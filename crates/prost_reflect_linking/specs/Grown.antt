-- Which lists of extensions messages of a pool get. For contracts of linking alone.
use Rattle.std.specs.Prelude.{ℕ, ◌-◌, Bool, nat_lt, if◌then◌else◌, List, [], ◌++◌, length, take, drop}
use Rattle.std.specs.List.{list_any}
use Rattle.prost_reflect_growth.specs.FirstPlaces.{is_below}
use Rattle.prost_reflect_growth.specs.RowsGrow.{grown_message}
use Rattle.prost_reflect_linking.specs.Meanings.{MeaningRow}
use Rattle.prost_reflect_tables.specs.Gathered.{list_at}
use Rattle.prost_reflect_tables.specs.LinkedCatalog.{each_from}
use Rattle.prost_reflect_tables.specs.Rows.{FieldRow, MessageRow}

-- One of the extensions extends one of so many messages.
abbrev pub any_below : ℕ → List MeaningRow → Bool
any_below n ms = list_any (λ m. is_below n m.extendee) ms

-- As many lists, or none where no extension extends one of the messages.
abbrev pub listed_count : ℕ → List MeaningRow → ℕ
listed_count n ms = if any_below n ms then n else 0

-- The list of the place, where the first list is that of the place first. Nothing is listed for a place in front.
abbrev pub list_from : {X : Type 0} → (first : ℕ) → List (List X) → ℕ → List X
list_from first lists T = if nat_lt T first then [] else list_at lists (T - first)

-- Each message with the rows that are listed for it, where the lists are those of the last messages.
abbrev pub grown_by : List (List FieldRow) → List MessageRow → List MessageRow
grown_by lists ms = each_from (λ T m. grown_message (list_from (length ms - length lists) lists T) m) 0 ms

-- The first k messages with their rows, and the others as they are.
unfoldable pub grown_front : (first k : ℕ) → List (List FieldRow) → List MessageRow → List MessageRow
grown_front first k lists ms = each_from (λ T m. grown_message (list_from first lists T) m) 0 (take k ms) ++ drop k ms
