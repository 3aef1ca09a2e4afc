-- Whether a number of an old message is taken is told by its row alone.
use Rattle.std.specs.Prelude.{◌≡◌, ℕ, ◌<◌, pos, ◌==◌, length}
use Rattle.std.specs.List.{list_any}
use Rattle.prost_reflect_tables.specs.Flat.{FlatRows}
use Rattle.prost_reflect_tables.specs.Faults.{same_numbered, all_numbered}
use Rattle.prost_reflect_tables.specs.Linking.{linked_rows}
use Rattle.prost_reflect_tables.specs.Places.{fields_at}

abbrev pub NumbersKnown : Type 0
NumbersKnown =
    (old : FlatRows) (T n : ℕ) → T < length old.messages → 0 < n →
    list_any (same_numbered (record { message = T; number = pos n })) (all_numbered old)
    ≡ list_any (λ f. f.number == n) (fields_at (linked_rows old) T)
