-- Fields and extensions as pairs of the place of their message and their number. For private contracts alone.
use Rattle.std.specs.Prelude.{ℕ, ℤ, List, map}
use Rattle.prost_reflect_tables.specs.Faults.{Numbered}

abbrev pub numbered : ℕ × ℤ → Numbered
numbered n = record { message = n.0; number = n.1 }

abbrev pub numbered_list : List (ℕ × ℤ) → List Numbered
numbered_list ns = map numbered ns
