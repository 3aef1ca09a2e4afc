-- A map from numbers laid out in runs of items.
use Rattle.std.specs.Prelude.{◌≡◌, ℕ, suc, zero, true, ⊤, List, [], ◌∷◌, ◌++◌, map, Option, Some, None, Result, Ok, Err, Vec}
use Rattle.std.specs.declared.alloc.Global.{Global}
use Rattle.std.specs.declared.cmp.Ordering.TheVariants.{Less}
use Rattle.std.specs.Map.{keys_of}
use Rattle.std.specs.Ordering.{nat_cmp, is_le}
use Rattle.std.specs.List.{AllByRecursion}
use Rattle.std.specs.List.Sorted.{IsStrictlySortedBy}

-- The number that stands with each run, and the numbers of its items.
abbrev pub Marks : Type 0
Marks = List (ℕ × List ℕ)

-- The number is below that of the first run.
abbrev pub IsAhead : ℕ → Marks → Type 0
IsAhead n [] = ⊤
IsAhead n (q ∷ qs) = nat_cmp n q.0 ≡ Less

-- The numbers of each run ascend, from the one that stands with it on, and stay below that of the next run.
abbrev pub InRuns : Marks → Type 0
InRuns [] = ⊤
InRuns (r ∷ rs) = IsStrictlySortedBy nat_cmp r.1 × AllByRecursion (λ k. is_le (nat_cmp r.0 k) ≡ true) r.1
    × IsAhead r.0 rs
    × AllByRecursion (λ k. IsAhead k rs) r.1
    × InRuns rs

abbrev pub Runs : Type 0 → Type 0
Runs T = List (ℕ × Vec (ℕ × T) Global)

module _ {T : Type 0} where
  abbrev pub marks : Runs T → Marks
  marks rs = map (λ r. (r.0, keys_of r.1.items)) rs

  -- All items, run after run.
  abbrev pub flat : Runs T → List (ℕ × T)
  flat [] = []
  flat (r ∷ rs) = r.1.items ++ flat rs

  abbrev pub IsLaid : Runs T → Type 0
  IsLaid rs = InRuns (marks rs)

-- The run that a number belongs to, by where the number stands among those that stand with the runs.
abbrev pub run_at : Result ℕ ℕ → Option ℕ
run_at (Ok i) = Some i
run_at (Err zero) = None
run_at (Err (suc i)) = Some i
