-- Pairs that are listed once each. For private contracts alone.
use Rattle.std.specs.Prelude.{◌≡◌, ℕ, ◌<◌, nat_eq, nat_lt, true, ◌&&◌, if◌then◌else◌, List, [], ◌∷◌, ◌++◌, length, take, get_or, Option, Some, None}
use Rattle.std.specs.List.{list_all, IsDistinct}
use Rattle.prost_reflect_reduction.specs.Faults.{pair_by}
use Rattle.prost_reflect_reduction.specs.Reaching.{Walked}
use Rattle.prost_reflect_reduction.specs.declared.walk.Source.{Source}
use Rattle.std.specs.Ordering.{nat_cmp, ordering_then}
use Rattle.std.specs.BTreeSet.{BTreeSet, contains}
use Rattle.prost_reflect_wire.specs.Schema.{Schema}
use Rattle.prost_reflect_wire.specs.Reduction.{TypePairs, holds}

-- Behind the pairs, those of others that are not there.
unfoldable pub joined : TypePairs → TypePairs → TypePairs
joined pairs [] = pairs
joined pairs (q ∷ others) = joined (if holds pairs q.0 q.1 then pairs else pairs ++ q ∷ []) others

-- The pair as a list, if there is one.
abbrev pub listed : Option (ℕ × ℕ) → TypePairs
listed None = []
listed (Some q) = q ∷ []

-- The set has these pairs and no other.
unfoldable pub IsSetOf : BTreeSet (ℕ × ℕ) → TypePairs → Type 0
IsSetOf set pairs = (q : ℕ × ℕ) → contains (λ x y. ordering_then (nat_cmp x.0 y.0) (nat_cmp x.1 y.1)) set q ≡ holds pairs q.0 q.1

-- Of a walk over the pairs: how far it is, and what it has listed.
pub record Walking (older : Schema) (A : ℕ) (newer : Schema) (B : ℕ) (next : ℕ) (seen : TypePairs) : Type 0 where
  pub walked : Walked older A newer B (take next seen) seen
  pub distinct : IsDistinct (λ q p. nat_eq p.0 q.0 && nat_eq p.1 q.1) seen
  pub ranged : list_all (λ p. nat_lt p.0 (length older) && nat_lt p.1 (length newer)) seen ≡ true

-- WHERE PAIRS COME FROM

-- At the place is the pair of these types.
abbrev pub IsPairAt : TypePairs → ℕ → ℕ → ℕ → Type 0
IsPairAt pairs place A B = (place < length pairs) × (get_or pairs place (0, 0) ≡ (A, B))

-- If pairs are listed, the source is one of them, and what its fields lead to is asked for.
abbrev pub LeadsOn : Schema → Schema → TypePairs → Source → TypePairs → Type 0
LeadsOn older newer pairs source asked = 0 < length pairs
    → (source.pair < length pairs) × (pair_by older newer (get_or pairs source.pair (0, 0)) source.number ≡ asked)

abbrev pub source_at : List Source → ℕ → Source
source_at sources i = get_or sources i (record { pair = 0; number = 0 })

-- The source of each pair but the first stands before it, and its fields lead to the pair.
pub record AreSources (older newer : Schema) (pairs : TypePairs) (sources : List Source) : Type 0 where
  pub same : length sources ≡ length pairs
  pub before : (i : ℕ) → 0 < i → i < length pairs → (source_at sources i).pair < i
  pub leads : (i : ℕ) → 0 < i → i < length pairs
      → pair_by older newer (get_or pairs (source_at sources i).pair (0, 0)) (source_at sources i).number
      ≡ get_or pairs i (0, 0) ∷ []

unfoldable pub AreBefore : List Source → Type 0
AreBefore sources = (i : ℕ) → 0 < i → i < length sources → (source_at sources i).pair < i
