-- Extension ranges in an order in which a number is found among them at once. For private contracts alone.
use Rattle.std.specs.Prelude.{◌≡◌, ℕ, pos, nat_le, nat_lt, Bool, ◌&&◌, List, [], ◌∷◌, if◌then◌else◌, Option, Some, option_map, slice_get, Vec}
use Rattle.std.specs.List.{All, list_any}
use Rattle.std.specs.List.Sorted.{IsNonDecreasingBy}
use Rattle.std.specs.declared.alloc.Global.{Global}
use Rattle.prost_reflect_types.specs.declared.ExtensionRange.{ExtensionRange}
use Rattle.prost_reflect_tables.specs.Flat.{FlatMessageRow, FlatRows}
use Rattle.prost_reflect_tables.specs.Faults.{is_in_range}
use Rattle.prost_reflect_tables.specs.Linking.{natural_or_zero}

-- A span has its start, but not its end.
abbrev pub is_in_span : ℕ → ℕ × ℕ → Bool
is_in_span n s = nat_le s.0 n && nat_lt n s.1

abbrev pub span_of : ExtensionRange → ℕ × ℕ
span_of r = (natural_or_zero r.start, natural_or_zero r.end)

abbrev pub greater : ℕ → ℕ → ℕ
greater a b = if nat_lt a b then b else a

-- Each span reaches as far as the farthest of it and those before it.
abbrev pub reaching : (farthest : ℕ) → List (ℕ × ℕ) → List (ℕ × ℕ)
reaching farthest [] = []
reaching farthest (s ∷ spans) = (s.0, greater farthest s.1) ∷ reaching (greater farthest s.1) spans

-- Spans in the order of their starts and of their ends, with the natural numbers that the ranges have.
pub record AreSpansOf (spans : List (ℕ × ℕ)) (ranges : List ExtensionRange) : Type 0 where
  pub starts : IsNonDecreasingBy (λ s. s.0) spans
  pub ends : IsNonDecreasingBy (λ s. s.1) spans
  pub numbers : (n : ℕ) → list_any (is_in_span n) spans ≡ list_any (is_in_range (pos n)) ranges

-- The extension ranges of a message.
abbrev pub ranges_of : Option FlatMessageRow → Option (List ExtensionRange)
ranges_of m = option_map (λ m. m.definition.proto.extension_range) m

-- Spans of a message at its place.
abbrev pub AreSpansAt : FlatRows → ℕ × Vec (ℕ × ℕ) Global → Type 0
AreSpansAt rows own = (ranges : List ExtensionRange) → ranges_of (slice_get rows.messages own.0) ≡ Some ranges
    → AreSpansOf own.1.items ranges

-- The same for each of some messages.
abbrev pub AreSpansIn : FlatRows → List (ℕ × Vec (ℕ × ℕ) Global) → Type 0
AreSpansIn rows spans = All (AreSpansAt rows) spans
