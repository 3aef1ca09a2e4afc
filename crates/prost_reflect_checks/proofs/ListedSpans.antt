-- The spans of some messages, each at its place.
use Rattle.std.specs.Prelude.{◌≡◌, ◌++◌, ◌∷◌}
use Rattle.prost_reflect_checks.proofs.Common.{ℕ, List, [], Vec, Global, Some, sym, ap, subst, ◌∙◌, ranges_of, AreSpansOf, AreSpansAt, AreSpansIn}
use Rattle.std.specs.List.{All}
use Rattle.std.specs.Prelude.{slice_get}
use Rattle.std.proofs.lemmas.List.Elements.{All-append, All-cons, All-nil}
use Rattle.std.proofs.lemmas.Option.{same_Some}
use Rattle.prost_reflect_types.specs.declared.ExtensionRange.{ExtensionRange}
use Rattle.prost_reflect_tables.specs.Flat.{FlatRows}

-- Those of one message more.
pub spans_more : (rows : FlatRows) (spans : List (ℕ × Vec (ℕ × ℕ) Global)) (own : ℕ × Vec (ℕ × ℕ) Global) (ranges : List ExtensionRange) →
    ranges_of (slice_get rows.messages own.0) ≡ Some ranges → AreSpansOf own.1.items ranges → AreSpansIn rows spans → AreSpansIn rows (spans ++ own ∷ [])
spans_more rows spans own ranges there are before = All-append (AreSpansAt rows) spans (own ∷ []) before (All-cons (AreSpansAt rows) own [] here (All-nil (AreSpansAt rows)))
  where
    here : AreSpansAt rows own
    here others e = subst (AreSpansOf own.1.items) (same_Some ranges others (sym there ∙ e)) are

-- Those of a message whose ranges are known.
pub spans_found : (rows : FlatRows) (spans : List (ℕ × Vec (ℕ × ℕ) Global)) (place : ℕ) (ranges : List ExtensionRange) →
    AreSpansIn rows spans → ranges_of (slice_get rows.messages place) ≡ Some ranges → All (λ own. own.0 ≡ place → AreSpansOf own.1.items ranges) spans
spans_found rows spans place ranges are there i own within at = are i own within ranges (ap (λ p. ranges_of (slice_get rows.messages p)) at ∙ there)
