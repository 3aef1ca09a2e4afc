use Rattle.std.specs.Prelude.{◌≡◌}
use Rattle.prost_reflect_definition_checks.proofs.Common.{ℕ, List, Vec, Global, sym, subst, AreSpansOf}
use Rattle.std.proofs.lemmas.List.Elements.{All-get_or}
use Rattle.prost_reflect_definition_checks.proofs.ranges.is_covered_at.Goals as goal

pub is_covered-requires : goal.is_covered-requires
is_covered-requires c =
    let Fits = λ (own : ℕ × Vec (ℕ × ℕ) Global). own.0 ≡ c.args.place → AreSpansOf own.1.items c.args.ranges.now in
    subst (λ (spans : List (ℕ × ℕ)). AreSpansOf spans c.args.ranges.now) (sym c.as_slice.ensures.value)
    (subst Fits (sym c.index-spans-found.is) (All-get_or Fits c.args.spans.now c.in-Ok.found c.index-spans-found.result c.in-Ok.ensures.bound c.requires) c.if-own-place.true)
