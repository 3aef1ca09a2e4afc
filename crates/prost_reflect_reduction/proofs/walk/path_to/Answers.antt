use Rattle.std.specs.Prelude.{◌≡◌, ◌<◌, ◌∷◌}
use Rattle.prost_reflect_reduction.proofs.Common.{[], ℕ, get_or, ap, ◌∙◌, arith, subst, reverse, pair_at, source_at}
use Rattle.prost_reflect_reduction.proofs.Sources.{no_path, path_more, source_before}
use Rattle.prost_reflect_reduction.proofs.walk.path_to.Goals as goal

pub loop-at-init : goal.loop-at-init
loop-at-init c = record {
  within = c.requires.place;
  leads = λ older newer pairs are. no_path older newer (get_or pairs c.args.place (0, 0)) c.new-path.result.items c.new-path.ensures.items;
}

pub bounds-sources-at : goal.bounds-sources-at
bounds-sources-at c = c.loop-at.invariant.within

pub loop-at-smaller : goal.loop-at-smaller
loop-at-smaller c = source_before c.args.sources.now c.loop-at.at c.requires.before c.loop-at-test.true c.loop-at.invariant.within

pub loop-at-preserved : goal.loop-at-preserved
loop-at-preserved c =
    let less : (source_at c.args.sources.now c.loop-at.at).pair < c.loop-at.at = source_before c.args.sources.now c.loop-at.at c.requires.before c.loop-at-test.true c.loop-at.invariant.within in
    record {
      within = omega (arith, less, c.loop-at.invariant.within);
      leads = λ older newer pairs are. path_more older newer pairs c.args.sources.now c.loop-at.at c.loop-at.path.items c.push.new.self.items (get_or pairs c.args.place (0, 0)) are c.loop-at-test.true c.loop-at.invariant.within (c.loop-at.invariant.leads older newer pairs are) c.in_ok-push.ensures.items;
    }

pub returns : goal.returns
returns c = λ older newer pairs are.
    let first : c.loop-at.at ≡ 0 = omega (arith, c.loop-at-test.false) in
    ap (pair_at older newer (get_or pairs 0 (0, 0))) c.reverse.ensures.items ∙
    subst (λ (k : ℕ). pair_at older newer (get_or pairs k (0, 0)) (reverse c.loop-at.path.items) ≡ get_or pairs c.args.place (0, 0) ∷ []) first (c.loop-at.invariant.leads older newer pairs are)
