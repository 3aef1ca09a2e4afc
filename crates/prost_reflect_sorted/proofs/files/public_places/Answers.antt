use Rattle.std.specs.Prelude.{◌+◌, ◌++◌}
use Rattle.prost_reflect_sorted.proofs.Common.{rules, drop, map, pos, ap, ◌∙◌, import_at, made_more}
use Rattle.prost_reflect_sorted.proofs.files.public_places.Goals as goal

pub loop-index-preserved : goal.loop-index-preserved
loop-index-preserved c =
    ap (λ places. places ++ map (import_at c.args.dependencies.now) (drop (c.loop-index.index-index + 1) c.args.indices.now)) c.in_ok-push.ensures.items
    ∙ (made_more (import_at c.args.dependencies.now) c.loop-index.places.items _ c.args.indices.now c.loop-index.index-index (pos 0) c.loop-index-test.true (search rules)
    ∙ c.loop-index.invariant)
