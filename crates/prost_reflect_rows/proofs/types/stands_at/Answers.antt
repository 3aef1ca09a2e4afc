use Rattle.std.specs.Prelude.{◌≡◌}
use Rattle.prost_reflect_rows.proofs.Common.{ap, sym, ◌∙◌, contents_eq, contents_decide, pool_contents}
use Rattle.prost_reflect_rows.proofs.types.stands_at.Goals as goal

pub returns-then-place-index : goal.returns-then-place-index
returns-then-place-index c =
    let same : c.eq.result ≡ contents_eq (pool_contents c.args.pool.now) (pool_contents c.args.message_type.now.pool) = c.eq.ensures ∙ ap (λ pool. contents_eq (pool_contents c.args.pool.now) (pool_contents pool)) c.pool.ensures in
    let decides = contents_decide (pool_contents c.args.pool.now) (pool_contents c.args.message_type.now.pool) in
    (λ yes. (decides.0 (sym same ∙ yes), c.if-place-index.true ∙ c.index.ensures), λ is. same ∙ decides.1 is.0)
