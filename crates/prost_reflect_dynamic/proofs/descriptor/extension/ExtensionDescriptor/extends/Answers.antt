use Rattle.std.specs.Prelude.{◌≡◌}
use Rattle.prost_reflect_dynamic.proofs.Common.{Some, ap, sym, ◌∙◌, eqb-true, same_Some, contents_eq, contents_decide, pool_contents}
use Rattle.prost_reflect_dynamic.proofs.descriptor.extension.ExtensionDescriptor.extends.Goals as goal

pub returns-then-extended_place-index : goal.returns-then-extended_place-index
returns-then-extended_place-index c =
    let same : c.eq.result ≡ contents_eq (pool_contents c.args.self.now.pool.inner) (pool_contents c.args.message_type.now.pool) = c.eq.ensures ∙ ap (λ pool. contents_eq (pool_contents c.args.self.now.pool.inner) (pool_contents pool)) c.pool.ensures in
    let decides = contents_decide (pool_contents c.args.self.now.pool.inner) (pool_contents c.args.message_type.now.pool) in
    (λ yes. (decides.0 (sym same ∙ yes), c.extended_place.ensures ∙ ap Some (c.if-extended_place-index.true ∙ c.index.ensures)), λ is. same ∙ decides.1 is.0)

pub returns-else-extended_place-index : goal.returns-else-extended_place-index
returns-else-extended_place-index c = (
  λ yes. absurd (c.if-extended_place-index.false (eqb-true c.extended_place.result c.index.result yes)),
  λ is. absurd (c.if-extended_place-index.false (same_Some c.extended_place.result c.args.message_type.now.index (sym c.extended_place.ensures ∙ is.1) ∙ sym c.index.ensures)),
)
