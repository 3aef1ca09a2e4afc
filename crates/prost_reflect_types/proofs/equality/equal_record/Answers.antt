use Rattle.prost_reflect_types.proofs.Common.{sym, ◌∙◌}
use Rattle.prost_reflect_wire.specs.ContentEquality.{content_decides}
use Rattle.prost_reflect_types.proofs.equality.equal_record.Goals as goal

pub returns : goal.returns
returns g c =
    let is = c.eq.ensures ∙ g.met.P.OwnedRecord.compares _ _ in
    let decides = content_decides (g.P.HasContent.content c.args.a.now) (g.P.HasContent.content c.args.b.now) in
    (λ yes. decides.0 (sym is ∙ yes), λ same. is ∙ decides.1 same)
