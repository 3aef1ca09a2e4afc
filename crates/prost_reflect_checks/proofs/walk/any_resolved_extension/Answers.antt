use Rattle.prost_reflect_checks.proofs.Common.{List, map, ap, ◌∙◌, list_any, ResolvedField, flat_rows, all_rows, links_of, ResolvedRow, resolved_row, any_of}
use Rattle.prost_reflect_checks.proofs.walk.any_resolved_extension.Goals as goal

pub returns : goal.returns
returns g c = λ p q is same.
    c.any_resolved.ensures p is
    ∙ (ap (λ (fs : List ResolvedField). list_any p (map resolved_row fs)) c.as_slice.ensures.value
    ∙ (ap (λ (rs : List ResolvedRow). list_any p rs) c.requires.resolved.extensions
    ∙ any_of (links_of (all_rows c.args.resolved.now.index.base (flat_rows c.args.flat.now))) p q same (flat_rows c.args.flat.now).extensions))
