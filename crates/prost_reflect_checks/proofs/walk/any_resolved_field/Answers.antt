use Rattle.prost_reflect_checks.proofs.Common.{List, Vec, Global, ap, ◌∙◌, list_any, ResolvedField, flat_rows, all_rows, links_of, ResolvedRow, resolved_lists, any_of_messages}
use Rattle.prost_reflect_checks.proofs.walk.any_resolved_field.Goals as goal

pub returns : goal.returns
returns g c = λ p q is same.
    c.any_resolved_in.ensures p is
    ∙ (ap (λ (ls : List (Vec ResolvedField Global)). list_any (λ fs. list_any p fs) (resolved_lists ls)) c.as_slice.ensures.value
    ∙ (ap (λ (ls : List (List ResolvedRow)). list_any (λ fs. list_any p fs) ls) c.requires.resolved.fields
    ∙ any_of_messages (links_of (all_rows c.args.resolved.now.index.base (flat_rows c.args.flat.now))) p q same (flat_rows c.args.flat.now).messages))
