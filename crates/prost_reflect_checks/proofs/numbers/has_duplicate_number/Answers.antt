use Rattle.prost_reflect_checks.proofs.Common.{rules, List, map, ap, ◌∙◌, ResolvedField, flat_rows, all_rows, ResolvedRow, resolved_row, numbered_found, numbered_is}
use Rattle.prost_reflect_checks.proofs.numbers.has_duplicate_number.Goals as goal

pub returns : goal.returns
returns c =
    let all = all_rows c.args.resolved.now.index.base (flat_rows c.args.flat.now) in
    let extensions = ap (λ (fs : List ResolvedField). numbered_found (map resolved_row fs)) c.as_slice-2.ensures.value ∙ (ap (λ (fs : List ResolvedRow). numbered_found fs) c.requires.extensions ∙ numbered_is all (flat_rows c.args.flat.now).extensions) in
    search (rules, extensions)
