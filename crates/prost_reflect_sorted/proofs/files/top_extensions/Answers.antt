use Rattle.prost_reflect_sorted.proofs.Common.{rules, refl, definition_row, top_file}
use Rattle.prost_reflect_growth.proofs.GatheredFrom.{shown_from}
use Rattle.prost_reflect_sorted.proofs.files.top_extensions.Goals as goal

pub returns : goal.returns
returns c =
    let flat = c.args.flat.now in
    let owner = top_file in
    shown_from definition_row owner flat.extensions.items _ _ _ _ _ _ c.args.files _ c.as_slice.ensures.value c.extension_count.ensures c.file_count.ensures refl (c.in_ok-gathered.ensures (λ x. owner (definition_row x)) (λ x r h. search rules))
