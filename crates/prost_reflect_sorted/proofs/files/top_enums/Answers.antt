use Rattle.prost_reflect_sorted.proofs.Common.{rules, refl, enum_row, FlatEnumRow, top_file}
use Rattle.prost_reflect_growth.proofs.GatheredFrom.{shown_from}
use Rattle.prost_reflect_sorted.proofs.files.top_enums.Goals as goal

pub returns : goal.returns
returns c =
    let flat = c.args.flat.now in
    let owner = λ (x : FlatEnumRow). top_file x.definition in
    shown_from enum_row owner flat.enums.items _ _ _ _ _ _ c.args.files _ c.as_slice.ensures.value c.enum_count.ensures c.file_count.ensures refl (c.in_ok-gathered.ensures (λ x. owner (enum_row x)) (λ x r h. search rules))
