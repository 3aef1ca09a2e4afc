use Rattle.prost_reflect_sorted.proofs.Common.{rules, refl, service_row, FlatServiceRow, top_file}
use Rattle.prost_reflect_growth.proofs.GatheredFrom.{shown_from}
use Rattle.prost_reflect_sorted.proofs.files.top_services.Goals as goal

pub returns : goal.returns
returns c =
    let flat = c.args.flat.now in
    let owner = λ (x : FlatServiceRow). top_file x.definition in
    shown_from service_row owner flat.services.items _ _ _ _ _ _ c.args.files _ c.as_slice.ensures.value c.service_count.ensures c.file_count.ensures refl (c.in_ok-gathered.ensures (λ x. owner (service_row x)) (λ x r h. search rules))
