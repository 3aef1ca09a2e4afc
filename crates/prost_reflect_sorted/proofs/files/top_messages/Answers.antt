use Rattle.prost_reflect_sorted.proofs.Common.{rules, refl, message_row, FlatMessageRow, top_file}
use Rattle.prost_reflect_growth.proofs.GatheredFrom.{shown_from}
use Rattle.prost_reflect_sorted.proofs.files.top_messages.Goals as goal

pub returns : goal.returns
returns c =
    let flat = c.args.flat.now in
    let owner = λ (x : FlatMessageRow). top_file x.definition in
    shown_from message_row owner flat.messages.items _ _ _ _ _ _ c.args.files _ c.as_slice.ensures.value c.message_count.ensures c.file_count.ensures refl (c.in_ok-gathered.ensures (λ x. owner (message_row x)) (λ x r h. search rules))
