use Rattle.std.specs.Prelude.{◌≡◌, ◌+◌}
use Rattle.prost_reflect_flat.proofs.Common.{List, length, get_or, rules, sym, ap, ◌∙◌, arith, length-map, drop_all, get_or-map, FileDescriptorProto, file_at, file_list, files_from, behind, message_row, flat_rows}
use Rattle.prost_reflect_flat.proofs.Flattening.{file_added, nothing_behind}
use Rattle.prost_reflect_flat.proofs.flatten.flattened.Goals as goal

pub loop-offset-preserved : goal.loop-offset-preserved
loop-offset-preserved c =
    let old = flat_rows c.loop-offset.flat in
    let front = c.args.before in
    let before = front + length c.loop-offset.flat.messages.items in
    let files = file_list c.args.files.now in
    let file = c.index-files-offset.result.now in
    let count : length files ≡ length c.args.files.now = length-map c.args.files.now (λ f. f.now) in
    let is_file : get_or files c.loop-offset.offset file ≡ file =
    get_or-map _ c.args.files.now c.loop-offset.offset c.index-files-offset.result file c.loop-offset-test.true ∙ ap (λ f. f.now) (sym c.index-files-offset.is) in
    let place : c.in_ok-file.file ≡ c.args.first + c.loop-offset.offset = search rules in (
      file_added front c.args.first old (flat_rows c.add_file.new.flat) files c.loop-offset.offset file before (front + length c.add_file.new.flat.messages.items)
          (omega arith) (ap (λ n. front + n) (sym (length-map c.loop-offset.flat.messages.items message_row))) (ap (λ n. front + n) (sym (length-map c.add_file.new.flat.messages.items message_row)))
          (ap (λ (f : FileDescriptorProto). behind old (file_at f (c.args.first + c.loop-offset.offset) before)) is_file
          ∙ (ap (λ k. behind old (file_at file k before)) (sym place)
          ∙ (ap (λ n. behind old (file_at file c.in_ok-file.file (n + length c.loop-offset.flat.messages.items))) (sym c.loop-offset.invariant.1)
          ∙ c.in_ok-add_file.ensures.added)))
          ∙ c.loop-offset.invariant.0,
      c.in_ok-add_file.ensures.before ∙ c.loop-offset.invariant.1,
    )

pub returns : goal.returns
returns c =
    let files = file_list c.args.files.now in
    let count : length files ≡ length c.args.files.now = length-map c.args.files.now (λ f. f.now) in
    let before = c.args.before + length c.loop-offset.flat.messages.items in
    sym (nothing_behind (flat_rows c.loop-offset.flat) (c.args.first + c.loop-offset.offset) before)
    ∙ (ap (λ (fs : List FileDescriptorProto). behind (flat_rows c.loop-offset.flat) (files_from fs (c.args.first + c.loop-offset.offset) before)) (sym (drop_all c.loop-offset.offset files (omega arith)))
    ∙ c.loop-offset.invariant.0)
