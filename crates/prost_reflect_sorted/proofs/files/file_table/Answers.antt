use Rattle.std.specs.Prelude.{◌≡◌, ◌++◌}
use Rattle.prost_reflect_sorted.proofs.Common.{length, map, ap, ◌∙◌, rules, String, string_bytes, file_names, FlatMessageRow, FlatEnumRow, FlatServiceRow, file_list, flat_rows, top_file, file_place, same_file}
use Rattle.std.specs.declared.alloc.Global.{Global}
use Rattle.prost_reflect_base.specs.Below.{files_below, rows_below}
use Rattle.prost_reflect_growth.specs.GatheredFrom.{list_items}
use Rattle.prost_reflect_growth.proofs.GatheredFrom.{copied_from}
use Rattle.prost_reflect_sorted.proofs.files.file_table.Goals as goal

pub returns : goal.returns
returns c =
    let old = rows_below c.args.base in
    let new = flat_rows c.args.flat.now in
    let names = file_names (files_below c.args.base ++ file_list c.args.files.now) in
    let first = length (files_below c.args.base) in
    let n = length c.args.files.now in
    let tops = c.args.tops.now in
    let place = c.args.place in
    let at = c.requires.place in
    let dependencies : c.in_ok-dependencies.dependencies.items ≡ map (λ (d : String Global). file_place names (string_bytes d)) c.args.file.now.dependency.items =
    c.in_ok-dependencies.ensures ∙ ap (map (λ (d : String Global). file_place names (string_bytes d))) c.as_slice.ensures.value in
    same_file _ _
    (copied_from (λ (m : FlatMessageRow). top_file m.definition) (length old.messages) new.messages first n place (list_items tops.messages) _ c.requires.tops.messages at (search rules))
    (copied_from (λ (e : FlatEnumRow). top_file e.definition) (length old.enums) new.enums first n place (list_items tops.enums) _ c.requires.tops.enums at (search rules))
    (copied_from top_file (length old.extensions) new.extensions first n place (list_items tops.extensions) _ c.requires.tops.extensions at (search rules))
    (copied_from (λ (s : FlatServiceRow). top_file s.definition) (length old.services) new.services first n place (list_items tops.services) _ c.requires.tops.services at (search rules))
    dependencies
    (search rules)
    c.is_proto3.ensures
