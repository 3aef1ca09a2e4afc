use Rattle.std.specs.Prelude.{◌++◌}
use Rattle.prost_reflect_checks.proofs.Common.{length, sym, ◌∙◌, file_list}
use Rattle.std.proofs.lemmas.List.{length-map, map-append}
use Rattle.prost_reflect_base.specs.Below.{files_below}
use Rattle.prost_reflect_resolving.proofs.LookedUp.{found_old, found_new}
use Rattle.prost_reflect_tables.specs.Faults.{file_names}
use Rattle.prost_reflect_tables.specs.Names.{text_or_empty}
use Rattle.prost_reflect_types.specs.declared.FileDescriptorProto.{FileDescriptorProto}
use Rattle.prost_reflect_checks.proofs.types.file_place.Goals as goal

pub returns-in-Some : goal.returns-in-Some
returns-in-Some c =
    let old = files_below c.args.base in
    let new = file_list c.args.files.now in
    found_old (file_names old) (file_names new) (file_names (old ++ new)) (map-append (λ (f : FileDescriptorProto). text_or_empty f.name) old new) (length old) (sym (length-map old (λ (f : FileDescriptorProto). text_or_empty f.name))) c.args.index.now c.requires c.args.name.now
    c.in-Some.place (sym c.file_place.ensures ∙ c.in-Some.is)

pub returns-in-None : goal.returns-in-None
returns-in-None c =
    let old = files_below c.args.base in
    let new = file_list c.args.files.now in
    c.place_in.ensures
    ∙ found_new (file_names old) (file_names new) (file_names (old ++ new)) (map-append (λ (f : FileDescriptorProto). text_or_empty f.name) old new) (length old) (sym (length-map old (λ (f : FileDescriptorProto). text_or_empty f.name))) c.args.index.now c.requires c.args.name.now
    (sym c.file_place.ensures ∙ c.in-None.is)
