use Rattle.std.specs.Prelude.{◌++◌}
use Rattle.std.proofs.Common.{unwrap_or}
use Rattle.prost_reflect_sorted.proofs.Common.{rules, sym, ap, ◌∙◌, ℕ, Option, length, file_names, file_list}
use Rattle.prost_reflect_base.specs.Below.{files_below}
use Rattle.prost_reflect_resolving.proofs.LookedUp.{found_old, found_new}
use Rattle.prost_reflect_sorted.proofs.FileNames.{names_both, files_count}
use Rattle.prost_reflect_sorted.proofs.files.file_place.Goals as goal

pub returns-in-Some : goal.returns-in-Some
returns-in-Some c =
    let old = files_below c.args.base in
    let new = file_list c.args.files.now in
    let all = file_names (old ++ new) in
    ap (λ (o : Option ℕ). unwrap_or o 0)
    (found_old (file_names old) (file_names new) all (names_both old new) (length old) (files_count old) c.args.index.now c.requires c.args.name.now c.in-Some.place (sym c.file_place.ensures ∙ c.in-Some.is))

pub returns-in-None : goal.returns-in-None
returns-in-None c =
    let old = files_below c.args.base in
    let new = file_list c.args.files.now in
    let all = file_names (old ++ new) in
    let found = found_new (file_names old) (file_names new) all (names_both old new) (length old) (files_count old) c.args.index.now c.requires c.args.name.now (sym c.file_place.ensures ∙ c.in-None.is) in
    search (rules, found)
