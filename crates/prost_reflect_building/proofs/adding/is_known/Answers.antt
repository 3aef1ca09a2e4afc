use Rattle.std.specs.Prelude.{◌≡◌, is_some}
use Rattle.prost_reflect_building.proofs.Common.{List, ℕ, false, length, nat_eq, ap, sym, ◌∙◌, files_of, is_named, list_any, no_length, unnamed_new}
use Rattle.prost_reflect_building.proofs.Behind.{found_there}
use Rattle.prost_reflect_building.proofs.adding.is_known.Goals as goal

pub returns-then-is_empty : goal.returns-then-is_empty
returns-then-is_empty c = sym (unnamed_new (files_of c.args.pool.now) c.args.file.now (sym c.text_or_empty-name.ensures ∙ no_length _ (sym c.if-is_empty.ensures)))

pub returns : goal.returns
returns c =
    let files = files_of c.args.pool.now in
    let name = c.text_or_empty-name.result.now in
    let some : nat_eq (length name) 0 ≡ false = sym c.is_empty.ensures ∙ c.if-is_empty.false in
    c.is_some.ensures
    ∙ (ap is_some c.file_place.ensures
    ∙ (found_there files name some ∙ ap (λ (n : List ℕ). list_any (is_named n) files) c.text_or_empty-name.ensures))
