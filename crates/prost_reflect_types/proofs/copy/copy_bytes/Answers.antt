use Rattle.std.specs.Prelude.{◌≡◌}
use Rattle.prost_reflect_types.proofs.Common.{rules}
use Rattle.std.proofs.lemmas.List.Elements.{same_from_all_zip}
use Rattle.prost_reflect_types.proofs.SameFields.{raw_copied}
use Rattle.prost_reflect_types.proofs.copy.copy_bytes.Goals as goal

pub returns-in_ok-clone-in-Some : goal.returns-in_ok-clone-in-Some
returns-in_ok-clone-in-Some c =
    let same : c.in_ok-clone-in-Some.field-0.items ≡ c.in-Some.bytes.items = search (rules, same_from_all_zip) in
    raw_copied c.args.bytes.now c.in-Some.bytes c.in_ok-clone-in-Some.field-0 c.in-Some.is same
