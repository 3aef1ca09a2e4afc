use Rattle.std.specs.Prelude.{◌≡◌}
use Rattle.prost_reflect_wire.proofs.Common.{rules, List, ℕ, ap, Flat, Len}
use Rattle.std.proofs.lemmas.List.Elements.{same_from_all_zip}
use Rattle.prost_reflect_wire.proofs.UnknownViews.{payload_of_LengthDelimited}
use Rattle.prost_reflect_wire.proofs.unknown.copy.+copy.Goals as goal

pub copy_value-returns-in_ok-clone-in-LengthDelimited : goal.copy_value-returns-in_ok-clone-in-LengthDelimited
copy_value-returns-in_ok-clone-in-LengthDelimited t c =
    let is = c.in-LengthDelimited.is in
    let same : c.in_ok-clone-in-LengthDelimited.field-0.items ≡ c.in-LengthDelimited.payload.items = search (rules, same_from_all_zip) in
    rw (is, payload_of_LengthDelimited c.in_ok-clone-in-LengthDelimited.field-0, payload_of_LengthDelimited c.in-LengthDelimited.payload) (ap (λ (l : List ℕ). Flat (Len l)) same)
