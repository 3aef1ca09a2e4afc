use Rattle.std.specs.Prelude.{◌<◌}
use Rattle.prost_reflect_reduction.proofs.Common.{length, sym, ap, ◌∙◌, ltb-true, oneof_in_range, first_member}
use Rattle.prost_reflect_reduction.proofs.Noting.{first_at, no_member}
use Rattle.prost_reflect_reduction.proofs.oneofs.noted_for.Goals as goal

pub returns-in-Some : goal.returns-in-Some
returns-in-Some c = λ fields are.
    let within : c.in-Some.place < length c.args.first.now = ltb-true c.in-Some.place (length c.args.first.now) (sym (ap (oneof_in_range (length c.args.first.now)) c.in-Some.is) ∙ c.requires) in
    first_at c.args.first.now fields c.in-Some.place are within ∙ ap (first_member fields) (sym c.in-Some.is)

pub returns-in-None : goal.returns-in-None
returns-in-None c = λ fields are. sym (no_member fields) ∙ ap (first_member fields) (sym c.in-None.is)
