use Rattle.std.proofs.Common.{◌≡◌}
use Rattle.prost_reflect_types.proofs.SameFields.{if_copied, numbers_copied}
use Rattle.prost_reflect_types.proofs.copy.copy_numbers.Goals as goal

pub returns : goal.returns
returns c = if_copied c.clone.result _ _ _ c.clone.ensures.cases (λ w z. numbers_copied (λ x y. y ≡ x) c.args.values.now w (λ x y h. h) z.0)
