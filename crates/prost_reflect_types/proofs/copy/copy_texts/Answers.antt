use Rattle.std.specs.Prelude.{◌≡◌}
use Rattle.prost_reflect_types.proofs.Common.{string_bytes}
use Rattle.prost_reflect_types.proofs.SameFields.{if_copied, texts_copied}
use Rattle.prost_reflect_types.proofs.copy.copy_texts.Goals as goal

pub returns : goal.returns
returns c = if_copied c.clone.result _ _ _ c.clone.ensures.cases (λ w z. texts_copied (λ x y. string_bytes y ≡ string_bytes x) c.args.texts.now w (λ x y h. h) z.0)
