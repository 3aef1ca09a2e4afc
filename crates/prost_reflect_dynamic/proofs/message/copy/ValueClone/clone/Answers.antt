use Rattle.prost_reflect_dynamic.proofs.StoredContents.{values_copied}
use Rattle.prost_reflect_dynamic.proofs.message.copy.ValueClone.clone.Goals as goal

pub returns : goal.returns
returns c = record { cases = values_copied c.args.self.now c.copy_value.result c.copy_value.ensures (λ e h. h) }
