use Rattle.prost_reflect_dynamic.proofs.Common.{sym, ◌∙◌, Decides-at, value_stored, same_value, value_decides}
use Rattle.prost_reflect_dynamic.proofs.StoredContents.{values_shown}
use Rattle.prost_reflect_dynamic.proofs.message.equality.ValuePartialEq.eq.Goals as goal

pub returns-clause-same : goal.returns-clause-same
returns-clause-same c = Decides-at c.are_equal_values.result (same_value (value_stored c.args.self.now) (value_stored c.args.other.now)) c.are_equal_values.ensures (value_decides (value_stored c.args.self.now) (value_stored c.args.other.now))

pub returns-clause-content : goal.returns-clause-content
returns-clause-content c = λ h. values_shown c.args.self.now c.args.other.now ((value_decides (value_stored c.args.self.now) (value_stored c.args.other.now)).0 (sym c.are_equal_values.ensures ∙ h))
