use Rattle.prost_reflect_growth.proofs.Ordering.{order_grows}
use Rattle.prost_reflect_growth.proofs.laws.order_grows.Goals as goal

pub returns : goal.returns
returns c = order_grows
